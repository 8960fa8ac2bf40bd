use Rattle.prl_base.proofs.Standard.{◌+◌, ◌∙◌, ℕ, List, sym, ap, subst, arith}
use Rattle.prl_dates.proofs.Rises.{RisenSoFar, risen_begins, risen_added, risen_kept, risen_ends}
use Rattle.prl_dates.proofs.rounds.list_risen.Goals as goal
use Rattle.prl_dates.proofs.rounds.list_risen.Goals.{then-next-job+in_ok-push, else-next-job}

pub loop-job-init : goal.loop-job-init
loop-job-init c = subst (λ (xs : List ℕ). RisenSoFar c.args.now.now c.args.next.now 0 xs) (sym c.requires.none) (risen_begins c.args.now.now c.args.next.now)

pub loop-job-preserved : goal.loop-job-preserved
loop-job-preserved c =
    let now : List ℕ = c.args.now.now in
    let next : List ℕ = c.args.next.now in
    let job : ℕ = c.loop-job.job in
    elim c.if-next-job.branch [
      | then-next-job+in_ok-push w ↦
          subst (λ (xs : List ℕ). RisenSoFar now next (job + 1) xs) (sym (ap (λ v. v.items) w.rises-is ∙ w.in_ok-push.ensures.items))
          (risen_added now next job c.loop-job.rises.items c.loop-job.invariant (omega arith) w.if-next-job.true)
      | else-next-job w ↦
          subst (λ (xs : List ℕ). RisenSoFar now next (job + 1) xs) (sym (ap (λ v. v.items) w.rises-is))
          (risen_kept now next job c.loop-job.rises.items c.loop-job.invariant w.if-next-job.false)
    ]

pub returns : goal.returns
returns c = risen_ends c.args.now.now c.args.next.now c.loop-job.job c.loop-job.rises.items c.loop-job.invariant (omega arith) c.requires.same
