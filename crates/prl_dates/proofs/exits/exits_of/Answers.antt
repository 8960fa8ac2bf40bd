use Rattle.prl_base.proofs.Standard.{rules, ◌≡◌, ◌∙◌, ℕ, List, [], length, replicate, sym, ap, subst, arith}
use Rattle.prl_plan.specs.Vocabulary.{jobs_in_hyperperiod}
use Rattle.prl_dates.specs.Vocabulary.{Exit, jobs_before, AreExitsPart}
use Rattle.prl_dates.proofs.ExitLists.{exits_begin}
use Rattle.prl_dates.proofs.Indices.{before_all}
use Rattle.prl_dates.proofs.exits.exits_of.Goals as goal

pub loop-l-init : goal.loop-l-init
loop-l-init c =
    let graph = c.args.graph.now in
    let lanes = c.args.lanes.now in
    let jobs : c.jobs_before-jobs.result ≡ jobs_in_hyperperiod graph = c.jobs_before-jobs.ensures.jobs ∙ ap (λ (x : ℕ). jobs_before graph x) c.len.ensures ∙ before_all graph in
    let zeros : c.in_ok-last.last.items ≡ replicate c.jobs_before-jobs.result 0 = search rules in
    subst (λ (xs : List Exit). AreExitsPart graph lanes 0 0 xs c.in_ok-last.last.items) (sym c.new-list.ensures.items)
    (subst (λ (ys : List ℕ). AreExitsPart graph lanes 0 0 [] ys) (sym zeros) (exits_begin graph lanes c.jobs_before-jobs.result jobs))

pub returns : goal.returns
returns c =
    let graph = c.args.graph.now in
    let lanes = c.args.lanes.now in
    let all : c.loop-l.l ≡ length lanes = omega arith in
    subst (λ (xs : List Exit). AreExitsPart graph lanes (length lanes) 0 xs c.new-2.result) (sym c.new.ensures)
    (subst (λ (ys : List ℕ). AreExitsPart graph lanes (length lanes) 0 c.loop-l.list.items ys) (sym c.new-2.ensures)
    (subst (λ (n : ℕ). AreExitsPart graph lanes n 0 c.loop-l.list.items c.loop-l.last.items) all c.loop-l.invariant))
