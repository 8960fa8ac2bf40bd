use Rattle.prl_base.proofs.Standard.{◌≡◌, ◌+◌, ◌%◌, ◌≤◌, [], ◌∷◌, Option, length, length-append, arith, subst, sym, ap, ◌∙◌, inl, inr, ⊎_elim, slice_get, Vec}
use Rattle.std.specs.Vec.{vec_items}
use Rattle.prl_rule.specs.Known.{run_of}
use Rattle.std.specs.declared.alloc.Global.{Global}
use Rattle.prl_seats.specs.JobSeats.{JobSeatView}
use Rattle.prl_exec.specs.code.Hands.{AreHeld, HasOwn}
use Rattle.prl_exec.proofs.Dealt.{get_more}
use Rattle.prl_exec.proofs.dealing.deal_all.Goals as goal

pub loop-worker-preserved : goal.loop-worker-preserved
loop-worker-preserved c =
    let is = c.loop-worker.invariant in
    let count = is.count in
    let items = c.in_ok-push.ensures.items in
    let did = c.in_ok-deal.ensures in
    let own = c.in_ok-deal.field-0 in
    record {
      count = (let a = ap length items in let b = length-append (vec_items c.loop-worker.hands) (own ∷ []) in omega (arith, a, b, count));
      held = λ b held. (did.held b (is.held b held)).0;
      left = λ i at has. did.left i
          (λ e. ⊎_elim (λ (z : i % c.args.workers ≡ 0). omega (arith, z, e, count)) (λ (past : c.loop-worker.worker + 1 ≤ i % c.args.workers). omega (arith, past, e)) at)
          (is.left i (⊎_elim (λ z. inl z) (λ (past : c.loop-worker.worker + 1 ≤ i % c.args.workers). inr (omega (arith, past))) at) has);
      dealt = λ b held all j seats has. ⊎_elim
          (λ h. is.dealt b held all j seats h)
          (λ h.
          let z = h.0 in
          subst (λ (x : Vec (Option JobSeatView) Global). AreHeld b (vec_items x) × HasOwn (run_of b.known).tasks c.args.workers (j + 1) (vec_items x)) h.1 (
            (did.held b (is.held b held)).1,
            (λ i inside mine. did.dealt i (mine ∙ omega (arith, z, count)) (is.left i (inr (omega (arith, z, count, mine))) (all i inside))),
          ))
          (get_more (vec_items c.loop-worker.hands) own seats j (sym (ap (λ xs. slice_get xs j) items) ∙ has));
    }
