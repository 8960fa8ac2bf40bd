use Rattle.prl_base.proofs.Standard.{◌≡◌, [], ◌∷◌, List, Option, Some, None, length, length-append, arith, sym, ap, ◌∙◌, ⊎_elim, slice_get}
use Rattle.std.specs.Vec.{vec_items}
use Rattle.prl_seats.specs.JobSeats.{JobSeatView}
use Rattle.prl_exec.proofs.Dealt.{get_more}
use Rattle.prl_exec.proofs.dealing.nones.Goals as goal

pub loop-preserved : goal.loop-preserved
loop-preserved c =
    let items = c.in_ok-push.ensures.items in let count = c.loop.invariant.count in
    record {
      count = (let a = ap length items in let b = length-append (vec_items c.loop.all) (None ∷ []) in omega (arith, a, b, count));
      none = λ i has. ⊎_elim (λ h. c.loop.invariant.none i (has.0, h)) (λ h. absurd (let e : None ≡ Some has.0 = h.1 in cc e))
          (get_more (vec_items c.loop.all) None (Some has.0) i (sym (ap (λ (xs : List (Option JobSeatView)). slice_get xs i) items) ∙ has.1));
    }
