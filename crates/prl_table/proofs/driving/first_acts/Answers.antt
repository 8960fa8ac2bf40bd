use Rattle.prl_base.proofs.Standard.{◌≡◌, ℕ, [], ◌∷◌, List, Option, Some, length, length-append, sym, ◌∙◌, ap, subst, arith, slice_get}
use Rattle.prl_plan.specs.Horizons.{constants_of}
use Rattle.prl_tables.specs.Tables.{last_unit}
use Rattle.prl_overlaps.proofs.Listed.{pushed}
use Rattle.prl_table.specs.code.Driving.{next_act}
use Rattle.prl_table.proofs.driving.first_acts.Goals as goal

pub loop-i-preserved : goal.loop-i-preserved
loop-i-preserved c =
    let items = c.in_ok-push.ensures.items in
    let tasks = c.loop-i.invariant.tasks in
    record {
      tasks = (let n = ap length items in let l = length-append c.loop-i.next.items (c.next_act.result ∷ []) in omega (arith, n, l, tasks));
      each = λ i first at.
          pushed (λ n x. x ≡ next_act (constants_of c.args.plan.now c.args.horizon) (last_unit c.args.plan.now.graph c.args.table.now.entries) n 0) c.loop-i.next.items c.next_act.result
          c.loop-i.invariant.each
          (c.next_act.ensures ∙ ap (λ (n : ℕ). next_act (constants_of c.args.plan.now c.args.horizon) (last_unit c.args.plan.now.graph c.args.table.now.entries) n 0) (sym tasks)) i first
          (subst (λ (xs : List (Option ℕ)). slice_get xs i ≡ Some first) items at);
    }
