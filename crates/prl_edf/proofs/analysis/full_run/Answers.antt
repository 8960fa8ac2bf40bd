use Rattle.prl_base.proofs.Standard.{ℕ, List, Global, map, vec_items, sym, subst, IfOk-weaker}
use Rattle.std.specs.declared.vec.Vec.{Vec}
use Rattle.prl_plan.specs.Vocabulary.{constants_of, RunConstants}
use Rattle.prl_edf.specs.Vocabulary.{ComesTo, units_of, wcets_of, AreFullLists}
use Rattle.prl_edf.proofs.FullUnits.{comes_as}
use Rattle.prl_edf.proofs.analysis.full_run.Goals as goal

pub returns : goal.returns
returns c =
    let k : RunConstants = constants_of c.args.plan.now c.args.horizon in
    let cost : ℕ → ℕ → ℕ = wcets_of c.args.plan.now in
    let lists : List (List ℕ) = map vec_items c.deref.result.now in
    let full : AreFullLists k cost lists =
    subst (λ (xs : List (Vec ℕ Global)). AreFullLists k cost (map vec_items xs)) (sym c.deref.ensures.value) c.in_ok-units.ensures in
    IfOk-weaker c.run_units.result (ComesTo k (units_of lists)) (ComesTo k cost) (comes_as k (units_of lists) cost full.full) c.run_units.ensures
