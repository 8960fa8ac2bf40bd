use Rattle.std.proofs.Common.{◌≡◌}
use Rattle.prl_causal.specs.Behaviours.{Satisfies, state_in}
use Rattle.prl_expand.specs.Flats.{flat_of}
use Rattle.prl_flow.specs.States.{IsSolution, State}
use Rattle.prl_expand.proofs.Ones.{one_along, one_of_all}
use Rattle.prl_causal.specs.Conditions.{clocks_in}
use Rattle.prl_expand.proofs.laws.programs_have_one_behaviour.Goals as goal

pub returns : goal.returns
returns c = λ p asked main types e typed expansion clocks order bodies rows until flat only is_order have typed_bodies has_rows.
    let f = flat_of p types main e in
    one_along (Satisfies p main bodies rows until) (IsSolution f bodies rows until) state_in
    (c.behaviours_are_solutions.ensures p asked main types e typed expansion bodies rows until)
    (one_of_all (IsSolution f bodies rows until) (λ (s : State). clocks_in s ≡ clocks) (only.only bodies rows until)
    (c.programs_have_one_solution.ensures f clocks order bodies rows until flat only.agree is_order have typed_bodies has_rows))
