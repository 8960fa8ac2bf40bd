use Rattle.std.proofs.Common.{◌<◌, List, ℕ, length, sym, subst, ◌∙◌}
use Rattle.prl_clock.specs.Vocabulary.{IsFirstFree, HasClock, Standing}
use Rattle.prl_clock.proofs.Finishing.{fault_of_stop, free_is}
use Rattle.prl_clock.proofs.Taking.{if_err_same}
use Rattle.prl_clock.proofs.calculus.clocks.Goals as goal

pub returns-in_err-standings-clause-fault : goal.returns-in_err-standings-clause-fault
returns-in_err-standings-clause-fault c =
    if_err_same c.from_residual.result _ c.in_err-standings.field-0.0 c.from_residual.ensures.1 (fault_of_stop c.args.flat.now c.in_err-standings.field-0.0 c.in_err-standings.ensures.stopped)

pub returns-in-Some-clause-fault : goal.returns-in-Some-clause-fault
returns-in-Some-clause-fault c =
    let P : List Standing → Type 0 = λ st. IsFirstFree st c.in-Some.flow in
    free_is c.args.flat.now c.in_ok-standings.standings c.in_ok-standings.ensures.reached c.in-Some.flow c.in_ok-label_of.field-0
    (subst P c.as_slice.ensures.value c.in-Some.ensures) c.in_ok-label_of.ensures

pub whole_clocks-requires-clause-timed : goal.whole_clocks-requires-clause-timed
whole_clocks-requires-clause-timed c =
    let P : List Standing → Type 0 = λ st. (x : ℕ) → x < length st → HasClock st x in
    subst P (c.as_slice.ensures.value ∙ sym c.as_slice-2.ensures.value) c.in_default.ensures
