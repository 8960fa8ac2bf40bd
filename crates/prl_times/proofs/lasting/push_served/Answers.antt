use Rattle.prl_base.proofs.Standard.{◌∙◌, List, Option, ap, length, sym, subst}
use Rattle.prl_responses.specs.Responses.{times_at}
use Rattle.prl_responses.specs.declared.responses.Times.{Times}
use Rattle.prl_steady.specs.Times.{IsTimesForEver}
use Rattle.prl_times.proofs.lasting.push_served.Goals as goal

pub push_steady-requires-clause-long : goal.push_steady-requires-clause-long
push_steady-requires-clause-long c = ap (λ (xs : List (Option Times)). length xs) c.deref.ensures.value ∙ c.in-Ok.ensures.long

pub push_steady-requires-clause-times : goal.push_steady-requires-clause-times
push_steady-requires-clause-times c = λ i inside.
    subst (λ (xs : List (Option Times)). IsTimesForEver c.args.plan.now i (times_at xs i)) (sym c.deref.ensures.value) (c.in-Ok.ensures.times i inside)

pub returns-in-Err-clause-refused : goal.returns-in-Err-clause-refused
returns-in-Err-clause-refused c = c.no_times.ensures c.args.plan.now c.requires c.in-Err.ensures.cause
