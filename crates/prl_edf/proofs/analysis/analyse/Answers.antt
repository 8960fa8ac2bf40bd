use Rattle.std.proofs.Common.{ℕ, subst}
use Rattle.prl_plan.specs.Vocabulary.{constants_of, RunConstants}
use Rattle.prl_edf.specs.Vocabulary.{Outcome, ComesTo, run_of, wcets_of}
use Rattle.prl_edf.specs.declared.runs.Outcome.TheVariants as outcomes
use Rattle.prl_edf.proofs.analysis.analyse.Goals as goal

pub returns-in-Met : goal.returns-in-Met
returns-in-Met c =
    let k : RunConstants = constants_of c.args.plan.now c.args.horizon in
    let cost : ℕ → ℕ → ℕ = wcets_of c.args.plan.now in
    let feasible : ComesTo k cost (outcomes.Met c.in-Met.timed) = subst (λ (o : Outcome). ComesTo k cost o) c.in-Met.is c.in_ok-timed.ensures in
    ((λ a b over. c.feasibility.ensures.overloaded k cost (run_of c.in-Met.timed.pieces) a b over feasible.plain.edf.timed feasible.met), feasible)

pub first_overload-requires-clause-missed : goal.first_overload-requires-clause-missed
first_overload-requires-clause-missed c =
    let k : RunConstants = constants_of c.args.plan.now c.args.horizon in
    let cost : ℕ → ℕ → ℕ = wcets_of c.args.plan.now in
    subst (λ (o : Outcome). ComesTo k cost o) c.in-Missed.is c.in_ok-timed.ensures
