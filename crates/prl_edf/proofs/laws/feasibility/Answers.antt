use Rattle.prl_base.proofs.Standard.{inl, inr, arith, cases_lt}
use Rattle.prl_edf.specs.TimedRuns.{units_before}
use Rattle.prl_edf.proofs.Feasible.{missed_overloads}
use Rattle.prl_edf.proofs.Overloaded.{met_fits}
use Rattle.prl_edf.proofs.laws.feasibility.Goals as goal

pub returns : goal.returns
returns c = record {
  feasible = λ k facts cost units run are free edf i n job. elim (cases_lt (units_before run (k.deadline i n) i n) (units i n)) [
    | inr met ↦ met
    | inl missed ↦ absurd (let over = missed_overloads k cost units run are edf i n job (facts.within i n job) missed in free over.0 (k.deadline i n) over.1)
  ];
  overloaded = λ k cost run a b over timed met. let fits = met_fits k cost run timed a b (λ i n job _. met i n job) in omega (arith, fits, over);
}
