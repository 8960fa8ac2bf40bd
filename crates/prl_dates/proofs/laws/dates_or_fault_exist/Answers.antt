use Rattle.std.proofs.Common.{inl, inr}
use Rattle.prl_dates.proofs.SomeDates.{dates_or_fault}
use Rattle.prl_dates.proofs.laws.dates_or_fault_exist.Goals as goal

pub returns : goal.returns
returns c = record {
  end = dates_or_fault;
  room = λ graph good none. elim (dates_or_fault graph good) [
    | inl dates ↦ dates
    | inr fault ↦ absurd (none (c.faults_tell_of_narrow_chains.ensures.fault graph fault.0 good fault.2 fault.1))
  ];
  narrow = λ graph good. elim (dates_or_fault graph good) [
    | inl dates ↦ inr (c.faults_tell_of_narrow_chains.ensures.room graph dates.0 dates.1 dates.2)
    | inr fault ↦ inl (c.faults_tell_of_narrow_chains.ensures.fault graph fault.0 good fault.2 fault.1)
  ];
}
