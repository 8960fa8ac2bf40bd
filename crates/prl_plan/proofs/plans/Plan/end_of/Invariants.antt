use Rattle.std.proofs.Common.{◌≡◌, ◌<◌, ◌≤◌, ◌^◌, ◌⊎◌, ℕ}
use Rattle.prl_plan.specs.Vocabulary.{IsHorizonJob, deadline_at}
use Rattle.prl_plan.proofs.plans.Plan.end_of.Given as goal

abbrev pub invariant-loop-i : goal.invariant-loop-i
invariant-loop-i l = record {
  above : (j n : ℕ) → j < l.i → IsHorizonJob l.self.graph l.until j n → deadline_at l.self j n ≤ l.end;
  attained : (l.end ≡ 0) ⊎ ((j : ℕ) × (n : ℕ) × IsHorizonJob l.self.graph l.until j n × (l.end ≡ deadline_at l.self j n));
  small : l.end < 2 ^ 33;
}
