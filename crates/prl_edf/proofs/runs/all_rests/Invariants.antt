use Rattle.std.proofs.Common.{◌≡◌, ◌<◌, ◌≤◌, ℕ, length, map, vec_items, MatchOption}
use Rattle.prl_plan.specs.Horizons.{constants_of}
use Rattle.prl_edf.specs.Vocabulary.{units_of, rest_of, IsFresh}
use Rattle.prl_edf.proofs.runs.all_rests.Given as goal

-- the tasks so far have their first jobs
abbrev pub invariant-loop-i : goal.invariant-loop-i
invariant-loop-i l = record {
  long : length l.rests.items ≡ l.i;
  each : (j : ℕ) → j < l.i →
      MatchOption (rest_of l.rests.items j) ((constants_of l.plan l.horizon).jobs j ≤ 0) (IsFresh (constants_of l.plan l.horizon) (units_of (map vec_items l.units)) j 0);
}
