use Rattle.prl_base.proofs.Standard.{◌≡◌, ◌≤◌, ℕ, length, Option, Some, slice_get, MatchOption}
use Rattle.prl_plan.specs.Horizons.{constants_on}
use Rattle.prl_track.specs.Vocabulary.{First, IsFirstAt}
use Rattle.prl_track.proofs.tracks.all_firsts.Given as goal

-- the first jobs of the tasks so far
abbrev pub invariant-loop-i : goal.invariant-loop-i
invariant-loop-i l = record {
  tasks : length l.firsts.items ≡ l.i;
  each : (j : ℕ) (kept : Option First) → slice_get l.firsts.items j ≡ Some kept →
      MatchOption kept ((constants_on l.plan l.placed l.horizon).jobs j ≤ 0) (IsFirstAt (constants_on l.plan l.placed l.horizon) j 0);
}
