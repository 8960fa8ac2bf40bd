-- The shortest repeating part of a word.
use Rattle.std.specs.Prelude.{◌≡◌, ◌+◌, ◌-◌, ◌*◌, ◌<◌, ◌≤◌, ◌^◌, ℕ, List, length, take, slice_index}
use Rattle.prl_plan.specs.declared.words.Word.{Word}
use Rattle.prl_plan.specs.Words.{number_at, IsWord}

-- So many jobs later each number is higher by so many.
pub record ClimbsBy (w : Word) (jobs higher : ℕ) : Type 0 where
  pub each : (i : ℕ) → number_at w (i + jobs) ≡ number_at w i + higher

-- how much higher number `jobs` is than number 0
abbrev pub rise_of : Word → ℕ → ℕ
rise_of w jobs = number_at w jobs - number_at w 0

-- the numbers of two turns fit, and none falls
pub record IsSteady (w : Word) : Type 0 where
  pub word : IsWord w
  pub few : w.step_in ≤ 2 ^ 32
  pub fits : (i : ℕ) → i < 2 * w.step_in → number_at w i < 2 ^ 63
  pub rises : (i j : ℕ) → i ≤ j → number_at w i ≤ number_at w j

-- how much higher each number of the first turn is than the one before it
pub record AreGaps (w : Word) (gaps : List ℕ) : Type 0 where
  pub long : length gaps ≡ w.step_in
  pub each : (i : ℕ) → i < w.step_in → number_at w (i + 1) ≡ number_at w i + slice_index gaps i

-- the least number of jobs by which the word climbs
pub record IsShortestStep (w : Word) (jobs : ℕ) : Type 0 where
  pub some : 1 ≤ jobs
  pub within : jobs ≤ w.step_in
  pub climbs : ClimbsBy w jobs (rise_of w jobs)
  pub least : (other higher : ℕ) → 1 ≤ other → ClimbsBy w other higher → jobs ≤ other

-- the word `t` is the word `w` with its shortest repeating part
pub record IsShortened (w t : Word) : Type 0 where
  pub prefix : t.prefix ≡ w.prefix
  pub shortest : IsShortestStep w t.step_in
  pub repeat : t.repeat ≡ take t.step_in w.repeat
  pub step_out : t.step_out ≡ rise_of w t.step_in
