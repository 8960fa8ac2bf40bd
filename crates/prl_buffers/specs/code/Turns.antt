-- The instances that the jobs of one hyperperiod read.
use Rattle.std.specs.Prelude.{◌≡◌, ◌+◌, ◌<◌, ◌≤◌, ◌^◌, ℕ, List, length, take, sum, slice_index}
use Rattle.prl_plan.specs.declared.words.Word.{Word}
use Rattle.prl_plan.specs.Words.{number_at, IsWord}

-- the numbers of so many jobs after the prefix fit, and none falls
pub record IsSteady (w : Word) (jobs : ℕ) : Type 0 where
  pub word : IsWord w
  pub fits : (i : ℕ) → i ≤ jobs → number_at w i < 2 ^ 63
  pub rises : (i : ℕ) → number_at w i ≤ number_at w (i + 1)

-- the gaps lead through all numbers that these jobs and the next one read, and each number has its last reader
pub record IsTurn (w : Word) (jobs : ℕ) (gaps last : List ℕ) : Type 0 where
  pub long : length last ≡ length gaps
  pub positive : (j : ℕ) → j < length gaps → 1 ≤ slice_index gaps j
  pub within : (j : ℕ) → j < length gaps → slice_index last j < jobs
  pub each : (j : ℕ) → j < length gaps → number_at w (slice_index last j) ≡ number_at w 0 + sum (take j gaps)
  pub next : (j : ℕ) → j < length gaps → number_at w (slice_index last j) < number_at w (slice_index last j + 1)
  pub whole : number_at w jobs ≡ number_at w 0 + sum gaps
  pub all : (i : ℕ) → i ≤ jobs → (j : ℕ) × (j ≤ length gaps) × (number_at w i ≡ number_at w 0 + sum (take j gaps))
