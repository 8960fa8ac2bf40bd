-- A word with one more operator at the producer's end.
use Rattle.std.specs.Prelude.{◌≡◌, ◌+◌, ◌-◌, ◌*◌, ◌/◌, ◌≤◌, ◌<◌, ◌^◌, ◌++◌, ℕ, List, [], length, replicate, slice_index}
use Rattle.std.specs.Int.{IsGcd}
use Rattle.prl_base.specs.declared.operators.Op.{Op}
use Rattle.prl_base.specs.declared.operators.Op.TheVariants as operators
use Rattle.prl_base.specs.declared.values.Value.{Value}
use Rattle.prl_plan.specs.declared.words.Word.{Word}
use Rattle.prl_plan.specs.Operands.{walk}
use Rattle.prl_plan.specs.Words.{number_at, word_at, IsWord}
use Rattle.prl_words.specs.Counts.{IsCountBefore, IsCount, HaveCounts}

-- the instance behind instance n of the operator's result, where this is no constant
abbrev pub number_before : Op → ℕ → ℕ
number_before (operators.Fby c) n = n - 1
number_before (operators.Cons c) n = n - 1
number_before operators.Tail n = n + 1
number_before (operators.Up k) n = n / k
number_before (operators.Down k) n = k * n
number_before (operators.Shift q) n = n

-- instance n of the operator's result is no constant
abbrev pub IsPast : Op → ℕ → Type 0
IsPast (operators.Fby c) n = 1 ≤ n
IsPast (operators.Cons c) n = 1 ≤ n
IsPast operators.Tail n = Unit {0}
IsPast (operators.Up k) n = Unit {0}
IsPast (operators.Down k) n = Unit {0}
IsPast (operators.Shift q) n = Unit {0}

-- the number before fits 64 bits
abbrev pub FitsBefore : Op → ℕ → Type 0
FitsBefore (operators.Fby c) n = 1 ≤ n
FitsBefore (operators.Cons c) n = 1 ≤ n
FitsBefore operators.Tail n = n + 1 < 2 ^ 64
FitsBefore (operators.Up k) n = 1 ≤ k
FitsBefore (operators.Down k) n = k * n < 2 ^ 64
FitsBefore (operators.Shift q) n = Unit {0}

-- the constants that so many instances 0 become
abbrev pub constants_of : Op → ℕ → List Value
constants_of (operators.Fby c) zeros = replicate zeros c
constants_of (operators.Cons c) zeros = replicate zeros c
constants_of operators.Tail _ = []
constants_of (operators.Up k) _ = []
constants_of (operators.Down k) _ = []
constants_of (operators.Shift q) _ = []

-- so many numbers of the word are 0, and become constants
abbrev pub AreZeros : Op → ℕ → Type 0
AreZeros (operators.Fby c) _ = Unit {0}
AreZeros (operators.Cons c) _ = Unit {0}
AreZeros operators.Tail zeros = zeros ≡ 0
AreZeros (operators.Up k) zeros = zeros ≡ 0
AreZeros (operators.Down k) zeros = zeros ≡ 0
AreZeros (operators.Shift q) zeros = zeros ≡ 0

pub record AreBefore (op : Op) (w : Word) (zeros : ℕ) : Type 0 where
  pub few : zeros ≤ w.step_in
  pub only : AreZeros op zeros
  pub zero : (i : ℕ) → i < zeros → number_at w i ≡ 0
  pub past : (i : ℕ) → zeros ≤ i → IsPast op (number_at w i)

-- The step of the instances and the operator give how often the repeating part is written, and the
-- new step.
abbrev pub IsStep : Op → ℕ → ℕ → ℕ → Type 0
IsStep (operators.Up k) step rounds after = (g : ℕ) × IsGcd k step g × (rounds ≡ k / g) × (after ≡ step / g)
IsStep (operators.Down k) step rounds after = (rounds ≡ 1) × (after ≡ k * step)
IsStep (operators.Shift q) step rounds after = (rounds ≡ 1) × (after ≡ step)
IsStep operators.Tail step rounds after = (rounds ≡ 1) × (after ≡ step)
IsStep (operators.Cons c) step rounds after = (rounds ≡ 1) × (after ≡ step)
IsStep (operators.Fby c) step rounds after = (rounds ≡ 1) × (after ≡ step)

-- the numbers of the word from one on, each as the operator has it
pub record AreNumbers (op : Op) (w : Word) (from count : ℕ) (numbers : List ℕ) : Type 0 where
  pub long : length numbers ≡ count
  pub each : (k : ℕ) → k < count → slice_index numbers k ≡ number_before op (number_at w (from + k))

-- the word `t` is the word `w` with one more operator
pub record IsExtended (op : Op) (w t : Word) : Type 0 where
  pub zeros : ℕ
  pub rounds : ℕ
  pub before : AreBefore op w zeros
  pub prefix : t.prefix ≡ w.prefix ++ constants_of op zeros
  pub step : IsStep op w.step_out rounds t.step_out
  pub step_in : t.step_in ≡ rounds * w.step_in
  pub numbers : AreNumbers op w zeros t.step_in t.repeat

-- The word of so many operators repeats a whole number of times in a hyperperiod, which has so
-- many jobs of the consumer and so many instances. Its numbers never fall.
pub record IsSized (jobs count done : ℕ) (w : Word) : Type 0 where
  pub word : IsWord w
  pub turns : ℕ
  pub jobs_are : jobs ≡ w.step_in * turns
  pub count_is : count ≡ w.step_out * turns
  pub below : (k : ℕ) → k < w.step_in → slice_index w.repeat k ≤ (done + 1) * count
  pub rises : (i j : ℕ) → i ≤ j → number_at w i ≤ number_at w j

-- one more operator can be composed
pub record HasRoom (op : Op) (w : Word) : Type 0 where
  pub jobs : ℕ
  pub count : ℕ
  pub before : ℕ
  pub done : ℕ
  pub sized : IsSized jobs count done w
  pub step : IsCountBefore op count before
  pub jobs_fit : IsCount jobs
  pub count_fits : IsCount count
  pub before_fits : IsCount before
  pub few : done < 2 ^ 32

-- the word of the operators so far, with those that are to come, where the consumer has so many jobs in a hyperperiod
pub record IsSoFar (jobs : ℕ) (front rest : List Op) (w : Word) : Type 0 where
  pub count : ℕ
  pub jobs_fit : IsCount jobs
  pub sized : IsSized jobs count (length front) w
  pub coming : HaveCounts rest count
  pub constants : length w.prefix ≤ length front * jobs
  pub at : (n : ℕ) → word_at w n ≡ walk front n

-- the word of these operators, whatever number of jobs the consumer has in a hyperperiod
pub record IsComposed (ops : List Op) (w : Word) : Type 0 where
  pub each : (jobs : ℕ) → HaveCounts ops jobs → IsSoFar jobs ops [] w
