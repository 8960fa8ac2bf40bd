-- Flows that are evaluated date by date.
use Rattle.std.specs.Prelude.{◌≡◌, ◌+◌, ◌<◌, ◌≤◌, ◌⊎◌, ℕ, zero, suc, List, length, map, Some, slice_get, slice_index}
use Rattle.prl_base.specs.declared.numbers.FlowNo.{FlowNo}
use Rattle.prl_base.specs.declared.operators.Clock.{Clock}
use Rattle.prl_base.specs.declared.values.Value.{Value}
use Rattle.prl_flow.specs.Counts.{dates_before}
use Rattle.prl_flow.specs.Solutions.{clock_of}
use Rattle.prl_flow.specs.Uses.{UsesNow}
use Rattle.prl_evaluation.specs.code.Fronts.{len}
use Rattle.prl_evaluation.specs.declared.settings.Setting.{Setting}

-- the clocks of these flows
abbrev pub clocks_by : List Clock → List FlowNo → List Clock
clocks_by clocks flows = map (λ (x : FlowNo). clock_of clocks x.0) flows

-- flow `i` has a value for each of its dates
abbrev pub IsFull : Setting → List (List Value) → ℕ → Type 0
IsFull s flows i = len flows i ≡ dates_before s.until (clock_of s.clocks.now i)

abbrev pub AreFull : Setting → List (List Value) → Type 0
AreFull s flows = (i : ℕ) → i < length s.flat.now.flows → IsFull s flows i

-- these flows, each once and after those that it uses undelayed; all others are full
pub record IsRest (s : Setting) (rest : List FlowNo) (flows : List (List Value)) : Type 0 where
  pub within : (b : ℕ) (x : FlowNo) → slice_get rest b ≡ Some x → x.0 < length s.flat.now.flows
  pub once : (a b : ℕ) (x : FlowNo) → slice_get rest a ≡ Some x → slice_get rest b ≡ Some x → a ≡ b
  pub after : (a b : ℕ) (x y : FlowNo) → slice_get rest a ≡ Some x → slice_get rest b ≡ Some y → UsesNow s.flat.now x.0 y.0 → b < a
  pub others : (i : ℕ) → i < length s.flat.now.flows → ((b : ℕ) × (slice_get rest b ≡ Some (record { 0 = i }))) ⊎ IsFull s flows i

-- each of the flows has the values of its dates before this one
abbrev pub AreAt : Setting → List FlowNo → List (List Value) → ℕ → Type 0
AreAt s rest flows t = (b : ℕ) (x : FlowNo) → slice_get rest b ≡ Some x → len flows x.0 ≡ dates_before t (clock_of s.clocks.now x.0)

-- the flows before this place have their values up to the date, and the others before it
pub record IsPart (s : Setting) (rest : List FlowNo) (flows : List (List Value)) (t place : ℕ) : Type 0 where
  pub done : (b : ℕ) (x : FlowNo) → slice_get rest b ≡ Some x → b < place → len flows x.0 ≡ dates_before (t + 1) (clock_of s.clocks.now x.0)
  pub left : (b : ℕ) (x : FlowNo) → slice_get rest b ≡ Some x → place ≤ b → len flows x.0 ≡ dates_before t (clock_of s.clocks.now x.0)

-- the place after the first `q` that are due
abbrev pub place_after : List ℕ → ℕ → ℕ
place_after due zero = 0
place_after due (suc q) = slice_index due q + 1
