-- Clocks of all flows over rational numbers: which of them meet constraints, what the flows are in periods of the lowest flow that the
-- constraints connect with them, and when a number of these is past the limit.
use Rattle.std.specs.Prelude.{◌≡◌, ◌≤◌, ◌⊎◌, ℕ, pos, List, [], ◌∷◌}
use Rattle.std.specs.List.{AllByRecursion}
use Rattle.prl_base.specs.Ratios.{Fraction}
use Rattle.prl_base.specs.Reductions.{IsPast}
use Rattle.prl_clock.specs.Constraints.{Constraint, rated, related, Placed}
use Rattle.prl_clock.specs.Timings.{Point, IsOver, IsPeriodOver, IsStartOver}

-- A rational period and start for each flow: whole numbers of parts of a tick, of which a tick has so many.
pub record Assignment : Type 0 where
  pub unit : ℕ
  pub flow : ℕ → Point
  pub some : 1 ≤ unit
  pub positive : (i : ℕ) → 1 ≤ (flow i).period

-- a tick, as the period of what starts at 0
abbrev pub tick : Assignment → Point
tick s = record { period = s.unit; start = pos 0 }

abbrev pub Meets : Assignment → Constraint → Type 0
Meets s (rated x q) = IsOver q (s.flow x) (tick s)
Meets s (related x y q) = IsOver q (s.flow x) (s.flow y)

abbrev pub MeetsAll : Assignment → List Placed → Type 0
MeetsAll s cs = AllByRecursion (λ (c : Placed). Meets s c.constraint) cs

-- some assignment meets the constraints
abbrev pub IsConsistent : List Placed → Type 0
IsConsistent cs = (s : Assignment) × MeetsAll s cs

abbrev pub IsJoin : Constraint → ℕ → ℕ → Type 0
IsJoin (rated u q) x y = ⊥
IsJoin (related u v q) x y = (u ≡ x) × (v ≡ y)

-- a constraint relates the first flow to the second
abbrev pub Joins : List Placed → ℕ → ℕ → Type 0
Joins [] x y = ⊥
Joins (c ∷ cs) x y = IsJoin c.constraint x y ⊎ Joins cs x y

-- constraints lead from the first flow to the second
pub data Connected (cs : List Placed) : ℕ → ℕ → Type 0 where
  here : (x : ℕ) → Connected cs x x
  on : (x y z : ℕ) → Connected cs x y → Joins cs y z ⊎ Joins cs z y → Connected cs x z

-- `y` is the lowest flow that is connected with `x`
pub record IsLowest (cs : List Placed) (x y : ℕ) : Type 0 where
  pub connected : Connected cs x y
  pub lowest : (z : ℕ) → Connected cs x z → y ≤ z

-- A number in lowest terms is past the limit: of a flow in periods of the lowest flow that is connected with it; or of a period or
-- start in ticks, where the constraints leave no choice of it.
pub data Passes (cs : List Placed) : Type 0 where
  period_over : (x y : ℕ) (f : Fraction) → IsLowest cs x y → ((s : Assignment) → MeetsAll s cs → IsPeriodOver f (s.flow x) (s.flow y)) → IsPast f
      → Passes cs
  start_over : (x y : ℕ) (f : Fraction) → IsLowest cs x y → ((s : Assignment) → MeetsAll s cs → IsStartOver f (s.flow x) (s.flow y)) → IsPast f
      → Passes cs
  period : (x : ℕ) (f : Fraction) → ((s : Assignment) → MeetsAll s cs → IsPeriodOver f (s.flow x) (tick s)) → IsPast f → Passes cs
  start : (x : ℕ) (f : Fraction) → ((s : Assignment) → MeetsAll s cs → IsStartOver f (s.flow x) (tick s)) → IsPast f → Passes cs
