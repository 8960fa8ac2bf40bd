-- Where each flow stands after some constraints: the lowest flow that is connected with it, what it is over that, and its clock where it has one.
use Rattle.std.specs.Prelude.{◌≡◌, ◌≢◌, ◌≤◌, ◌<◌, ◌⊎◌, ℕ, pos, Contains, List, [], ◌∷◌, length, Option, Some, None}
use Rattle.prl_clock.specs.Assignments.{Assignment, tick, MeetsAll, IsConsistent, Joins, Connected, Passes}
use Rattle.prl_clock.specs.Constraints.{Constraint, rated, related, Placed}
use Rattle.prl_clock.specs.Timings.{IsOver}
use Rattle.prl_clock.specs.code.Composition.{HasParts, IsComposed, IsComposedPast, IsOverPast, IsSmallTiming}
use Rattle.prl_flow.specs.Standings.{HasClock, standing_at}
use Rattle.prl_flow.specs.declared.standings.Standing.{Standing}
use Rattle.prl_clock.specs.declared.steps.Refusal.{Refusal}
use Rattle.prl_clock.specs.declared.steps.Refusal.TheVariants as refusals
use Rattle.prl_flow.specs.declared.standings.Timing.{Timing}

abbrev pub root_at : List Standing → ℕ → ℕ
root_at st x = (standing_at st x).root

-- a timing that some flow has over another
pub record IsLink (q : Timing) : Type 0 where
  pub num : ℕ
  pub is : q.period.num ≡ pos num
  pub some : 1 ≤ num
  pub parts : HasParts q

-- a rate of the flow is among the constraints
abbrev pub IsRated : Constraint → ℕ → Type 0
IsRated (rated u q) x = u ≡ x
IsRated (related u v q) x = ⊥

abbrev pub HasRate : List Placed → ℕ → Type 0
HasRate [] x = ⊥
HasRate (c ∷ cs) x = IsRated c.constraint x ⊎ HasRate cs x

-- What the standings say is so in each assignment that meets the constraints, and there is one.
pub record AreStandings (cs : List Placed) (st : List Standing) : Type 0 where
  pub consistent : IsConsistent cs
  pub over : (s : Assignment) → MeetsAll s cs → (x : ℕ) → IsOver (standing_at st x).over (s.flow x) (s.flow (root_at st x))
  pub clock : (s : Assignment) → MeetsAll s cs → (x : ℕ) (t : Timing) → (standing_at st x).clock ≡ Some t → IsOver t (s.flow x) (tick s)
  pub small : (x : ℕ) → IsSmallTiming (standing_at st x).over
  pub small_clock : (x : ℕ) (t : Timing) → (standing_at st x).clock ≡ Some t → IsSmallTiming t
  pub low : (x : ℕ) → root_at st x ≤ x
  pub led : (x : ℕ) → Connected cs x (root_at st x)

-- Flows that a constraint relates stand over one flow; and where one of them has a clock, all have.
pub record IsSolved (cs : List Placed) (st : List Standing) : Type 0 where
  pub standings : AreStandings cs st
  pub joined : (x y : ℕ) → Joins cs x y → root_at st x ≡ root_at st y
  pub rated : (x : ℕ) → HasRate cs x → HasClock st x
  pub shared : (x y : ℕ) → root_at st x ≡ root_at st y → HasClock st x → HasClock st y

-- the same, but for the clocks of the flows over `r`
pub record IsOpen (cs : List Placed) (st : List Standing) (r : ℕ) : Type 0 where
  pub standings : AreStandings cs st
  pub joined : (x y : ℕ) → Joins cs x y → root_at st x ≡ root_at st y
  pub rated : (x : ℕ) → HasRate cs x → root_at st x ≢ r → HasClock st x
  pub shared : (x y : ℕ) → root_at st x ≡ root_at st y → root_at st x ≢ r → HasClock st x → HasClock st y

-- each flow over `high` goes over `low`, where `high` over `low` is `shift`
pub record IsMoved (high low : ℕ) (shift : Timing) (old new : Standing) : Type 0 where
  pub moved : old.root ≡ high → (new.root ≡ low) × IsComposed old.over shift new.over × IsSmallTiming new.over × (new.clock ≡ old.clock)
  pub kept : old.root ≢ high → new ≡ old

-- each flow over `root` without a clock gets its clock, where `clock` is that of `root`
pub record IsTimed (root : ℕ) (clock : Timing) (old new : Standing) : Type 0 where
  pub timed : old.root ≡ root → old.clock ≡ None
      → (t : Timing) × ((new ≡ record { root = old.root; over = old.over; clock = Some t }) × IsComposed old.over clock t × IsSmallTiming t)
  pub had : (t : Timing) → old.clock ≡ Some t → new ≡ old
  pub kept : old.root ≢ root → new ≡ old

abbrev pub AreMoved : ℕ → ℕ → Timing → List Standing → List Standing → Type 0
AreMoved high low shift old new = (x : ℕ) → x < length old → IsMoved high low shift (standing_at old x) (standing_at new x)

abbrev pub AreTimed : ℕ → Timing → List Standing → List Standing → Type 0
AreTimed root clock old new = (x : ℕ) → x < length old → IsTimed root clock (standing_at old x) (standing_at new x)

-- each flow has changed so, or stays
abbrev pub AreChanged : (Standing → Standing → Type 0) → List Standing → List Standing → Type 0
AreChanged R old new = (x : ℕ) → R (standing_at old x) (standing_at new x) ⊎ (standing_at new x ≡ standing_at old x)

-- each of these flows has changed so
abbrev pub HaveChanged : (Standing → Standing → Type 0) → List ℕ → List Standing → List Standing → Type 0
HaveChanged R xs old new = (x : ℕ) → Contains xs x → R (standing_at old x) (standing_at new x)

-- a flow over `root` is past the limit, by what `root` is
pub record IsOnePast (root : ℕ) (q : Timing) (st : List Standing) : Type 0 where
  pub flow : ℕ
  pub within : flow < length st
  pub is : root_at st flow ≡ root
  pub past : IsComposedPast (standing_at st flow).over q

-- The constraints, of which the last joins two flows that stood over different ones: `high` and `low` are where these two flows stand.
pub record IsJoint (cs : List Placed) (st : List Standing) (high low : Standing) : Type 0 where
  pub standings : AreStandings cs st
  pub first : ℕ
  pub second : ℕ
  pub first_is : standing_at st first ≡ high
  pub second_is : standing_at st second ≡ low
  pub within : first < length st
  pub lower : low.root < high.root
  pub link : Connected cs first second
  pub fixed : (x : ℕ) → root_at st (root_at st x) ≡ root_at st x
  pub joined : (x y : ℕ) → Joins cs x y
      → (root_at st x ≡ root_at st y) ⊎ (((root_at st x ≡ high.root) × (root_at st y ≡ low.root)) ⊎ ((root_at st x ≡ low.root) × (root_at st y ≡ high.root)))
  pub rated : (x : ℕ) → HasRate cs x → HasClock st x
  pub shared : (x y : ℕ) → root_at st x ≡ root_at st y → HasClock st x → HasClock st y

-- `w` is the first of the two flows over what the second stands over
pub record IsMerging (cs : List Placed) (st : List Standing) (high low : Standing) (w : Timing) : Type 0 where
  pub joint : IsJoint cs st high low
  pub small : IsSmallTiming w
  pub over : (s : Assignment) → MeetsAll s cs → IsOver w (s.flow joint.first) (s.flow low.root)

-- it has a clock
abbrev pub IsTold : Standing → Type 0
IsTold s = (t : Timing) × (s.clock ≡ Some t)

-- The same, after flows got clocks: those over both roots have one, or none of them has. `above` and `below` are where the two flows stand now.
pub record IsEven (cs : List Placed) (st : List Standing) (high low : Standing) (w : Timing) : Type 0 where
  pub above : Standing
  pub below : Standing
  pub merging : IsMerging cs st above below w
  pub over : above.over ≡ high.over
  pub high_root : above.root ≡ high.root
  pub low_root : below.root ≡ low.root
  pub clocks : (IsTold above × IsTold below) ⊎ ((above.clock ≡ None) × (below.clock ≡ None))

-- what the lower root is in ticks, by the clock of one of the two flows
pub data IsLowClock (high low : Standing) (w c : Timing) : Type 0 where
  of_low : (t : Timing) → low.clock ≡ Some t → IsComposed low.over c t → IsLowClock high low w c
  of_high : (t : Timing) → high.clock ≡ Some t → IsComposed w c t → IsLowClock high low w c

abbrev pub LowClock : Standing → Standing → Timing → Option Timing → Type 0
LowClock high low w None = (high.clock ≡ None) × (low.clock ≡ None)
LowClock high low w (Some c) = IsSmallTiming c × IsLowClock high low w c

-- that is past the limit
pub data IsLowClockPast (high low : Standing) (w : Timing) : Type 0 where
  of_low_past : (t : Timing) → low.clock ≡ Some t → IsOverPast low.over t → IsLowClockPast high low w
  of_high_past : (t : Timing) → high.clock ≡ Some t → IsOverPast w t → IsLowClockPast high low w

-- why a constraint is refused after others; want of memory has no cause
abbrev pub IsRefused : List Placed → Refusal → Type 0
IsRefused cs refusals.Mismatch = IsConsistent cs → ⊥
IsRefused cs refusals.Limit = IsConsistent cs × Passes cs
IsRefused cs refusals.Memory = Unit {0}

-- why two components do not become one: this is past the limit, or memory ran out
abbrev pub IsStuck : Type 0 → Refusal → Type 0
IsStuck past refusals.Mismatch = ⊥
IsStuck past refusals.Limit = past
IsStuck past refusals.Memory = Unit {0}
