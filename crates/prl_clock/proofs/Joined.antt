-- What the call that joins two components needs and gives.
use Rattle.std.proofs.Common.{◌≡◌, ◌≢◌, ◌≤◌, ◌<◌, ℕ, pos, List, length, Option, Some, None, sym, ap, ◌∙◌, subst, arith}
use borrow.Author.Differences.{up}
use Rattle.prl_clock.specs.Vocabulary.{Timing, Standing, Assignment, tick, MeetsAll, Passes, period, start, Placed, Point, IsOver, HasParts, IsComposed, IsSmallTiming, IsSolved, IsMerging, IsMoved}
use Rattle.prl_clock.specs.Vocabulary.{AreMoved, AreTimed, IsOnePast, LowClock, IsLowClock, of_low, of_high, IsLowClockPast, of_low_past, of_high_past, standing_at, root_at}
use Rattle.prl_clock.proofs.Algebra.{composed_right, numerator}
use Rattle.prl_clock.proofs.Joining.{moved_are, moved_open, moved_solved, second_over, low_small, high_small, first_over}
use Rattle.prl_clock.proofs.Merging.{moved_everywhere, timed_everywhere, timed_solved}
use Rattle.prl_clock.proofs.Passing.{over_passes, timed_passes}
use Rattle.prl_clock.proofs.Terms.{small_parts}

pub nonzero : (q : Timing) (x y : Point) → HasParts q → 1 ≤ x.period → IsOver q x y → q.period.num ≢ pos 0
nonzero q x y d s o e =
    let n = numerator q.period x.period y.period d.period s o.period in
    let z : up q.period.num ≡ 0 = ap up e in omega (arith, n.1, z)

module _ (cs : List Placed) (st : List Standing) (high low : Standing) (w : Timing) (m : IsMerging cs st high low w) where
  some : Assignment
  some = m.joint.standings.consistent.0

  meets : MeetsAll some cs
  unfolding some
  meets = m.joint.standings.consistent.1

  pub high_nonzero : high.over.period.num ≢ pos 0
  high_nonzero =
      nonzero high.over (some.flow m.joint.first) (some.flow high.root) (small_parts _ (high_small cs st high low m.joint)) (some.positive m.joint.first) (first_over cs st high low m.joint some meets)

  pub low_nonzero : low.over.period.num ≢ pos 0
  low_nonzero =
      nonzero low.over (some.flow m.joint.second) (some.flow low.root) (small_parts _ (low_small cs st high low m.joint)) (some.positive m.joint.second) (second_over cs st high low m.joint some meets)

  pub over_nonzero : w.period.num ≢ pos 0
  over_nonzero = nonzero w (some.flow m.joint.first) (some.flow low.root) (small_parts _ m.small) (some.positive m.joint.first) (m.over some meets)

  high_clock : (t : Timing) → high.clock ≡ Some t → IsSmallTiming t × ((s : Assignment) → MeetsAll s cs → IsOver t (s.flow m.joint.first) (tick s))
  high_clock t is =
      let e = ap (λ (s : Standing). s.clock) m.joint.first_is ∙ is in (m.joint.standings.small_clock m.joint.first t e, λ s k. m.joint.standings.clock s k m.joint.first t e)

  its_clock : (t : Timing) → low.clock ≡ Some t → IsSmallTiming t × ((s : Assignment) → MeetsAll s cs → IsOver t (s.flow m.joint.second) (tick s))
  its_clock t is =
      let e = ap (λ (s : Standing). s.clock) m.joint.second_is ∙ is in (m.joint.standings.small_clock m.joint.second t e, λ s k. m.joint.standings.clock s k m.joint.second t e)

  -- the clock of the lower root
  pub clock_over : (c : Timing) → IsSmallTiming c → IsLowClock high low w c → (s : Assignment) → MeetsAll s cs → IsOver c (s.flow low.root) (tick s)
  clock_over c small (of_low t is composed) s k =
      let f = its_clock t is in
      composed_right low.over c t (small_parts _ (low_small cs st high low m.joint)) (small_parts _ small) (small_parts _ f.0)
      (s.flow m.joint.second) (s.flow low.root) (tick s) (s.positive m.joint.second) (s.positive low.root) s.some (second_over cs st high low m.joint s k) (f.1 s k) composed
  clock_over c small (of_high t is composed) s k =
      let f = high_clock t is in
      composed_right w c t (small_parts _ m.small) (small_parts _ small) (small_parts _ f.0)
      (s.flow m.joint.first) (s.flow low.root) (tick s) (s.positive m.joint.first) (s.positive low.root) s.some (m.over s k) (f.1 s k) composed

  pub clock_passes : IsLowClockPast high low w → Passes cs
  clock_passes (of_low_past t is past) =
      let f = its_clock t is in
      over_passes cs (λ s. s.flow m.joint.second) (λ s. s.flow low.root) tick (λ s. s.positive m.joint.second) (λ s. s.positive low.root) (Passes cs)
      (λ g h k. period low.root g h k) (λ g h k. start low.root g h k)
      low.over t (small_parts _ (low_small cs st high low m.joint)) (small_parts _ f.0) (second_over cs st high low m.joint) f.1 past
  clock_passes (of_high_past t is past) =
      let f = high_clock t is in
      over_passes cs (λ s. s.flow m.joint.first) (λ s. s.flow low.root) tick (λ s. s.positive m.joint.first) (λ s. s.positive low.root) (Passes cs)
      (λ g h k. period low.root g h k) (λ g h k. start low.root g h k)
      w t (small_parts _ m.small) (small_parts _ f.0) m.over f.1 past

  pub high_within : high.root < length st
  high_within =
      let a = m.joint.standings.low m.joint.first in let b = m.joint.within in
      let e : root_at st m.joint.first ≡ high.root = ap (λ (s : Standing). s.root) m.joint.first_is in omega (arith, a, b, e)

  module _ (shift : Timing) (shift_small : IsSmallTiming shift) (composed : IsComposed high.over shift w) (mid : List Standing)
      (len : length mid ≡ length st) (moved : AreMoved high.root low.root shift st mid) where
    all : (x : ℕ) → IsMoved high.root low.root shift (standing_at st x) (standing_at mid x)
    all = moved_everywhere high.root low.root shift st mid len high_within moved

    pub joined_none : high.clock ≡ None → low.clock ≡ None → IsSolved cs mid
    joined_none = moved_solved cs st high low w m shift shift_small composed mid all

    pub joined_past : (c : Timing) → IsSmallTiming c × IsLowClock high low w c → IsOnePast low.root c mid → Passes cs
    joined_past c its one =
        timed_passes cs mid (moved_are cs st high low w m shift shift_small composed mid all) one.flow c (small_parts _ its.0)
        (λ s k. let P : ℕ → Type 0 = λ y. IsOver c (s.flow y) (tick s) in subst P (sym one.is) (clock_over c its.0 its.1 s k)) one.past

    pub joined_some : (c : Timing) → IsSmallTiming c × IsLowClock high low w c → (new : List Standing) → length new ≡ length mid → AreTimed low.root c mid new → IsSolved cs new
    joined_some c its new same timed =
        let l : low.root < length mid = let a = m.joint.lower in let b = high_within in omega (arith, a, b, len) in
        timed_solved cs mid new low.root c (moved_open cs st high low w m shift shift_small composed mid all) its.0 (clock_over c its.0 its.1)
        (timed_everywhere low.root c mid new same l timed)

pub low_none : (high low : Standing) (w : Timing) (o : Option Timing) → o ≡ None → LowClock high low w o → (high.clock ≡ None) × (low.clock ≡ None)
low_none high low w None e l = l
low_none high low w (Some t) e l = absurd (cc e)

pub low_some : (high low : Standing) (w c : Timing) (o : Option Timing) → o ≡ Some c → LowClock high low w o → IsSmallTiming c × IsLowClock high low w c
low_some high low w c o e l = let P : Option Timing → Type 0 = λ x. LowClock high low w x in subst P e l
