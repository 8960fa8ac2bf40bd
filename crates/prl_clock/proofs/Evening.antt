-- Before two components become one, the one of the two that has no clocks gets them from the other.
use Rattle.std.proofs.Common.{◌≡◌, ◌<◌, ◌⊎◌, inl, inr, ℕ, List, length, Option, Some, None, IfErr, IsErrAnd, Result, Ok, Err, refl, sym, ap, ◌∙◌, subst, arith}
use Rattle.prl_clock.specs.Vocabulary.{Timing, Standing, Refusal, Assignment, tick, MeetsAll, IsConsistent, Passes, period, start, Placed, IsOver, IsComposed, IsComposedPast, IsSmallTiming, IsSolved}
use Rattle.prl_clock.specs.Vocabulary.{AreMoved, AreTimed, HasClock, IsEven, IsJoint, IsLowClock, of_low, of_high, IsMerging, IsOnePast, IsRefused, IsStuck, IsTimed, IsTold, standing_at, root_at}
use Rattle.prl_clock.specs.declared.steps.Refusal.TheVariants as refusals
use Rattle.prl_clock.proofs.Algebra.{composed_of}
use Rattle.prl_clock.proofs.Joined.{clock_over, high_within}
use Rattle.prl_clock.proofs.Joining.{moved_even, one_passes, root_high, root_low, shift_over}
use Rattle.prl_clock.proofs.Merging.{decide, moved_everywhere, same_over, timed_are, timed_everywhere}
use Rattle.prl_clock.proofs.Merging.{has_clock as timed_has, had_clock as timed_had}
use Rattle.prl_clock.proofs.Passing.{composed_passes, timed_passes}
use Rattle.prl_clock.proofs.Terms.{small_parts}

none_some : {o : Option Timing} {t : Timing} → o ≡ None → o ≡ Some t → ⊥
none_some a b = cc

module _ (cs : List Placed) (st : List Standing) (high low : Standing) (w : Timing) (m : IsMerging cs st high low w) where
  -- where the flows over `r` get clocks
  module _ (r : ℕ) (clock : Timing) (small : IsSmallTiming clock) (over : (s : Assignment) → MeetsAll s cs → IsOver clock (s.flow r) (tick s)) where
    pub untimed_passes : IsOnePast r clock st → Passes cs
    untimed_passes one =
        timed_passes cs st m.joint.standings one.flow clock (small_parts _ small)
        (λ s k. let P : ℕ → Type 0 = λ y. IsOver clock (s.flow y) (tick s) in subst P (sym one.is) (over s k)) one.past

    module _ (new : List Standing) (len : length new ≡ length st) (timed : (x : ℕ) → IsTimed r clock (standing_at st x) (standing_at new x)) where
      above : Standing
      above = standing_at new m.joint.first

      below : Standing
      below = standing_at new m.joint.second

      kept : (x : ℕ) → root_at new x ≡ root_at st x
      kept x = (same_over cs st new r clock m.joint.standings small over timed x).1

      has : (x : ℕ) → (root_at st x ≡ r) ⊎ HasClock st x → HasClock new x
      has = timed_has cs st new r clock m.joint.standings small over timed

      above_root : above.root ≡ high.root
      unfolding above
      above_root = kept m.joint.first ∙ root_high cs st high low m.joint

      below_root : below.root ≡ low.root
      unfolding below
      below_root = kept m.joint.second ∙ root_low cs st high low m.joint

      above_over : above.over ≡ high.over
      unfolding above
      above_over = (same_over cs st new r clock m.joint.standings small over timed m.joint.first).0 ∙ ap (λ (s : Standing). s.over) m.joint.first_is

      timed_joint : IsJoint cs new above below
      unfolding above below
      timed_joint = record {
        standings = timed_are cs st new r clock m.joint.standings small over timed;
        first = m.joint.first;
        second = m.joint.second;
        first_is = refl;
        second_is = refl;
        within = let h = m.joint.within in omega (arith, h, len);
        lower = let h = m.joint.lower in let a = above_root in let b = below_root in omega (arith, h, a, b);
        link = m.joint.link;
        fixed = λ x. kept (root_at new x) ∙ ap (root_at st) (kept x) ∙ m.joint.fixed x ∙ sym (kept x);
        joined = λ x y j.
            elim (m.joint.joined x y j) [
              | inl e ↦ inl (kept x ∙ e ∙ sym (kept y))
              | inr either ↦ inr (elim either [
                | inl e ↦ inl (kept x ∙ e.0 ∙ sym above_root, kept y ∙ e.1 ∙ sym below_root)
                | inr e ↦ inr (kept x ∙ e.0 ∙ sym below_root, kept y ∙ e.1 ∙ sym above_root)
              ])
            ];
        rated = λ x h. has x (inr (m.joint.rated x h));
        shared = λ x y e c.
            let f : root_at st x ≡ root_at st y = sym (kept x) ∙ e ∙ kept y in
            has y (elim (decide (root_at st x) r) [
              | inl g ↦ inl (sym f ∙ g)
              | inr n ↦ inr (m.joint.shared x y f (timed_had cs st new r clock m.joint.standings small over timed x n c))
            ]);
      }

      pub timed_even : (root_at st m.joint.first ≡ r) ⊎ HasClock st m.joint.first → (root_at st m.joint.second ≡ r) ⊎ HasClock st m.joint.second → IsEven cs new high low w
      unfolding above below timed_joint
      timed_even a b = record {
        above = above;
        below = below;
        merging = record {
          joint = timed_joint;
          small = m.small;
          over = λ s k. let P : ℕ → Type 0 = λ y. IsOver w (s.flow m.joint.first) (s.flow y) in subst P (sym below_root) (m.over s k);
        };
        over = above_over;
        high_root = above_root;
        low_root = below_root;
        clocks = inl (has m.joint.first a, has m.joint.second b);
      }

  -- both have clocks, or none has one
  pub even_both : (t u : Timing) → high.clock ≡ Some t → low.clock ≡ Some u → IsEven cs st high low w
  even_both t u a b = record { above = high; below = low; merging = m; over = refl; high_root = refl; low_root = refl; clocks = inl ((t, a), (u, b)) }

  pub even_none : (high.clock ≡ None) × (low.clock ≡ None) → IsEven cs st high low w
  even_none none = record { above = high; below = low; merging = m; over = refl; high_root = refl; low_root = refl; clocks = inr none }

  high_has : (t : Timing) → high.clock ≡ Some t → HasClock st m.joint.first
  high_has t is = (t, ap (λ (s : Standing). s.clock) m.joint.first_is ∙ is)

  low_has : (t : Timing) → low.clock ≡ Some t → HasClock st m.joint.second
  low_has t is = (t, ap (λ (s : Standing). s.clock) m.joint.second_is ∙ is)

  -- the lower component gets clocks
  module _ (c : Timing) (its : IsSmallTiming c × IsLowClock high low w c) where
    low_over : (s : Assignment) → MeetsAll s cs → IsOver c (s.flow low.root) (tick s)
    low_over = clock_over cs st high low w m c its.0 its.1

    pub low_passes : IsOnePast low.root c st → Passes cs
    low_passes = untimed_passes low.root c its.0 low_over

    pub low_even : low.clock ≡ None → (new : List Standing) → length new ≡ length st → AreTimed low.root c st new → IsEven cs new high low w
    low_even none new len timed =
        let l : low.root < length st = let a = m.joint.lower in let b = high_within cs st high low w m in omega (arith, a, b) in
        timed_even low.root c its.0 low_over new len (timed_everywhere low.root c st new len l timed) (inr (told its.1)) (inl (root_low cs st high low m.joint))
      where
        told : IsLowClock high low w c → HasClock st m.joint.first
        told (of_low t is e) = absurd (none_some none is)
        told (of_high t is e) = high_has t is

    -- the higher component gets clocks
    module _ (shift : Timing) (small : IsSmallTiming shift) (composed : IsComposed high.over shift w) where
      over_low : (s : Assignment) → MeetsAll s cs → IsOver shift (s.flow high.root) (s.flow low.root)
      over_low = shift_over cs st high low w m shift small composed

      pub own_passes : IsComposedPast shift c → Passes cs
      own_passes past =
          composed_passes cs (λ s. s.flow high.root) (λ s. s.flow low.root) tick (λ s. s.positive high.root) (λ s. s.positive low.root) (Passes cs)
          (λ f h k. period high.root f h k) (λ f h k. start high.root f h k)
          shift c (small_parts _ small) (small_parts _ its.0) over_low low_over past

      module _ (own : Timing) (own_small : IsSmallTiming own) (own_composed : IsComposed shift c own) where
        own_over : (s : Assignment) → MeetsAll s cs → IsOver own (s.flow high.root) (tick s)
        own_over s k =
            composed_of shift c own (small_parts _ small) (small_parts _ its.0) (small_parts _ own_small)
            (s.flow high.root) (s.flow low.root) (tick s) (s.positive high.root) (s.positive low.root) s.some (over_low s k) (low_over s k) own_composed

        pub high_passes : IsOnePast high.root own st → Passes cs
        high_passes = untimed_passes high.root own own_small own_over

        pub high_even : (t : Timing) → low.clock ≡ Some t → (new : List Standing) → length new ≡ length st → AreTimed high.root own st new → IsEven cs new high low w
        high_even t is new len timed =
            timed_even high.root own own_small own_over new len (timed_everywhere high.root own st new len (high_within cs st high low w m) timed)
            (inl (root_high cs st high low m.joint)) (inr (low_has t is))

-- The two components become one.
module _ (cs : List Placed) (st : List Standing) (high low : Standing) (w : Timing) (e : IsEven cs st high low w) (shift : Timing) (small : IsSmallTiming shift)
    (composed : IsComposed high.over shift w) where
  composed' : IsComposed e.above.over shift w
  composed' = let P : Timing → Type 0 = λ t. IsComposed t shift w in subst P (sym e.over) composed

  pub even_passes : IsOnePast high.root shift st → Passes cs
  even_passes past =
      let P : ℕ → Type 0 = λ r. IsOnePast r shift st in
      one_passes cs st e.above e.below w e.merging shift small composed' (subst P (sym e.high_root) past)

  pub even_solved : (new : List Standing) → length new ≡ length st → AreMoved high.root low.root shift st new → IsSolved cs new
  even_solved new len moved =
      let P : ℕ → Type 0 = λ r. AreMoved r low.root shift st new in
      let Q : ℕ → Type 0 = λ r. AreMoved e.above.root r shift st new in
      moved_even cs st e.above e.below w e.merging shift small composed' new
      (moved_everywhere e.above.root e.below.root shift st new len (high_within cs st e.above e.below w e.merging) (subst Q (sym e.low_root) (subst P (sym e.high_root) moved)))
      (λ x y a b c. even e.clocks x y a b c)
    where
      even : (IsTold e.above × IsTold e.below) ⊎ ((e.above.clock ≡ None) × (e.below.clock ≡ None)) → (x y : ℕ)
          → (root_at st x ≡ e.above.root) ⊎ (root_at st x ≡ e.below.root) → (root_at st y ≡ e.above.root) ⊎ (root_at st y ≡ e.below.root) → HasClock st x → HasClock st y
      even (inl told) x y a (inl b) c =
          e.merging.joint.shared e.merging.joint.first y (root_high cs st e.above e.below e.merging.joint ∙ sym b)
          (told.0.0, ap (λ (s : Standing). s.clock) e.merging.joint.first_is ∙ told.0.1)
      even (inl told) x y a (inr b) c =
          e.merging.joint.shared e.merging.joint.second y (root_low cs st e.above e.below e.merging.joint ∙ sym b)
          (told.1.0, ap (λ (s : Standing). s.clock) e.merging.joint.second_is ∙ told.1.1)
      even (inr none) x y (inl a) b c =
          let sh = e.merging.joint.shared x e.merging.joint.first (a ∙ sym (root_high cs st e.above e.below e.merging.joint)) c in
          absurd (none_some none.0 (sym (ap (λ (s : Standing). s.clock) e.merging.joint.first_is) ∙ sh.1))
      even (inr none) x y (inr a) b c =
          let sh = e.merging.joint.shared x e.merging.joint.second (a ∙ sym (root_low cs st e.above e.below e.merging.joint)) c in
          absurd (none_some none.1 (sym (ap (λ (s : Standing). s.clock) e.merging.joint.second_is) ∙ sh.1))

-- a refusal to bring flows over others, in other words
pub if_stuck : {T : Type 0} (r : Result T Refusal) (P : Type 0) → IsErrAnd r (λ e. e ≡ refusals.Limit) → P → IfErr r (IsStuck P)
if_stuck (Ok x) P l p = tt
if_stuck (Err e) P l p = let Q : Refusal → Type 0 = λ f. IsStuck P f in subst Q (sym l) p

pub stuck_by : {T : Type 0} (r : Result T Refusal) (P Q : Type 0) → (P → Q) → IfErr r (IsStuck P) → IfErr r (IsStuck Q)
stuck_by (Ok x) P Q f s = tt
stuck_by (Err refusals.Mismatch) P Q f s = s
stuck_by (Err refusals.Limit) P Q f s = f s
stuck_by (Err refusals.Memory) P Q f s = tt

pub refused_by : {T : Type 0} (r : Result T Refusal) (cs : List Placed) → IsConsistent cs → IfErr r (IsStuck (Passes cs)) → IfErr r (IsRefused cs)
refused_by (Ok x) cs c s = tt
refused_by (Err refusals.Mismatch) cs c s = absurd s
refused_by (Err refusals.Limit) cs c s = (c, s)
refused_by (Err refusals.Memory) cs c s = tt
