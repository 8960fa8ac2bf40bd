-- Two components become one: all flows of the higher go over the lower.
use Rattle.std.proofs.Common.{◌≡◌, ◌≢◌, ◌≤◌, ◌⊎◌, inl, inr, ℕ, List, Option, Some, None, refl, sym, ap, ◌∙◌, subst, arith}
use Rattle.prl_clock.specs.Vocabulary.{Timing, Standing, Assignment, MeetsAll, Joins, Connected, IsLowest, Passes, period_over, start_over, Placed, IsOver, IsComposed, IsOverPast, IsSmallTiming}
use Rattle.prl_clock.specs.Vocabulary.{AreStandings, IsSolved, IsOpen, IsJoint, IsMerging, IsMoved, HasClock, standing_at, root_at, IsOnePast}
use Rattle.prl_clock.proofs.Algebra.{composed_of, composed_right}
use Rattle.prl_clock.proofs.Graphs.{connected_through, connected_back, same_root}
use Rattle.prl_clock.proofs.Merging.{decide}
use Rattle.prl_clock.proofs.Passing.{over_passes, moved_passes}
use Rattle.prl_clock.proofs.Terms.{small_parts}

module _ (cs : List Placed) (st : List Standing) (high low : Standing) (m : IsJoint cs st high low) where
  are : AreStandings cs st
  are = m.standings

  -- where a flow stands in the end
  pub root_high : root_at st m.first ≡ high.root
  root_high = ap (λ (s : Standing). s.root) m.first_is

  pub root_low : root_at st m.second ≡ low.root
  root_low = ap (λ (s : Standing). s.root) m.second_is

  -- the two roots are connected
  pub linked : Connected cs high.root low.root
  linked =
      let a : Connected cs m.first high.root = let P : ℕ → Type 0 = λ y. Connected cs m.first y in subst P root_high (are.led m.first) in
      let b : Connected cs m.second low.root = let P : ℕ → Type 0 = λ y. Connected cs m.second y in subst P root_low (are.led m.second) in
      connected_through cs high.root m.first low.root (connected_back cs m.first high.root a) (connected_through cs m.first m.second low.root m.link b)

  pub high_low : high.root ≢ low.root
  high_low e = let l = m.lower in omega (arith, e, l)

  -- roots after the move, as a function
  pub record Root (x y : ℕ) : Type 0 where
    pub up : root_at st x ≡ high.root → y ≡ low.root
    pub stay : root_at st x ≢ high.root → y ≡ root_at st x

  pub agree : (x y u v : ℕ) → Root x u → Root y v → Joins cs x y → u ≡ v
  agree x y u v a b j =
      elim (m.joined x y j) [
        | inl e ↦ elim (decide (root_at st x) high.root) [
          | inl h ↦ a.up h ∙ sym (b.up (sym e ∙ h))
          | inr n ↦ a.stay n ∙ e ∙ sym (b.stay (λ k. n (e ∙ k)))
        ]
        | inr either ↦ elim either [
          | inl e ↦ a.up e.0 ∙ sym e.1 ∙ sym (b.stay (λ k. high_low (sym k ∙ e.1)))
          | inr e ↦ a.stay (λ k. high_low (sym k ∙ e.0)) ∙ e.0 ∙ sym (b.up e.1)
        ]
      ]

  end : ℕ → ℕ
  end x = elim (decide (root_at st x) high.root) [ inl e ↦ low.root | inr n ↦ root_at st x ]

  end_of : (x : ℕ) (d : (root_at st x ≡ high.root) ⊎ (root_at st x ≢ high.root)) → Root x (elim d [ inl e ↦ low.root | inr n ↦ root_at st x ])
  end_of x (inl e) = record { up = λ _. refl; stay = λ n. absurd (n e) }
  end_of x (inr n) = record { up = λ e. absurd (n e); stay = λ _. refl }

  end_is : (x : ℕ) → Root x (end x)
  unfolding end
  end_is x = end_of x (decide (root_at st x) high.root)

  end_low : (x : ℕ) → end x ≤ x
  end_low x =
      let r = end_is x in let l = are.low x in let k = m.lower in
      elim (decide (root_at st x) high.root) [
        | inl e ↦ let f = r.up e in omega (arith, f, e, l, k)
        | inr n ↦ let f = r.stay n in omega (arith, f, l)
      ]

  -- each flow over one of the two roots has the lower as its lowest
  pub lowest_low : (x : ℕ) → (root_at st x ≡ high.root) ⊎ (root_at st x ≡ low.root) → IsLowest cs x low.root
  lowest_low x h = record {
    connected =
        let led = are.led x in
        elim h [
          | inl e ↦ let P : ℕ → Type 0 = λ y. Connected cs x y in connected_through cs x high.root low.root (subst P e led) linked
          | inr e ↦ let P : ℕ → Type 0 = λ y. Connected cs x y in subst P e led
        ];
    lowest = λ z c.
        let e : end x ≡ end z = same_root cs end (λ a b j. agree a b (end a) (end b) (end_is a) (end_is b) j) x z c in
        let f : end x ≡ low.root = elim h [ inl k ↦ (end_is x).up k | inr k ↦ (end_is x).stay (λ l. high_low (sym l ∙ k)) ∙ k ] in
        omega (arith, e, f, end_low z);
  }

  pub first_over : (s : Assignment) → MeetsAll s cs → IsOver high.over (s.flow m.first) (s.flow high.root)
  first_over s meets =
      let P : Standing → Type 0 = λ t. IsOver t.over (s.flow m.first) (s.flow t.root) in subst P m.first_is (are.over s meets m.first)

  pub second_over : (s : Assignment) → MeetsAll s cs → IsOver low.over (s.flow m.second) (s.flow low.root)
  second_over s meets =
      let P : Standing → Type 0 = λ t. IsOver t.over (s.flow m.second) (s.flow t.root) in subst P m.second_is (are.over s meets m.second)

  pub high_small : IsSmallTiming high.over
  high_small = let P : Standing → Type 0 = λ t. IsSmallTiming t.over in subst P m.first_is (are.small m.first)

  pub low_small : IsSmallTiming low.over
  low_small = let P : Standing → Type 0 = λ t. IsSmallTiming t.over in subst P m.second_is (are.small m.second)

module _ (cs : List Placed) (st : List Standing) (high low : Standing) (w : Timing) (k : IsMerging cs st high low w) where
  -- the higher root over the lower
  pub shift_passes : IsOverPast high.over w → Passes cs
  shift_passes past =
      over_passes cs (λ s. s.flow k.joint.first) (λ s. s.flow high.root) (λ s. s.flow low.root) (λ s. s.positive k.joint.first) (λ s. s.positive high.root) (Passes cs)
      (λ f h j. period_over high.root low.root f ((lowest_low cs st high low k.joint) high.root (inl root_of_high)) h j)
      (λ f h j. start_over high.root low.root f ((lowest_low cs st high low k.joint) high.root (inl root_of_high)) h j)
      high.over w (small_parts _ (high_small cs st high low k.joint)) (small_parts _ k.small) (first_over cs st high low k.joint) k.over past
    where
      root_of_high : root_at st high.root ≡ high.root
      root_of_high = ap (root_at st) (sym (root_high cs st high low k.joint)) ∙ k.joint.fixed k.joint.first ∙ (root_high cs st high low k.joint)

  module _ (shift : Timing) (shift_small : IsSmallTiming shift) (composed : IsComposed high.over shift w) where
    pub shift_over : (s : Assignment) → MeetsAll s cs → IsOver shift (s.flow high.root) (s.flow low.root)
    shift_over s meets =
        composed_right high.over shift w (small_parts _ (high_small cs st high low k.joint)) (small_parts _ shift_small) (small_parts _ k.small)
        (s.flow k.joint.first) (s.flow high.root) (s.flow low.root) (s.positive k.joint.first) (s.positive high.root) (s.positive low.root) ((first_over cs st high low k.joint) s meets) (k.over s meets) composed

    pub one_passes : IsOnePast high.root shift st → Passes cs
    one_passes one =
        moved_passes cs st k.joint.standings low.root one.flow shift (small_parts _ shift_small) ((lowest_low cs st high low k.joint) one.flow (inl one.is))
        (λ s meets. let P : ℕ → Type 0 = λ y. IsOver shift (s.flow y) (s.flow low.root) in subst P (sym one.is) (shift_over s meets)) one.past

    module _ (new : List Standing) (moved : (x : ℕ) → IsMoved high.root low.root shift (standing_at st x) (standing_at new x)) where
      root_new : (x : ℕ) → Root cs st high low k.joint x (root_at new x)
      root_new x = record { up = λ e. ((moved x).moved e).0; stay = λ n. ap (λ (s : Standing). s.root) ((moved x).kept n) }

      clock_new : (x : ℕ) → (standing_at new x).clock ≡ (standing_at st x).clock
      clock_new x =
          elim (decide (root_at st x) high.root) [ inl e ↦ ((moved x).moved e).3 | inr n ↦ ap (λ (s : Standing). s.clock) ((moved x).kept n) ]

      pub moved_are : AreStandings cs new
      moved_are = record {
        consistent = k.joint.standings.consistent;
        over = λ s meets x.
            elim (decide (root_at st x) high.root) [
              | inl e ↦
                  let mv = (moved x).moved e in
                  let P : ℕ → Type 0 = λ y. IsOver (standing_at new x).over (s.flow x) (s.flow y) in
                  let Q : ℕ → Type 0 = λ y. IsOver (standing_at st x).over (s.flow x) (s.flow y) in
                  subst P (sym mv.0)
                  (composed_of (standing_at st x).over shift (standing_at new x).over (small_parts _ (k.joint.standings.small x)) (small_parts _ shift_small) (small_parts _ mv.2)
                  (s.flow x) (s.flow high.root) (s.flow low.root) (s.positive x) (s.positive high.root) (s.positive low.root)
                  (subst Q e (k.joint.standings.over s meets x)) (shift_over s meets) mv.1)
              | inr n ↦ let P : Standing → Type 0 = λ t. IsOver t.over (s.flow x) (s.flow t.root) in subst P (sym ((moved x).kept n)) (k.joint.standings.over s meets x)
            ];
        clock = λ s meets x t is. k.joint.standings.clock s meets x t (sym (clock_new x) ∙ is);
        small = λ x.
            elim (decide (root_at st x) high.root) [
              | inl e ↦ ((moved x).moved e).2
              | inr n ↦ let P : Standing → Type 0 = λ t. IsSmallTiming t.over in subst P (sym ((moved x).kept n)) (k.joint.standings.small x)
            ];
        small_clock = λ x t is. k.joint.standings.small_clock x t (sym (clock_new x) ∙ is);
        low = λ x.
            let r = root_new x in let l = k.joint.standings.low x in let lo = k.joint.lower in
            elim (decide (root_at st x) high.root) [
              | inl e ↦ let f = r.up e in omega (arith, f, e, l, lo)
              | inr n ↦ let f = r.stay n in omega (arith, f, l)
            ];
        led = λ x.
            let P : ℕ → Type 0 = λ y. Connected cs x y in
            elim (decide (root_at st x) high.root) [
              | inl e ↦ subst P (sym ((root_new x).up e)) (connected_through cs x high.root low.root (subst P e (k.joint.standings.led x)) (linked cs st high low k.joint))
              | inr n ↦ subst P (sym ((root_new x).stay n)) (k.joint.standings.led x)
            ];
      }

      has_clock : (x : ℕ) → HasClock st x → HasClock new x
      has_clock x c = (c.0, clock_new x ∙ c.1)

      had_clock : (x : ℕ) → HasClock new x → HasClock st x
      had_clock x c = (c.0, sym (clock_new x) ∙ c.1)

      -- flows that stand over one flow after the move did so before, but over the lower root
      split : (x y : ℕ) → root_at new x ≡ root_at new y → (root_at st x ≡ root_at st y)
          ⊎ (((root_at st x ≡ high.root) ⊎ (root_at st x ≡ low.root)) × ((root_at st y ≡ high.root) ⊎ (root_at st y ≡ low.root)))
      split x y e =
          elim (decide (root_at st x) high.root) [
            | inl a ↦ elim (decide (root_at st y) high.root) [
              | inl b ↦ inl (a ∙ sym b)
              | inr n ↦ inr (inl a, inr (sym ((root_new y).stay n) ∙ sym e ∙ (root_new x).up a))
            ]
            | inr n' ↦ elim (decide (root_at st y) high.root) [
              | inl b ↦ inr (inr (sym ((root_new x).stay n') ∙ e ∙ (root_new y).up b), inl b)
              | inr n ↦ inl (sym ((root_new x).stay n') ∙ e ∙ (root_new y).stay n)
            ]
          ]

      joined_new : (x y : ℕ) → Joins cs x y → root_at new x ≡ root_at new y
      joined_new x y j = (agree cs st high low k.joint) x y (root_at new x) (root_at new y) (root_new x) (root_new y) j

      pub moved_open : IsOpen cs new low.root
      moved_open = record {
        standings = moved_are;
        joined = joined_new;
        rated = λ x h _. has_clock x (k.joint.rated x h);
        shared = λ x y e n c.
            elim (split x y e) [
              | inl f ↦ has_clock y (k.joint.shared x y f (had_clock x c))
              | inr f ↦ absurd (n (elim f.0 [ inl a ↦ (root_new x).up a | inr a ↦ (root_new x).stay (λ g. (high_low cs st high low k.joint) (sym g ∙ a)) ∙ a ]))
            ];
      }

      -- flows over one of the two roots
      abbrev pub Either : ℕ → Type 0
      Either x = (root_at st x ≡ high.root) ⊎ (root_at st x ≡ low.root)

      -- where all flows over the two roots have clocks or none has one, all is done
      pub moved_even : ((x y : ℕ) → Either x → Either y → HasClock st x → HasClock st y) → IsSolved cs new
      moved_even even = record {
        standings = moved_are;
        joined = joined_new;
        rated = λ x h. has_clock x (k.joint.rated x h);
        shared = λ x y e c.
            elim (split x y e) [
              | inl f ↦ has_clock y (k.joint.shared x y f (had_clock x c))
              | inr f ↦ has_clock y (even x y f.0 f.1 (had_clock x c))
            ];
      }

      -- neither of the two has a clock
      pub moved_solved : high.clock ≡ None → low.clock ≡ None → IsSolved cs new
      moved_solved no_high no_low = moved_even (λ x y a b c. absurd (none x a c))
        where
          some_none : {t : Timing} (o : Option Timing) → o ≡ None → o ≡ Some t → ⊥
          some_none o n s = cc

          none : (x : ℕ) → (root_at st x ≡ high.root) ⊎ (root_at st x ≡ low.root) → HasClock st x → ⊥
          none x (inl a) c =
              let sh = k.joint.shared x k.joint.first (a ∙ sym (root_high cs st high low k.joint)) c in
              some_none high.clock no_high (sym (ap (λ (s : Standing). s.clock) k.joint.first_is) ∙ sh.1)
          none x (inr a) c =
              let sh = k.joint.shared x k.joint.second (a ∙ sym (root_low cs st high low k.joint)) c in
              some_none low.clock no_low (sym (ap (λ (s : Standing). s.clock) k.joint.second_is) ∙ sh.1)
