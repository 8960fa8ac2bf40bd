-- Each flat program has an outcome, with no call that takes memory.
use Rattle.prl_base.proofs.Standard.{◌≡◌, ◌≢◌, ◌≤◌, ◌<◌, ◌++◌, ◌∷◌, ◌⊎◌, inl, inr, ℕ, pos, List, [], length, Option, Some, None, refl, sym, ap, ◌∙◌, subst, arith, append_assoc, AllByRecursion}
use Rattle.prl_base.proofs.Standard.{cases_lt, append-nil}
use borrow.Author.Differences.{up}
use Rattle.prl_base.specs.Ratios.{IsSmallFraction}
use Rattle.prl_flow.specs.Programs.{FlatProgram}
use Rattle.prl_clock.specs.Vocabulary.{ClockFault, Standing, Refusal, Timing, Assignment, MeetsAll, IsConsistent, Passes, Constraint, rated, related, Placed, HasParts, IsComposed, IsSmallTiming}
use Rattle.prl_clock.specs.Vocabulary.{IsReached, IsStopped, told, IsSolved, IsMerging, IsLink, IsMoved, IsRefused, IsLowClock, of_low, of_high, of_low_past, of_high_past, standing_at, root_at}
use Rattle.prl_clock.specs.declared.calculus.ClockFault.TheVariants as faults
use Rattle.prl_clock.specs.declared.steps.Refusal.TheVariants as refusals
use Rattle.prl_clock.proofs.Algebra.{numerator}
use Rattle.prl_clock.proofs.Fine.{reached_more, stopped_one, stopped_later, stopped_within, one, one_meets}
use Rattle.prl_clock.proofs.Joining.{shift_passes, one_passes, high_small, low_small, first_over, second_over}
use Rattle.prl_clock.proofs.Joined.{clock_passes, joined_none, joined_past, joined_some}
use Rattle.prl_clock.proofs.Merging.{beyond, decide}
use Rattle.prl_clock.proofs.Rating.{known_solved, known_refused, new_consistent, new_past, root_past, new_one_past, new_solved}
use Rattle.prl_clock.proofs.Relating.{within_solved, within_refused, clocks_refused, across_consistent, down_passes, up_passes, merging_down, merging_up}
use Rattle.prl_clock.proofs.Terms.{small_parts}
use Rattle.prl_clock.proofs.Totals.{composed_total, over_total, fits_total, rate_fits, moved_total, timed_total, reduced_total}

-- the numerator of a timing that flows have
module _ (cs : List Placed) (st : List Standing) (high low : Standing) (w : Timing) (m : IsMerging cs st high low w) where
  s₀ : Assignment
  s₀ = m.joint.standings.consistent.0

  m₀ : MeetsAll s₀ cs
  unfolding s₀
  m₀ = m.joint.standings.consistent.1

  parts : (x : ℕ) → HasParts (standing_at st x).over
  parts x = small_parts _ (m.joint.standings.small x)

  high_clock_small : (t : Timing) → high.clock ≡ Some t → HasParts t
  high_clock_small t is = small_parts _ (m.joint.standings.small_clock m.joint.first t (ap (λ (s : Standing). s.clock) m.joint.first_is ∙ is))

  low_clock_small : (t : Timing) → low.clock ≡ Some t → HasParts t
  low_clock_small t is = small_parts _ (m.joint.standings.small_clock m.joint.second t (ap (λ (s : Standing). s.clock) m.joint.second_is ∙ is))

  module _ (shift : Timing) (small : IsSmallTiming shift) (composed : IsComposed high.over shift w) (mid : List Standing) (len : length mid ≡ length st)
      (moved : (x : ℕ) → x < length st → IsMoved high.root low.root shift (standing_at st x) (standing_at mid x)) (mid_parts : (x : ℕ) → HasParts (standing_at mid x).over) where
    with_clock : (c : Timing) → IsSmallTiming c → IsLowClock high low w c → ((new : List Standing) × (length new ≡ length st) × IsSolved cs new) ⊎ Passes cs
    with_clock c c_small is =
        elim (timed_total mid mid_parts low.root c (small_parts _ c_small)) [
          | inr past ↦ inr (joined_past cs st high low w m shift small composed mid len moved c (c_small, is) past)
          | inl r ↦ inl (r.0, r.1 ∙ len, joined_some cs st high low w m shift small composed mid len moved c (c_small, is) r.0 r.1 r.2)
        ]

    finished : ((new : List Standing) × (length new ≡ length st) × IsSolved cs new) ⊎ Passes cs
    finished = by low.clock high.clock refl refl
      where
        low_number : (low.over.period.num ≡ pos (up low.over.period.num)) × (1 ≤ up low.over.period.num)
        low_number =
            numerator low.over.period (s₀.flow m.joint.second).period (s₀.flow low.root).period (low_small cs st high low m.joint).period.positive (s₀.positive m.joint.second)
            (second_over cs st high low m.joint s₀ m₀).period

        over_number : (w.period.num ≡ pos (up w.period.num)) × (1 ≤ up w.period.num)
        over_number = numerator w.period (s₀.flow m.joint.first).period (s₀.flow low.root).period m.small.period.positive (s₀.positive m.joint.first) (m.over s₀ m₀).period

        by : (o u : Option Timing) → low.clock ≡ o → high.clock ≡ u → ((new : List Standing) × (length new ≡ length st) × IsSolved cs new) ⊎ Passes cs
        by (Some t) u is hu =
            elim (over_total t low.over (low_clock_small t is) (small_parts _ (low_small cs st high low m.joint)) (up low.over.period.num) low_number.0 low_number.1) [
              | inr past ↦ inr (clock_passes cs st high low w m (of_low_past t is past))
              | inl c ↦ with_clock c.0 c.2 (of_low t is c.1)
            ]
        by None (Some t) is hu =
            elim (over_total t w (high_clock_small t hu) (small_parts _ m.small) (up w.period.num) over_number.0 over_number.1) [
              | inr past ↦ inr (clock_passes cs st high low w m (of_high_past t hu past))
              | inl c ↦ with_clock c.0 c.2 (of_high t hu c.1)
            ]
        by None None is hu = inl (mid, len, joined_none cs st high low w m shift small composed mid len moved hu is)

  join_total : ((new : List Standing) × (length new ≡ length st) × IsSolved cs new) ⊎ Passes cs
  join_total =
      let n = numerator high.over.period (s₀.flow m.joint.first).period (s₀.flow high.root).period (high_small cs st high low m.joint).period.positive (s₀.positive m.joint.first)
      (first_over cs st high low m.joint s₀ m₀).period in
      elim (over_total w high.over (small_parts _ m.small) (small_parts _ (high_small cs st high low m.joint)) (up high.over.period.num) n.0 n.1) [
        | inr past ↦ inr (shift_passes cs st high low w m past)
        | inl q ↦ elim (moved_total st parts high.root low.root q.0 (small_parts _ q.2)) [
          | inr past ↦ inr (one_passes cs st high low w m q.0 q.2 q.1 past)
          | inl r ↦ finished q.0 q.2 q.1 r.0 r.1 r.2 (mid_parts q.0 r.0 r.1 r.2)
        ]
      ]
    where
      mid_parts : (shift : Timing) (mid : List Standing) → length mid ≡ length st
          → ((x : ℕ) → x < length st → IsMoved high.root low.root shift (standing_at st x) (standing_at mid x)) → (x : ℕ) → HasParts (standing_at mid x).over
      mid_parts shift mid len moved x =
          elim (cases_lt x (length st)) [
            | inl below ↦ elim (decide (root_at st x) high.root) [
              | inl e ↦ small_parts _ ((moved x below).moved e).2
              | inr n ↦ let P : Standing → Type 0 = λ s. HasParts s.over in subst P (sym ((moved x below).kept n)) (parts x)
            ]
            | inr above ↦
                let P : Standing → Type 0 = λ s. HasParts s.over in
                subst P (sym (beyond mid x (omega (arith, len, above)))) (record { period = omega arith; start = omega arith })
          ]

-- a refusal that has a cause
abbrev IsCause : List Placed → Refusal → Type 0
IsCause cs refusals.Mismatch = IsConsistent cs → ⊥
IsCause cs refusals.Limit = IsConsistent cs × Passes cs
IsCause cs refusals.Memory = ⊥

cause_refused : (cs : List Placed) (r : Refusal) → IsCause cs r → IsRefused cs r
cause_refused cs refusals.Mismatch c = c
cause_refused cs refusals.Limit c = c
cause_refused cs refusals.Memory c = tt

cause_told : (cs : List Placed) (r : Refusal) (at : ℕ) → IsCause cs r → told r at ≢ faults.Memory
cause_told cs refusals.Mismatch at c e = cc
cause_told cs refusals.Limit at c e = cc
cause_told cs refusals.Memory at c e = c

abbrev Answer : List Placed → List Standing → Type 0
Answer cs st = ((new : List Standing) × (length new ≡ length st) × IsSolved cs new) ⊎ ((r : Refusal) × IsCause cs r)

module _ (cs : List Placed) (st : List Standing) (solved : IsSolved cs st) where
  relate_total : (x y : ℕ) (link : Timing) → IsLink link → (at : ℕ) → x < length st → y < length st → Answer (cs ++ (record { constraint = related x y link; at = at }) ∷ []) st
  relate_total x y link is at hx hy =
      let py = small_parts _ (solved.standings.small y) in
      elim (decide (root_at st x) (root_at st y)) [
        | inl e ↦ elim (fits_total link (standing_at st y).over (standing_at st x).over is.parts py (solved.standings.small x)) [
          | inl c ↦ inl (st, refl, within_solved cs st solved x y link is at e c)
          | inr n ↦ inr (refusals.Mismatch, within_refused cs st solved x y link is at e n)
        ]
        | inr two ↦ elim (clocks_total (standing_at st y).clock (standing_at st x).clock refl refl) [
          | inr n ↦ inr (refusals.Mismatch, clocks_refused cs st solved x y link is at n.0 n.1 n.2 n.3 n.4)
          | inl agree ↦
              let consistent = across_consistent cs st solved x y link is at two agree in
              elim (cases_lt (root_at st y) (root_at st x)) [
                | inl lower ↦ elim (composed_total link (standing_at st y).over is.parts py) [
                  | inr past ↦ inr (refusals.Limit, (consistent, down_passes cs st solved x y link is at two agree lower hx past))
                  | inl w ↦ ended consistent (join_total _ st _ _ w.0 (merging_down cs st solved x y link is at two agree lower hx w.0 w.2 w.1))
                ]
                | inr above ↦
                    let lower : root_at st x < root_at st y = less (root_at st x) (root_at st y) above two in
                    elim (over_total (standing_at st x).over link (small_parts _ (solved.standings.small x)) is.parts is.num is.is is.some) [
                      | inr past ↦ inr (refusals.Limit, (consistent, up_passes cs st solved x y link is at two agree lower hy past))
                      | inl w ↦ ended consistent (join_total _ st _ _ w.0 (merging_up cs st solved x y link is at two agree lower hy w.0 w.2 w.1))
                    ]
              ]
        ]
      ]
    where
      less : (m n : ℕ) → m ≤ n → m ≢ n → m < n
      less m n a b = omega (arith, a, b)

      ended : {ds : List Placed} → IsConsistent ds → ((new : List Standing) × (length new ≡ length st) × IsSolved ds new) ⊎ Passes ds → Answer ds st
      ended c (inl r) = inl r
      ended c (inr p) = inr (refusals.Limit, (c, p))

      none_some : {o : Option Timing} {t : Timing} → o ≡ None → o ≡ Some t → ⊥
      none_some a b = cc

      some_same : {a b : Timing} → Some a ≡ Some b → a ≡ b
      some_same e = cc

      clocks_total : (o u : Option Timing) → (standing_at st y).clock ≡ o → (standing_at st x).clock ≡ u
          → ((t v : Timing) → (standing_at st y).clock ≡ Some t → (standing_at st x).clock ≡ Some v → IsComposed link t v)
          ⊎ ((t : Timing) × (v : Timing) × ((standing_at st y).clock ≡ Some t) × ((standing_at st x).clock ≡ Some v) × (IsComposed link t v → ⊥))
      clocks_total None u ey ex = inl (λ t v a b. absurd (none_some ey a))
      clocks_total (Some t) None ey ex = inl (λ s v a b. absurd (none_some ex b))
      clocks_total (Some t) (Some v) ey ex =
          elim (fits_total link t v is.parts (small_parts _ (solved.standings.small_clock y t ey)) (solved.standings.small_clock x v ex)) [
            | inl c ↦ inl (λ s w a b.
                let P : Timing → Type 0 = λ q. IsComposed link q w in
                let Q : Timing → Type 0 = λ q. IsComposed link t q in subst P (some_same (sym ey ∙ a)) (subst Q (some_same (sym ex ∙ b)) c))
            | inr n ↦ inr (t, v, ey, ex, n)
          ]

  rate_total : (x : ℕ) (q : Timing) → IsLink q → IsSmallFraction q.period → (at : ℕ) → x < length st → Answer (cs ++ (record { constraint = rated x q; at = at }) ∷ []) st
  rate_total x q is lowest at hx = by (standing_at st x).clock refl
    where
      by : (o : Option Timing) → (standing_at st x).clock ≡ o → Answer (cs ++ (record { constraint = rated x q; at = at }) ∷ []) st
      by (Some known) e =
          elim (rate_fits q known is.parts lowest) [
            | inl k ↦ inl (st, refl, known_solved cs st solved x q is lowest at known e k)
            | inr n ↦ inr (refusals.Mismatch, known_refused cs st solved x q is lowest at known e n)
          ]
      by None e =
          let consistent = new_consistent cs st solved x q is lowest at e in
          let s = one cs st solved in
          let n = numerator (standing_at st x).over.period (s.flow x).period (s.flow (root_at st x)).period (solved.standings.small x).period.positive (s.positive x)
          (solved.standings.over s (one_meets cs st solved) x).period in
          elim (reduced_total q is.parts lowest) [
            | inr p ↦ inr (refusals.Limit, (consistent, new_past cs st solved x q is lowest at e p))
            | inl t ↦ elim (over_total t.0 (standing_at st x).over (small_parts _ t.1.small) (small_parts _ (solved.standings.small x)) (up (standing_at st x).over.period.num) n.0 n.1) [
              | inr p ↦ inr (refusals.Limit, (consistent, root_past cs st solved x q is lowest at e t.0 t.1 p))
              | inl r ↦ elim (timed_total st (λ z. small_parts _ (solved.standings.small z)) (root_at st x) r.0 (small_parts _ r.2)) [
                | inr p ↦ inr (refusals.Limit, (consistent, new_one_past cs st solved x q is lowest at e t.0 t.1 r.0 r.2 r.1 p))
                | inl k ↦ inl (k.0, k.1, new_solved cs st solved x q is lowest at e t.0 t.1 r.0 r.2 r.1 k.0 k.1 hx k.2)
              ]
            ]
          ]

-- constraints of flows that are there
pub data IsGood (n : ℕ) : Constraint → Type 0 where
  good_rate : (x : ℕ) (q : Timing) → x < n → IsLink q → IsSmallFraction q.period → IsGood n (rated x q)
  good_link : (x y : ℕ) (q : Timing) → x < n → y < n → IsLink q → IsGood n (related x y q)

abbrev pub AreGood : ℕ → List Placed → Type 0
AreGood n cs = AllByRecursion (λ (c : Placed). IsGood n c.constraint) cs

step_total : (cs : List Placed) (st : List Standing) (n : ℕ) → length st ≡ n → IsSolved cs st → (c : Constraint) (at : ℕ) → IsGood n c → Answer (cs ++ (record { constraint = c; at = at }) ∷ []) st
step_total cs st n len solved c at (good_rate x q h is lowest) = rate_total cs st solved x q is lowest at (omega (arith, h, len))
step_total cs st n len solved c at (good_link x y q h k is) = relate_total cs st solved x y q is at (omega (arith, h, len)) (omega (arith, k, len))

pub steps_total : (p : FlatProgram) (cs ds : List Placed) (st : List Standing) → IsReached p cs st → AreGood (length p.flows) ds
    → ((new : List Standing) × IsReached p (cs ++ ds) new) ⊎ ((e : ClockFault) × IsStopped cs ds e × (e ≢ faults.Memory))
steps_total p cs [] st r good = let P : List Placed → Type 0 = λ t. IsReached p t st in inl (st, subst P (sym (append-nil cs)) r)
steps_total p cs (d ∷ ds) st r good =
    elim (step_total cs st (length p.flows) r.len r.solved d.constraint d.at good.0) [
      | inr x ↦ inr (
        told x.0 d.at,
        stopped_within cs (d ∷ []) ds _ (stopped_one cs d x.0 _ r.fine (cause_refused (cs ++ d ∷ []) x.0 x.1) refl),
        cause_told (cs ++ d ∷ []) x.0 d.at x.1,
      )
      | inl x ↦ elim (steps_total p (cs ++ d ∷ []) ds x.0 (reached_more p cs d st x.0 r x.1 x.2) good.1) [
        | inl y ↦ let P : List Placed → Type 0 = λ t. IsReached p t y.0 in inl (y.0, subst P (append_assoc cs (d ∷ []) ds) y.1)
        | inr y ↦ inr (y.0, stopped_later cs (d ∷ []) ds y.0 y.1, y.2)
      ]
    ]
