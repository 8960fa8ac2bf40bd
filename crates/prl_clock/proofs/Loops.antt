-- Standings changed one by one.
use Rattle.std.proofs.Common.{◌≡◌, ◌≢◌, ◌<◌, ◌≤◌, ◌+◌, inl, inr, ℕ, List, length, get_or, set, refl, sym, ◌∙◌, ap, subst, arith, get_or-set_other, get_or-set_same, below_more}
use Rattle.std.proofs.lemmas.List.{get_or_default}
use Rattle.prl_clock.specs.Vocabulary.{AreChanged, HaveChanged, IsComposedPast, IsMoved, IsOnePast, IsTimed, standing_at, alone, Standing, Timing}
use Rattle.prl_clock.proofs.Merging.{decide, timed_or_same}

set_here : (st : List Standing) (i : ℕ) (new : Standing) → i < length st → standing_at (set st i new) i ≡ new
set_here st i new h = get_or-set_same st i new (alone i) h

set_other : (st : List Standing) (i k : ℕ) (new : Standing) → k ≢ i → standing_at (set st i new) k ≡ standing_at st k
set_other st i k new h = get_or-set_other st i k new (alone k) h

-- the flows have changed so up to the one of this index, and others too or not at all
pub record HasChanged (R : Standing → Standing → Type 0) (flows : List ℕ) (old new : List Standing) (count : ℕ) : Type 0 where
  pub changed : AreChanged R old new
  pub done : (j : ℕ) → j < count → R (standing_at old (get_or flows j 0)) (standing_at new (get_or flows j 0))

-- One flow more, for a change that is the same when it comes twice.
module _ (R : Standing → Standing → Type 0) (twice : (a b c : Standing) → R a b → R b c → R a c) (old now : List Standing) (m : ℕ) (new : Standing)
    (here : m < length now) (changed : AreChanged R old now) (read : Standing) (is_read : standing_at now m ≡ read) (next : R read new) where
  one_new : R (standing_at old m) new
  one_new = elim (changed m) [
    | inl r ↦ let P : Standing → Type 0 = λ s. R (standing_at old m) s in twice _ _ _ (subst P is_read r) next
    | inr same ↦ let P : Standing → Type 0 = λ s. R s new in subst P (sym is_read ∙ same) next
  ]

  one_at : (x : ℕ) → x ≡ m → R (standing_at old x) (standing_at (set now m new) x)
  one_at x e =
      let P : Standing → Type 0 = λ s. R (standing_at old m) s in
      let Q : ℕ → Type 0 = λ y. R (standing_at old y) (standing_at (set now m new) y) in
      subst Q (sym e) (subst P (sym (set_here now m new here)) one_new)

  pub one_changed : AreChanged R old (set now m new)
  one_changed x = elim (decide x m) [
    | inl e ↦ inl (one_at x e)
    | inr n ↦ elim (changed x) [
      | inl r ↦ let P : Standing → Type 0 = λ s. R (standing_at old x) s in inl (subst P (sym (set_other now m x new n)) r)
      | inr same ↦ inr (set_other now m x new n ∙ same)
    ]
  ]

  -- a flow that has changed before has changed still
  still : (x : ℕ) → R (standing_at old x) (standing_at now x) → R (standing_at old x) (standing_at (set now m new) x)
  still x r = elim (decide x m) [
    | inl e ↦ one_at x e
    | inr n ↦ let P : Standing → Type 0 = λ s. R (standing_at old x) s in subst P (sym (set_other now m x new n)) r
  ]

  pub one_more : (flows : List ℕ) (i : ℕ) → m ≡ get_or flows i 0 → ((j : ℕ) → j < i → R (standing_at old (get_or flows j 0)) (standing_at now (get_or flows j 0)))
      → HasChanged R flows old (set now m new) (i + 1)
  one_more flows i is done = record {
    changed = one_changed;
    done = below_more (λ j. R (standing_at old (get_or flows j 0)) (standing_at (set now m new) (get_or flows j 0))) i
        (λ j h. still (get_or flows j 0) (done j h)) (one_at (get_or flows i 0) (sym is));
  }

pub none_changed : (R : Standing → Standing → Type 0) (st : List Standing) → AreChanged R st st
none_changed R st x = inr refl

pub all_changed : (R : Standing → Standing → Type 0) (flows : List ℕ) (old new : List Standing) (count : ℕ) → length flows ≤ count → HasChanged R flows old new count → HaveChanged R flows old new
all_changed R flows old new count h d x among =
    let below : among.0 < length flows = among.1 in
    let P : ℕ → Type 0 = λ y. R (standing_at old y) (standing_at new y) in
    subst P (get_or_default flows among.0 0 x below ∙ among.2) (d.done among.0 (omega (arith, below, h)))

-- moved or timed twice
pub moved_twice : (high low : ℕ) (shift : Timing) → high ≢ low → (a b c : Standing) → IsMoved high low shift a b → IsMoved high low shift b c → IsMoved high low shift a c
moved_twice high low shift apart a b c f g =
    elim (decide a.root high) [
      | inr n ↦ let P : Standing → Type 0 = λ s. IsMoved high low shift s c in subst P (f.kept n) g
      | inl e ↦
          let same : c ≡ b = g.kept (λ h. apart (sym h ∙ (f.moved e).0)) in
          let P : Standing → Type 0 = λ s. IsMoved high low shift a s in subst P (sym same) f
    ]

pub timed_twice : (root : ℕ) (clock : Timing) (a b c : Standing) → IsTimed root clock a b → IsTimed root clock b c → IsTimed root clock a c
timed_twice root clock a b c f g =
    elim (timed_or_same root clock a b f) [
      | inr same ↦ let P : Standing → Type 0 = λ s. IsTimed root clock s c in subst P same g
      | inl e ↦
          let t = f.timed e.0 e.1 in
          let same : c ≡ b = g.had t.0 (ap (λ (s : Standing). s.clock) t.1.0) in
          let P : Standing → Type 0 = λ s. IsTimed root clock a s in subst P (sym same) f
    ]

-- the standing that is read goes past
module _ (old now : List Standing) (m : ℕ) (read : Standing) (is_read : standing_at now m ≡ read) (within : m < length old) where
  past_at : (root : ℕ) (q : Timing) → ((standing_at old m).root ≡ read.root) × ((standing_at old m).over ≡ read.over) → (read.root ≡ root) × IsComposedPast read.over q → IsOnePast root q old
  past_at root q same past = record {
    flow = m;
    within = within;
    is = same.0 ∙ past.0;
    past = let P : Timing → Type 0 = λ t. IsComposedPast t q in subst P (sym same.1) past.1;
  }

  parts_same : standing_at now m ≡ standing_at old m → ((standing_at old m).root ≡ read.root) × ((standing_at old m).over ≡ read.over)
  parts_same same = (ap (λ (s : Standing). s.root) (sym same ∙ is_read), ap (λ (s : Standing). s.over) (sym same ∙ is_read))

  pub moved_past : (high low : ℕ) (shift : Timing) → high ≢ low → AreChanged (IsMoved high low shift) old now → (read.root ≡ high) × IsComposedPast read.over shift → IsOnePast high shift old
  moved_past high low shift apart changed past =
      let same : standing_at now m ≡ standing_at old m =
      elim (changed m) [
        | inr same ↦ same
        | inl r ↦ elim (decide (standing_at old m).root high) [
          | inl e ↦ absurd (apart (sym past.0 ∙ ap (λ (s : Standing). s.root) (sym is_read) ∙ (r.moved e).0))
          | inr n ↦ r.kept n
        ]
      ] in
      past_at high shift (parts_same same) past

  pub timed_past : (root : ℕ) (clock : Timing) → AreChanged (IsTimed root clock) old now → (read.root ≡ root) × IsComposedPast read.over clock → IsOnePast root clock old
  timed_past root clock changed past =
      let same : ((standing_at old m).root ≡ read.root) × ((standing_at old m).over ≡ read.over) =
      elim (changed m) [
        | inr same ↦ parts_same same
        | inl r ↦ elim (timed_or_same root clock _ _ r) [
          | inr same ↦ parts_same same
          | inl e ↦
              let t = r.timed e.0 e.1 in
              (ap (λ (s : Standing). s.root) (sym t.1.0 ∙ is_read), ap (λ (s : Standing). s.over) (sym t.1.0 ∙ is_read))
        ]
      ] in
      past_at root clock same past
