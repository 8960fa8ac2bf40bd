-- Seats dealt and put back, one slot after another.
use Rattle.prl_base.proofs.Standard.{◌≡◌, ◌+◌, ◌<◌, ◌≤◌, ◌⊎◌, ◌++◌, ℕ, zero, suc, Bool, true, false, List, [], ◌∷◌, Option, Some, None, length, length-set, length-append, set, refl, sym, ◌∙◌, ap}
use Rattle.prl_base.proofs.Standard.{subst, arith, inl, inr, ⊎_elim, slice_get, cases_eq}
use Rattle.prl_seats.specs.JobSeats.{JobSeatView}
use Rattle.prl_exec.specs.Vocabulary.{Has, IsPut, IsTaken}
use Rattle.prl_board.proofs.Lists.{set_at, set_else, set_here}
use Rattle.prl_exec.proofs.Holding.{get_last}

abbrev Slots : Type 0
Slots = List (Option JobSeatView)

-- a list one longer
pub get_more : {A : Type 0} (xs : List A) (x y : A) (j : ℕ) → slice_get (xs ++ x ∷ []) j ≡ Some y → (slice_get xs j ≡ Some y) ⊎ ((j ≡ length xs) × (x ≡ y))
get_more [] x y zero has = inr (refl, cc has)
get_more [] x y (suc j) has = absurd (cc has)
get_more (z ∷ xs) x y zero has = inl has
get_more (z ∷ xs) x y (suc j) has = ⊎_elim (λ h. inl h) (λ h. inr (ap suc h.0, h.1)) (get_more xs x y j has)

-- the slots below i have been dealt
pub record IsDealt (mine : ℕ → Type 0) (i : ℕ) (old all own : Slots) : Type 0 where
  pub wide : length all ≡ length old
  pub long : length own ≡ i
  pub rest : (j : ℕ) → i ≤ j → slice_get all j ≡ slice_get old j
  pub dealt : (j : ℕ) → j < i → mine j → slice_get own j ≡ slice_get old j
  pub left : (j : ℕ) → j < i → (mine j → ⊥) → slice_get all j ≡ slice_get old j
  pub from_all : (j : ℕ) (s : JobSeatView) → slice_get all j ≡ Some (Some s) → slice_get old j ≡ Some (Some s)
  pub from_own : (j : ℕ) (s : JobSeatView) → slice_get own j ≡ Some (Some s) → slice_get old j ≡ Some (Some s)

module _ (mine : ℕ → Type 0) (i : ℕ) (old all own : Slots) (so_far : IsDealt mine i old all own) (before after seat : Option JobSeatView) (there : slice_get all i ≡ Some before) where
  was : slice_get old i ≡ Some before
  was = sym (so_far.rest i (omega arith)) ∙ there

  here : slice_get (own ++ seat ∷ []) i ≡ Some seat
  here = ap (slice_get (own ++ seat ∷ [])) (sym so_far.long) ∙ get_last own seat

  pub more_dealt : (is_own : Bool) → (is_own ≡ true → mine i) → (is_own ≡ false → mine i → ⊥) → IsTaken is_own before after seat → IsDealt mine (i + 1) old (set all i after) (own ++ seat ∷ [])
  more_dealt is_own is_mine no_own taken = record {
    wide = length-set all i after ∙ so_far.wide;
    long = (let a = length-append own (seat ∷ []) in let l = so_far.long in omega (arith, a, l));
    rest = λ j past. set_else all i j after (λ e. omega (arith, e, past)) ∙ so_far.rest j (omega (arith, past));
    dealt = λ j below its. elim (cases_eq j i) [
      | inl same ↦ at_own is_own is_mine no_own taken j same its
      | inr other ↦
          (let l = so_far.long in
          let inside : j < length own = omega (arith, below, other, l) in
          front_same own j inside ∙ so_far.dealt j (omega (arith, below, other)) its)
    ];
    left = λ j below none. elim (cases_eq j i) [
      | inl same ↦ at_left is_own is_mine taken j same none
      | inr other ↦ set_else all i j after other ∙ so_far.left j (omega (arith, below, other)) none
    ];
    from_all = λ j s has. ⊎_elim (λ h. at_all is_own taken j s h.0 h.1) (λ h. so_far.from_all j s h.1) (set_at all i j after (Some s) has);
    from_own = λ j s has. ⊎_elim (λ h. so_far.from_own j s h) (λ h. at_taken is_own taken j s (h.0 ∙ so_far.long) h.1) (get_more own seat (Some s) j has);
  }
    where
      front_same : (xs : Slots) (j : ℕ) → j < length xs → slice_get (xs ++ seat ∷ []) j ≡ slice_get xs j
      front_same [] j inside = absurd (omega (arith, inside))
      front_same (x ∷ xs) zero inside = refl
      front_same (x ∷ xs) (suc j) inside = front_same xs j (omega (arith, inside))

      at_own : (is_own : Bool) → (is_own ≡ true → mine i) → (is_own ≡ false → mine i → ⊥) → IsTaken is_own before after seat → (j : ℕ) → j ≡ i → mine j → slice_get (own ++ seat ∷ []) j
          ≡ slice_get old j
      at_own true is_mine no_own taken j same its = ap (slice_get (own ++ seat ∷ [])) same ∙ (here ∙ (ap Some taken.0 ∙ sym (ap (slice_get old) same ∙ was)))
      at_own false is_mine no_own taken j same its = absurd (no_own refl (subst mine same its))

      at_left : (is_own : Bool) → (is_own ≡ true → mine i) → IsTaken is_own before after seat → (j : ℕ) → j ≡ i → (mine j → ⊥) → slice_get (set all i after) j ≡ slice_get old j
      at_left true is_mine taken j same none = absurd (none (subst mine (sym same) (is_mine refl)))
      at_left false is_mine taken j same none = ap (slice_get (set all i after)) same ∙ (set_here all i after before there ∙ (ap Some taken.1 ∙ sym (ap (slice_get old) same ∙ was)))

      at_all : (is_own : Bool) → IsTaken is_own before after seat → (j : ℕ) (s : JobSeatView) → j ≡ i → after ≡ Some s → slice_get old j ≡ Some (Some s)
      at_all true taken j s same is = absurd (let e : None ≡ Some s = sym taken.1 ∙ is in cc e)
      at_all false taken j s same is = ap (slice_get old) same ∙ (was ∙ ap Some (sym taken.1 ∙ is))

      at_taken : (is_own : Bool) → IsTaken is_own before after seat → (j : ℕ) (s : JobSeatView) → j ≡ i → seat ≡ Some s → slice_get old j ≡ Some (Some s)
      at_taken true taken j s same is = ap (slice_get old) same ∙ (was ∙ ap Some (sym taken.0 ∙ is))
      at_taken false taken j s same is = absurd (let e : None ≡ Some s = sym taken.0 ∙ is in cc e)

-- the slots below i have been put back
pub record ArePut (i : ℕ) (old given all seats : Slots) : Type 0 where
  pub wide : length all ≡ length old
  pub long : length seats ≡ length given
  pub rest : (j : ℕ) → i ≤ j → (slice_get all j ≡ slice_get old j) × (slice_get seats j ≡ slice_get given j)
  pub kept : (j : ℕ) → j < i → Has old j → Has all j
  pub put : (j : ℕ) → j < i → Has given j → Has all j
  pub from : (j : ℕ) (s : JobSeatView) → slice_get all j ≡ Some (Some s) → (slice_get old j ≡ Some (Some s)) ⊎ (slice_get given j ≡ Some (Some s))

module _ (i : ℕ) (old given all seats : Slots) (so_far : ArePut i old given all seats) (before after seat : Option JobSeatView)
    (there : slice_get all i ≡ Some before) (other : slice_get seats i ≡ Some seat) where
  is_old : slice_get old i ≡ Some before
  is_old = sym (so_far.rest i (omega arith)).0 ∙ there

  is_given : slice_get given i ≡ Some seat
  is_given = sym (so_far.rest i (omega arith)).1 ∙ other

  pub more_put : IsPut before seat after → ArePut (i + 1) old given (set all i after) (set seats i None)
  more_put did = record {
    wide = length-set all i after ∙ so_far.wide;
    long = length-set seats i None ∙ so_far.long;
    rest = λ j past. (
      set_else all i j after (λ e. omega (arith, e, past)) ∙ (so_far.rest j (omega (arith, past))).0,
      set_else seats i j None (λ e. omega (arith, e, past)) ∙ (so_far.rest j (omega (arith, past))).1,
    );
    kept = λ j below has. elim (cases_eq j i) [
      | inl same ↦ some_after seat did j same is_given (inl has)
      | inr apart ↦ (let h = so_far.kept j (omega (arith, below, apart)) has in (h.0, set_else all i j after apart ∙ h.1))
    ];
    put = λ j below has. elim (cases_eq j i) [
      | inl same ↦ some_after seat did j same is_given (inr has)
      | inr apart ↦ (let h = so_far.put j (omega (arith, below, apart)) has in (h.0, set_else all i j after apart ∙ h.1))
    ];
    from = λ j s has. ⊎_elim (λ h. from_here seat did j s h.0 h.1 is_given) (λ h. so_far.from j s h.1) (set_at all i j after (Some s) has);
  }
    where
      now_here : slice_get (set all i after) i ≡ Some after
      now_here = set_here all i after before there

      some_after : (x : Option JobSeatView) → IsPut before x after → (j : ℕ) → j ≡ i → slice_get given i ≡ Some x → Has old j ⊎ Has given j → Has (set all i after) j
      some_after (Some s) put j at given_is has = (s, ap (slice_get (set all i after)) at ∙ (now_here ∙ ap Some put))
      some_after None put j at given_is (inl has) =
          let e : before ≡ Some has.0 = (let f : Some before ≡ Some (Some has.0) = sym is_old ∙ (ap (slice_get old) (sym at) ∙ has.1) in cc f) in
          (has.0, ap (slice_get (set all i after)) at ∙ (now_here ∙ ap Some (put ∙ e)))
      some_after None put j at given_is (inr has) =
          absurd (let f : Some None ≡ Some (Some has.0) = sym given_is ∙ (ap (slice_get given) (sym at) ∙ has.1) in cc f)

      from_here : (x : Option JobSeatView) → IsPut before x after → (j : ℕ) (s : JobSeatView) → j ≡ i → after ≡ Some s → slice_get given i ≡ Some x → (slice_get old j ≡ Some (Some s))
          ⊎ (slice_get given j ≡ Some (Some s))
      from_here (Some t) put j s at is given_is = inr (ap (slice_get given) at ∙ (given_is ∙ ap Some (sym put ∙ is)))
      from_here None put j s at is given_is = inl (ap (slice_get old) at ∙ (is_old ∙ ap Some (sym put ∙ is)))
