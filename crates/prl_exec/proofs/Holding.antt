-- The seats that a worker has, after one of them was polled.
use Rattle.prl_base.proofs.Standard.{◌≡◌, ◌++◌, ℕ, zero, suc, List, [], ◌∷◌, Option, Some, None, length, length-set, set, refl, sym, ◌∙◌, ap, subst, inl, inr, ⊎_elim, Vec, slice_get, cases_eq}
use Rattle.std.specs.Vec.{vec_items}
use Rattle.std.specs.declared.alloc.Global.{Global}
use Rattle.prl_seats.specs.Vocabulary.{BoardView, IsSeatOf, JobSeatView}
use Rattle.prl_board.proofs.Lists.{set_at, set_else, set_here}
use Rattle.prl_exec.specs.Vocabulary.{AreHeld, Has, KeepSeats, IsSlotOf, IsSlotPolled}

module _ (b : BoardView) (seats : List (Option JobSeatView)) (held : AreHeld b seats) (i : ℕ) where
  -- a slot for a seat of the board
  pub slot_of : (o : Option JobSeatView) → slice_get seats i ≡ Some o → IsSlotOf b o
  slot_of (Some s) has = (held.each i s has).0
  slot_of None has = tt

  polled_slot : (o p : Option JobSeatView) → slice_get seats i ≡ Some o → IsSlotPolled b o p → (s : JobSeatView) → p ≡ Some s →
      IsSeatOf b s × (s.task ≡ record { 0 = i })
  polled_slot (Some s) (Some t) has did u is =
      let same : t ≡ u = cc is in
      (subst (IsSeatOf b) same did.0, sym (ap (λ (x : JobSeatView). x.task) same) ∙ (did.1 ∙ (held.each i s has).1))
  polled_slot (Some s) None has did u is = absurd did
  polled_slot None (Some t) has did u is = absurd did
  polled_slot None None has did u is = absurd (cc is)

  kept_slot : (o p : Option JobSeatView) → IsSlotPolled b o p → (s : JobSeatView) → o ≡ Some s → (t : JobSeatView) × (p ≡ Some t)
  kept_slot (Some s) (Some t) did u is = (t, refl)
  kept_slot (Some s) None did u is = absurd did
  kept_slot None p did u is = absurd (cc is)

  pub polled_held : (o p : Option JobSeatView) → slice_get seats i ≡ Some o → IsSlotPolled b o p → AreHeld b (set seats i p)
  polled_held o p has did = record {
    wide = length-set seats i p ∙ held.wide;
    each = λ j s there. ⊎_elim
        (λ here. let mine = polled_slot o p has did s here.1 in (mine.0, mine.1 ∙ ap (λ n. record { 0 = n }) (sym here.0)))
        (λ apart. held.each j s apart.1)
        (set_at seats i j p (Some s) there);
  }

  pub polled_kept : (o p : Option JobSeatView) → slice_get seats i ≡ Some o → IsSlotPolled b o p → KeepSeats seats (set seats i p)
  polled_kept o p has did j was = elim (cases_eq j i) [
    | inl same ↦
        (let one : o ≡ Some was.0 = (let e : Some o ≡ Some (Some was.0) = sym has ∙ (ap (slice_get seats) (sym same) ∙ was.1) in cc e) in
        let now = kept_slot o p did was.0 one in
        (now.0, ap (slice_get (set seats i p)) same ∙ (set_here seats i p o has ∙ ap Some now.1)))
    | inr apart ↦ (was.0, set_else seats i j p apart ∙ was.1)
  ]

pub get_last : {A : Type 0} (xs : List A) (x : A) → slice_get (xs ++ x ∷ []) (length xs) ≡ Some x
get_last [] x = refl
get_last (y ∷ xs) x = get_last xs x

pub get_front : {A : Type 0} (xs : List A) (x y : A) (j : ℕ) → slice_get xs j ≡ Some y → slice_get (xs ++ x ∷ []) j ≡ Some y
get_front [] x y j has = absurd (cc has)
get_front (z ∷ xs) x y zero has = has
get_front (z ∷ xs) x y (suc j) has = get_front xs x y j has

-- what is handed back keeps the seats
pub handed : (before : List (Option JobSeatView)) {seats back : Vec (Option JobSeatView) Global} → back ≡ seats → KeepSeats before (vec_items seats) → KeepSeats before (vec_items back)
handed before is kept i has = subst (λ (v : Vec (Option JobSeatView) Global). Has (vec_items v) i) (sym is) (kept i has)
