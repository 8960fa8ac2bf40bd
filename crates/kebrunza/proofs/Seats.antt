-- The seats that come with a board, and after steps of each.
use Rattle.prl_base.proofs.Standard.{◌≡◌, ℕ, ◌<◌, List, length, length-set, set, get_or, ⊎_elim, sym, subst, ◌∙◌, Some, get_or_from_slice_get, slice_get-get_or, slice_get_within, slice_get}
use Rattle.std.specs.List.{All}
use Rattle.prl_seats.specs.Vocabulary.{BoardView, IsSeatOf, JobSeatView}
use Rattle.prl_board.specs.Vocabulary.{AreSeatsOf, AreFirstSeats}
use Rattle.prl_board.proofs.Lists.{set_at}

pub first_seats : (b : BoardView) (seats : List JobSeatView) → AreFirstSeats b seats → AreSeatsOf b seats
first_seats b seats first = record { tasks = first.tasks; each = λ i s has. ((first.each i s has).0, (first.each i s has).1.task) }

-- they are still those of the board after a step of one
pub seats_after : (b : BoardView) (seats : List JobSeatView) (i : ℕ) (before after : JobSeatView) → AreSeatsOf b seats → slice_get seats i ≡ Some before → IsSeatOf b after → after.task ≡ before.task →
    AreSeatsOf b (set seats i after)
seats_after b seats i before after all there is same = record {
  tasks = length-set seats i after ∙ all.tasks;
  each = λ j s has. ⊎_elim
      (λ t. let P : ℕ × JobSeatView → Type 0 = λ z. IsSeatOf b z.1 × (z.1.task ≡ record { 0 = z.0 }) in subst P (λ h. (sym t.0 h, t.1 h)) (is, same ∙ (all.each i before there).1))
      (λ t. all.each j s t.1)
      (set_at seats i j after s has);
}

-- each of them belongs to the board
pub seats_belong : (b : BoardView) (seats : List JobSeatView) → AreSeatsOf b seats → All (IsSeatOf b) seats
seats_belong b seats all i d below = (all.each i (get_or seats i d) (slice_get-get_or seats i d below)).0

-- they are still those of the board after steps of each
pub seats_stepped : (b : BoardView) (before after : List JobSeatView) → AreSeatsOf b before → length after ≡ length before →
    ((i : ℕ) (d : JobSeatView) → i < length before → IsSeatOf b (get_or after i d) × ((get_or after i d).task ≡ (get_or before i d).task)) → AreSeatsOf b after
seats_stepped b before after all long each = record {
  tasks = long ∙ all.tasks;
  each = λ i s has.
      let inside : i < length before = subst (λ (n : ℕ). i < n) long (slice_get_within after i s has) in
      let here : get_or after i s ≡ s = get_or_from_slice_get after i s s has in
      let step = each i s inside in
      let P : JobSeatView → Type 0 = λ t. IsSeatOf b t × (t.task ≡ record { 0 = i }) in
      subst P here (step.0, step.1 ∙ (all.each i (get_or before i s) (slice_get-get_or before i s inside)).1);
}
