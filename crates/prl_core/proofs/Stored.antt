-- What a store does, from what its parts do.
use Rattle.prl_base.proofs.Standard.{◌≡◌, ◌<◌, ◌++◌, ◌⊎◌, ℕ, zero, suc, List, [], ◌∷◌, length, get_or, Some, inl, inr, refl, sym, ◌∙◌, ap, subst, arith, slice_get, slice_get_read, slice_get_within}
use Rattle.prl_base.specs.declared.numbers.EdgeNo.{EdgeNo}
use Rattle.prl_base.specs.declared.numbers.TaskNo.{TaskNo}
use Rattle.prl_base.specs.declared.values.Value.{Value}
use Rattle.prl_body.specs.declared.bodies.CheckedBody.{CheckedBody}
use Rattle.prl_flow.specs.Rows.{Rows}
use Rattle.prl_plan.specs.declared.events.Action.TheVariants as actions
use Rattle.prl_plan.specs.declared.events.SlotNo.{SlotNo}
use Rattle.prl_track.specs.Machine.{cell_no}
use Rattle.prl_track.specs.declared.seen.Seen.{Seen}
use Rattle.prl_track.specs.declared.seen.Seen.TheVariants as sights
use Rattle.prl_values.specs.declared.workers.Worker.{Worker}
use Rattle.prl_core.specs.code.Stores.{CanTake, CanRead, DoesRead, Takes}

-- a worker that is read is there
pub worker_read : (workers : List Worker) (i : ℕ) (worker read : Worker) → slice_get workers i ≡ Some worker → read ≡ get_or workers i read →
    slice_get workers i ≡ Some read
worker_read workers i worker read its is =
    slice_get_read workers (length workers) i read refl (slice_get_within workers i worker its) is

-- at a high half
pub taken_from : (rows : Rows) (bodies : List CheckedBody) (halves : List Value) (workers : List Worker) (i n port slot half : ℕ) (value : Value) → half ≡ 1 → slot < length halves →
    value ≡ get_or halves slot value → CanRead rows bodies halves workers i n port slot half → CanTake rows bodies workers i n port value
taken_from rows bodies halves workers i n port slot zero value high inside is can = absurd (omega (arith, high))
taken_from rows bodies halves workers i n port slot (suc half) value high inside is can =
    let here = slice_get_read halves (length halves) slot value refl inside is in
    let both : Some can.0 ≡ Some value = sym can.1 ∙ here in
    let same : can.0 ≡ value = cc in
    subst (λ (v : Value). CanTake rows bodies workers i n port v) same can.2

pub high_read : (rows : Rows) (bodies : List CheckedBody) (halves : List Value) (before after : List Worker) (task : TaskNo) (n port : ℕ) (edge : EdgeNo) (m : ℕ) (slot : SlotNo) (half : ℕ)
    (value : Value) (seen : Seen) → half ≡ 1 → slot.0 < length halves → value ≡ get_or halves slot.0 value → Takes rows bodies task.0 n port value before after →
    seen ≡ sights.Read task n port edge m (cell_no slot) value → DoesRead rows bodies halves before after task n port (actions.Read port edge m slot) half seen
high_read rows bodies halves before after task n port edge m slot zero value seen high inside is takes told = absurd (omega (arith, high))
high_read rows bodies halves before after task n port edge m slot (suc half) value seen high inside is takes told =
    (value, slice_get_read halves (length halves) slot.0 value refl inside is, takes, told)

-- an element of a list with one more is one of the list, or the last
push_cases : {A : Type 0} (xs : List A) (y x : A) (j : ℕ) → slice_get (xs ++ y ∷ []) j ≡ Some x → (slice_get xs j ≡ Some x) ⊎ ((j ≡ length xs) × (y ≡ x))
push_cases [] y x zero h = inr (refl, cc)
push_cases [] y x (suc j) h = absurd cc
push_cases (z ∷ xs) y x zero h = inl h
push_cases (z ∷ xs) y x (suc j) h = elim (push_cases xs y x j h) [
  | inl before ↦ inl before
  | inr last ↦ inr (let e = last.0 in omega (arith, e), last.1)
]

-- one worker more
pub workers_more : (P : ℕ → Worker → Type 0) (before after : List Worker) (i : ℕ) (next : Worker) → after ≡ before ++ next ∷ [] → length before ≡ i →
    ((j : ℕ) (worker : Worker) → slice_get before j ≡ Some worker → P j worker) → P i next → (j : ℕ) (worker : Worker) → slice_get after j ≡ Some worker → P j worker
workers_more P before after i next is long each here j worker at =
    elim (push_cases before next worker j (ap (λ (xs : List Worker). slice_get xs j) (sym is) ∙ at)) [
      | inl old ↦ each j worker old
      | inr new ↦
          (let e : i ≡ j = (let l = new.0 in omega (arith, l, long)) in
          subst (λ (x : Worker). P j x) new.1 (subst (λ (k : ℕ). P k next) e here))
    ]
