-- The parts of the opening go to the seats of the tasks, one after the other.
use Rattle.std.proofs.Common.{◌≡◌, ◌+◌, ◌<◌, ◌⊎◌, ◌++◌, ℕ, zero, suc, List, [], ◌∷◌, length, length-set, get_or, replicate, inl, inr, refl, sym, ap, ◌∙◌, subst, arith, Option, Some, None}
use Rattle.std.specs.Prelude.{slice_get}
use mathlib.Core.Option.{some}
use lib.ListN.{get_elem?}
use Rattle.atomic_table.proofs.Lists.{set_else, set_here}
use Rattle.prl_rule.specs.Vocabulary.{run_of, values_of, all_parts, first_part, first_parts, RunValues, only_part, without_part}
use Rattle.prl_rule.specs.declared.views.Constants.{Constants}
use Rattle.prl_rule.specs.declared.views.TaskPart.{TaskPart}
use Rattle.prl_rule.specs.declared.views.View.{View}
use Rattle.prl_board.specs.Openings.{AreLeft}
use Rattle.prl_seats.specs.JobSeats.{HasFirstPart}
use Rattle.prl_rule.proofs.Parts.{part_there}

parts_wide : (v : RunValues) (from n : ℕ) → length (first_parts v from n) ≡ n
parts_wide v from zero = refl
parts_wide v from (suc n) = ap suc (parts_wide v (suc from) n)

part_first : (v : RunValues) (from n j : ℕ) → j < n → get_elem? (first_parts v from n) j ≡ some (Some (first_part (v.registers (from + j) 0)))
part_first v from zero j below = absurd (omega (arith, below))
part_first v from (suc n) zero below = let same : from ≡ from + 0 = omega arith in ap (λ (x : ℕ). some (Some (first_part (v.registers x 0)))) same
part_first v from (suc n) (suc j) below =
    let same : suc from + j ≡ from + suc j = omega arith in
    part_first v (suc from) n j (omega (arith, below)) ∙ ap (λ (x : ℕ). some (Some (first_part (v.registers x 0)))) same

-- at the opening all parts are left
pub all_left : (k : Constants) → AreLeft k 0 (all_parts k)
all_left k = record {
  wide = parts_wide (values_of k) 0 (run_of k).tasks;
  clock = record { known = refl; part = refl };
  tasks = λ j from below. record { known = refl; part = first_there j below };
}
  where
    first_there : (j : ℕ) → j < (run_of k).tasks → get_elem? (first_parts (values_of k) 0 (run_of k).tasks) j ≡ some (Some (first_part ((values_of k).registers j 0)))
    first_there j below =
        let same : 0 + j ≡ j = omega arith in
        part_first (values_of k) 0 (run_of k).tasks j below ∙ ap (λ (x : ℕ). some (Some (first_part ((values_of k).registers x 0)))) same

-- without the part of the first one, those of the others are
pub next_left : (k : Constants) (i : ℕ) (view : View) → AreLeft k i view → AreLeft k (i + 1) (without_part i view)
next_left k i view left = record {
  wide = length-set view.tasks i None ∙ left.wide;
  clock = record { known = left.clock.known; part = left.clock.part };
  tasks = λ j from below.
      let here = left.tasks j (omega (arith, from)) below in
      record { known = here.known; part = set_else view.tasks i j None (λ same. omega (arith, same, from)) ∙ here.part };
}

copies_wide : {A : Type 0} (n : ℕ) (a : A) → length (replicate n a) ≡ n
copies_wide zero a = refl
copies_wide (suc n) a = ap suc (copies_wide n a)

-- and the new seat has that one
pub first_given : (k : Constants) (i : ℕ) (view : View) → AreLeft k i view → i < (run_of k).tasks → HasFirstPart k i (only_part i view)
first_given k i view left below =
    let here = left.tasks i (omega arith) below in
    record {
      known = here.known;
      part = set_here (replicate (length view.tasks) None) i (get_or view.tasks i None) (omega (arith, copies_wide {A = Option TaskPart} (length view.tasks) None, left.wide, below))
          ∙ ap some (part_there view.tasks i (first_part ((values_of k).registers i 0)) here.part);
    }

-- an element of a list with one more is one of the list, or the last
push_cases : {A : Type 0} (xs : List A) (y x : A) (j : ℕ) → slice_get (xs ++ y ∷ []) j ≡ Some x → (slice_get xs j ≡ Some x) ⊎ ((j ≡ length xs) × (y ≡ x))
push_cases [] y x zero h = inr (refl, cc)
push_cases [] y x (suc j) h = absurd cc
push_cases (z ∷ xs) y x zero h = inl h
push_cases (z ∷ xs) y x (suc j) h = elim (push_cases xs y x j h) [
  | inl before ↦ inl before
  | inr last ↦ inr (let e = last.0 in omega (arith, e), last.1)
]

-- one seat more
pub seats_more : {A : Type 0} (P : ℕ → A → Type 0) (before after : List A) (i : ℕ) (next : A) → after ≡ before ++ next ∷ [] → length before ≡ i →
    ((j : ℕ) (seat : A) → slice_get before j ≡ Some seat → P j seat) → P i next → (j : ℕ) (seat : A) → slice_get after j ≡ Some seat → P j seat
seats_more P before after i next is long each here j seat at =
    elim (push_cases before next seat j (ap (λ (xs : List _). slice_get xs j) (sym is) ∙ at)) [
      | inl old ↦ each j seat old
      | inr new ↦
          (let e : i ≡ j = (let l = new.0 in omega (arith, l, long)) in
          subst (λ x. P j x) new.1 (subst (λ (k : ℕ). P k next) e here))
    ]
