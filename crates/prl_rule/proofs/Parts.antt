-- The parts of a view: the one that is found, one that is set, and one after the reads of constants.
use Rattle.std.proofs.Common.{◌≡◌, ℕ, zero, suc, List, [], ◌∷◌, get_or, set, refl, sym, Option, Some, None}
use mathlib.Core.Option.{some, some-injective, some-ne-none}
use lib.ListN.{get_elem?}
use Rattle.prl_plan.specs.Runs.{RunConstants}
use Rattle.prl_rule.specs.Vocabulary.{TaskPart, RunValues, caught_up, moved_on}

-- a part that is there is found
pub part_there : (ps : List (Option TaskPart)) (i : ℕ) (p : TaskPart) → get_elem? ps i ≡ some (Some p) → get_or ps i None ≡ Some p
part_there [] i p e = absurd (some-ne-none (Some p) (sym e))
part_there (q ∷ ps) zero p e = some-injective q (Some p) e
part_there (q ∷ ps) (suc i) p e = part_there ps i p e

-- where something was, another thing may be set
pub set_found : {A : Type 0} (l : List A) (i : ℕ) (a b : A) → get_elem? l i ≡ some a → get_elem? (set l i b) i ≡ some b
set_found [] i a b e = absurd (some-ne-none a (sym e))
set_found (x ∷ xs) zero a b e = refl
set_found (x ∷ xs) (suc i) a b e = set_found xs i a b e

-- the reads of constants leave all but the place and the values as they are
pub caught_open : (c : RunConstants) (v : RunValues) (i count : ℕ) (p : TaskPart) → (caught_up c v i count p).stand.is_open ≡ p.stand.is_open
caught_open c v i zero p = refl
caught_open c v i (suc count) p = caught_open c v i count (moved_on c v i 0 p)

pub caught_kept : (c : RunConstants) (v : RunValues) (i count : ℕ) (p : TaskPart) → (caught_up c v i count p).kept ≡ p.kept
caught_kept c v i zero p = refl
caught_kept c v i (suc count) p = caught_kept c v i count (moved_on c v i 0 p)

pub caught_ended : (c : RunConstants) (v : RunValues) (i count : ℕ) (p : TaskPart) → (caught_up c v i count p).stand.ended ≡ p.stand.ended
caught_ended c v i zero p = refl
caught_ended c v i (suc count) p = caught_ended c v i count (moved_on c v i 0 p)

pub caught_now : (c : RunConstants) (v : RunValues) (i count : ℕ) (p : TaskPart) → (caught_up c v i count p).stand.now ≡ p.stand.now
caught_now c v i zero p = refl
caught_now c v i (suc count) p = caught_now c v i count (moved_on c v i 0 p)
