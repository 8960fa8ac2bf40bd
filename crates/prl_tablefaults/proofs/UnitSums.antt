-- The units of a job among the entries that are left.
use Rattle.prl_base.proofs.Standard.{◌≡◌, ◌+◌, ◌<◌, ℕ, List, add-one, drop, drop-cons, length, refl, slice_index_or}
use Rattle.prl_overlaps.specs.declared.entries.Entry.{Entry}
use Rattle.prl_tables.specs.Tables.{units_of}
use Rattle.prl_tablefaults.specs.FaultTexts.{units_in}

-- those of one entry, and of the ones behind it
pub one_more : (entries : List Entry) (k i c : ℕ) (entry : Entry) → k < length entries → entry ≡ slice_index_or entries k entry
    → units_of (drop k entries) i c ≡ units_in i c entry + units_of (drop (k + 1) entries) i c
one_more entries k i c entry inside is = rw (add-one k, drop-cons entries k entry inside, ← is) refl
