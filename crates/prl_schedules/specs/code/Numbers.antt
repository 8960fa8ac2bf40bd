-- Tables of the numbers of tasks by name.
use Rattle.std.specs.Prelude.{◌≡◌, ℕ, List, Option}
use Rattle.std.specs.BTreeMap.{BTreeMap, get_by}
use Rattle.std.specs.Cmp.Lexicographic.{slice_cmp}
use Rattle.std.specs.Ordering.{nat_cmp}
use denote.Ref.{Bor}
use Rattle.prl_names.specs.Lookups.{index_of}

abbrev pub number_in : BTreeMap (Bor (List ℕ)) ℕ → List ℕ → Option ℕ
number_in table name = get_by (λ k. slice_cmp nat_cmp name k.now) table

-- the table has the index of each of the names
abbrev pub AreNumbers : BTreeMap (Bor (List ℕ)) ℕ → List (List ℕ) → Type 0
AreNumbers table names = (name : List ℕ) → number_in table name ≡ index_of names name
