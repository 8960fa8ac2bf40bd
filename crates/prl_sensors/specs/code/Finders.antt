-- What a finder of inputs keeps.
use Rattle.std.specs.Prelude.{◌≡◌, ℕ, List, Some, slice_get}
use Rattle.std.specs.BTreeMap.{BTreeMap}
use denote.Ref.{Bor}
use Rattle.prl_names.specs.Lookups.{index_of}
use Rattle.prl_names.specs.Tables.{AreIndices}

-- the table has the index of each of the names, and the name at `last` stands nowhere before it
pub record IsFinder (names : List (List ℕ)) (table : BTreeMap (Bor (List ℕ)) ℕ) (last : ℕ) : Type 0 where
  pub indices : AreIndices table names
  pub first : (name : List ℕ) → slice_get names last ≡ Some name → index_of names name ≡ Some last
