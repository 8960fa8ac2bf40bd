-- The rows of sensors.
use Rattle.std.specs.Prelude.{ℕ, List, [], slice_index_or}
use Rattle.prl_base.specs.declared.values.Value.{Value}

-- for each input of main, its values by instance
abbrev pub Rows : Type 0
Rows = List (List Value)

abbrev pub rows_of : Rows → ℕ → List Value
rows_of rows k = slice_index_or rows k []
