-- What holds of the rows of a text.
use Rattle.std.specs.Prelude.{◌≡◌, ◌≤◌, ℕ, List, length, slice_get, Some}
use Rattle.prl_base.specs.Values.{IsOfType}
use Rattle.prl_base.specs.declared.values.Value.{Value}
use Rattle.prl_flow.specs.Rows.{Rows, rows_of}
use Rattle.prl_sensors.specs.SensorRows.{Inputs, type_at}

-- there is a list for each input, each value is of the type of its input, and each input has as many as it needs
pub record AreRowsFor (inputs : Inputs) (needs : List ℕ) (rows : Rows) : Type 0 where
  pub lists : length rows ≡ length inputs.names
  pub types : (k n : ℕ) (value : Value) → slice_get (rows_of rows k) n ≡ Some value → IsOfType (type_at inputs.types k) value
  pub enough : (k need : ℕ) → slice_get needs k ≡ Some need → need ≤ length (rows_of rows k)
