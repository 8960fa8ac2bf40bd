-- The rows of sensors that the records of a text are, or the first fault.
use Rattle.std.specs.Prelude.{◌==◌, ◌&&◌, ◌+◌, ℕ, Bool, true, false, List, [], ◌∷◌, ◌++◌, length, map, set, slice_index_or, nat_lt, Option, Some, None, Result, Ok, Err, if◌then◌else◌, bytes_eq, codes, decimal}
use Rattle.std.specs.Option.{option_map}
use Rattle.csv.specs.Reading.{default_config, records, strip_bom}
use Rattle.prl_base.specs.Decimals.{integer_of}
use Rattle.prl_base.specs.Reading.{◌>>=◌}
use Rattle.prl_base.specs.declared.values.Ty.{Ty}
use Rattle.prl_base.specs.declared.values.Ty.TheVariants as types
use Rattle.prl_base.specs.declared.values.Value.{Value}
use Rattle.prl_base.specs.declared.values.Value.TheVariants as values
use Rattle.prl_names.specs.Lookups.{index_of}
use Rattle.prl_flow.specs.Rows.{Rows, rows_of}
use Rattle.prl_sensors.specs.declared.faults.SensorFault.{SensorFault}
use Rattle.prl_sensors.specs.declared.faults.SensorFault.TheVariants as faults

-- The records of a text after a byte order mark, each the list of its fields: commas between fields, records that end
-- at a return, a line feed or both, quotes around a field, and two quotes for one inside. Empty lines are no records.
abbrev pub records_of : List ℕ → List (List (List ℕ))
records_of text = records default_config (strip_bom text)

-- the fields of a record that has three
abbrev pub three : List (List ℕ) → Option (List ℕ × List ℕ × List ℕ)
three [] = None
three (a ∷ []) = None
three (a ∷ b ∷ []) = None
three (a ∷ b ∷ c ∷ []) = Some (a, b, c)
three (a ∷ b ∷ c ∷ d ∷ rest) = None

-- the truth value that a field is written as
abbrev pub truth_of : List ℕ → Option Bool
truth_of text =
    if bytes_eq text (codes "true") then Some true else if bytes_eq text (codes "false") then Some false else None

-- the value of this type that a field is written as
abbrev pub value_of : Ty → List ℕ → Option Value
value_of types.Int text = option_map values.Int (integer_of text)
value_of types.Bool text = option_map values.Bool (truth_of text)

-- main's inputs: their names and their types
pub record Inputs : Type 0 where
  pub names : List (List ℕ)
  pub types : List Ty

abbrev pub type_at : List Ty → ℕ → Ty
type_at tys k = slice_index_or tys k types.Int

-- one more row of input k
abbrev pub with_value : Rows → ℕ → Value → Rows
with_value rows k value = set rows k (rows_of rows k ++ value ∷ [])

-- the record of this number is a row of input k, where it has a value of its type
abbrev pub with_read : ℕ → Rows → ℕ → Option Value → Result Rows SensorFault
with_read number rows k None = Err (faults.Value number)
with_read number rows k (Some value) = Ok (with_value rows k value)

-- a row of input k has the number of the instance that comes next
abbrev pub with_row : List Ty → ℕ → Rows → Option ℕ → List ℕ → List ℕ → Result Rows SensorFault
with_row tys number rows None instance value = Err (faults.NoSensor number)
with_row tys number rows (Some k) instance value =
    if bytes_eq instance (decimal (length (rows_of rows k)))
    then with_read number rows k (value_of (type_at tys k) value)
    else Err (faults.Order number)

-- a row has three fields: name, instance and value
abbrev pub with_fields : Inputs → ℕ → Rows → Option (List ℕ × List ℕ × List ℕ) → Result Rows SensorFault
with_fields inputs number rows None = Err (faults.Row number)
with_fields inputs number rows (Some (name, instance, value)) =
    with_row inputs.types number rows (index_of inputs.names name) instance value

abbrev pub is_header : Option (List ℕ × List ℕ × List ℕ) → Bool
is_header None = false
is_header (Some (name, instance, value)) =
    bytes_eq name (codes "name") && bytes_eq instance (codes "instance") && bytes_eq value (codes "value")

-- a header is passed over where it is the first record
abbrev pub with_three : Inputs → ℕ → Rows → Option (List ℕ × List ℕ × List ℕ) → Result Rows SensorFault
with_three inputs number rows row = if (number == 1) && is_header row then Ok rows else with_fields inputs number rows row

-- the rows after the record of this number
unfoldable pub with_record : Inputs → ℕ → Rows → List (List ℕ) → Result Rows SensorFault
with_record inputs number rows fields = with_three inputs number rows (three fields)

-- the rows after these records, the first of which has this number
abbrev pub with_records : Inputs → ℕ → Rows → List (List (List ℕ)) → Result Rows SensorFault
with_records inputs number rows [] = Ok rows
with_records inputs number rows (fields ∷ rest) =
    with_record inputs number rows fields >>= λ more. with_records inputs (number + 1) more rest

-- the first input with fewer rows than it needs, if there is one
abbrev pub short_of : List (List ℕ) → List ℕ → Rows → Option SensorFault
short_of [] needs rows = None
short_of (name ∷ names) [] rows = None
short_of (name ∷ names) (need ∷ needs) [] = None
short_of (name ∷ names) (need ∷ needs) (values ∷ rows) =
    if nat_lt (length values) need then Some (faults.Short name (length values) need) else short_of names needs rows

abbrev pub unless_short : Rows → Option SensorFault → Result Rows SensorFault
unless_short rows None = Ok rows
unless_short rows (Some fault) = Err fault

-- no input has a row
abbrev pub no_rows : List (List ℕ) → Rows
no_rows names = map (λ (name : List ℕ). []) names

-- the rows of the records of a text, one list for each input, each with as many as the input needs or more
abbrev pub sensors_of : Inputs → List ℕ → List ℕ → Result Rows SensorFault
sensors_of inputs needs text =
    with_records inputs 1 (no_rows inputs.names) (records_of text)
    >>= λ rows. unless_short rows (short_of inputs.names needs rows)
