-- The flows that the rows of a text are, or the first row that is none.
use Rattle.std.specs.Prelude.{◌==◌, ◌&&◌, ◌+◌, ◌*◌, ◌-◌, ◌^◌, ℕ, Bool, true, false, List, [], ◌∷◌, ◌++◌, length, set, slice_get, nat_le, nat_lt, Option, Some, None, Result, Ok, Err, if◌then◌else◌, bytes_eq, codes}
use Rattle.std.specs.List.{position_or_len}
use Rattle.std.specs.Option.{option_and_then, option_map}
use Rattle.prl_base.specs.Decimals.{decimal_of, integer_of}
use Rattle.prl_base.specs.Names.{is_word}
use Rattle.prl_base.specs.Reading.{◌>>=◌}
use Rattle.prl_base.specs.Values.{type_of}
use Rattle.prl_base.specs.declared.names.TheConstants.{MAX_NAME}
use Rattle.prl_base.specs.declared.operators.Clock.{Clock}
use Rattle.prl_base.specs.declared.values.Ty.{Ty}
use Rattle.prl_base.specs.declared.values.Ty.TheVariants as types
use Rattle.prl_base.specs.declared.values.Value.{Value}
use Rattle.prl_base.specs.declared.values.Value.TheVariants as values
use Rattle.prl_sensors.specs.SensorRows.{records_of, three, truth_of}
use Rattle.prl_steps.specs.Flows.{FlowView}
use Rattle.prl_steps.specs.Levels.{level_of}
use Rattle.prl_steps.specs.declared.samples.Sample.{Sample}
use Rattle.prl_plot.specs.declared.row_faults.RowFault.{RowFault}
use Rattle.prl_plot.specs.declared.row_faults.RowFault.TheVariants as faults
use Rattle.prl_plot.specs.declared.forms.Form.{Form}
use Rattle.prl_plot.specs.declared.forms.Input.{Input}

-- what a row says: whose value it is, at which date, and the value
abbrev pub Entry : Type 0
Entry = List ℕ × ℕ × Value

-- the value that a field is written as: `true`, `false`, or an integer
abbrev pub value_else : Option Bool → List ℕ → Option Value
value_else (Some truth) text = Some (values.Bool truth)
value_else None text = option_map values.Int (integer_of text)

abbrev pub value_of : List ℕ → Option Value
value_of text = value_else (truth_of text) text

-- the clock of the first input of this name
abbrev pub clock_of : List Input → List ℕ → Option Clock
clock_of [] name = None
clock_of (input ∷ inputs) name = if bytes_eq input.name name then Some input.clock else clock_of inputs name

-- the date of an instance on a clock, below 2^64
abbrev pub date_on : Clock → ℕ → Option ℕ
date_on clock n = if nat_lt (clock.start + n * clock.period) (2 ^ 64) then Some (clock.start + n * clock.period) else None

abbrev pub with_value : ℕ → List ℕ → ℕ → Option Value → Result Entry RowFault
with_value number name date None = Err (faults.Value number)
with_value number name date (Some value) = Ok (name, date, value)

abbrev pub with_date : ℕ → List ℕ → Option ℕ → List ℕ → Result Entry RowFault
with_date number name None value = Err (faults.Order number)
with_date number name (Some date) value = with_value number name date (value_of value)

-- the row of a sensor has three fields, name, instance and value, and its date is that of the instance on the clock of the sensor
abbrev pub on_clock : ℕ → List ℕ → List ℕ → List ℕ → Option Clock → Result Entry RowFault
on_clock number name instance value None = Err (faults.NoSensor number)
on_clock number name instance value (Some clock) =
    with_date number name (option_and_then (date_on clock) (decimal_of instance)) value

abbrev pub timed_entry : List Input → ℕ → Option (List ℕ × List ℕ × List ℕ) → Result Entry RowFault
timed_entry inputs number None = Err (faults.Row number)
timed_entry inputs number (Some (name, instance, value)) = on_clock number name instance value (clock_of inputs name)

-- the row of an actuator has four fields, name, instance, date and value
abbrev pub four : List (List ℕ) → Option (List ℕ × List ℕ × List ℕ × List ℕ)
four [] = None
four (a ∷ []) = None
four (a ∷ b ∷ []) = None
four (a ∷ b ∷ c ∷ []) = None
four (a ∷ b ∷ c ∷ d ∷ []) = Some (a, b, c, d)
four (a ∷ b ∷ c ∷ d ∷ e ∷ rest) = None

abbrev pub dated_entry : ℕ → Option (List ℕ × List ℕ × List ℕ × List ℕ) → Result Entry RowFault
dated_entry number None = Err (faults.Row number)
dated_entry number (Some (name, instance, date, value)) = with_date number name (decimal_of date) value

abbrev pub entry_of : Form → ℕ → List (List ℕ) → Result Entry RowFault
entry_of form number fields =
    if form.dated then dated_entry number (four fields) else timed_entry form.inputs number (three fields)

abbrev pub sample_of : Entry → Sample
sample_of entry = record { date = entry.1; level = level_of entry.2 }

abbrev pub is_name : List ℕ → Bool
is_name name = is_word name && nat_le (length name) MAX_NAME

abbrev pub is_of : Ty → Value → Bool
is_of types.Int (values.Int number) = true
is_of types.Int (values.Bool truth) = false
is_of types.Bool (values.Int number) = false
is_of types.Bool (values.Bool truth) = true

-- the date is after that of the last sample, where there is one
abbrev pub is_after : Option Sample → ℕ → Bool
is_after None date = true
is_after (Some sample) date = nat_lt sample.date date

-- a flow begins with the first row of its name
abbrev pub begun : ℕ → List FlowView → Entry → Result (List FlowView) RowFault
begun number flows entry =
    if is_name entry.0
    then Ok (flows ++ record { name = entry.0; ty = type_of entry.2; samples = sample_of entry ∷ [] } ∷ [])
    else Err (faults.Row number)

abbrev pub extended : FlowView → Entry → FlowView
extended flow entry = record { name = flow.name; ty = flow.ty; samples = flow.samples ++ sample_of entry ∷ [] }

-- each further row has a value of the type of the first, at a later date than the one before
abbrev pub went_on : ℕ → List FlowView → ℕ → FlowView → Entry → Result (List FlowView) RowFault
went_on number flows k flow entry =
    if is_of flow.ty entry.2
    then (if is_after (slice_get flow.samples (length flow.samples - 1)) entry.1
    then Ok (set flows k (extended flow entry)) else Err (faults.Order number))
    else Err (faults.Value number)

abbrev pub added_at : ℕ → List FlowView → ℕ → Option FlowView → Entry → Result (List FlowView) RowFault
added_at number flows k None entry = begun number flows entry
added_at number flows k (Some flow) entry = went_on number flows k flow entry

-- where the flow of a name stands; behind the last where it has no row yet
abbrev pub place_of : List FlowView → List ℕ → ℕ
place_of flows name = position_or_len (λ flow. bytes_eq flow.name name) flows

-- the flows with the row of an entry
abbrev pub added : ℕ → List FlowView → Entry → Result (List FlowView) RowFault
added number flows entry = added_at number flows (place_of flows entry.0) (slice_get flows (place_of flows entry.0)) entry

abbrev pub first_two : List (List ℕ) → Option (List ℕ × List ℕ)
first_two [] = None
first_two (a ∷ []) = None
first_two (a ∷ b ∷ rest) = Some (a, b)

abbrev pub begins_header : Option (List ℕ × List ℕ) → Bool
begins_header None = false
begins_header (Some (a, b)) = bytes_eq a (codes "name") && bytes_eq b (codes "instance")

abbrev pub is_header : List (List ℕ) → Bool
is_header fields = begins_header (first_two fields)

-- the flows with the row of a record
abbrev pub with_row : Form → ℕ → List FlowView → List (List ℕ) → Result (List FlowView) RowFault
with_row form number flows fields = entry_of form number fields >>= λ entry. added number flows entry

-- the flows after the record of this number; a header is passed over where it is the first record
unfoldable pub with_record : Form → ℕ → List FlowView → List (List ℕ) → Result (List FlowView) RowFault
with_record form number flows fields =
    if (number == 1) && is_header fields then Ok flows else with_row form number flows fields

-- the flows after these records, the first of which has this number
abbrev pub with_records : Form → ℕ → List FlowView → List (List (List ℕ)) → Result (List FlowView) RowFault
with_records form number flows [] = Ok flows
with_records form number flows (fields ∷ rest) =
    with_record form number flows fields >>= λ more. with_records form (number + 1) more rest

-- the flows of a text of rows of this form, in the order of their first rows, or the first fault
abbrev pub flows_of : Form → List ℕ → Result (List FlowView) RowFault
flows_of form text = with_records form 1 [] (records_of text)
