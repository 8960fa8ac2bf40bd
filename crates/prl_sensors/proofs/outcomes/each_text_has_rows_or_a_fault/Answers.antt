-- What comes of a text of rows is never want of memory.
use Rattle.std.proofs.Common.{◌≡◌, ◌≢◌, ℕ, ◌+◌, Bool, true, false, cond, List, [], ◌∷◌, length, Option, Some, None, Result, Ok, Err, ap, bytes_eq, decimal, ◌==◌, ◌&&◌}
use Rattle.std.specs.Prelude.{nat_lt}
use Rattle.prl_base.specs.Reading.{◌>>=◌}
use Rattle.prl_base.specs.declared.values.Ty.{Ty}
use Rattle.prl_base.specs.declared.values.Value.{Value}
use Rattle.prl_flow.specs.Rows.{Rows, rows_of}
use Rattle.prl_names.specs.Lookups.{index_of}
use Rattle.prl_sensors.specs.SensorRows.{Inputs, is_header, no_rows, records_of, sensors_of, short_of, three, type_at, unless_short, value_of, with_fields, with_read, with_record, with_records, with_row, with_value}
use Rattle.prl_sensors.specs.declared.faults.SensorFault.{SensorFault}
use Rattle.prl_sensors.specs.declared.faults.SensorFault.TheVariants as faults
use Rattle.prl_sensors.proofs.outcomes.each_text_has_rows_or_a_fault.Goals as goal

abbrev IsTold : Result Rows SensorFault → Type 0
IsTold r = r ≢ Err faults.Memory

rows_told : (rows : Rows) → IsTold (Ok rows)
rows_told rows h = cc

row_told : (number : ℕ) → IsTold (Err (faults.Row number))
row_told number h = cc

no_sensor_told : (number : ℕ) → IsTold (Err (faults.NoSensor number))
no_sensor_told number h = cc

order_told : (number : ℕ) → IsTold (Err (faults.Order number))
order_told number h = cc

value_told : (number : ℕ) → IsTold (Err (faults.Value number))
value_told number h = cc

if_told : (b : Bool) (x y : Result Rows SensorFault) → IsTold x → IsTold y → IsTold (cond b x y)
if_told true x y one other = one
if_told false x y one other = other

then_told : (r : Result Rows SensorFault) (f : Rows → Result Rows SensorFault) → IsTold r → ((rows : Rows) → IsTold (f rows)) → IsTold (r >>= f)
then_told (Ok rows) f first rest = rest rows
then_told (Err e) f first rest = first

read_told : (number : ℕ) (rows : Rows) (k : ℕ) (value : Option Value) → IsTold (with_read number rows k value)
read_told number rows k None = value_told number
read_told number rows k (Some value) = rows_told (with_value rows k value)

row_of_told : (tys : List Ty) (number : ℕ) (rows : Rows) (k : Option ℕ) (instance value : List ℕ) → IsTold (with_row tys number rows k instance value)
row_of_told tys number rows None instance value = no_sensor_told number
row_of_told tys number rows (Some k) instance value =
    if_told (bytes_eq instance (decimal (length (rows_of rows k)))) (with_read number rows k (value_of (type_at tys k) value)) (Err (faults.Order number))
    (read_told number rows k (value_of (type_at tys k) value)) (order_told number)

fields_told : (inputs : Inputs) (number : ℕ) (rows : Rows) (fields : Option (List ℕ × List ℕ × List ℕ)) → IsTold (with_fields inputs number rows fields)
fields_told inputs number rows None = row_told number
fields_told inputs number rows (Some (name, instance, value)) = row_of_told inputs.types number rows (index_of inputs.names name) instance value

record_told : (inputs : Inputs) (number : ℕ) (rows : Rows) (fields : List (List ℕ)) → IsTold (with_record inputs number rows fields)
unfolding with_record
record_told inputs number rows fields =
    if_told ((number == 1) && is_header (three fields)) (Ok rows) (with_fields inputs number rows (three fields)) (rows_told rows) (fields_told inputs number rows (three fields))

records_told : (inputs : Inputs) (number : ℕ) (rows : Rows) (records : List (List (List ℕ))) → IsTold (with_records inputs number rows records)
records_told inputs number rows [] = rows_told rows
records_told inputs number rows (fields ∷ rest) =
    then_told (with_record inputs number rows fields) (λ more. with_records inputs (number + 1) more rest) (record_told inputs number rows fields)
    (λ more. records_told inputs (number + 1) more rest)

abbrev IsNone : Option SensorFault → Type 0
IsNone o = o ≢ Some faults.Memory

nothing : IsNone None
nothing h = cc

short : (name : List ℕ) (have need : ℕ) → IsNone (Some (faults.Short name have need))
short name have need h = cc

if_none : (b : Bool) (x y : Option SensorFault) → IsNone x → IsNone y → IsNone (cond b x y)
if_none true x y one other = one
if_none false x y one other = other

short_told : (names : List (List ℕ)) (needs : List ℕ) (rows : Rows) → IsNone (short_of names needs rows)
short_told [] needs rows = nothing
short_told (name ∷ names) [] rows = nothing
short_told (name ∷ names) (need ∷ needs) [] = nothing
short_told (name ∷ names) (need ∷ needs) (values ∷ rows) =
    if_none (nat_lt (length values) need) (Some (faults.Short name (length values) need)) (short_of names needs rows) (short name (length values) need) (short_told names needs rows)

unless_told : (rows : Rows) (fault : Option SensorFault) → IsNone fault → IsTold (unless_short rows fault)
unless_told rows None none = rows_told rows
unless_told rows (Some fault) none = λ h. none (let same : fault ≡ faults.Memory = cc in ap (λ f. Some f) same)

sensors_told : (inputs : Inputs) (needs text : List ℕ) → sensors_of inputs needs text ≢ Err faults.Memory
sensors_told inputs needs text =
    then_told (with_records inputs 1 (no_rows inputs.names) (records_of text)) (λ rows. unless_short rows (short_of inputs.names needs rows))
    (records_told inputs 1 (no_rows inputs.names) (records_of text))
    (λ rows. unless_told rows (short_of inputs.names needs rows) (short_told inputs.names needs rows))

pub returns : goal.returns
returns c = sensors_told
