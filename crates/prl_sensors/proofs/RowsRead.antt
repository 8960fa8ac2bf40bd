-- Rows record by record.
use Rattle.std.proofs.Common.{◌≡◌, ℕ, ◌+◌, List, [], ◌∷◌, Ok, Err, refl}
use Rattle.prl_flow.specs.Rows.{Rows}
use Rattle.prl_sensors.specs.SensorRows.{Inputs, with_record, with_records}
use Rattle.prl_sensors.specs.declared.faults.SensorFault.{SensorFault}

-- the rows after one more record
pub one_more : (inputs : Inputs) (number : ℕ) (rows more : Rows) (fields : List (List ℕ)) (left rest : List (List (List ℕ)))
    → left ≡ fields ∷ rest → with_record inputs number rows fields ≡ Ok more
    → with_records inputs (number + 1) more rest ≡ with_records inputs number rows left
one_more inputs number rows more fields left rest is read =
    rw (is, read) refl

-- a record that is no row ends it
pub no_more : (inputs : Inputs) (number : ℕ) (rows : Rows) (fault : SensorFault) (fields : List (List ℕ)) (left rest : List (List (List ℕ)))
    → left ≡ fields ∷ rest → with_record inputs number rows fields ≡ Err fault
    → with_records inputs number rows left ≡ Err fault
no_more inputs number rows fault fields left rest is read = rw (is, read) refl

-- where no record is left, the rows are all
pub all_read : (inputs : Inputs) (number : ℕ) (rows : Rows) (left : List (List (List ℕ))) → left ≡ [] → with_records inputs number rows left ≡ Ok rows
all_read inputs number rows left is = rw is refl
