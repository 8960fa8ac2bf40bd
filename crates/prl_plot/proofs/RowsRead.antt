-- Rows record by record.
use Rattle.std.proofs.Common.{◌≡◌, ℕ, ◌+◌, List, [], ◌∷◌, Ok, Err, refl}
use Rattle.prl_steps.specs.Flows.{FlowView}
use Rattle.prl_plot.specs.Rows.{with_record, with_records}
use Rattle.prl_plot.specs.declared.row_faults.RowFault.{RowFault}
use Rattle.prl_plot.specs.declared.forms.Form.{Form}

-- the flows after one more record
pub one_more : (form : Form) (number : ℕ) (flows more : List FlowView) (fields : List (List ℕ)) (left rest : List (List (List ℕ)))
    → left ≡ fields ∷ rest → with_record form number flows fields ≡ Ok more
    → with_records form (number + 1) more rest ≡ with_records form number flows left
one_more form number flows more fields left rest is read =
    rw (is, read) refl

-- a record that is no row ends it
pub no_more : (form : Form) (number : ℕ) (flows : List FlowView) (fault : RowFault) (fields : List (List ℕ)) (left rest : List (List (List ℕ)))
    → left ≡ fields ∷ rest → with_record form number flows fields ≡ Err fault
    → with_records form number flows left ≡ Err fault
no_more form number flows fault fields left rest is read = rw (is, read) refl

-- where no record is left, the flows are all
pub all_read : (form : Form) (number : ℕ) (flows : List FlowView) (left : List (List (List ℕ))) → left ≡ [] → with_records form number flows left ≡ Ok flows
all_read form number flows left is = rw is refl
