-- The inputs of a flat program are flows of it.
use Rattle.prl_base.proofs.Standard.{◌≡◌, ◌<◌, ℕ, List, length, refl, get_or_default, slice_get_read, slice_get_within, slice_index_or}
use Rattle.prl_base.specs.declared.numbers.FlowNo.{FlowNo}
use Rattle.prl_flow.specs.Vocabulary.{FlatProgram, IsFlat}

pub input_flow : (p : FlatProgram) → IsFlat p → (ins : List FlowNo) → ins ≡ p.ins → (k : ℕ) (d : FlowNo) → k < length ins
    → (slice_index_or ins k d).0 < length p.flows
input_flow p flat ins e k d small =
    let x : FlowNo = slice_index_or ins k d in
    let (f, at, is) = flat.ins k x (rw (← e) (slice_get_read ins (length ins) k x refl small (get_or_default ins k d x small))) in
    slice_get_within p.flows x.0 f at
