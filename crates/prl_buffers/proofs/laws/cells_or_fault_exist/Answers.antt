use Rattle.prl_buffers.proofs.SomeCells.{cells_or_fault}
use Rattle.prl_buffers.proofs.laws.cells_or_fault_exist.Goals as goal

pub returns : goal.returns
returns c = λ graph words windows well are dates. cells_or_fault graph words windows (record { well = well; are_words = are; dates = dates })
