use Rattle.prl_edf.proofs.BusyTicks.{all_units}
use Rattle.prl_edf.proofs.laws.pieces_have_all_units.Goals as goal

pub returns : goal.returns
returns c = all_units
