use Rattle.prl_print.proofs.Printable.{reads_back}
use Rattle.prl_print.proofs.laws.printed_programs_are_read_back.Goals as goal

pub returns : goal.returns
returns c = reads_back
