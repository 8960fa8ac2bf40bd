use Rattle.prl_spots.proofs.Here.{read_whole, read_on}
use Rattle.prl_spots.proofs.unexpected.is_read_on.Goals.{in-Ok, in-Err-Memory, in-Err+then-is_other, in-Err+else-is_other}
use Rattle.prl_spots.proofs.unexpected.is_read_on.Goals as goal

pub returns : goal.returns
returns c = elim c.match-parse.branch [
  | in-Ok w ↦ rw w.result-is (read_whole c.args.text.now c.args.at _ w.in-Ok.ensures.found)
  | in-Err-Memory w ↦ rw w.result-is tt
  | in-Err+then-is_other w ↦
      rw w.result-is (read_on c.args.text.now c.args.at w.in-Err.fault w.in-Err.ensures.fault w.if-is_other.ensures.known w.if-is_other.ensures.other)
  | in-Err+else-is_other w ↦ rw w.result-is tt
]
