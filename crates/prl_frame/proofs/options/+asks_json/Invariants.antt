use Rattle.prl_base.proofs.Standard.{length}
use Rattle.prl_frame.proofs.options.+asks_json.Given as goal

abbrev pub decreases-asks_json : goal.decreases-asks_json
decreases-asks_json l = length l.words.now
