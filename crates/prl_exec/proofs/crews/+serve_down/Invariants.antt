use Rattle.std.specs.Prelude.{length, vec_items}
use Rattle.prl_exec.proofs.crews.«+serve_down».Given as goal

abbrev pub decreases-serve_down : goal.decreases-serve_down
decreases-serve_down g l = length (vec_items l.hands)
