use Rattle.std.proofs.Common.{subst}
use Rattle.prl_track.specs.Tracks.{IsNext}
use Rattle.prl_core.specs.Cores.{CoreView, constants}
use Rattle.prl_core.proofs.cores.Core.next.Goals as goal

pub returns : goal.returns
returns c = subst (λ (v : CoreView). IsNext (constants v) v.state c.next.result) c.self.view_is c.next.ensures
