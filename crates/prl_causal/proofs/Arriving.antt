-- How many arguments of applications are placed.
use Rattle.std.proofs.Common.{◌<◌, ℕ, Bool, true, List, length, set}
use Rattle.prl_flow.specs.Programs.{FlatProgram}
use Rattle.prl_causal.specs.code.Parts.{AreSeen}
use Rattle.prl_causal.proofs.Lists.{mark_kept}

pub seen_more : (p : FlatProgram) (marks : List Bool) (seen : List ℕ) (i : ℕ) → i < length marks → AreSeen p marks seen → AreSeen p (set marks i true) seen
seen_more p marks seen i below are = record { placed = λ k app found j low arg at. mark_kept marks i arg.flow.0 below (are.placed k app found j low arg at) }
