use Rattle.prl_base.proofs.Standard.{◌≡◌, List, take, vec_items, filter}
use Rattle.prl_plan.specs.Rules.{IsLegal}
use Rattle.prl_track.specs.declared.seen.Seen.{Seen}
use Rattle.prl_core.specs.Cores.{constants}
use Rattle.prl_replay.specs.Replays.{is_read, after_all, TellsAll}
use Rattle.prl_replay.proofs.replays.reads_of.Given as goal

-- the events so far kept the rules, and what they told
abbrev pub invariant-loop-i : goal.invariant-loop-i
invariant-loop-i l = record {
  legal : IsLegal (constants l.fn.core) l.fn.core.state (take l.i l.events);
  state : l.core ≡ after_all l.fn.core (take l.i l.events);
  told : (seens : List Seen) × TellsAll l.fn.core (take l.i l.events) seens × (vec_items l.reads ≡ filter is_read seens);
}
