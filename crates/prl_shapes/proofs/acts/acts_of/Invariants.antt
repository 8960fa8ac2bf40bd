use Rattle.std.proofs.Common.{◌≡◌, ◌≤◌, ◌++◌, drop}
use Rattle.prl_shapes.specs.Acts.{acts_from, acts_of}
use Rattle.prl_shapes.proofs.acts.acts_of.Given as goal

-- the acts so far and those of the events that are left are all acts
abbrev pub invariant-loop-event : goal.invariant-loop-event
invariant-loop-event l = record {
  told : l.acts.items ++ acts_from l.now l.acted.items (drop l.event-index l.events) ≡ acts_of l.events;
  small : l.now ≤ l.event-index;
}
