use Rattle.std.proofs.Common.{◌≡◌, ◌++◌, replicate}
use Rattle.prl_plan.specs.declared.events.Event.TheVariants as kinds
use Rattle.prl_edf.proofs.unrolling.push_ticks.Given as goal

-- the ticks so far
abbrev pub invariant-loop : goal.invariant-loop
invariant-loop l = l.events.items ≡ l.fn.events.items ++ replicate l.counter kinds.Tick
