use Rattle.std.proofs.Common.{◌≡◌, ◌-◌, List, ℕ, drop, length}
use Rattle.prl_plot.specs.Places.{at_bytes}
use Rattle.prl_plot.specs.Rows.{clock_of}
use Rattle.prl_plot.proofs.readings.clocks_of.Given as goal

-- the clocks of the last sensors, as many as were passed
abbrev pub invariant-loop-k : goal.invariant-loop-k
invariant-loop-k l = (name : List ℕ) → at_bytes l.table name ≡ clock_of (drop (length l.inputs - l.k) l.inputs) name
