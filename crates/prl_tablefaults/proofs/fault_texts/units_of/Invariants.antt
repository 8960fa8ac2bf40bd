use Rattle.std.specs.Prelude.{◌≡◌, ◌+◌, drop}
use Rattle.prl_tables.specs.Tables.{units_of}
use Rattle.prl_tablefaults.proofs.fault_texts.units_of.Given as goal

-- the units so far, and those of the entries that are left, are all
abbrev pub invariant-loop-k : goal.invariant-loop-k
invariant-loop-k l = l.sum + units_of (drop l.k l.entries) l.i.0 l.c ≡ units_of l.entries l.i.0 l.c
