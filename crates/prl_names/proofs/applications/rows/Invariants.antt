use Rattle.std.proofs.Common.{◌≡◌, length}
use Rattle.prl_ast.specs.Trees.{program_tree}
use Rattle.prl_names.specs.Marks.{AreRows}
use Rattle.prl_names.proofs.applications.rows.Given as goal

abbrev pub invariant-loop-k : goal.invariant-loop-k
invariant-loop-k l = record { rows : AreRows (program_tree l.names) 0 0 l.rows.items; len : length l.rows.items ≡ l.k }
