use Rattle.std.proofs.Common.{◌≡◌, take}
use Rattle.prl_causal.specs.Tables.{argument_values, table_of}
use Rattle.prl_evaluation.proofs.runs.read_arguments.Given as goal

abbrev pub invariant-loop-k : goal.invariant-loop-k
invariant-loop-k l = take l.k l.inputs ≡ take l.k (argument_values (table_of l.flows) l.args l.n)
