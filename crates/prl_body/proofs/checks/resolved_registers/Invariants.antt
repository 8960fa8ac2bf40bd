use Rattle.std.proofs.Common.{◌≡◌, drop, map}
use Rattle.prl_body.specs.Vocabulary.{resolved_registers, register_tree, statement_tree}
use Rattle.prl_body.proofs.Lists.{added_to}
use Rattle.prl_body.proofs.checks.resolved_registers.Given as goal

abbrev pub invariant-loop-k : goal.invariant-loop-k
invariant-loop-k l =
    added_to (map register_tree l.resolved.items) (resolved_registers l.scope.ins l.scope.registers (map statement_tree l.statements) l.k (drop l.k l.scope.registers))
    ≡ resolved_registers l.scope.ins l.scope.registers (map statement_tree l.statements) 0 l.scope.registers
