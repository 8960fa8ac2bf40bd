use Rattle.std.proofs.Common.{◌≡◌, drop, map}
use Rattle.prl_body.specs.Vocabulary.{typed_statements, statement_tree}
use Rattle.prl_body.proofs.checks.check_statements.Given as goal

abbrev pub invariant-loop-statement : goal.invariant-loop-statement
invariant-loop-statement l =
    typed_statements l.scope.ins l.scope.outs l.scope.registers (map statement_tree (drop l.statement-index l.statements))
    ≡ typed_statements l.scope.ins l.scope.outs l.scope.registers (map statement_tree l.statements)
