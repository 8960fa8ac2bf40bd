use Rattle.std.proofs.Common.{◌≡◌, take, drop, [], map}
use Rattle.prl_body.specs.Vocabulary.{statement_fault, statement_tree}
use Rattle.prl_body.proofs.names.statement_fault.Given as goal

abbrev pub invariant-loop-k : goal.invariant-loop-k
invariant-loop-k l =
    statement_fault l.scope.ins l.scope.outs l.scope.registers (map statement_tree (take l.k l.statements)) (map statement_tree (drop l.k l.statements))
    ≡ statement_fault l.scope.ins l.scope.outs l.scope.registers [] (map statement_tree l.statements)
