use Rattle.std.proofs.Common.{◌≡◌, drop, map}
use Rattle.prl_body.specs.Checks.{output_values}
use Rattle.prl_body.specs.Codes.{expression_of}
use Rattle.prl_body.specs.Texts.{statement_tree}
use Rattle.prl_body.proofs.Lists.{added_to}
use Rattle.prl_body.proofs.checks.output_values.Given as goal

abbrev pub invariant-loop-port : goal.invariant-loop-port
invariant-loop-port l =
    added_to (map expression_of l.values.items) (output_values l.scope.ins l.scope.registers l.at (map statement_tree l.statements) (drop l.port-index l.outs))
    ≡ output_values l.scope.ins l.scope.registers l.at (map statement_tree l.statements) l.outs
