use Rattle.std.proofs.Common.{◌≡◌, take, drop, []}
use Rattle.prl_body.specs.NameChecks.{register_fault}
use Rattle.prl_body.proofs.names.register_fault.Given as goal

abbrev pub invariant-loop-k : goal.invariant-loop-k
invariant-loop-k l = register_fault l.scope.ins l.scope.outs (take l.k l.scope.registers) (drop l.k l.scope.registers) ≡ register_fault l.scope.ins l.scope.outs [] l.scope.registers
