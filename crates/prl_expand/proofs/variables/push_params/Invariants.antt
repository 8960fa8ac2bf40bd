use Rattle.std.proofs.Common.{◌≡◌, ◌++◌, drop, map}
use Rattle.prl_expand.specs.code.Variables.{param_of}
use Rattle.prl_expand.proofs.variables.push_params.Given as goal

abbrev pub invariant-loop-param : goal.invariant-loop-param
invariant-loop-param l = map param_of l.list.items ++ drop l.param-index l.params ≡ map param_of l.initial.list.items ++ l.params
