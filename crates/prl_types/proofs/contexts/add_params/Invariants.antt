use Rattle.std.proofs.Common.{◌≡◌, ◌++◌, map, drop}
use Rattle.prl_types.specs.code.Contexts.{owned_of}
use Rattle.prl_types.specs.Parameters.{owned}
use Rattle.prl_types.proofs.contexts.add_params.Given as goal

abbrev pub invariant-loop-param : goal.invariant-loop-param
invariant-loop-param l = map owned_of l.parameters.items ++ map (owned l.node) (drop l.param-index l.params) ≡ map owned_of l.initial.parameters.items ++ map (owned l.node) l.params
