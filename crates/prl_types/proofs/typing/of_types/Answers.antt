use Rattle.prl_ast.specs.Trees.{program_tree}
use Rattle.prl_types.proofs.Opening.{open_fault, owned_read}
use Rattle.prl_types.proofs.typing.of_types.Goals as goal

pub returns-in-Ok : goal.returns-in-Ok
returns-in-Ok c = λ main node names.
    let p = program_tree c.args.context.now in
    let free = rw c.in-Free.is at c.requires.fault in
    let q = c.index-parameters-k.result in
    open_fault p main node names c.requires.arity c.in-Free.k free.1 q
    (owned_read p c.parameters.result.now c.in-Free.k q c.parameters.ensures free.0 c.index-parameters-k.is) c.in-Ok.fault c.in-Ok.ensures
