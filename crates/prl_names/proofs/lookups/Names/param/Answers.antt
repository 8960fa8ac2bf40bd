use Rattle.prl_ast.specs.Trees.{program_tree}
use Rattle.prl_names.proofs.Params.{param_found}
use Rattle.prl_names.proofs.lookups.Names.param.Goals as goal

pub returns : goal.returns
returns c =
    let tree = program_tree c.self.inside.program.now in
    rw (c.param_in.ensures, c.as_slice.ensures.value, ← c.self.view_is)
    (param_found c.self.inside.params.items tree.nodes c.args.node c.args.name.now c.self.invariant.params_are)
