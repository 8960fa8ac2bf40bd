use Rattle.std.proofs.Common.{arith, ap, sym, ◌∙◌, ◌+◌}
use Rattle.prl_ast.specs.Trees.{program_tree}
use Rattle.prl_terms.specs.declared.terms.Term.TheVariants as terms
use Rattle.prl_types.specs.Parameters.{parameter_or}
use Rattle.prl_types.proofs.Declared.{IsOfNode, param_inside, number_fits, listed_first}
use Rattle.prl_types.proofs.contexts.Context.named.Goals as goal

inside : (c : goal.After-row_known-1) → IsOfNode (program_tree c.self.inside.names.now) c.args.node c.in-Some.k
inside c = param_inside (program_tree c.self.inside.names.now) c.args.node c.args.name.now c.in-Some.k (sym c.in-Some.ensures)

pub overflow_add-result : goal.overflow_add-result
overflow_add-result c =
    let p = program_tree c.self.inside.names.now in
    let listed = listed_first p c.self.inside.parameters.items c.self.inside.firsts.items c.self.invariant in
    omega (arith, listed.total, listed.firsts_are c.args.node c.index.result.now (inside c).inside, c.index.ensures, number_fits p c.args.node c.in-Some.k (inside c), c.self.inside.parameters.small)

pub returns-in-Some : goal.returns-in-Some
returns-in-Some c =
    let p = program_tree c.self.inside.names.now in
    let listed = listed_first p c.self.inside.parameters.items c.self.inside.firsts.items c.self.invariant in
    let first = c.index.ensures ∙ listed.firsts_are c.args.node c.index.result.now (inside c).inside in
    rw (← c.self.view_is) (ap (λ n. terms.Parameter (n + c.in-Some.k)) first ∙ ap (parameter_or p c.args.node) c.in-Some.ensures)
