use Rattle.std.proofs.Common.{◌++◌, ◌∙◌, ap, map}
use Rattle.prl_ast.specs.Trees.{node_tree}
use Rattle.prl_names.specs.Lookups.{params_of}
use Rattle.prl_expand.specs.Vocabulary.{flows_of, def_of, variables_made}
use Rattle.prl_expand.proofs.nodes.push_node.Goals as goal

pub returns-clause-flows : goal.returns-clause-flows
returns-clause-flows c =
    c.in_ok-finish.ensures.flows ∙ ap (λ xs. xs ++ c.args.inner.flows.items)
    (c.in_ok-push_variables.ensures ∙ ap (λ ds. c.args.made.now.flows.items ++ flows_of (variables_made c.args.label.now (params_of (node_tree c.args.node.now)) c.args.terms.now ds))
    (ap (map def_of) c.as_slice.ensures.value ∙ c.in_ok-defs.ensures))
