-- Where, in bytes, there is another number of flows than is needed, in the order of the text.
use Rattle.std.specs.Prelude.{ℕ, ◌+◌, ◌==◌, List, [], ◌∷◌, ◌++◌, length, nat_lt, Option, Some, None, if◌then◌else◌}
use Rattle.prl_ast.specs.declared.expressions.PlacedOp.{PlacedOp}
use Rattle.prl_ast.specs.Trees.{Tree, tree, Root, const, var, apply, group, Trees, none, more, EquationTree, NodeTree, ProgramTree}
use Rattle.prl_names.specs.Lookups.{callee_of}
use Rattle.prl_types.specs.Flows.{inputs_of, flows_of, root_flows, all_flows}

abbrev pub unless_equal : ℕ → ℕ → ℕ → List ℕ
unless_equal found needed at = if found == needed then [] else (at ∷ [])

-- where the operator stands that is next to what stands after the prefixes
abbrev pub last_at : ℕ → List PlacedOp → ℕ
last_at at [] = at
last_at at (o ∷ os) = last_at o.at.at os

-- An operator gives one flow, so that only the innermost one can be of another number: the first postfix, or where there
-- is none the last prefix.
abbrev pub prefix_fault : ℕ → List PlacedOp → List PlacedOp → List ℕ
prefix_fault found [] post = []
prefix_fault found (o ∷ pre) [] = unless_equal found 1 (last_at o.at.at pre)
prefix_fault found (o ∷ pre) (q ∷ post) = []

abbrev pub postfix_fault : ℕ → List PlacedOp → List ℕ
postfix_fault found [] = []
postfix_fault found (q ∷ post) = unless_equal found 1 q.at.at

abbrev mutual
  pub faults_in : ProgramTree → ℕ → Tree → List ℕ
  faults_in p node (tree pre root post at) =
      prefix_fault (length (root_flows p node root)) pre post ++ root_faults p node root ++ postfix_fault (length (root_flows p node root)) post

  pub root_faults : ProgramTree → ℕ → Root → List ℕ
  root_faults p node (const v) = []
  root_faults p node (var name) = []
  root_faults p node (apply name at args) = unless_equal (length (all_flows p node args)) (length (inputs_of p (callee_of p name))) at.at ++ all_faults p node args
  root_faults p node (group parts) = all_faults p node parts

  pub all_faults : ProgramTree → ℕ → Trees → List ℕ
  all_faults p node none = []
  all_faults p node (more t ts) = faults_in p node t ++ all_faults p node ts

abbrev pub equation_faults : ProgramTree → ℕ → EquationTree → List ℕ
equation_faults p node e = unless_equal (length (flows_of p node e.right)) (length e.lefts) e.at.at ++ faults_in p node e.right

abbrev pub equations_faults : ProgramTree → ℕ → List EquationTree → List ℕ
equations_faults p node [] = []
equations_faults p node (e ∷ es) = equation_faults p node e ++ equations_faults p node es

-- of these nodes, the first of which stands at this index of the list of nodes
abbrev pub nodes_faults : ProgramTree → ℕ → List NodeTree → List ℕ
nodes_faults p node [] = []
nodes_faults p node (n ∷ ns) = equations_faults p node n.eqs ++ nodes_faults p (node + 1) ns

unfoldable pub arity_faults : ProgramTree → List ℕ
arity_faults p = nodes_faults p 0 p.nodes

abbrev pub first_at : List ℕ → Option ℕ
first_at [] = None
first_at (at ∷ ats) = Some at

-- a number as the code counts: none past 64 bits
abbrev pub counted : ℕ → Option ℕ
counted n = if nat_lt n 18446744073709551616 then Some n else None
