-- The first name that an equation uses and that stands for nothing, and the first flow that nothing defines.
use Rattle.std.specs.Prelude.{ℕ, ◌+◌, Bool, List, [], ◌∷◌, ◌++◌, map, Option, Some, None, if◌then◌else◌}
use Rattle.std.specs.Option.{is_some}
use Rattle.prl_ast.specs.declared.declarations.Param.{Param}
use Rattle.prl_ast.specs.declared.declarations.Placed.{Placed}
use Rattle.prl_ast.specs.Trees.{Tree, tree, Root, const, var, apply, group, Trees, none, more, EquationTree, NodeTree, ProgramTree}
use Rattle.prl_names.specs.Lookups.{param_at, callee_of}
use Rattle.prl_names.specs.Repeats.{is_among, lefts_of}

-- the first name of two
abbrev pub either_name : Option (List ℕ) → Option (List ℕ) → Option (List ℕ)
either_name None other = other
either_name (Some name) other = Some name

abbrev pub unless : Bool → List ℕ → Option (List ℕ)
unless known name = if known then None else Some name

-- of a flow of the node at an index of the list of nodes
abbrev pub unknown_flow : ProgramTree → ℕ → List ℕ → Option (List ℕ)
unknown_flow p node name = unless (is_some (param_at p node name)) name

abbrev pub unknown_callee : ProgramTree → List ℕ → Option (List ℕ)
unknown_callee p name = unless (is_some (callee_of p name)) name

abbrev mutual
  -- the first name of an expression, in the order of the text, that is no flow of the node, or applied and no node or import
  pub unknown_in : ProgramTree → ℕ → Tree → Option (List ℕ)
  unknown_in p node (tree pre root post at) = unknown_root p node root

  pub unknown_root : ProgramTree → ℕ → Root → Option (List ℕ)
  unknown_root p node (const v) = None
  unknown_root p node (var name) = unknown_flow p node name
  unknown_root p node (apply name at args) = either_name (unknown_callee p name) (unknown_trees p node args)
  unknown_root p node (group parts) = unknown_trees p node parts

  pub unknown_trees : ProgramTree → ℕ → Trees → Option (List ℕ)
  unknown_trees p node none = None
  unknown_trees p node (more t ts) = either_name (unknown_in p node t) (unknown_trees p node ts)

abbrev pub unknown_lefts : ProgramTree → ℕ → List Placed → Option (List ℕ)
unknown_lefts p node [] = None
unknown_lefts p node (l ∷ ls) = either_name (unknown_flow p node l.name) (unknown_lefts p node ls)

-- an equation uses its left names too
abbrev pub unknown_equations : ProgramTree → ℕ → List EquationTree → Option (List ℕ)
unknown_equations p node [] = None
unknown_equations p node (e ∷ es) =
    either_name (unknown_lefts p node e.lefts) (either_name (unknown_in p node e.right) (unknown_equations p node es))

-- of these nodes, counted from an index
abbrev pub unknown_from : ProgramTree → ℕ → List NodeTree → Option (List ℕ)
unknown_from p node [] = None
unknown_from p node (n ∷ ns) = either_name (unknown_equations p node n.eqs) (unknown_from p (node + 1) ns)

unfoldable pub unknown_of : ProgramTree → Option (List ℕ)
unknown_of p = unknown_from p 0 p.nodes

-- the first of the parameters whose name is not known
abbrev pub absent_by : (List ℕ → Bool) → List Param → Option (List ℕ)
absent_by known [] = None
absent_by known (p ∷ ps) = either_name (unless (known p.name) p.name) (absent_by known ps)

-- the first of the parameters whose name is not among the names
abbrev pub absent_from : List (List ℕ) → List Param → Option (List ℕ)
absent_from names params = absent_by (is_among names) params

abbrev pub left_names : NodeTree → List (List ℕ)
left_names node = map (λ (l : Placed). l.name) (lefts_of node)

-- the first output or local without an equation
abbrev pub undefined_in : NodeTree → Option (List ℕ)
undefined_in node = absent_from (left_names node) (node.outs ++ node.locals)

abbrev pub undefined_among : List NodeTree → Option (List ℕ)
undefined_among [] = None
undefined_among (n ∷ ns) = either_name (undefined_in n) (undefined_among ns)

unfoldable pub undefined_of : ProgramTree → Option (List ℕ)
undefined_of p = undefined_among p.nodes
