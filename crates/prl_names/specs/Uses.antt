-- The imports that the expansion of a node applies.
use Rattle.std.specs.Prelude.{◌==◌, ◌||◌, ℕ, ◌+◌, ◌++◌, Bool, List, [], ◌∷◌, if◌then◌else◌}
use Rattle.std.specs.List.{flat_map}
use Rattle.std.specs.Option.{is_some}
use Rattle.prl_ast.specs.declared.declarations.Import.{Import}
use Rattle.prl_ast.specs.Trees.{Tree, tree, Root, const, var, apply, group, Trees, none, more, EquationTree, NodeTree, ProgramTree}
use Rattle.prl_names.specs.Lookups.{index_of}
use Rattle.prl_names.specs.Applications.{reaches}

abbrev mutual
  -- the names that an expression applies, in the order of the text
  pub applied_names : Tree → List (List ℕ)
  applied_names (tree pre root post at) = root_names root

  pub root_names : Root → List (List ℕ)
  root_names (const v) = []
  root_names (var name) = []
  root_names (apply name at args) = name ∷ all_applied args
  root_names (group parts) = all_applied parts

  pub all_applied : Trees → List (List ℕ)
  all_applied none = []
  all_applied (more t ts) = applied_names t ++ all_applied ts

-- the names that a node applies
abbrev pub node_applied : NodeTree → List (List ℕ)
node_applied n = flat_map (λ (e : EquationTree). applied_names e.right) n.eqs

-- the node of this number is main, or main reaches it
abbrev pub is_expanded : ProgramTree → ℕ → ℕ → Bool
is_expanded p main k = (k == main) || reaches p main k

-- the names that main and the nodes that it reaches apply, where these nodes are counted from k
abbrev pub expanded_from : ProgramTree → ℕ → ℕ → List NodeTree → List (List ℕ)
expanded_from p main k [] = []
expanded_from p main k (n ∷ ns) =
    if is_expanded p main k then node_applied n ++ expanded_from p main (k + 1) ns else expanded_from p main (k + 1) ns

abbrev pub expanded_names : ProgramTree → ℕ → List (List ℕ)
expanded_names p main = expanded_from p main 0 p.nodes

-- of these imports, the names of those that are applied
abbrev pub used_among : List (List ℕ) → List Import → List (List ℕ)
used_among applied [] = []
used_among applied (i ∷ is) = if is_some (index_of applied i.name) then i.name ∷ used_among applied is else used_among applied is

-- the imports that main's expansion applies, in the order of their declarations
abbrev pub used_imports : ProgramTree → ℕ → List (List ℕ)
used_imports p main = used_among (expanded_names p main) p.imports
