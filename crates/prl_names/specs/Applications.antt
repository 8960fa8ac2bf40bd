-- Which node applies which, and the first that applies itself in the end.
use Rattle.std.specs.Prelude.{◌==◌, ◌||◌, ◌&&◌, ℕ, zero, suc, ◌+◌, Bool, false, IsTrue, List, [], ◌∷◌, length, slice_get, Option, Some, None, if◌then◌else◌}
use Rattle.prl_ast.specs.Trees.{Tree, tree, Root, const, var, apply, group, Trees, none, more, EquationTree, NodeTree, ProgramTree}
use Rattle.prl_names.specs.declared.lookups.Callee.{Callee}
use Rattle.prl_names.specs.declared.lookups.Callee.TheVariants as callees
use Rattle.prl_names.specs.Lookups.{callee_of}

abbrev pub is_node : ℕ → Option Callee → Bool
is_node node None = false
is_node node (Some (callees.Node k)) = k == node
is_node node (Some (callees.Import k)) = false

abbrev mutual
  -- whether an expression applies the node
  pub applied_in : ProgramTree → ℕ → Tree → Bool
  applied_in p node (tree pre root post at) = applied_root p node root

  pub applied_root : ProgramTree → ℕ → Root → Bool
  applied_root p node (const v) = false
  applied_root p node (var name) = false
  applied_root p node (apply name at args) = is_node node (callee_of p name) || applied_trees p node args
  applied_root p node (group parts) = applied_trees p node parts

  pub applied_trees : ProgramTree → ℕ → Trees → Bool
  applied_trees p node none = false
  applied_trees p node (more t ts) = applied_in p node t || applied_trees p node ts

abbrev pub applied_equations : ProgramTree → ℕ → List EquationTree → Bool
applied_equations p node [] = false
applied_equations p node (e ∷ es) = applied_in p node e.right || applied_equations p node es

abbrev pub applied_by : ProgramTree → ℕ → Option NodeTree → Bool
applied_by p node None = false
applied_by p node (Some by) = applied_equations p node by.eqs

-- whether the node at the first index applies that at the second
abbrev pub applies : ProgramTree → ℕ → ℕ → Bool
applies p by node = applied_by p node (slice_get p.nodes by)

-- one application after another leads from the first node to the second
pub data Reaches (p : ProgramTree) : ℕ → ℕ → Type 0 where
  once : (by node : ℕ) → IsTrue (applies p by node) → Reaches p by node
  then : (by middle node : ℕ) → IsTrue (applies p by middle) → Reaches p middle node → Reaches p by node

-- applications lead from the first node to the second, with none but the first `k` nodes between
unfoldable pub reaches_by : ProgramTree → ℕ → ℕ → ℕ → Bool
reaches_by p zero by node = applies p by node
reaches_by p (suc k) by node = reaches_by p k by node || (reaches_by p k by k && reaches_by p k k node)

abbrev pub reaches : ProgramTree → ℕ → ℕ → Bool
reaches p by node = reaches_by p (length p.nodes) by node

-- of these nodes, counted from an index, the first that reaches itself
abbrev pub recursive_from : ProgramTree → ℕ → List NodeTree → Option (List ℕ)
recursive_from p node [] = None
recursive_from p node (n ∷ ns) = if reaches p node node then Some n.name else recursive_from p (node + 1) ns

unfoldable pub recursive_of : ProgramTree → Option (List ℕ)
recursive_of p = recursive_from p 0 p.nodes
