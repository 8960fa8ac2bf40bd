-- The parameters of a program as the code lists them.
use Rattle.std.specs.Prelude.{◌≡◌, ◌<◌, ℕ, List, map, length, slice_index_or, take}
use Rattle.prl_ast.specs.Trees.{NodeTree, ProgramTree}
use Rattle.prl_types.specs.declared.contexts.Parameter.{Parameter}
use Rattle.prl_types.specs.Parameters.{Owned, all_owned, first_of}

abbrev pub owned_of : Parameter → Owned
owned_of q = record { node = q.node.now; param = q.param.now }

-- the parameters of so many nodes from the first on, and the number of the first parameter of each
pub record AreListed (parameters : List Parameter) (firsts : List ℕ) (nodes : List NodeTree) (count : ℕ) : Type 0 where
  pub list : map owned_of parameters ≡ all_owned (take count nodes)
  pub number : length firsts ≡ count
  pub first : (k : ℕ) → k < count → slice_index_or firsts k 0 ≡ length (all_owned (take k nodes))

abbrev pub AreParameters : List Parameter → List ℕ → ProgramTree → Type 0
AreParameters parameters firsts p = AreListed parameters firsts p.nodes (length p.nodes)

-- the number of the first parameter of each node
pub record AreFirsts (firsts : List ℕ) (p : ProgramTree) : Type 0 where
  pub number : length firsts ≡ length p.nodes
  pub first : (k : ℕ) → k < length p.nodes → slice_index_or firsts k 0 ≡ first_of p k
