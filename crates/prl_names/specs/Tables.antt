-- Tables of the indices of names.
use Rattle.std.specs.Prelude.{◌≡◌, ℕ, List, [], ◌∷◌, Option}
use Rattle.std.specs.BTreeMap.{BTreeMap, get_by}
use Rattle.std.specs.Cmp.Lexicographic.{slice_cmp}
use Rattle.std.specs.Ordering.{nat_cmp}
use denote.Ref.{Bor}
use Rattle.prl_ast.specs.Trees.{NodeTree, ProgramTree}
use Rattle.prl_names.specs.Lookups.{index_of, param_names, node_names, import_names}

abbrev pub found : BTreeMap (Bor (List ℕ)) ℕ → List ℕ → Option ℕ
found table name = get_by (λ k. slice_cmp nat_cmp name k.now) table

-- the table has the index of each of the names
abbrev pub AreIndices : BTreeMap (Bor (List ℕ)) ℕ → List (List ℕ) → Type 0
AreIndices table names = (name : List ℕ) → found table name ≡ index_of names name

-- each node has its table
abbrev pub AreParams : List (BTreeMap (Bor (List ℕ)) ℕ) → List NodeTree → Type 0
AreParams [] [] = Unit {0}
AreParams [] (n ∷ ns) = ⊥
AreParams (t ∷ ts) [] = ⊥
AreParams (t ∷ ts) (n ∷ ns) = AreIndices t (param_names n) × AreParams ts ns

-- the tables of a program
pub record AreTables (nodes imports : BTreeMap (Bor (List ℕ)) ℕ) (params : List (BTreeMap (Bor (List ℕ)) ℕ)) (p : ProgramTree) : Type 0 where
  pub nodes_are : AreIndices nodes (node_names p)
  pub imports_are : AreIndices imports (import_names p)
  pub params_are : AreParams params p.nodes
