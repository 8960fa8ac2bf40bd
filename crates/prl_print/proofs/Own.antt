-- What holds of the program of each text: it is in range, and its names are no keywords.
use Rattle.prl_base.proofs.Standard.{◌≡◌, List, [], ◌∷◌, None, ℕ, AllByRecursion}
use Rattle.prl_base.specs.Names.{IsName}
use Rattle.prl_ast.specs.Vocabulary.{IsParamInRange, IsImportInRange, IsCount, IsTreeInRange, AreTreesInRange, IsEquationInRange, IsNodeInRange, Tree, Root, const, var, apply, group, Trees, none}
use Rattle.prl_ast.specs.Vocabulary.{more, EquationTree, NodeTree, ProgramTree}
use Rattle.prl_ast.specs.declared.declarations.Device.{Device}
use Rattle.prl_ast.specs.declared.declarations.Import.{Import}
use Rattle.prl_ast.specs.declared.declarations.Param.{Param}
use Rattle.prl_ast.specs.declared.declarations.Placed.{Placed}
use Rattle.prl_ast.specs.declared.declarations.Port.{Port}
use Rattle.prl_ast.specs.Trees.{tree}
use Rattle.prl_syntax.specs.Words.{keyword_of}

abbrev pub IsOwnName : List ℕ → Type 0
IsOwnName name = IsName name × (keyword_of name ≡ None)

abbrev pub IsOwnPort : Port → Type 0
IsOwnPort p = IsOwnName p.name

abbrev pub IsOwnPlaced : Placed → Type 0
IsOwnPlaced n = IsOwnName n.name

abbrev pub IsOwnParam : Param → Type 0
IsOwnParam p = IsParamInRange p × IsOwnName p.name

pub record IsOwnImport (i : Import) : Type 0 where
  pub range : IsImportInRange i
  pub name : IsOwnName i.name
  pub ins : AllByRecursion IsOwnPort i.ins
  pub outs : AllByRecursion IsOwnPort i.outs

abbrev pub IsOwnDevice : Device → Type 0
IsOwnDevice d = IsOwnName d.name × IsCount d.wcet

-- no name in it is a keyword
abbrev mutual
  pub IsFreeTree : Tree → Type 0
  IsFreeTree (tree pre root post at) = IsFreeRoot root

  pub IsFreeRoot : Root → Type 0
  IsFreeRoot (const value) = Unit {0}
  IsFreeRoot (var name) = keyword_of name ≡ None
  IsFreeRoot (apply name at args) = (keyword_of name ≡ None) × AreFreeTrees args
  IsFreeRoot (group parts) = AreFreeTrees parts

  pub AreFreeTrees : Trees → Type 0
  AreFreeTrees none = Unit {0}
  AreFreeTrees (more t ts) = IsFreeTree t × AreFreeTrees ts

abbrev pub IsOwnTree : ℕ → Tree → Type 0
IsOwnTree d t = IsTreeInRange d t × IsFreeTree t

abbrev pub AreOwnTrees : ℕ → Trees → Type 0
AreOwnTrees d ts = AreTreesInRange d ts × AreFreeTrees ts

pub record IsOwnEquation (e : EquationTree) : Type 0 where
  pub range : IsEquationInRange e
  pub lefts : AllByRecursion IsOwnPlaced e.lefts
  pub right : IsFreeTree e.right

pub record IsOwnNode (n : NodeTree) : Type 0 where
  pub range : IsNodeInRange n
  pub name : IsOwnName n.name
  pub ins : AllByRecursion IsOwnParam n.ins
  pub outs : AllByRecursion IsOwnParam n.outs
  pub locals : AllByRecursion IsOwnParam n.locals
  pub eqs : AllByRecursion IsOwnEquation n.eqs

abbrev pub AreOwn : ProgramTree → Type 0
AreOwn p = AllByRecursion IsOwnImport p.imports × AllByRecursion IsOwnDevice p.sensors × AllByRecursion IsOwnDevice p.actuators × AllByRecursion IsOwnNode p.nodes

pub all_of : {A : Type 0} {P Q : A → Type 0} → ((x : A) → P x → Q x) → (xs : List A) → AllByRecursion P xs → AllByRecursion Q xs
all_of f [] h = tt
all_of f (x ∷ xs) h = (f x h.0, all_of f xs h.1)
