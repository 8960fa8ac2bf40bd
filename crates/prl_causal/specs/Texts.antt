-- Which annotations are those of the text of a node: one thing for each place, and of each node that is entered the whole
-- text of that node.
use Rattle.std.specs.Prelude.{◌≡◌, ℕ, List, [], ◌∷◌, length, Option, Some, None, slice_get}
use Rattle.prl_ast.specs.declared.declarations.Import.{Import}
use Rattle.prl_ast.specs.Trees.{Tree, tree, Root, const, var, apply, group, Trees, none, more, EquationTree, NodeTree, ProgramTree}
use Rattle.prl_names.specs.declared.lookups.Callee.{Callee}
use Rattle.prl_names.specs.declared.lookups.Callee.TheVariants as callees
use Rattle.prl_names.specs.Lookups.{callee_of}
use Rattle.prl_causal.specs.Annotations.{Entered, entered, Rights, done, next, Part, part, Core, Parts}
use Rattle.prl_causal.specs.Annotations as notes

-- the number of the node that is applied
abbrev pub node_of : Option Callee → ℕ
node_of None = 0
node_of (Some (callees.Node k)) = k
node_of (Some (callees.Import k)) = 0

-- a node is applied, and it is in the program
abbrev pub IsNodeCall : Option Callee → Type 0
IsNodeCall None = ⊥
IsNodeCall (Some (callees.Node k)) = Unit {0}
IsNodeCall (Some (callees.Import k)) = ⊥

-- an import is applied, with this many outputs
abbrev pub IsImportCall : ProgramTree → ℕ → Option Callee → Type 0
IsImportCall p count None = ⊥
IsImportCall p count (Some (callees.Node k)) = ⊥
IsImportCall p count (Some (callees.Import k)) = (i : Import) × (slice_get p.imports k ≡ Some i) × (count ≡ length i.outs)

-- so many inputs, outputs and locals
abbrev pub HasVariables : Option NodeTree → ℕ → ℕ → ℕ → Type 0
HasVariables None ins outs locals = ⊥
HasVariables (Some n) ins outs locals = (ins ≡ length n.ins) × (outs ≡ length n.outs) × (locals ≡ length n.locals)

-- the node of this number; where there is none, one of nothing
abbrev pub node_or : Option NodeTree → NodeTree
node_or None = record { name = []; ins = []; outs = []; locals = []; eqs = []; at = record { at = 0; len = 0 } }
node_or (Some n) = n

abbrev pub node_at : ProgramTree → ℕ → NodeTree
node_at p k = node_or (slice_get p.nodes k)

abbrev mutual
  -- the text of the node of this number
  pub IsText : {F R N : Type 0} → ProgramTree → ℕ → Entered F R N → Type 0
  IsText p k (entered ins outs locals rights) =
      HasVariables (slice_get p.nodes k) (length ins) (length outs) (length locals) × AreRights p (node_at p k).eqs rights

  pub AreRights : {F R N : Type 0} → ProgramTree → List EquationTree → Rights F R N → Type 0
  AreRights p [] done = Unit {0}
  AreRights p [] (next q rest) = ⊥
  AreRights p (e ∷ es) done = ⊥
  AreRights p (e ∷ es) (next q rest) = IsPart p e.right q × AreRights p es rest

  pub IsPart : {F R N : Type 0} → ProgramTree → Tree → Part F R N → Type 0
  IsPart p (tree pre root post at) (part pres core posts) = (length pres ≡ length pre) × IsCore p root core × (length posts ≡ length post)

  pub IsCore : {F R N : Type 0} → ProgramTree → Root → Core F R N → Type 0
  IsCore p (const v) (notes.constant f) = Unit {0}
  IsCore p (var name) notes.name = Unit {0}
  IsCore p (apply name at args) (notes.import parts r outs) = IsImportCall p (length outs) (callee_of p name) × AreParts p args parts
  IsCore p (apply name at args) (notes.node parts n child) =
      IsNodeCall (callee_of p name) × AreParts p args parts × IsText p (node_of (callee_of p name)) child
  IsCore p (group args) (notes.group parts) = AreParts p args parts
  IsCore p _ _ = ⊥

  pub AreParts : {F R N : Type 0} → ProgramTree → Trees → Parts F R N → Type 0
  AreParts p none notes.none = Unit {0}
  AreParts p none (notes.more q rest) = ⊥
  AreParts p (more t ts) notes.none = ⊥
  AreParts p (more t ts) (notes.more q rest) = IsPart p t q × AreParts p ts rest
