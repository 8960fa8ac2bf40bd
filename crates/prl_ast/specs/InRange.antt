-- Programs within the ranges and limits of the language, as the program of each text is.
use Rattle.std.specs.Prelude.{◌≤◌, ◌≤ℤ◌, ◌+◌, ℕ, pos, List, length, Option, Some, None}
use Rattle.std.specs.List.{AllByRecursion}
use Rattle.prl_base.specs.Names.{IsName}
use Rattle.prl_base.specs.Ratios.{Fraction, IsSmallFraction}
use Rattle.prl_base.specs.Values.{FitsValue}
use Rattle.prl_base.specs.declared.operators.Op.{Op}
use Rattle.prl_base.specs.declared.operators.Op.TheVariants as ops
use Rattle.prl_base.specs.declared.ratios.TheConstants.{MAX_PART}
use Rattle.prl_ast.specs.declared.declarations.Device.{Device}
use Rattle.prl_ast.specs.declared.declarations.Import.{Import}
use Rattle.prl_ast.specs.declared.declarations.Param.{Param}
use Rattle.prl_ast.specs.declared.declarations.Port.{Port}
use Rattle.prl_ast.specs.declared.declarations.Rate.{Rate}
use Rattle.prl_ast.specs.Trees.{Tree, tree, Root, const, var, apply, group, Trees, none, more, EquationTree, NodeTree, ProgramTree}

-- a factor, the period of a rate or a worst-case execution time
abbrev pub IsCount : ℕ → Type 0
IsCount n = (1 ≤ n) × (n ≤ MAX_PART)

-- a phase or a shift: reduced, small and not negative
abbrev pub IsShift : Fraction → Type 0
IsShift q = IsSmallFraction q × (pos 0 ≤ℤ q.num)

abbrev pub IsRate : Rate → Type 0
IsRate r = IsCount r.period × IsShift r.phase

abbrev pub IsDue : ℕ → Type 0
IsDue n = n ≤ MAX_PART

-- what holds of the value, where there is one
abbrev pub IfThere : {A : Type 0} → (A → Type 0) → Option A → Type 0
IfThere P None = Unit {0}
IfThere P (Some x) = P x

pub record IsParamInRange (p : Param) : Type 0 where
  pub name : IsName p.name
  pub rate : IfThere IsRate p.rate
  pub due : IfThere IsDue p.due

pub record IsImportInRange (i : Import) : Type 0 where
  pub name : IsName i.name
  pub ins : AllByRecursion (λ (p : Port). IsName p.name) i.ins
  pub outs : AllByRecursion (λ (p : Port). IsName p.name) i.outs
  pub some : 1 ≤ length i.outs
  pub wcet : IsCount i.wcet

abbrev pub IsDeviceInRange : Device → Type 0
IsDeviceInRange d = IsName d.name × IsCount d.wcet

-- an operator that stands before what it is applied to
abbrev pub IsPrefix : Op → Type 0
IsPrefix (ops.Fby value) = FitsValue value
IsPrefix (ops.Cons value) = FitsValue value
IsPrefix ops.Tail = Unit {0}
IsPrefix (ops.Up factor) = ⊥
IsPrefix (ops.Down factor) = ⊥
IsPrefix (ops.Shift ratio) = ⊥

-- one that stands after it
abbrev pub IsPostfix : Op → Type 0
IsPostfix (ops.Fby value) = ⊥
IsPostfix (ops.Cons value) = ⊥
IsPostfix ops.Tail = ⊥
IsPostfix (ops.Up factor) = IsCount factor
IsPostfix (ops.Down factor) = IsCount factor
IsPostfix (ops.Shift ratio) = IsShift ratio

-- after so many open parentheses, of which there are 64 at most; a group has a part
abbrev mutual
  pub IsTreeInRange : ℕ → Tree → Type 0
  IsTreeInRange d (tree pre root post at) =
      AllByRecursion (λ o. IsPrefix o.op) pre × IsRootInRange d root × AllByRecursion (λ o. IsPostfix o.op) post

  pub IsRootInRange : ℕ → Root → Type 0
  IsRootInRange d (const value) = FitsValue value
  IsRootInRange d (var name) = IsName name
  IsRootInRange d (apply name at args) = IsName name × (d + 1 ≤ 64) × AreTreesInRange (d + 1) args
  IsRootInRange d (group none) = ⊥
  IsRootInRange d (group (more t ts)) = (d + 1 ≤ 64) × IsTreeInRange (d + 1) t × AreTreesInRange (d + 1) ts

  pub AreTreesInRange : ℕ → Trees → Type 0
  AreTreesInRange d none = Unit {0}
  AreTreesInRange d (more t ts) = IsTreeInRange d t × AreTreesInRange d ts

pub record IsEquationInRange (e : EquationTree) : Type 0 where
  pub lefts : AllByRecursion (λ n. IsName n.name) e.lefts
  pub some : 1 ≤ length e.lefts
  pub right : IsTreeInRange 0 e.right

pub record IsNodeInRange (n : NodeTree) : Type 0 where
  pub name : IsName n.name
  pub ins : AllByRecursion IsParamInRange n.ins
  pub outs : AllByRecursion IsParamInRange n.outs
  pub some : 1 ≤ length n.outs
  pub locals : AllByRecursion IsParamInRange n.locals
  pub eqs : AllByRecursion IsEquationInRange n.eqs

pub record IsInRange (p : ProgramTree) : Type 0 where
  pub imports : AllByRecursion IsImportInRange p.imports
  pub sensors : AllByRecursion IsDeviceInRange p.sensors
  pub actuators : AllByRecursion IsDeviceInRange p.actuators
  pub nodes : AllByRecursion IsNodeInRange p.nodes
  pub few : length p.nodes ≤ 256
