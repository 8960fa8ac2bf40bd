-- What holds of the nodes and expressions of a program that is in range and whose names are right.
use Rattle.std.specs.Prelude.{◌≡◌, ◌<◌, ℕ, zero, suc, Bool, true, IsSome, List, length, None, Some}
use Rattle.prl_ast.specs.InRange.{IsInRange}
use Rattle.prl_ast.specs.Trees.{EquationTree, ProgramTree, Root, Tree, Trees}
use Rattle.prl_names.specs.Applications.{applied_equations, applied_in, applied_root, applied_trees, applies}
use Rattle.prl_names.specs.declared.lookups.Callee.TheVariants as callees
use Rattle.prl_names.specs.Lookups.{callee_of}
use Rattle.prl_expand.specs.code.Acts.{Act}
use Rattle.prl_names.specs.Named.{AreKnown, AreKnownEquations, IsKnown, IsKnownRoot, IsNamed}

-- the program is in range, and its names are right
pub record IsSound (p : ProgramTree) : Type 0 where
  pub main : ℕ
  pub named : IsNamed p main
  pub range : IsInRange p

-- this many levels suffice to enter the node: that of its own, and those of what it applies
abbrev pub MayEnter : ProgramTree → ℕ → ℕ → Type 0
MayEnter p zero k = ⊥
MayEnter p (suc levels) k = (j : ℕ) → applies p k j ≡ true → j < length p.nodes → MayEnter p levels j

-- they suffice to enter each node that is applied
abbrev pub MayApply : ProgramTree → ℕ → (ℕ → Bool) → Type 0
MayApply p levels applied = (j : ℕ) → applied j ≡ true → j < length p.nodes → MayEnter p levels j

-- names are known, and levels suffice
pub record Fits (p : ProgramTree) (levels : ℕ) (Known : Type 0) (applied : ℕ → Bool) : Type 0 where
  pub known : Known
  pub reach : MayApply p levels applied

abbrev pub TreeFits : ProgramTree → ℕ → ℕ → Tree → Type 0
TreeFits p levels k t = Fits p levels (IsKnown p k t) (λ j. applied_in p j t)

abbrev pub RootFits : ProgramTree → ℕ → ℕ → Root → Type 0
RootFits p levels k root = Fits p levels (IsKnownRoot p k root) (λ j. applied_root p j root)

abbrev pub TreesFit : ProgramTree → ℕ → ℕ → Trees → Type 0
TreesFit p levels k ts = Fits p levels (AreKnown p k ts) (λ j. applied_trees p j ts)

-- of a step, the expression that it ends
abbrev pub ActFits : ProgramTree → ℕ → ℕ → Act → Type 0
ActFits p levels k None = Unit {0}
ActFits p levels k (Some t) = TreeFits p levels k t

-- the equations of a node
abbrev pub EquationsFit : ProgramTree → ℕ → ℕ → List EquationTree → Type 0
EquationsFit p levels k es = Fits p levels (AreKnownEquations p k es) (λ j. applied_equations p j es)

-- the name that is applied is that of an import, or of a node for which the levels suffice
pub record CallFits (p : ProgramTree) (levels : ℕ) (name : List ℕ) : Type 0 where
  pub known : IsSome (callee_of p name)
  pub reach : (j : ℕ) → callee_of p name ≡ Some (callees.Node j) → MayEnter p levels j
