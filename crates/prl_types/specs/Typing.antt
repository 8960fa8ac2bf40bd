-- What the check of names, arity and types answers.
use Rattle.std.specs.Prelude.{◌≡◌, ◌≢◌, ◌<◌, ◌+◌, ℕ, List, [], length, Option, Some, Result, Ok, Err, slice_get}
use Rattle.prl_base.specs.declared.values.Ty.{Ty}
use Rattle.prl_ast.specs.Trees.{NodeTree, ProgramTree}
use Rattle.prl_names.specs.declared.checks.NameFault.{NameFault}
use Rattle.prl_names.specs.declared.checks.NameFault.TheVariants as naming
use Rattle.prl_names.specs.Checks.{names_of}
use Rattle.prl_names.specs.Lookups.{params_of}
use Rattle.prl_types.specs.declared.faults.TypeFault.{TypeFault}
use Rattle.prl_types.specs.declared.faults.TypeFault.TheVariants as faults
use Rattle.prl_types.specs.Arity.{arity_faults, first_at}
use Rattle.prl_types.specs.Parameters.{Owned, parameters_of, count_of, first_of}
use Rattle.prl_types.specs.Rules.{rules_of}
use Rattle.prl_terms.specs.Solutions.{IsMismatch, IsFree, AreTypes}

-- nothing is wrong: this is the main node, and these are the only types that the rules allow
pub record IsTyped (p : ProgramTree) (main : Option (List ℕ)) (node : ℕ) (types : List Ty) : Type 0 where
  pub names : names_of p main ≡ Ok node
  pub arity : arity_faults p ≡ []
  pub only : AreTypes (rules_of p) (count_of p) types

-- nothing is wrong, whichever way main was asked for
pub record IsRight (p : ProgramTree) (node : ℕ) (types : List Ty) : Type 0 where
  pub main : Option (List ℕ)
  pub typed : IsTyped p main node types

-- the names are right, and this is the first byte with another number of flows than is needed
pub record HasArityFault (p : ProgramTree) (main : Option (List ℕ)) (at : ℕ) : Type 0 where
  pub node : ℕ
  pub names : names_of p main ≡ Ok node
  pub first : first_at (arity_faults p) ≡ Some at

-- names and arity are right, and this is the first rule that contradicts the earlier ones
pub record HasMismatch (p : ProgramTree) (main : Option (List ℕ)) (at : ℕ) (wanted found : Ty) : Type 0 where
  pub node : ℕ
  pub names : names_of p main ≡ Ok node
  pub arity : arity_faults p ≡ []
  pub first : IsMismatch (rules_of p) at wanted found

-- names and arity are right, and this is the first parameter whose type the rules leave open
pub record HasFreeType (p : ProgramTree) (main : Option (List ℕ)) (in_node name : List ℕ) : Type 0 where
  pub node : ℕ
  pub names : names_of p main ≡ Ok node
  pub arity : arity_faults p ≡ []
  pub number : ℕ
  pub first : IsFree (rules_of p) number
  pub owned : Owned
  pub is : slice_get (parameters_of p) number ≡ Some owned
  pub node_is : in_node ≡ owned.node
  pub name_is : name ≡ owned.param.name

-- exactly when each fault is told; no program is refused for want of memory
abbrev pub IsFault : ProgramTree → Option (List ℕ) → TypeFault → Type 0
IsFault p main (faults.Twice name) = names_of p main ≡ Err (naming.Twice name)
IsFault p main (faults.Unknown name) = names_of p main ≡ Err (naming.Unknown name)
IsFault p main (faults.Undefined name) = names_of p main ≡ Err (naming.Undefined name)
IsFault p main (faults.Recursive name) = names_of p main ≡ Err (naming.Recursive name)
IsFault p main faults.NoMain = names_of p main ≡ Err naming.NoMain
IsFault p main (faults.Arity at) = HasArityFault p main at
IsFault p main (faults.Mismatch at wanted found) = HasMismatch p main at wanted found
IsFault p main (faults.TypeFree node name) = HasFreeType p main node name
IsFault p main faults.Memory = ⊥

-- the program has this fault, unless it is want of memory, which may come at any program
abbrev pub FailsWith : ProgramTree → Option (List ℕ) → TypeFault → Type 0
FailsWith p main fault = fault ≢ faults.Memory → IsFault p main fault

-- a fault of names as a fault of this check
abbrev pub of_names : NameFault → TypeFault
of_names (naming.Twice name) = faults.Twice name
of_names (naming.Unknown name) = faults.Unknown name
of_names (naming.Undefined name) = faults.Undefined name
of_names (naming.Recursive name) = faults.Recursive name
of_names naming.NoMain = faults.NoMain
of_names naming.Memory = faults.Memory

-- the node of this index has a parameter of this number
pub record HasParameter (p : ProgramTree) (node param : ℕ) : Type 0 where
  pub tree : NodeTree
  pub is : slice_get p.nodes node ≡ Some tree
  pub below : param < length (params_of tree)

-- the type of a parameter of the node
abbrev pub IsTypeOf : ProgramTree → List Ty → ℕ → ℕ → Ty → Type 0
IsTypeOf p types node param ty = slice_get types (first_of p node + param) ≡ Some ty

-- what is right for a program: its main node and its types, or its fault
abbrev pub IsOutcome : ProgramTree → Option (List ℕ) → Result (ℕ × List Ty) TypeFault → Type 0
IsOutcome p main (Ok t) = IsTyped p main t.0 t.1
IsOutcome p main (Err fault) = IsFault p main fault
