-- What the expansion of a program answers.
use Rattle.std.specs.Prelude.{◌≡◌, ◌<◌, ◌≤◌, ◌+◌, ℕ, List, length}
use Rattle.prl_ast.specs.Trees.{ProgramTree}
use Rattle.prl_base.specs.declared.limits.What.TheVariants as what
use Rattle.prl_base.specs.declared.values.Ty.{Ty}
use Rattle.prl_causal.specs.Annotations.{flows_in}
use Rattle.prl_expand.specs.Expansions.{Expansion, IsExpansion}
use Rattle.prl_expand.specs.Flats.{flat_of}
use Rattle.prl_flow.specs.Programs.{FlatProgram}
use Rattle.prl_expand.specs.declared.counts.TheConstants.{MAX_FLOWS}
use Rattle.prl_expand.specs.declared.counts.ExpandFault.{ExpandFault}
use Rattle.prl_expand.specs.declared.counts.ExpandFault.TheVariants as faults

-- the flat program of the program's expansion, which has no more flows than the limit
pub record IsExpanded (p : ProgramTree) (main : ℕ) (types : List Ty) (flat : FlatProgram) : Type 0 where
  pub expansion : Expansion
  pub is : IsExpansion p main expansion
  pub few : length (flows_in expansion) ≤ MAX_FLOWS
  pub flat_is : flat ≡ flat_of p types main expansion

-- the program's expansion has more flows than the limit, which are counted up to the first past it
pub record IsPastLimit (p : ProgramTree) (main : ℕ) : Type 0 where
  pub expansion : Expansion
  pub is : IsExpansion p main expansion
  pub many : MAX_FLOWS < length (flows_in expansion)

abbrev pub IsExpandFault : ProgramTree → ℕ → ExpandFault → Type 0
IsExpandFault p main (faults.Limit limit) = (limit ≡ record { what = what.Flows; found = MAX_FLOWS + 1 }) × IsPastLimit p main
IsExpandFault p main faults.Memory = Unit {0}
