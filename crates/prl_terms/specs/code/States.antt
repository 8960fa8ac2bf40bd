-- What is known once some rules were met.
use Rattle.std.specs.Prelude.{◌≡◌, ℕ, List, length}
use Rattle.prl_terms.specs.declared.terms.Rule.{Rule}
use Rattle.prl_terms.specs.declared.solving.Marks.{Marks}
use Rattle.prl_terms.specs.declared.progress.State.{State}
use Rattle.prl_terms.specs.declared.progress.State.TheVariants as states
use Rattle.prl_terms.specs.Choices.{FitRules}
use Rattle.prl_terms.specs.Solutions.{IsMismatch}
use Rattle.prl_terms.specs.code.Marks.{IsKept, Solves}

-- the marks of so many parameters solve the rules
pub record IsOpen (count : ℕ) (rules : List Rule) (marks : Marks) : Type 0 where
  pub kept : IsKept marks
  pub number : length marks.marks.items ≡ count
  pub solves : FitRules count rules → Solves rules marks.marks.items

abbrev pub HasState : ℕ → List Rule → Marks → State → Type 0
HasState count rules marks states.Open = IsOpen count rules marks
HasState count rules marks (states.Refused at wanted found) = FitRules count rules → IsMismatch rules at wanted found
HasState count rules marks states.Lost = Unit {0}
