-- The words of this crate that clauses and proofs use, from one place.
pub use Rattle.prl_terms.specs.Choices.{Choice, FitRules, FitsRule, FitsTerm, Meets, MeetsAll}
pub use Rattle.prl_terms.specs.Choices.{type_in}
pub use Rattle.prl_terms.specs.Solutions.{AreTypes, Contradicts, Explains, IsFree, IsMismatch}
pub use Rattle.prl_terms.specs.code.Marks.{AreApart, AreJoined, AreMembers, Follows}
pub use Rattle.prl_terms.specs.code.Marks.{IsApart, IsKept, IsReplaced, IsSettled, Refuses, Solves}
pub use Rattle.prl_terms.specs.code.Marks.{added, mark_of, members_at, replaced, resolved}
pub use Rattle.prl_terms.specs.code.States.{HasState, IsOpen}
pub use Rattle.prl_terms.specs.declared.progress.State.{State}
pub use Rattle.prl_terms.specs.declared.solving.Marks.{Marks}
pub use Rattle.prl_terms.specs.declared.solving.Unsolved.{Unsolved}
pub use Rattle.prl_terms.specs.declared.terms.Rule.{Rule}
pub use Rattle.prl_terms.specs.declared.terms.Term.{Term}
