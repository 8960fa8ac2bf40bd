-- Types that are sought: a choice gives each parameter of the program a type, and meets some rules.
use Rattle.std.specs.Prelude.{◌≡◌, ◌<◌, ℕ, List, [], ◌∷◌}
use Rattle.prl_base.specs.declared.values.Ty.{Ty}
use Rattle.prl_terms.specs.declared.terms.Term.{Term}
use Rattle.prl_terms.specs.declared.terms.Term.TheVariants as terms
use Rattle.prl_terms.specs.declared.terms.Rule.{Rule}

-- a type for each parameter
abbrev pub Choice : Type 0
Choice = ℕ → Ty

abbrev pub type_in : Choice → Term → Ty
type_in choice (terms.Known ty) = ty
type_in choice (terms.Parameter k) = choice k

abbrev pub Meets : Choice → Rule → Type 0
Meets choice rule = type_in choice rule.wanted ≡ type_in choice rule.found

abbrev pub MeetsAll : Choice → List Rule → Type 0
MeetsAll choice [] = Unit {0}
MeetsAll choice (rule ∷ rules) = Meets choice rule × MeetsAll choice rules

-- the term speaks of one of so many parameters, or of none
abbrev pub FitsTerm : ℕ → Term → Type 0
FitsTerm count (terms.Known ty) = Unit {0}
FitsTerm count (terms.Parameter k) = k < count

abbrev pub FitsRule : ℕ → Rule → Type 0
FitsRule count rule = FitsTerm count rule.wanted × FitsTerm count rule.found

abbrev pub FitRules : ℕ → List Rule → Type 0
FitRules count [] = Unit {0}
FitRules count (rule ∷ rules) = FitsRule count rule × FitRules count rules
