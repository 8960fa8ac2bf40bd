-- The hint that is given.
use Rattle.std.specs.Prelude.{◌≡◌, ◌++◌, ℕ, Bool, IsTrue, IfSome, List, [], Option, Some, None, codes, drop, length, take}
use Rattle.prl_hints.specs.Places.{before_open, begins_with_name, covers, ends_with_name}
use Rattle.prl_hints.specs.declared.hints.Hint.{Hint}
use Rattle.prl_hints.specs.declared.hints.Stands.{Stands}
use Rattle.prl_hints.specs.declared.hints.Stands.TheVariants as stands

-- the word stands so at the place of the text
abbrev pub stands_there : Stands → List ℕ → List ℕ → ℕ → Bool
stands_there stands.Over word text at = covers text at word (length word)
stands_there stands.Here word text at = begins_with_name (drop at text) word
stands_there stands.Before word text at = ends_with_name (take at text) word
stands_there stands.Group word text at = ends_with_name (before_open (take at text)) word

-- a hint may be given at a place of a text: its word stands there
abbrev pub IsGiven : Hint → List ℕ → ℕ → Type 0
IsGiven hint text at = IsTrue (stands_there hint.stands hint.word.now text at)

-- as a line
abbrev pub hint_text : Option Hint → List ℕ
hint_text None = []
hint_text (Some hint) = hint.said.now ++ codes "\n"

-- what is told of the place: nothing, or a hint that may be given there
abbrev pub IsHintTold : List ℕ → ℕ → List ℕ → Type 0
IsHintTold text at told = (found : Option Hint) × IfSome found (λ hint. IsGiven hint text at) × (told ≡ hint_text found)
