-- What stands where something else has to, and what might stand there.
use Rattle.std.specs.Prelude.{◌≡◌, ◌≢◌, ◌+◌, ◌<◌, ◌++◌, ◌⊎◌, ℕ, List, [], ◌∷◌, All, Ok, Err, Result, Option, Some, None, length, take, slice_get, codes}
use Rattle.std.specs.List.{flat_map}
use Rattle.prl_ast.specs.Trees.{ProgramTree}
use Rattle.prl_lex.specs.declared.tokens.Token.{Token}
use Rattle.prl_lex.specs.Lexing.{token_text, tokens_of}
use Rattle.prl_syntax.specs.declared.parsing.ParseFault.{ParseFault}
use Rattle.prl_syntax.specs.declared.parsing.ParseFault.TheVariants as faults
use Rattle.prl_syntax.specs.Parsing.{IsParsed}
use Rattle.prl_spots.specs.declared.unexpected.Trial.{Trial}

-- this is one of the tokens, and begins at this byte
pub record IsTokenThere (tokens : List Token) (at : ℕ) (token : Token) : Type 0 where
  pub index : ℕ
  pub found : slice_get tokens index ≡ Some token
  pub begins : token.span.at ≡ at

-- these bytes are a token of the text that begins at this byte
pub record IsWordAt (text : List ℕ) (at : ℕ) (word : List ℕ) : Type 0 where
  pub tokens : List Token
  pub lexed : tokens_of text ≡ Ok tokens
  pub token : Token
  pub there : IsTokenThere tokens at token
  pub spelt : token_text text token ≡ word

-- what comes of a text is not that something else has to stand at this byte
abbrev pub IsOther : Result ProgramTree ParseFault → ℕ → Type 0
IsOther (Ok program) at = Unit {0}
IsOther (Err fault) at = fault ≢ faults.Unexpected at

pub record IsReadOn (text : List ℕ) (at : ℕ) : Type 0 where
  pub outcome : Result ProgramTree ParseFault
  pub parsed : IsParsed text outcome
  pub other : IsOther outcome at

-- the text up to a byte, and then a blank and a word
abbrev pub tried : List ℕ → ℕ → List ℕ → List ℕ
tried text at word = take at text ++ 32 ∷ word

-- a word may stand at the byte in the place of what stands there: what is read with it is not refused at the word
abbrev pub MayStand : List ℕ → ℕ → List ℕ → Type 0
MayStand text at word = IsReadOn (tried text at word) (at + 1)

-- the word that stands there, where one does
unfoldable pub stands_text : List ℕ → List ℕ
stands_text word = codes "Here stands `" ++ word ++ codes "`.\n"

abbrev pub here_text : Option (List ℕ) → List ℕ
here_text None = []
here_text (Some word) = stands_text word

abbrev pub IsHere : List ℕ → ℕ → Option (List ℕ) → Type 0
IsHere text at None = Unit {0}
IsHere text at (Some word) = IsWordAt text at word

abbrev pub trial_text : Trial → List ℕ
trial_text trial = codes " " ++ trial.said.now

-- the words that may stand there, where there are some
abbrev pub trials_text : List Trial → List ℕ
trials_text [] = []
trials_text (trial ∷ trials) = codes "Here might stand:" ++ flat_map trial_text (trial ∷ trials) ++ codes ".\n"

-- the text is no program because something else has to stand at the byte
abbrev pub IsRefusedAt : List ℕ → ℕ → Type 0
IsRefusedAt text at = IsParsed text (Err (faults.Unexpected at))

-- words are told only of the byte where the text is refused
abbrev pub AreOfRefusal : List ℕ → ℕ → List Trial → Type 0
AreOfRefusal text at [] = Unit {0}
AreOfRefusal text at (trial ∷ trials) = IsRefusedAt text at

-- what stands at the byte, and words each of which may stand there
pub record IsUnexpected (text : List ℕ) (at : ℕ) (told : List ℕ) : Type 0 where
  pub here : Option (List ℕ)
  pub is_here : IsHere text at here
  pub trials : List Trial
  pub refused : AreOfRefusal text at trials
  pub each : All (λ (t : Trial). MayStand text at t.word.now) trials
  pub is : told ≡ here_text here ++ trials_text trials

-- the same of a number that tells a byte; nothing where it tells none of the text
abbrev pub IsUnexpectedAt : List ℕ → Option ℕ → List ℕ → Type 0
IsUnexpectedAt text None told = told ≡ []
IsUnexpectedAt text (Some at) told = IsUnexpected text at told

-- what stands at the byte alone
abbrev pub IsWordTold : List ℕ → Option ℕ → List ℕ → Type 0
IsWordTold text None told = told ≡ []
IsWordTold text (Some at) told = (here : Option (List ℕ)) × IsHere text at here × (told ≡ here_text here)
