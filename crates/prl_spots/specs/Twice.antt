-- Where a name stands that a program has twice.
use Rattle.std.specs.Prelude.{◌≡◌, ◌<◌, ◌++◌, ◌⊎◌, ℕ, List, [], Ok, true, Some, slice_get, codes, decimal}
use Rattle.prl_lex.specs.declared.tokens.Token.{Token}
use Rattle.prl_lex.specs.Lexing.{tokens_of}
use Rattle.prl_spots.specs.Names.{is_text}
use Rattle.prl_spots.specs.Places.{place_of}

-- among the tokens of the text one of this name begins at this byte
pub record IsNameAt (text : List ℕ) (tokens : List Token) (name : List ℕ) (at : ℕ) : Type 0 where
  pub token : Token
  pub index : ℕ
  pub found : slice_get tokens index ≡ Some token
  pub named : is_text text token name ≡ true
  pub begins : token.span.at ≡ at

-- the name stands at both bytes of the text, and the one is before the other
pub record AreTwo (text : List ℕ) (name : List ℕ) (first second : ℕ) : Type 0 where
  pub tokens : List Token
  pub lexed : tokens_of text ≡ Ok tokens
  pub one : IsNameAt text tokens name first
  pub other : IsNameAt text tokens name second
  pub order : first < second

-- LINE:COLUMN
unfoldable pub spot_text : List ℕ → ℕ → List ℕ
spot_text text at = decimal (place_of text at).line ++ codes ":" ++ decimal (place_of text at).column

-- words and a place
unfoldable pub placed : List ℕ → List ℕ → ℕ → List ℕ
placed front text at = front ++ spot_text text at

unfoldable pub two_text : List ℕ → ℕ → ℕ → List ℕ
two_text text first second = placed (codes "It stands at ") text first ++ placed (codes " and at ") text second ++ codes ".\n"

-- what is told: nothing, or two places of the name
abbrev pub IsTwice : List ℕ → List ℕ → List ℕ → Type 0
IsTwice text name told =
    (told ≡ []) ⊎ ((first : ℕ) × (second : ℕ) × AreTwo text name first second × (told ≡ two_text text first second))
