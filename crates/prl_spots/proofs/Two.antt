-- What is told of a name that stands twice.
use Rattle.std.proofs.Common.{◌≡◌, ◌<◌, ℕ, List, [], Ok, inl, inr}
use Rattle.prl_lex.specs.Lexing.{tokens_of}
use Rattle.prl_lex.specs.declared.tokens.Token.{Token}
use Rattle.prl_spots.specs.Twice.{IsNameAt, IsTwice, two_text}

-- two places
pub two_is : (text : List ℕ) (tokens : List Token) (name : List ℕ) (first second : ℕ) (told : List ℕ) → tokens_of text ≡ Ok tokens
    → IsNameAt text tokens name first → IsNameAt text tokens name second → first < second → told ≡ two_text text first second → IsTwice text name told
two_is text tokens name first second told lexed one other order is =
    inr (first, second, record { tokens = tokens; lexed = lexed; one = one; other = other; order = order }, is)

-- none
pub none_is : (text name told : List ℕ) → told ≡ [] → IsTwice text name told
none_is text name told is = inl is
