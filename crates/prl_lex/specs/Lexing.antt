-- The tokens of a text, or its first fault.
use Rattle.std.specs.Prelude.{◌≡◌, ◌≤◌, ℕ, zero, suc, ◌+◌, ◌-◌, ◌^◌, ◌==◌, nat_lt, nat_le, List, [], ◌∷◌, length, take, drop, Result, Ok, Err, if◌then◌else◌}
use Rattle.std.specs.Str.Parse.{digits_value}
use Rattle.prl_base.specs.Names.{IsName}
use Rattle.prl_base.specs.Reading.{◌>>=◌}
use Rattle.prl_base.specs.declared.limits.What.TheVariants as limits
use Rattle.prl_lex.specs.declared.lexing.TheConstants.{MAX_DEPTH, MAX_NAME}
use Rattle.prl_lex.specs.declared.tokens.Kind.{Kind}
use Rattle.prl_lex.specs.declared.tokens.Kind.TheVariants.{Word, Number, Symbol}
use Rattle.prl_lex.specs.declared.tokens.Token.{Token}
use Rattle.prl_lex.specs.declared.tokens.LexFault.{LexFault}
use Rattle.prl_lex.specs.declared.tokens.LexFault.TheVariants as faults
use Rattle.prl_lex.specs.declared.pieces.Piece.{Piece}
use Rattle.prl_lex.specs.declared.pieces.Piece.TheVariants as pieces
use Rattle.prl_lex.specs.Tokens.{piece_of}

-- the bytes of a token
abbrev pub token_text : List ℕ → Token → List ℕ
token_text text t = take t.span.len (drop t.span.at text)

-- the open parentheses after a token, of those before it
abbrev pub depth_after : ℕ → List ℕ → ℕ
depth_after depth [] = depth
depth_after depth (a ∷ []) = if a == 40 then depth + 1 else (if a == 41 then depth - 1 else depth)
depth_after depth (a ∷ b ∷ bytes) = depth

abbrev pub token_at : ℕ → Kind → List ℕ → Token
token_at at Number bytes = record { kind = Number; span = record { at = at; len = length bytes }; number = digits_value 10 bytes }
token_at at Word bytes = record { kind = Word; span = record { at = at; len = length bytes }; number = 0 }
token_at at Symbol bytes = record { kind = Symbol; span = record { at = at; len = length bytes }; number = 0 }

-- The token of these bytes: a number has at most 64 bits, a name is not too long, and not too many parentheses
-- are open.
abbrev pub checked : ℕ → ℕ → Kind → List ℕ → Result Token LexFault
checked at depth Number bytes = if nat_lt (digits_value 10 bytes) (2 ^ 64) then Ok (token_at at Number bytes) else Err (faults.NumberRange at)
checked at depth Word bytes = if nat_le (length bytes) MAX_NAME then Ok (token_at at Word bytes) else Err (faults.Limit (record { what = limits.Name; found = length bytes }))
checked at depth Symbol bytes = if nat_le depth MAX_DEPTH then Ok (token_at at Symbol bytes) else Err (faults.Limit (record { what = limits.Depth; found = depth }))

-- What stands first at the place `at`, after `depth` open parentheses, and then what follows: `rest` has
-- the tokens after the first byte, at a depth, past so many bytes more.
abbrev pub with_piece : ℕ → ℕ → List ℕ → Piece → (ℕ → ℕ → Result (List Token) LexFault) → Result (List Token) LexFault
with_piece at depth text pieces.Bad rest = Err (faults.BadToken at)
with_piece at depth text (pieces.Gap n) rest = rest depth (n - 1)
with_piece at depth text (pieces.Token kind n) rest = do
  token ← checked at (depth_after depth (take n text)) kind (take n text)
  tokens ← rest (depth_after depth (take n text)) (n - 1)
  Ok (token ∷ tokens)

-- the tokens of a text at the place `at` of a longer one, after `depth` open parentheses, but for its first
-- `past` bytes, which belong to what was read before
unfoldable pub tokens_from : ℕ → ℕ → ℕ → List ℕ → Result (List Token) LexFault
tokens_from at depth past [] = Ok []
tokens_from at depth (suc past) (b ∷ bs) = tokens_from (at + 1) depth past bs
tokens_from at depth zero (b ∷ bs) =
    with_piece at depth (b ∷ bs) (piece_of (b ∷ bs)) (λ deep past. tokens_from (at + 1) deep past bs)

abbrev pub tokens_of : List ℕ → Result (List Token) LexFault
tokens_of text = tokens_from 0 0 0 text

-- what is known of a token of a text: it lies in the text, and a word is a name
pub record IsTokenOf (text : List ℕ) (t : Token) : Type 0 where
  pub inside : t.span.at + t.span.len ≤ length text
  pub word : t.kind ≡ Word → IsName (token_text text t)

-- from a place on, each begins where the one before it ended, or later
abbrev pub AreInOrder : ℕ → List Token → Type 0
AreInOrder at [] = Unit {0}
AreInOrder at (t ∷ ts) = (at ≤ t.span.at) × AreInOrder (t.span.at + t.span.len) ts
