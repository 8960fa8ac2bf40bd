-- The tokens of a text as the grammar of a language sees them.
use Rattle.std.specs.Prelude.{ℕ, List, [], ◌∷◌, map, Option, Some, None, if◌then◌else◌}
use Rattle.std.specs.Str.{bytes_eq}
use Rattle.prl_base.specs.declared.places.Span.{Span}
use Rattle.prl_lex.specs.declared.tokens.Kind.{Kind}
use Rattle.prl_lex.specs.declared.tokens.Kind.TheVariants as kinds
use Rattle.prl_lex.specs.declared.tokens.Token.{Token}
use Rattle.prl_lex.specs.Lexing.{token_text}
use Rattle.prl_lex.specs.declared.classes.TheConstants.{FOREIGN}
use Rattle.prl_lex.specs.Lexemes.{Lexeme}

-- the keywords and symbols of a language, by their classes
pub record Vocabulary : Type 0 where
  pub keyword : List ℕ → Option ℕ
  pub symbol : List ℕ → Option ℕ

-- the class of the first row with these bytes, in a table of bytes and classes
abbrev pub class_in : {Row : Type 0} → (Row → List ℕ) → (Row → ℕ) → List Row → List ℕ → Option ℕ
class_in text class [] bytes = None
class_in text class (row ∷ rows) bytes = if bytes_eq bytes (text row) then Some (class row) else class_in text class rows bytes

-- a word is a keyword or a name
abbrev pub word_lexeme : Option ℕ → List ℕ → Span → Lexeme
word_lexeme None bytes at = record { class = 0; name = bytes; number = 0; at = at }
word_lexeme (Some class) bytes at = record { class = class; name = []; number = 0; at = at }

abbrev pub symbol_class : Option ℕ → ℕ
symbol_class None = FOREIGN
symbol_class (Some class) = class

abbrev pub kind_lexeme : Vocabulary → Kind → List ℕ → Token → Lexeme
kind_lexeme v kinds.Word bytes t = word_lexeme (v.keyword bytes) bytes t.span
kind_lexeme v kinds.Number bytes t = record { class = 1; name = []; number = t.number; at = t.span }
kind_lexeme v kinds.Symbol bytes t = record { class = symbol_class (v.symbol bytes); name = []; number = 0; at = t.span }

abbrev pub lexeme_of : Vocabulary → List ℕ → Token → Lexeme
lexeme_of v text t = kind_lexeme v t.kind (token_text text t) t

abbrev pub lexemes_of : Vocabulary → List ℕ → List Token → List Lexeme
lexemes_of v text tokens = map (lexeme_of v text) tokens
