-- Loops that read one text after another after those that were read before.
use Rattle.std.specs.Prelude.{◌≡◌, List, ◌++◌, Ok}
use Rattle.prl_base.specs.Reading.{◌>>=◌}
use Rattle.prl_lex.specs.Lexemes.{Lexeme}
use Rattle.prl_lex.specs.code.Readers.{Read}
use Rattle.prl_lex.specs.Productions.{Grammar, many}
use Rattle.prl_lex.specs.Language.{Language}
use Rattle.prl_lex.specs.code.Languages.{read_at}

abbrev pub with_front : {A : Type 0} → List A → Read (List A) → Read (List A)
with_front front read = read >>= λ x. Ok (front ++ x.0, x.1)

-- what was read, and what is left, is all that is to be read
abbrev pub GoesOn : {R A : Type 0} → Language R → Grammar R A → List Lexeme → List A → List Lexeme → Type 0
GoesOn l g start front rest = with_front front (read_at l (many g) rest) ≡ read_at l (many g) start
