-- How the texts of a language are read.
use Rattle.std.specs.Prelude.{ℕ, zero, suc, false, List, [], length, Err}
use Rattle.prl_lex.specs.Lexemes.{Lexeme}
use Rattle.prl_lex.specs.Language.{Language}
use Rattle.prl_lex.specs.Productions.{Grammar}
use Rattle.prl_lex.specs.code.Readers.{Read, Deep}
use Rattle.prl_lex.specs.code.Reads.{Shape}
use Rattle.prl_lex.specs.code.Shapes.{shape, read}

-- the shape of what stands in parentheses
abbrev pub inner_of : {R : Type 0} → Language R → Shape
inner_of l = shape (record { first = []; nullable = false; more = [] }) l.body

unfoldable pub read_within : {R : Type 0} → Language R → ℕ → List Lexeme → Read R
read_within l zero ts = Err Deep
read_within l (suc n) ts = read (inner_of l) (read_within l n) l.body ts

-- as deep as there are tokens
unfoldable pub read_nested : {R : Type 0} → Language R → List Lexeme → Read R
read_nested l ts = read_within l (suc (length ts)) ts

-- how it is read
abbrev pub read_at : {R A : Type 0} → Language R → Grammar R A → List Lexeme → Read A
read_at l g = read (inner_of l) (read_nested l) g
