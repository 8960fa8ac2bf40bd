-- The keywords and symbols of programs.
use Rattle.std.specs.Prelude.{ℕ, List, Option}
use Rattle.prl_lex.specs.Classes.{Vocabulary, class_in}
use Rattle.prl_syntax.specs.declared.words.Fixed.{Fixed}
use Rattle.prl_syntax.specs.declared.words.Fixed.TheVariants as fixed
use Rattle.prl_syntax.specs.declared.words.TheConstants.{KEYWORDS, SYMBOLS}

-- the class of each in the grammar
abbrev pub class_of : Fixed → ℕ
class_of fixed.Imported = 2
class_of fixed.Node = 3
class_of fixed.Returns = 4
class_of fixed.Wcet = 5
class_of fixed.Sensor = 6
class_of fixed.Actuator = 7
class_of fixed.Var = 8
class_of fixed.Let = 9
class_of fixed.Tel = 10
class_of fixed.Int = 11
class_of fixed.Bool = 12
class_of fixed.Rate = 13
class_of fixed.Due = 14
class_of fixed.Fby = 15
class_of fixed.Tail = 16
class_of fixed.True = 17
class_of fixed.False = 18
class_of fixed.Open = 19
class_of fixed.Close = 20
class_of fixed.Comma = 21
class_of fixed.Semicolon = 22
class_of fixed.Colon = 23
class_of fixed.Cons = 24
class_of fixed.Equals = 25
class_of fixed.Minus = 26
class_of fixed.Slash = 27
class_of fixed.Up = 28
class_of fixed.Down = 29
class_of fixed.Shift = 30

-- the class of the keyword that a word is, and of the symbol that the bytes are
abbrev pub keyword_of : List ℕ → Option ℕ
keyword_of = class_in (λ row. row.0.now) (λ row. row.1) KEYWORDS

abbrev pub symbol_of : List ℕ → Option ℕ
symbol_of = class_in (λ row. row.0.now) (λ row. row.1) SYMBOLS

abbrev pub program_vocabulary : Vocabulary
program_vocabulary = record { keyword = keyword_of; symbol = symbol_of }
