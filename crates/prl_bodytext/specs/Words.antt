-- The keywords and symbols of bodies.
use Rattle.std.specs.Prelude.{ℕ}
use Rattle.prl_lex.specs.Classes.{Vocabulary, class_in}
use Rattle.prl_bodytext.specs.declared.words.Fixed.{Fixed}
use Rattle.prl_bodytext.specs.declared.words.Fixed.TheVariants as fixed
use Rattle.prl_bodytext.specs.declared.words.TheConstants.{KEYWORDS, SYMBOLS}

-- the class of each in the grammar
abbrev pub class_of : Fixed → ℕ
class_of fixed.Body = 2
class_of fixed.Reg = 3
class_of fixed.True = 4
class_of fixed.False = 5
class_of fixed.If = 6
class_of fixed.Or = 7
class_of fixed.Xor = 8
class_of fixed.And = 9
class_of fixed.Not = 10
class_of fixed.Open = 11
class_of fixed.Close = 12
class_of fixed.Begin = 13
class_of fixed.End = 14
class_of fixed.Comma = 15
class_of fixed.Semicolon = 16
class_of fixed.Equals = 17
class_of fixed.Unequal = 18
class_of fixed.Less = 19
class_of fixed.AtMost = 20
class_of fixed.Greater = 21
class_of fixed.AtLeast = 22
class_of fixed.Plus = 23
class_of fixed.Minus = 24
class_of fixed.Star = 25
class_of fixed.Slash = 26
class_of fixed.Percent = 27

abbrev pub body_vocabulary : Vocabulary
body_vocabulary = record { keyword = class_in (λ row. row.0.now) (λ row. row.1) KEYWORDS; symbol = class_in (λ row. row.0.now) (λ row. row.1) SYMBOLS }
