-- What a token's word is to a grammar.
use Rattle.std.specs.Prelude.{Bool, true, nat_le, ℕ, List, []}
use Rattle.prl_lex.specs.declared.terminals.Word.{Word}
use Rattle.prl_lex.specs.declared.terminals.Word.TheVariants as words

abbrev pub class_of : Word → ℕ
class_of (words.Name name) = 0
class_of (words.Number number) = 1
class_of (words.Fixed class) = class

abbrev pub name_of : Word → List ℕ
name_of (words.Name name) = name
name_of (words.Number number) = []
name_of (words.Fixed class) = []

abbrev pub number_of : Word → ℕ
number_of (words.Name name) = 0
number_of (words.Number number) = number
number_of (words.Fixed class) = 0

-- keywords and symbols are counted from 2 on
abbrev pub word_fits : Word → Bool
word_fits (words.Name name) = true
word_fits (words.Number number) = true
word_fits (words.Fixed class) = nat_le 2 class
