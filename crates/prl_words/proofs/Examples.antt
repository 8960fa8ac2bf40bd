-- Worked rows of words.
use Rattle.prl_base.proofs.Standard.{◌≡◌, List, [], ◌∷◌, refl, pos}
use Rattle.prl_base.specs.declared.operators.Op.{Op}
use Rattle.prl_base.specs.declared.values.Value.{Value}
use Rattle.prl_base.specs.declared.operators.Op.TheVariants as operators
use Rattle.prl_base.specs.declared.values.Value.TheVariants as values
use Rattle.prl_plan.specs.declared.walks.Operand.TheVariants as operands
use Rattle.prl_plan.specs.Vocabulary.{first_reader, walk, word_at}
use Rattle.prl_plan.specs.declared.words.Word.{Word}

abbrev seven : Value
seven = values.Int (pos 7)

-- `(7 fby x) *^ 3`: three constants, and then each instance three times
abbrev late_ops : List Op
late_ops = operators.Up 3 ∷ operators.Fby seven ∷ []

abbrev late : Word
late = record { prefix = seven ∷ seven ∷ seven ∷ []; repeat = 0 ∷ 0 ∷ 0 ∷ []; step_in = 3; step_out = 1 }

late_2 : word_at late 2 ≡ walk late_ops 2
late_2 = refl

late_3 : word_at late 3 ≡ operands.From 0
late_3 = refl

late_8 : word_at late 8 ≡ operands.From 1
late_8 = refl

late_constants : first_reader late_ops ≡ 3
late_constants = refl
