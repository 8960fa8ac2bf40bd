-- Worked rows of operands and precedence.
use Rattle.prl_base.proofs.Standard.{◌≡◌, List, [], ◌∷◌, refl, pos, negsuc}
use Rattle.prl_base.specs.declared.operators.Op.{Op}
use Rattle.prl_base.specs.declared.operators.Op.TheVariants as operators
use Rattle.prl_base.specs.declared.values.Value.TheVariants as values
use Rattle.prl_plan.specs.declared.walks.Operand.TheVariants as operands
use Rattle.prl_plan.specs.Vocabulary.{walk, preceding}

-- what the fast task of the sampling program reads of the slow one: `(0 fby vs) *^ 3`
abbrev late : List Op
late = operators.Up 3 ∷ operators.Fby (values.Int (pos 0)) ∷ []

late_2 : walk late 2 ≡ operands.Const (values.Int (pos 0))
late_2 = refl

late_3 : walk late 3 ≡ operands.From 0
late_3 = refl

late_8 : walk late 8 ≡ operands.From 1
late_8 = refl

-- over all whole numbers the job before job 2 is of number -1, and that before job -1 of number -2: a quotient goes down
late_precedes_2 : preceding late (pos 2) ≡ negsuc 0
late_precedes_2 = refl

late_precedes_below : preceding late (negsuc 0) ≡ negsuc 1
late_precedes_below = refl

seldom_4 : walk (operators.Down 3 ∷ []) 4 ≡ operands.From 12
seldom_4 = refl

held_5 : walk (operators.Up 3 ∷ operators.Down 3 ∷ []) 5 ≡ operands.From 3
held_5 = refl

never_0 : walk (operators.Tail ∷ operators.Cons (values.Int (pos 9)) ∷ []) 0 ≡ operands.From 0
never_0 = refl
