-- When the numbers fit 64 bits that the way to a preceding job meets.
use Rattle.std.specs.Prelude.{◌≤◌, ℤ, pos, ◌+ℤ◌, ◌-ℤ◌, ◌*ℤ◌, List, [], ◌∷◌, FitsSigned}
use Rattle.std.specs.Int.{w64}
use Rattle.prl_base.specs.declared.operators.Op.{Op}
use Rattle.prl_base.specs.declared.operators.Op.TheVariants as operators
use Rattle.prl_base.specs.Operators.{floor_div}

abbrev pub Fits64 : ℤ → Type 0
Fits64 z = FitsSigned w64 z

-- a factor is at least 1
abbrev pub HasFactor : Op → Type 0
HasFactor (operators.Up k) = 1 ≤ k
HasFactor (operators.Down k) = 1 ≤ k
HasFactor (operators.Shift q) = Unit {0}
HasFactor operators.Tail = Unit {0}
HasFactor (operators.Cons c) = Unit {0}
HasFactor (operators.Fby c) = Unit {0}

-- the numbers on the way to the preceding job; a factor is at least 1
abbrev pub PrecedingFits : List Op → ℤ → Type 0
PrecedingFits [] n = Unit {0}
PrecedingFits (operators.Up k ∷ ops) n = (1 ≤ k) × PrecedingFits ops (floor_div n k)
PrecedingFits (operators.Down k ∷ ops) n = (1 ≤ k) × Fits64 (pos k *ℤ n) × PrecedingFits ops (pos k *ℤ n)
PrecedingFits (operators.Shift q ∷ ops) n = PrecedingFits ops n
PrecedingFits (operators.Tail ∷ ops) n = Fits64 (n +ℤ pos 1) × PrecedingFits ops (n +ℤ pos 1)
PrecedingFits (operators.Cons c ∷ ops) n = Fits64 (n -ℤ pos 1) × PrecedingFits ops (n -ℤ pos 1)
PrecedingFits (operators.Fby c ∷ ops) n = Fits64 (n -ℤ pos 1) × PrecedingFits ops (n -ℤ pos 1)
