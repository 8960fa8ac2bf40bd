-- The first job that reads an instance on an edge; the jobs before it read constants.
use Rattle.std.specs.Prelude.{◌≡◌, ◌+◌, ◌-◌, ◌*◌, ◌≤◌, ℕ, ℤ, pos, negsuc, List, [], ◌∷◌}
use Rattle.std.specs.Int.{div_ceil}
use Rattle.prl_base.specs.declared.operators.Op.{Op}
use Rattle.prl_base.specs.declared.operators.Op.TheVariants as operators
use Rattle.prl_plan.specs.declared.walks.Operand.TheVariants as operands
use Rattle.prl_plan.specs.Operands.{walk}
use Rattle.prl_plan.specs.Precedence.{preceding}

-- jobs from number p on read instances, and no other
pub record IsFirstReader (ops : List Op) (p : ℕ) : Type 0 where
  pub reads : (n : ℕ) → p ≤ n → (m : ℕ) × (walk ops n ≡ operands.From m)
  pub first : (n m : ℕ) → walk ops n ≡ operands.From m → p ≤ n

-- the first number that an operator takes to p or higher; a constant in front is no such number
abbrev pub reader_before : Op → ℕ → ℕ
reader_before (operators.Up k) p = k * p
reader_before (operators.Down k) p = div_ceil p k
reader_before (operators.Shift q) p = p
reader_before operators.Tail p = p - 1
reader_before (operators.Cons c) p = p + 1
reader_before (operators.Fby c) p = p + 1

-- the number of the first job that reads an instance
abbrev pub first_reader : List Op → ℕ
first_reader [] = 0
first_reader (op ∷ ops) = reader_before op (first_reader ops)

-- a whole number, or 0 in place of a lower one
abbrev pub natural : ℤ → ℕ
natural (pos n) = n
natural (negsuc n) = 0

-- the first instance that is read
abbrev pub first_instance : List Op → ℕ
first_instance ops = natural (preceding ops (pos (first_reader ops)))
