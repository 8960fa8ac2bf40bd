-- How many calls on the same tokens the reader of an operand makes at most.
use Rattle.std.proofs.Common.{◌≤◌, ℕ, arith}
use Rattle.prl_bodytext.specs.declared.levels.Level.{Level}
use Rattle.prl_bodytext.specs.declared.levels.Level.TheVariants as levels

abbrev pub calls_of : Level → ℕ
calls_of levels.Product = 4
calls_of levels.Sum = 6
calls_of levels.Comparison = 8
calls_of levels.Conjunction = 12
calls_of levels.Disjunction = 14

pub few_calls : (level : Level) → calls_of level ≤ 14
few_calls levels.Product = omega arith
few_calls levels.Sum = omega arith
few_calls levels.Comparison = omega arith
few_calls levels.Conjunction = omega arith
few_calls levels.Disjunction = omega arith
