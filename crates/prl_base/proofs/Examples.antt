-- Which operators delay, and where the values of their results come from.
use Rattle.std.proofs.Common.{◌≡◌, ℕ, pos, negsuc, true, false, refl}
use Rattle.prl_base.specs.Vocabulary.{Op, Value, delays, origin_of, instance, constant, preceding_number}
use Rattle.prl_base.specs.declared.operators.Op.TheVariants as operators
use Rattle.prl_base.specs.declared.values.Value.TheVariants as values

abbrev nine : Value
nine = values.Int (pos 9)

abbrev shift : ℕ → ℕ → Op
shift num den = operators.Shift (record { num = pos num; den = den })

pub fby_delays : delays (operators.Fby nine) ≡ true
fby_delays = refl

pub constant_in_front_delays_nothing : delays (operators.Cons nine) ≡ false
constant_in_front_delays_nothing = refl

pub shift_delays : delays (shift 3 2) ≡ true
shift_delays = refl

pub shift_by_0_delays_nothing : delays (shift 0 1) ≡ false
shift_by_0_delays_nothing = refl

pub first_of_fby : origin_of (operators.Fby nine) 0 ≡ constant nine
first_of_fby = refl

pub third_of_fby : origin_of (operators.Fby nine) 2 ≡ instance 1
third_of_fby = refl

pub sixth_of_up : origin_of (operators.Up 3) 5 ≡ instance 1
sixth_of_up = refl

pub third_of_down : origin_of (operators.Down 3) 2 ≡ instance 6
third_of_down = refl

-- job -1 of a task three times as fast comes after job -1
pub floor_of_a_negative_number : preceding_number (operators.Up 3) (negsuc 0) ≡ negsuc 0
floor_of_a_negative_number = refl
