-- One solution makes one behaviour.
use Rattle.std.proofs.Common.{◌∙◌, sym}
use Rattle.prl_expand.specs.Correspondence.{IsOneToOne}
use Rattle.prl_causal.specs.Uniqueness.{ExactlyOne}

-- what corresponds one to one to the only thing is the only one
pub one_along : {X Y : Type 0} (P : X → Type 0) (Q : Y → Type 0) (f : X → Y) → IsOneToOne P Q f → ExactlyOne Q → ExactlyOne P
one_along P Q f each one =
    let (x, holds, same) = each.onto one.one one.is in
    record { one = x; is = holds; only = λ z h. each.once z x h holds (one.only (f z) (each.into z h) ∙ sym same) }

-- a condition that holds of all such things is none
pub one_of_all : {Y : Type 0} (Q R : Y → Type 0) → ((y : Y) → Q y → R y) → ExactlyOne (λ y. Q y × R y) → ExactlyOne Q
one_of_all Q R all one = record { one = one.one; is = one.is.0; only = λ y h. one.only y (h, all y h) }
