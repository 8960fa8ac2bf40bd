-- What a reading that is Ok says of its parts.
use Rattle.prl_base.proofs.Standard.{◌≡◌, Bool, true, false, refl, Result, Ok, Err, if◌then◌else◌}
use Rattle.prl_base.specs.Reading.{◌>>=◌}

pub record Both {A B F : Type 0} (r : Result A F) (f : A → Result B F) (y : B) : Type 0 where
  pub first : A
  pub is : r ≡ Ok first
  pub rest : f first ≡ Ok y

pub both_ok : {A B F : Type 0} (r : Result A F) (f : A → Result B F) (y : B) → (r >>= f) ≡ Ok y → Both r f y
both_ok (Ok x) f y is = record { first = x; is = refl; rest = is }
both_ok (Err e) f y is = absurd (cc)

pub passed_ok : {A F : Type 0} (b : Bool) (r : Result A F) (y : A) (e : F) → (if b then r else Err e) ≡ Ok y → (b ≡ true) × (r ≡ Ok y)
passed_ok true r y e is = (refl, is)
passed_ok false r y e is = absurd (cc)
