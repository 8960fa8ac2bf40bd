-- Two kinds of things that correspond one to one.
use Rattle.std.specs.Prelude.{◌≡◌}

-- `f` takes each `x` of the first kind to one of the second, and to each of the second from exactly one of the first
pub record IsOneToOne {X Y : Type 0} (P : X → Type 0) (Q : Y → Type 0) (f : X → Y) : Type 0 where
  pub into : (x : X) → P x → Q (f x)
  pub onto : (y : Y) → Q y → (x : X) × P x × (f x ≡ y)
  pub once : (x z : X) → P x → P z → f x ≡ f z → x ≡ z
