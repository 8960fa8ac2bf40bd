-- Exactly one.
use Rattle.std.specs.Prelude.{◌≡◌}

-- exactly one thing has the property
pub record ExactlyOne {A : Type 0} (P : A → Type 0) : Type 0 where
  pub one : A
  pub is : P one
  pub only : (other : A) → P other → other ≡ one
