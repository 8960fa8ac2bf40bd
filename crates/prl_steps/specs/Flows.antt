-- What a flow has at its dates.
use Rattle.std.specs.Prelude.{ℕ, List}
use Rattle.prl_base.specs.declared.values.Ty.{Ty}
use Rattle.prl_steps.specs.declared.samples.Sample.{Sample}

-- a flow: its name, the type of its values, and these by date
pub record FlowView : Type 0 where
  pub name : List ℕ
  pub ty : Ty
  pub samples : List Sample
