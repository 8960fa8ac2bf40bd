-- What contracts see of the rules that were met.
use Rattle.std.specs.Prelude.{ℕ, List}
use Rattle.prl_terms.specs.declared.terms.Rule.{Rule}

pub record MetView : Type 0 where
  -- how many parameters there are
  pub count : ℕ
  pub rules : List Rule
