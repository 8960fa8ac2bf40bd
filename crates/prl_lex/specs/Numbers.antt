-- Constants that numbers write. A number past the greatest counts as that one here: that all are in range is said apart.
use Rattle.std.specs.Prelude.{ℕ, min, pos, neg_ℤ}
use Rattle.prl_base.specs.declared.values.Value.{Value}
use Rattle.prl_base.specs.declared.values.Value.TheVariants as values
use Rattle.prl_base.specs.declared.decimals.TheConstants.{MAX_NEGATIVE, MAX_POSITIVE}

abbrev pub positive : ℕ → Value
positive n = values.Int (pos (min n MAX_POSITIVE))

-- after a minus
abbrev pub negative : ℕ → Value
negative n = values.Int (neg_ℤ (pos (min n MAX_NEGATIVE)))
