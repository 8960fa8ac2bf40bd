-- Attributes with a number.
use Rattle.std.specs.Prelude.{◌++◌, ℕ, List, decimal}

-- what stands before the number of an attribute, and the number
abbrev pub attribute_text : List ℕ → ℕ → List ℕ
attribute_text front number = front ++ decimal number
