-- What private functions say of lines.
use Rattle.std.specs.Prelude.{◌++◌, ℕ, List, decimal}

-- a name and a number
abbrev pub numbered : List ℕ → ℕ → List ℕ
numbered name number = name ++ decimal number
