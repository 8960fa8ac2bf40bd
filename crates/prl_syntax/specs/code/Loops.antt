-- Loops that read one text after another, each of which is a list.
use Rattle.std.specs.Prelude.{List, ◌++◌, Ok}
use Rattle.prl_base.specs.Reading.{◌>>=◌}
use Rattle.prl_lex.specs.code.Readers.{Read}
use Rattle.prl_syntax.specs.Trees.{joined}

-- what was read before, and then what is still to be read
abbrev pub with_joined : {A : Type 0} → List A → Read (List (List A)) → Read (List A)
with_joined front read = read >>= λ x. Ok (front ++ joined x.0, x.1)
