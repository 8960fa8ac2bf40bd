-- How grammars are read, with one token of look-ahead.
use Rattle.std.specs.Prelude.{true, false, List, [], ◌∷◌, Ok}
use Rattle.prl_base.specs.Reading.{◌>>=◌}
use Rattle.prl_lex.specs.Lexemes.{Lexeme}
use Rattle.prl_lex.specs.Productions.{Grammar, token, give, action, both, either, many, placed, inner}
use Rattle.prl_lex.specs.code.Readers.{Read, one_at, choice, many_at, from_first}
use Rattle.prl_lex.specs.code.Reads.{Shape, then_shape, either_shape, many_shape}

-- what its texts begin with, and what would continue them
abbrev pub shape : {R A : Type 0} → Shape → Grammar R A → Shape
shape i (token class) = record { first = class ∷ []; nullable = false; more = [] }
shape i (give x) = record { first = []; nullable = true; more = [] }
shape i (action g f) = shape i g
shape i (both g h) = then_shape (shape i g) (shape i h)
shape i (either g h) = either_shape (shape i g) (shape i h)
shape i (many g) = many_shape (shape i g)
shape i (placed g) = shape i g
shape i inner = i

-- one text after another, of which a tree is made
abbrev pub read_with : {A B C : Type 0} → (A → B → C) → (List Lexeme → Read A) → (List Lexeme → Read B) → List Lexeme → Read C
read_with f p q ts = p ts >>= λ x. (q x.1 >>= λ y. Ok (f x.0 y.0, y.1))

-- how it is read, with one token of look-ahead
abbrev pub read : {R A : Type 0} → Shape → (List Lexeme → Read R) → Grammar R A → List Lexeme → Read A
read i p (token class) ts = one_at class ts
read i p (give x) ts = Ok (x, ts)
read i p (action g f) ts = read i p g ts >>= λ x. Ok (f x.0, x.1)
read i p (both g h) ts = read_with (λ a b. (a, b)) (read i p g) (read i p h) ts
read i p (either g h) ts = choice (shape i g).first (read i p g) (read i p h) ts
read i p (many g) ts = many_at (shape i g).first (read i p g) ts
read i p (placed g) ts = from_first (read i p g) ts
read i p inner ts = p ts
