-- Ranges of numbers. What stands before a number tells its range.
use Rattle.std.specs.Prelude.{ℕ, ◌==◌, ◌&&◌, ◌||◌, not, Bool, List, [], ◌∷◌, Option, Some, None, if◌then◌else◌}
use Rattle.prl_lex.specs.Lexemes.{Lexeme}

-- The ranges of a language's numbers. One kind of part has ranges of its own: a token begins it, and another ends it.
pub record Ranges : Type 0 where
  pub begins : ℕ
  pub ends : ℕ
  -- whether a number is in its range, in such a part or not, and after a token of the class
  pub fits : Bool → ℕ → ℕ → Bool

-- whether such a part goes on after a token of the class
abbrev pub inside_after : Ranges → Bool → ℕ → Bool
inside_after r inside class = (class == r.begins) || (not (class == r.ends) && inside)

abbrev pub is_fault : Ranges → Bool → ℕ → Lexeme → Bool
is_fault r inside last t = (t.class == 1) && not (r.fits inside last t.number)

-- the place of the first number that its range does not have, in such a part or not, and after a token of the class
unfoldable pub out_of_range : Ranges → Bool → ℕ → List Lexeme → Option ℕ
out_of_range r inside last [] = None
out_of_range r inside last (t ∷ ts) =
    if is_fault r inside last t then Some t.at.at else out_of_range r (inside_after r inside t.class) t.class ts
