-- Standings by their numbers.
use Rattle.std.proofs.Common.{Bool, true, false, not, is_some, ◌≡◌, ◌<◌, ℕ, zero, suc, List, [], ◌∷◌, length, Option, Some, None, get_or, refl, arith}
use Rattle.prl_flow.specs.Vocabulary.{HasClock, alone, standing_at}
use Rattle.prl_flow.specs.declared.standings.Standing.{Standing}
use Rattle.prl_flow.specs.declared.standings.Timing.{Timing}

pub same_within : (st : List Standing) (i : ℕ) (d e : Standing) → i < length st → get_or st i d ≡ get_or st i e
same_within [] i d e h = absurd (omega arith)
same_within (x ∷ xs) zero d e h = refl
same_within (x ∷ xs) (suc i) d e h = same_within xs i d e (omega arith)

-- the item that is read is the standing of its number
pub item_is : (st : List Standing) (i : ℕ) (d : Standing) → i < length st → standing_at st i ≡ get_or st i d
item_is st i d h = same_within st i (alone i) d h

pub some_clock : (st : List Standing) (i : ℕ) → ((standing_at st i).clock ≡ None → ⊥) → HasClock st i
some_clock st i never = of (standing_at st i).clock refl
  where
    of : (o : Option Timing) → (standing_at st i).clock ≡ o → HasClock st i
    of None e = absurd (never e)
    of (Some t) e = (t, e)

pub still_some : (o : Option Timing) (b : Bool) → is_some o ≡ not b → b ≡ false → o ≡ None → ⊥
still_some None true e f g = cc
still_some None false e f g = cc
still_some (Some t) b e f g = cc
