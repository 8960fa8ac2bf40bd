-- What rules leave of the types: a contradiction, a parameter that is free, or one type for each.
use Rattle.std.specs.Prelude.{◌≡◌, ◌≢◌, ◌<◌, ℕ, List, ◌∷◌, ◌++◌, length, slice_get, Some}
use Rattle.prl_base.specs.declared.values.Ty.{Ty}
use Rattle.prl_terms.specs.declared.terms.Rule.{Rule}
use Rattle.prl_terms.specs.declared.solving.Unsolved.{Unsolved}
use Rattle.prl_terms.specs.declared.solving.Unsolved.TheVariants as unsolved
use Rattle.prl_terms.specs.Choices.{Choice, type_in, MeetsAll}

-- Some choice meets the rules before this one, which is at the place; each such choice gives its sides these two
-- types, and they differ.
pub record Contradicts (rules : List Rule) (rule : Rule) (at : ℕ) (wanted found : Ty) : Type 0 where
  pub choice : Choice
  pub meets : MeetsAll choice rules
  pub place : at ≡ rule.at
  pub wanted_is : (c : Choice) → MeetsAll c rules → type_in c rule.wanted ≡ wanted
  pub found_is : (c : Choice) → MeetsAll c rules → type_in c rule.found ≡ found
  pub differ : wanted ≢ found

-- the first rule that no choice meets together with all earlier ones
pub record IsMismatch (rules : List Rule) (at : ℕ) (wanted found : Ty) : Type 0 where
  pub earlier : List Rule
  pub rule : Rule
  pub later : List Rule
  pub whole : rules ≡ earlier ++ (rule ∷ later)
  pub contradicts : Contradicts earlier rule at wanted found

-- all choices that meet the rules give the parameter one type
abbrev pub IsForced : List Rule → ℕ → Type 0
IsForced rules k = (c d : Choice) → MeetsAll c rules → MeetsAll d rules → c k ≡ d k

-- the first parameter to which choices that meet all rules give different types
pub record IsFree (rules : List Rule) (k : ℕ) : Type 0 where
  pub one : Choice
  pub other : Choice
  pub one_meets : MeetsAll one rules
  pub other_meets : MeetsAll other rules
  pub differ : one k ≢ other k
  pub earlier : (j : ℕ) → j < k → IsForced rules j

-- The only types that meet the rules: some choice meets them, and each one that does gives the parameters these types.
pub record AreTypes (rules : List Rule) (count : ℕ) (types : List Ty) : Type 0 where
  pub number : length types ≡ count
  pub choice : Choice
  pub meets : MeetsAll choice rules
  pub forced : (c : Choice) (k : ℕ) → MeetsAll c rules → k < count → slice_get types k ≡ Some (c k)

-- what keeps so many parameters from having types, or memory ran out
abbrev pub Explains : List Rule → ℕ → Unsolved → Type 0
Explains rules count (unsolved.Mismatch at wanted found) = IsMismatch rules at wanted found
Explains rules count (unsolved.Free k) = (k < count) × IsFree rules k
Explains rules count unsolved.Memory = Unit {0}
