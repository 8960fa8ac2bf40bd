-- Blanks at the end of a text, and the places that a word is looked for at.
use Rattle.std.proofs.Common.{arith, ◌≡◌, ◌∙◌, ◌+◌, ◌-◌, ◌<◌, ℕ, suc, List, ap, drop, false, length, nat_eq, refl, sym, true}
use Rattle.std.specs.List.{starts_with}
use Rattle.std.specs.Str.{IsTrimAsciiEnd}
use Rattle.std.proofs.lemmas.Str.Ascii.{trim_ascii_end_is}
use Rattle.prl_hints.specs.Places.{covers, trimmed}

pub trimmed_is : (s r : List ℕ) → IsTrimAsciiEnd s r → r ≡ trimmed s
trimmed_is s r is = trim_ascii_end_is s r is

at_back : (text word : List ℕ) (at back : ℕ) → starts_with nat_eq (drop (at - back) text) word ≡ true
    → covers text at word (suc back) ≡ true
at_back text word at back starts = rw starts refl

past_back : (text word : List ℕ) (at back : ℕ) → starts_with nat_eq (drop (at - back) text) word ≡ false
    → covers text at word (suc back) ≡ covers text at word back
past_back text word at back starts = rw starts refl

-- so many places are left at each step of a search from the furthest one on
left : (n passed : ℕ) → passed < n → n - passed ≡ suc (n - 1 - passed)
left n passed less = omega (arith, less)

-- the word begins at this place
pub found : (text word : List ℕ) (at passed : ℕ) → passed < length word
    → starts_with nat_eq (drop (at - (length word - 1 - passed)) text) word ≡ true
    → covers text at word (length word - passed) ≡ covers text at word (length word) → true ≡ covers text at word (length word)
found text word at passed less starts same =
    sym (ap (covers text at word) (left (length word) passed less) ∙ at_back text word at (length word - 1 - passed) starts) ∙ same

-- it does not
pub passed_on : (text word : List ℕ) (at passed : ℕ) → passed < length word
    → starts_with nat_eq (drop (at - (length word - 1 - passed)) text) word ≡ false
    → covers text at word (length word - passed) ≡ covers text at word (length word)
    → covers text at word (length word - (passed + 1)) ≡ covers text at word (length word)
passed_on text word at passed less starts same =
    let e : length word - (passed + 1) ≡ length word - 1 - passed = omega (arith, less) in
    ap (covers text at word) e ∙ sym (ap (covers text at word) (left (length word) passed less) ∙ past_back text word at (length word - 1 - passed) starts) ∙ same
