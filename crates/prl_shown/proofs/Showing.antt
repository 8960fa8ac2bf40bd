-- A text as a terminal may show it, byte by byte.
use Rattle.std.proofs.Common.{◌≡◌, ◌<◌, ◌-◌, ◌++◌, ◌∙◌, Bool, ℕ, zero, suc, List, [], ◌∷◌, length, drop, get_or, refl, sym, ap, arith, append_assoc}
use Rattle.std.proofs.Common.{◌+◌, ◌≤◌}
use Rattle.std.proofs.lemmas.List.{append-nil, drop-drop, drop_all}
use Rattle.prl_shown.specs.Shown.{character_len, first_text, shown, shown_from}

-- a byte of a character that began before
pub goes_on_is : (lines : Bool) (left : ℕ) (rest : List ℕ) (d : ℕ) → 0 < length rest → 0 < left → shown_from lines left rest ≡ (get_or rest 0 d ∷ []) ++ shown_from lines (left - 1) (drop 1 rest)
unfolding shown_from
goes_on_is lines left [] d h k = absurd (omega (arith, h))
goes_on_is lines zero (b ∷ bs) d h k = absurd (omega (arith, k))
goes_on_is lines (suc left) (b ∷ bs) d h k =
    let e : left ≡ suc left - 1 = omega arith in
    ap (λ n. b ∷ shown_from lines n bs) e

-- a byte where none is under way
pub begins_is : (lines : Bool) (rest : List ℕ) (d : ℕ) → 0 < length rest → shown_from lines 0 rest ≡ first_text (character_len lines rest) (get_or rest 0 d) ++ shown_from lines (character_len lines rest - 1) (drop 1 rest)
unfolding shown_from
begins_is lines [] d h = absurd (omega (arith, h))
begins_is lines (b ∷ bs) d h = refl

-- the first byte of a character stands as it is
pub plain_is : (n b : ℕ) → 0 < n → first_text n b ≡ b ∷ []
plain_is zero b h = absurd (omega (arith, h))
plain_is (suc n) b h = refl

pub joined : (old new part rest whole : List ℕ) → new ≡ old ++ part → whole ≡ part ++ rest → new ++ rest ≡ old ++ whole
joined old new part rest whole e f = ap (λ t. t ++ rest) e ∙ append_assoc old part rest ∙ ap (λ t. old ++ t) (sym f)

-- one byte more
pub next_is : (lines : Bool) (old now new bytes rest : List ℕ) (i left after : ℕ) → rest ≡ drop i bytes → new ++ shown_from lines after (drop 1 rest) ≡ now ++ shown_from lines left rest
    → now ++ shown_from lines left (drop i bytes) ≡ old ++ shown lines bytes → new ++ shown_from lines after (drop (i + 1) bytes) ≡ old ++ shown lines bytes
next_is lines old now new bytes rest i left after e step so =
    ap (λ xs. new ++ shown_from lines after xs) (sym (drop-drop 1 i bytes) ∙ ap (drop 1) (sym e)) ∙ step ∙ ap (λ xs. now ++ shown_from lines left xs) e ∙ so

-- of no bytes nothing is shown
none : (lines : Bool) (left : ℕ) → shown_from lines left [] ≡ []
unfolding shown_from
none lines left = refl

-- no byte more
pub end_is : (lines : Bool) (old now bytes : List ℕ) (i left : ℕ) → length bytes ≤ i → now ++ shown_from lines left (drop i bytes) ≡ old ++ shown lines bytes → now ≡ old ++ shown lines bytes
end_is lines old now bytes i left h so = sym (append-nil now) ∙ ap (λ xs. now ++ xs) (sym (none lines left) ∙ ap (shown_from lines left) (sym (drop_all i bytes h))) ∙ so
