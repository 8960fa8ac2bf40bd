-- Where a space has no repeat, its names are apart.
use Rattle.prl_base.proofs.Standard.{◌≡◌, ◌+◌, ℕ, zero, suc, true, false, cond, List, [], ◌∷◌, ◌++◌, length, map, refl, sym, ap, ◌∙◌, subst, Some, None, Option, false≢true, bytes_decides, bytes_eq}
use Rattle.std.specs.Bool.{nat_lt}
use Rattle.std.specs.List.{slice_get}
use Rattle.std.specs.Option.{is_some}
use Rattle.prl_ast.specs.declared.declarations.Placed.{Placed}
use Rattle.prl_names.specs.Vocabulary.{index_of, AreApart, placed_names, is_among, repeat_after, repeat_in, first_of, earliest_repeat}
use Rattle.prl_names.proofs.FirstIndices.{either, index_push}

-- a name stays among the names when one is added
pub among_more : (ns : List (List ℕ)) (n q : List ℕ) → is_among (ns ++ n ∷ []) q ≡ false → is_among ns q ≡ false
among_more ns n q h =
    elim (index_of ns q) as (λ o. is_some (either o (cond (bytes_eq n q) (Some (0 + length ns)) None)) ≡ false → is_some o ≡ false) [
      | Some k ↦ λ g. g
      | None ↦ λ g. refl
    ] (ap is_some (sym (index_push 0 ns n q)) ∙ h)

-- a name is among the names to which it is added
pub among_last : (ns : List (List ℕ)) (q : List ℕ) → is_among (ns ++ q ∷ []) q ≡ true
among_last ns q =
    let same : bytes_eq q q ≡ true = (bytes_decides q q).1 refl in
    ap is_some (index_push 0 ns q q) ∙ rw same
    (elim (index_of ns q) as (λ o. is_some (either o (Some (0 + length ns))) ≡ true) [ Some k ↦ refl | None ↦ refl ])

-- what no repeat means for the first of a space
pub no_repeat : (earlier : List (List ℕ)) (x : Placed) (xs : List Placed) → repeat_after earlier (x ∷ xs) ≡ None →
    (is_among earlier x.name ≡ false) × (repeat_after (earlier ++ x.name ∷ []) xs ≡ None)
no_repeat earlier x xs h =
    elim (is_among earlier x.name) as (λ b. cond b (Some x) (repeat_after (earlier ++ x.name ∷ []) xs) ≡ None → (b ≡ false) × (repeat_after (earlier ++ x.name ∷ []) xs ≡ None)) [
      | true ↦ λ g. cc
      | false ↦ λ g. (refl, g)
    ] h

not_earlier : (earlier : List (List ℕ)) (xs : List Placed) (i : ℕ) (n : List ℕ) → repeat_after earlier xs ≡ None → slice_get (placed_names xs) i ≡ Some n → is_among earlier n ≡ false
not_earlier earlier [] i n h g = cc
not_earlier earlier (x ∷ xs) zero n h g = (let same : x.name ≡ n = cc in subst (λ m. is_among earlier m ≡ false) same (no_repeat earlier x xs h).0)
not_earlier earlier (x ∷ xs) (suc i) n h g = among_more earlier x.name n (not_earlier (earlier ++ x.name ∷ []) xs i n (no_repeat earlier x xs h).1 g)

clash : (earlier : List (List ℕ)) (x : Placed) (xs : List Placed) (j : ℕ) (n : List ℕ) → repeat_after earlier (x ∷ xs) ≡ None → Some x.name ≡ Some n → slice_get (placed_names xs) j ≡ Some n → ⊥
clash earlier x xs j n h first second =
    let same : x.name ≡ n = cc in
    let absent = not_earlier (earlier ++ x.name ∷ []) xs j n (no_repeat earlier x xs h).1 second in
    false≢true (sym absent ∙ subst (λ m. is_among (earlier ++ m ∷ []) n ≡ true) (sym same) (among_last earlier n))

apart_after : (earlier : List (List ℕ)) (xs : List Placed) (i j : ℕ) (n : List ℕ) → repeat_after earlier xs ≡ None →
    slice_get (placed_names xs) i ≡ Some n → slice_get (placed_names xs) j ≡ Some n → i ≡ j
apart_after earlier [] i j n h g k = cc
apart_after earlier (x ∷ xs) zero zero n h g k = refl
apart_after earlier (x ∷ xs) zero (suc j) n h g k = absurd (clash earlier x xs j n h g k)
apart_after earlier (x ∷ xs) (suc i) zero n h g k = absurd (clash earlier x xs i n h k g)
apart_after earlier (x ∷ xs) (suc i) (suc j) n h g k = ap suc (apart_after (earlier ++ x.name ∷ []) xs i j n (no_repeat earlier x xs h).1 g k)

pub apart : (xs : List Placed) → repeat_in xs ≡ None → AreApart (placed_names xs)
apart xs h = λ i j n g k. apart_after [] xs i j n h g k

-- no space has a repeat
abbrev pub NoRepeats : List (List Placed) → Type 0
NoRepeats [] = Unit {0}
NoRepeats (s ∷ ss) = (repeat_in s ≡ None) × NoRepeats ss

first_none : (a b : Option Placed) → first_of a b ≡ None → (a ≡ None) × (b ≡ None)
first_none None b h = (refl, h)
first_none (Some p) None h = (h, refl)
first_none (Some p) (Some q) h =
    elim (nat_lt q.at.at p.at.at) as (λ b. cond b (Some q) (Some p) ≡ None → (Some p ≡ None) × (Some q ≡ None)) [
      | true ↦ λ g. absurd (let no : ⊥ = cc in no)
      | false ↦ λ g. absurd (let no : ⊥ = cc in no)
    ] h

earliest_none : (before : Option Placed) (ss : List (List Placed)) → earliest_repeat before ss ≡ None → (before ≡ None) × NoRepeats ss
earliest_none before [] h = (h, tt)
earliest_none before (s ∷ ss) h =
    let others = earliest_none (first_of before (repeat_in s)) ss h in
    let here = first_none before (repeat_in s) others.0 in
    (here.0, (here.1, others.1))

pub no_repeats : (ss : List (List Placed)) → earliest_repeat None ss ≡ None → NoRepeats ss
no_repeats ss h = (earliest_none None ss h).1

pub repeats_split : (xs ys : List (List Placed)) → NoRepeats (xs ++ ys) → NoRepeats xs × NoRepeats ys
repeats_split [] ys h = (tt, h)
repeats_split (x ∷ xs) ys h = (let others = repeats_split xs ys h.1 in ((h.0, others.0), others.1))

pub space_of : {X : Type 0} (space : X → List Placed) (xs : List X) (k : ℕ) (x : X) → NoRepeats (map space xs) → slice_get xs k ≡ Some x → AreApart (placed_names (space x))
space_of space [] k x h g = cc
space_of {X = X} space (y ∷ ys) zero x h g =
    (let same : y ≡ x = cc in subst (λ (z : X). AreApart (placed_names (space z))) same (apart (space y) h.0))
space_of space (y ∷ ys) (suc k) x h g = space_of space ys k x h.1 g
