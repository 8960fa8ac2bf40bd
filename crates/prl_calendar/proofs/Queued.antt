-- Turns that wait in a queue and in a heap, as one list.
use Rattle.prl_base.proofs.Standard.{◌≡◌, ◌≤◌, ℕ, suc, List, [], ◌∷◌, ◌++◌, Option, None, Some, get_or, ◌∙◌, ap, arith, Contains, IsNonDecreasingBy, IsPermutation, get_or_append_left, All-contains}
use Rattle.prl_base.proofs.Standard.{Contains-permutation, IsPermutation-append_right, IsPermutation-middle, IsPermutation-sym, IsPermutation-trans}
use Rattle.std.specs.List.{All}
use Rattle.std.specs.Option.{IfNone}
use Rattle.std.proofs.lemmas.List.{append_assoc, length-append}
use Rattle.prl_calendar.specs.Turns.{Turn, date_of, place_of}
use Rattle.prl_calendar.proofs.Places.{contains_head, contains_tail}

pub queue_pushed : (e : Turn) (queue heap : List Turn) → IsPermutation (e ∷ (queue ++ heap)) ((queue ++ e ∷ []) ++ heap)
queue_pushed e queue heap = rw (append_assoc queue (e ∷ []) heap) (IsPermutation-sym (queue ++ e ∷ heap) (e ∷ (queue ++ heap)) (IsPermutation-middle queue e heap))

pub heap_pushed : (e : Turn) (queue heap new : List Turn) → IsPermutation (e ∷ heap) new → IsPermutation (e ∷ (queue ++ heap)) (queue ++ new)
heap_pushed e queue heap new pushed =
    IsPermutation-trans (e ∷ (queue ++ heap)) (queue ++ e ∷ heap) (queue ++ new) (IsPermutation-sym (queue ++ e ∷ heap) (e ∷ (queue ++ heap)) (IsPermutation-middle queue e heap))
    (IsPermutation-append_right queue (e ∷ heap) new pushed)

pub heap_popped : (e : Turn) (queue heap new : List Turn) → IsPermutation heap (e ∷ new) → IsPermutation (queue ++ heap) (e ∷ (queue ++ new))
heap_popped e queue heap new popped =
    IsPermutation-trans (queue ++ heap) (queue ++ e ∷ new) (e ∷ (queue ++ new)) (IsPermutation-append_right queue heap (e ∷ new) popped) (IsPermutation-middle queue e new)

-- what holds of all turns holds of the one that is taken out
pub popped_holds : (P : Turn → Type 0) (e : Turn) (old new : List Turn) → IsPermutation old (e ∷ new) → All P old → P e
popped_holds P e old new popped all = All-contains P old e all (Contains-permutation (e ∷ new) old e (IsPermutation-sym old (e ∷ new) popped) (contains_head e new))

pub all_right : (P : Turn → Type 0) (xs ys : List Turn) → All P (xs ++ ys) → All P ys
all_right P [] ys all = all
all_right P (x ∷ xs) ys all = all_right P xs ys (λ k d below. all (suc k) d (omega (arith, below)))

pub contains_before : (xs ys : List Turn) (e : Turn) → Contains xs e → Contains (xs ++ ys) e
contains_before xs ys e (k, below, is) = (k, omega (arith, below, length-append xs ys), get_or_append_left xs ys e k below ∙ is)

pub contains_after : (xs ys : List Turn) (e : Turn) → Contains ys e → Contains (xs ++ ys) e
contains_after [] ys e there = there
contains_after (x ∷ xs) ys e there = contains_tail x (xs ++ ys) e (contains_after xs ys e there)

-- the first of turns in order has the least date
pub front_is : (t : ℕ) (e : Turn) (rest : List Turn) → IsNonDecreasingBy date_of (e ∷ rest) → All (λ f. t ≤ date_of f) (e ∷ rest)
    → (h : ℕ) × Contains (e ∷ rest) (record { 0 = (t, h) }) → e ≡ record { 0 = (t, place_of e) }
front_is t e rest order late (h, (k, below, is)) =
    let least : date_of e ≤ date_of (get_or (e ∷ rest) k (record { 0 = (t, h) })) = order 0 k (record { 0 = (t, h) }) (omega arith) below in
    let there : date_of (get_or (e ∷ rest) k (record { 0 = (t, h) })) ≡ t = ap date_of is in
    let from : t ≤ date_of e = late 0 e (omega arith) in
    ap (λ d. record { 0 = (d, place_of e) }) (omega (arith, least, there, from))

-- what follows from what a clause says where there is no value
pub none_then : {A : Type 0} {P Q : Type 0} (o : Option A) → IfNone o P → (P → Q) → IfNone o Q
none_then None p f = f p
none_then (Some x) p f = tt
