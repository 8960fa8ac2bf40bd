-- What a search through a list for a name finds: the element at the first index of the name.
use Rattle.prl_base.proofs.Standard.{◌≡◌, ◌+◌, ◌≤◌, ℕ, zero, suc, Bool, true, false, List, [], ◌∷◌, length, map, take, slice_get, slice_index_or, Option, Some, None, refl, sym, ◌∙◌, ap, subst, arith}
use Rattle.prl_base.proofs.Standard.{◌||◌, nat_lt, if◌then◌else◌, list_any, option_and_then, option_map, bytes_eq, BTreeMap, lt-ltb, le-ltb, ltb-true, ltb-false, slice_get_past, slice_get_read}
use Rattle.std.specs.Option.{is_some}
use denote.Ref.{Bor}
use Rattle.prl_names.specs.Vocabulary.{index_from, index_of, AreIndices, found}
use Rattle.prl_body.specs.Scopes.{first_named, is_before}

-- the search gives what `here` makes of the first element of the name and its index
pub record Searches {A B : Type 0} (name : A → List ℕ) (n : List ℕ) (here : ℕ → A → B) (search_from : ℕ → List A → Option B) : Type 0 where
  pub end : (k : ℕ) → search_from k [] ≡ None
  pub step : (k : ℕ) (x : A) (xs : List A) → search_from k (x ∷ xs) ≡ (if bytes_eq (name x) n then Some (here k x) else search_from (k + 1) xs)

absent_step : {B : Type 0} (b : Bool) (k : ℕ) (y : B) (index : Option ℕ) (o : Option B) → (index ≡ None → o ≡ None) →
    (if b then Some k else index) ≡ None → (if b then Some y else o) ≡ None
absent_step true k y index o later is = absurd (cc)
absent_step false k y index o later is = later is

absent_from : {A B : Type 0} {name : A → List ℕ} {n : List ℕ} {here : ℕ → A → B} {search_from : ℕ → List A → Option B} → Searches name n here search_from →
    (k : ℕ) (xs : List A) → index_from k (map name xs) n ≡ None → search_from k xs ≡ None
absent_from s k [] is = s.end k
absent_from {name = name} {n = n} {here = here} {search_from = search_from} s k (x ∷ xs) is =
    s.step k x xs ∙ absent_step (bytes_eq (name x) n) k (here k x) (index_from (k + 1) (map name xs) n) (search_from (k + 1) xs) (absent_from s (k + 1) xs) is

-- the element m of a list that is counted from k, and what was found
record FoundAt {A B : Type 0} (here : ℕ → A → B) (k m : ℕ) (xs : List A) (o : Option B) : Type 0 where
  number : ℕ
  item : A
  at : m ≡ k + number
  there : slice_get xs number ≡ Some item
  found : o ≡ Some (here m item)

found_step : {A B : Type 0} (here : ℕ → A → B) (b : Bool) (k m : ℕ) (x : A) (xs : List A) (index : Option ℕ) (o : Option B) →
    (index ≡ Some m → FoundAt here (k + 1) m xs o) → (if b then Some k else index) ≡ Some m → FoundAt here k m (x ∷ xs) (if b then Some (here k x) else o)
found_step here true k m x xs index o later is =
    let same : k ≡ m = cc in
    record { number = 0; item = x; at = omega (arith, same); there = refl; found = ap (λ (j : ℕ). Some (here j x)) same }
found_step here false k m x xs index o later is =
    let tail = later is in
    let sum : m ≡ k + suc tail.number = omega (arith, tail.at) in
    record { number = suc tail.number; item = tail.item; at = sum; there = tail.there; found = tail.found }

found_from : {A B : Type 0} {name : A → List ℕ} {n : List ℕ} {here : ℕ → A → B} {search_from : ℕ → List A → Option B} → Searches name n here search_from →
    (k m : ℕ) (xs : List A) → index_from k (map name xs) n ≡ Some m → FoundAt here k m xs (search_from k xs)
found_from s k m [] is = absurd (cc)
found_from {name = name} {n = n} {here = here} {search_from = search_from} s k m (x ∷ xs) is =
    subst (FoundAt here k m (x ∷ xs)) (sym (s.step k x xs))
    (found_step here (bytes_eq (name x) n) k m x xs (index_from (k + 1) (map name xs) n) (search_from (k + 1) xs) (found_from s (k + 1) m xs) is)

-- what the search makes of the first element of the name
pub looked_up : {A B : Type 0} {name : A → List ℕ} {n : List ℕ} {here : ℕ → A → B} {search_from : ℕ → List A → Option B} → Searches name n here search_from →
    (xs : List A) → search_from 0 xs ≡ option_map (λ (x : ℕ × A). here x.0 x.1) (first_named name n xs)
looked_up {A = A} {name = name} {n = n} {here = here} {search_from = search_from} s xs =
    elim (index_of (map name xs) n) as (λ o. index_of (map name xs) n ≡ o →
    search_from 0 xs ≡ option_map (λ (x : ℕ × A). here x.0 x.1) (option_and_then (λ (k : ℕ). option_map (λ (x : A). (k, x)) (slice_get xs k)) o)) [
      | None ↦ λ is. absent_from s 0 xs is
      | Some m ↦ λ is.
          (let at = found_from s 0 m xs is in
          let same : m ≡ at.number = omega (arith, at.at) in
          at.found ∙ sym (ap (λ (o : Option A). option_map (λ (x : ℕ × A). here x.0 x.1) (option_map (λ (x : A). (m, x)) o)) (ap (slice_get xs) same ∙ at.there)))
    ] refl

-- what a table has for the bytes of the name
pub at_name : (n : List ℕ) (table : BTreeMap (Bor (List ℕ)) ℕ) (bytes : List ℕ) (r : Option ℕ) → bytes ≡ n → r ≡ found table bytes → found table n ≡ r
at_name n table bytes r same is = ap (found table) (sym same) ∙ sym is

-- by a table of the first indices: nothing where the name has no index, or the list ends before it, and else what is read there
module _ {A : Type 0} (name : A → List ℕ) (n : List ℕ) (xs : List A) (table : BTreeMap (Bor (List ℕ)) ℕ) (are : AreIndices table (map name xs)) where
  at_index : (o : Option ℕ) → found table n ≡ o → first_named name n xs ≡ option_and_then (λ k. option_map (λ x. (k, x)) (slice_get xs k)) o
  at_index o is = ap (option_and_then (λ k. option_map (λ x. (k, x)) (slice_get xs k))) (sym (are n) ∙ is)

  pub nothing : found table n ≡ None → first_named name n xs ≡ None
  nothing is = at_index None is

  pub nothing_there : (k : ℕ) → found table n ≡ Some k → false ≡ nat_lt k (length xs) → first_named name n xs ≡ None
  nothing_there k is past = at_index (Some k) is ∙ ap (option_map (λ x. (k, x))) (slice_get_past xs k (ltb-false k (length xs) (sym past)))

  pub one : (k : ℕ) (x : A) → found table n ≡ Some k → true ≡ nat_lt k (length xs) → x ≡ slice_index_or xs k x → first_named name n xs ≡ Some (k, x)
  one k x is within read = at_index (Some k) is ∙ ap (option_map (λ y. (k, y))) (slice_get_read xs (length xs) k x refl (ltb-true k (length xs) (sym within)) read)

-- an element has the name exactly where the name has an index
any_from : {A : Type 0} (name : A → List ℕ) (n : List ℕ) (k : ℕ) (xs : List A) → list_any (λ x. bytes_eq (name x) n) xs ≡ is_some (index_from k (map name xs) n)
any_from name n k [] = refl
any_from name n k (x ∷ xs) =
    let rest = any_from name n (k + 1) xs in
    elim (bytes_eq (name x) n) as (λ b. (b || list_any (λ y. bytes_eq (name y) n) xs) ≡ is_some (if b then Some k else index_from (k + 1) (map name xs) n)) [
      | true ↦ refl
      | false ↦ rest
    ]

pub any_is : {A : Type 0} (name : A → List ℕ) (n : List ℕ) (xs : List A) → list_any (λ x. bytes_eq (name x) n) xs ≡ is_some (index_of (map name xs) n)
any_is name n xs = any_from name n 0 xs

not_before : (n : List ℕ) (m k : ℕ) (ns : List (List ℕ)) → m ≤ k → is_before m (index_from k ns n) ≡ false
not_before n m k [] order = refl
not_before n m k (x ∷ ns) order =
    let rest = not_before n m (k + 1) ns (omega (arith, order)) in
    elim (bytes_eq x n) as (λ b. is_before m (if b then Some k else index_from (k + 1) ns n) ≡ false) [
      | true ↦ le-ltb k m order
      | false ↦ rest
    ]

-- one of the first elements has the name exactly where the first index of the name is before their number
earlier_from : {A : Type 0} (name : A → List ℕ) (n : List ℕ) (count k : ℕ) (xs : List A) →
    list_any (λ x. bytes_eq (name x) n) (take count xs) ≡ is_before (k + count) (index_from k (map name xs) n)
earlier_from name n zero k xs = sym (not_before n (k + zero) k (map name xs) (omega arith))
earlier_from name n (suc count) k [] = refl
earlier_from name n (suc count) k (x ∷ xs) =
    let sum : k + 1 + count ≡ k + suc count = omega arith in
    let rest = subst (λ (m : ℕ). list_any (λ y. bytes_eq (name y) n) (take count xs) ≡ is_before m (index_from (k + 1) (map name xs) n)) sum (earlier_from name n count (k + 1) xs) in
    elim (bytes_eq (name x) n) as (λ b. (b || list_any (λ y. bytes_eq (name y) n) (take count xs)) ≡ is_before (k + suc count) (if b then Some k else index_from (k + 1) (map name xs) n)) [
      | true ↦ sym (lt-ltb k (k + suc count) (omega arith))
      | false ↦ rest
    ]

pub earlier_is : {A : Type 0} (name : A → List ℕ) (n : List ℕ) (count : ℕ) (xs : List A) →
    list_any (λ x. bytes_eq (name x) n) (take count xs) ≡ is_before count (index_of (map name xs) n)
earlier_is name n count xs =
    let sum : 0 + count ≡ count = omega arith in
    subst (λ (m : ℕ). list_any (λ x. bytes_eq (name x) n) (take count xs) ≡ is_before m (index_of (map name xs) n)) sum (earlier_from name n count 0 xs)
