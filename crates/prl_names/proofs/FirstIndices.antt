-- The indices of names in a list that grows.
use Rattle.prl_base.proofs.Standard.{◌≡◌, ◌<◌, ◌≤◌, ℕ, ◌+◌, suc, Bool, true, false, cond, List, [], ◌∷◌, ◌++◌, length, take, get_or, refl, sym, ap, ◌∙◌, subst, Some, None, Option, arith, add-zero, Bor}
use Rattle.prl_base.proofs.Standard.{take_more, map-append, length-take-le, length-map, btree_map_updates_str, BTreeMap, UpdatesBy, slice_cmp, bytes_decides, nat_cmp, bytes_eq}
use Rattle.std.specs.Option.{is_some}
use Rattle.prl_names.specs.Vocabulary.{Mention, index_from, index_of, is_among, names_in, found, AreIndices}

abbrev pub either : Option ℕ → Option ℕ → Option ℕ
either (Some k) other = Some k
either None other = other

pub index_push : (k : ℕ) (ns : List (List ℕ)) (n q : List ℕ) →
    index_from k (ns ++ n ∷ []) q ≡ either (index_from k ns q) (cond (bytes_eq n q) (Some (k + length ns)) None)
index_push k [] n q = rw add-zero refl
index_push k (x ∷ xs) n q =
    let moved : (k + 1) + length xs ≡ k + suc (length xs) = omega arith in
    elim (bytes_eq x q) as (λ b. cond b (Some k) (index_from (k + 1) (xs ++ n ∷ []) q) ≡ either (cond b (Some k) (index_from (k + 1) xs q)) (cond (bytes_eq n q) (Some (k + suc (length xs))) None)) [
      | true ↦ refl
      | false ↦ rw (← moved) (index_push (k + 1) xs n q)
    ]

-- a name that was there keeps its index
pub kept : (ns : List (List ℕ)) (n q : List ℕ) → is_some (index_of ns n) ≡ true → index_of (ns ++ n ∷ []) q ≡ index_of ns q
kept ns n q was =
    rw index_push
    (elim (bytes_eq n q) as (λ b. bytes_eq n q ≡ b → either (index_of ns q) (cond b (Some (0 + length ns)) None) ≡ index_of ns q) [
      | true ↦ λ e.
          (let P : List ℕ → Type 0 = λ x. is_some (index_of ns x) ≡ true in
          let there = subst P ((bytes_decides n q).0 e) was in
          elim (index_of ns q) as (λ o. is_some o ≡ true → either o (Some (0 + length ns)) ≡ o) [ Some k ↦ λ h. refl | None ↦ λ h. cc ] there)
      | false ↦ λ e. elim (index_of ns q) as (λ o. either o None ≡ o) [ Some k ↦ refl | None ↦ refl ]
    ] refl)

-- a new name has the index after
pub new : (ns : List (List ℕ)) (n q : List ℕ) → is_some (index_of ns n) ≡ false →
    index_of (ns ++ n ∷ []) q ≡ cond (bytes_eq n q) (Some (length ns)) (index_of ns q)
new ns n q absent =
    let start : 0 + length ns ≡ length ns = omega arith in
    rw (index_push, start)
    (elim (bytes_eq n q) as (λ b. bytes_eq n q ≡ b → either (index_of ns q) (cond b (Some (length ns)) None) ≡ cond b (Some (length ns)) (index_of ns q)) [
      | true ↦ λ e.
          (let P : List ℕ → Type 0 = λ x. is_some (index_of ns x) ≡ false in
          let none = subst P ((bytes_decides n q).0 e) absent in
          elim (index_of ns q) as (λ o. is_some o ≡ false → either o (Some (length ns)) ≡ Some (length ns)) [ Some k ↦ λ h. cc | None ↦ λ h. refl ] none)
      | false ↦ λ e. elim (index_of ns q) as (λ o. either o None ≡ o) [ Some k ↦ refl | None ↦ refl ]
    ] refl)

pub names_with : (ms : List Mention) (k : ℕ) (x : Mention) → k < length ms → x ≡ get_or ms k x →
    names_in (take (k + 1) ms) ≡ names_in (take k ms) ++ x.name.now ∷ []
names_with ms k x below item =
    rw (take_more ms k x below, ← item) (map-append (λ (m : Mention). m.name.now) (take k ms) (x ∷ []))

-- the table tells whether a name stands among those before it
pub among : (table : BTreeMap (Bor (List ℕ)) ℕ) (ms : List Mention) (k : ℕ) (x : Mention) (bs : List ℕ) (b : Bool) → bs ≡ x.name.now → AreIndices table (names_in (take k ms)) →
    b ≡ is_some (found table bs) → is_among (names_in (take k ms)) x.name.now ≡ b
among table ms k x bs b bytes indices was = sym (was ∙ ap is_some (indices bs) ∙ ap (is_among (names_in (take k ms))) bytes)

pub step_kept : (table : BTreeMap (Bor (List ℕ)) ℕ) (ms : List Mention) (k : ℕ) (x : Mention) (bs : List ℕ) → k < length ms → x ≡ get_or ms k x → bs ≡ x.name.now →
    AreIndices table (names_in (take k ms)) → true ≡ is_some (found table bs) → AreIndices table (names_in (take (k + 1) ms))
step_kept table ms k x bs below item bytes indices was = λ q.
    rw (names_with ms k x below item) (indices q ∙ sym (kept (names_in (take k ms)) x.name.now q (among table ms k x bs true bytes indices was)))

pub step_new : (table after : BTreeMap (Bor (List ℕ)) ℕ) (ms : List Mention) (k : ℕ) (x : Mention) (bs : List ℕ) → k < length ms → x ≡ get_or ms k x → bs ≡ x.name.now →
    AreIndices table (names_in (take k ms)) → false ≡ is_some (found table bs) →
    UpdatesBy (λ x y. slice_cmp nat_cmp x.now y.now) (λ y. slice_cmp nat_cmp bs y.now) table after (Some k) → AreIndices after (names_in (take (k + 1) ms))
step_new table after ms k x bs below item bytes indices absent updates = λ q.
    let within : k ≤ length ms = omega arith in
    let count : length (names_in (take k ms)) ≡ k = length-map (take k ms) (λ (m : Mention). m.name.now) ∙ length-take-le k ms within in
    let changed = btree_map_updates_str bs table after (Some k) updates q in
    let old = rw (count, ← bytes) at (new (names_in (take k ms)) x.name.now q (among table ms k x bs false bytes indices absent)) in
    rw (names_with ms k x below item, ← bytes) (changed ∙ ap (cond (bytes_eq bs q) (Some k)) (indices q) ∙ sym old)
