-- The names of a list with commas.
use Rattle.prl_base.proofs.Standard.{◌≡◌, ◌<◌, ◌≤◌, ◌+◌, ◌∙◌, ◌||◌, ℕ, Bool, true, false, not, cond, List, [], ◌∷◌, ◌++◌, length, take, drop, refl, ap, sym, arith, list_any, onto_first}
use Rattle.prl_base.proofs.Standard.{position_or_len, slice_split, bytes_eq, slice_split_first, filter-append}
use Rattle.std.specs.List.{filter}
use Rattle.prl_steps.specs.Flows.{FlowView}
use Rattle.prl_plot.specs.Asked.{is_comma, is_named}

one_more : (comma : Bool) (x : ℕ) (xs : List ℕ) → length (x ∷ xs) ≤ cond (not comma) (1 + position_or_len is_comma xs) 0
    → (length xs ≤ position_or_len is_comma xs → slice_split is_comma xs ≡ xs ∷ [])
    → cond comma ([] ∷ slice_split is_comma xs) (onto_first x (slice_split is_comma xs)) ≡ (x ∷ xs) ∷ []
one_more true x xs h ih = absurd (omega arith)
one_more false x xs h ih = ap (onto_first x) (ih (omega arith))

no_comma : (names : List ℕ) → length names ≤ position_or_len is_comma names → slice_split is_comma names ≡ names ∷ []
no_comma [] h = refl
no_comma (x ∷ xs) h = one_more (is_comma x) x xs h (no_comma xs)

or_false : (b : Bool) → (b || false) ≡ b
or_false true = refl
or_false false = refl

-- without a comma there is one name
pub one_part : (names name : List ℕ) (at : ℕ) → at ≡ position_or_len is_comma names → length names ≤ at → bytes_eq names name ≡ is_named names name
one_part names name at is all =
    let alone : slice_split is_comma names ≡ names ∷ [] = no_comma names (rw (sym is) all) in
    sym (ap (list_any (λ part. bytes_eq part name)) alone ∙ or_false (bytes_eq names name))

-- else the first, and those behind the comma
pub more_parts : (names name : List ℕ) (at : ℕ) → at ≡ position_or_len is_comma names → at < length names
    → (bytes_eq (take at names) name || is_named (drop (at + 1) names) name) ≡ is_named names name
more_parts names name at is some =
    let first = slice_split_first is_comma names 0 (rw (sym is) some) in
    rw is (sym (ap (list_any (λ part. bytes_eq part name)) first))

-- the name is the first
pub first_named : (names name : List ℕ) (at : ℕ) → at ≡ position_or_len is_comma names → at < length names
    → bytes_eq (take at names) name ≡ true → is_named names name ≡ true
first_named names name at is some first =
    sym (more_parts names name at is some) ∙ ap (λ (b : Bool). b || is_named (drop (at + 1) names) name) first

-- the name is not the first
pub not_first : (names name : List ℕ) (at : ℕ) → at ≡ position_or_len is_comma names → at < length names
    → bytes_eq (take at names) name ≡ false → is_named names name ≡ is_named (drop (at + 1) names) name
not_first names name at is some first =
    sym (more_parts names name at is some) ∙ ap (λ (b : Bool). b || is_named (drop (at + 1) names) name) first

-- one more flow, where it is named
pub one_kept : (names : List ℕ) (flows : List FlowView) (flow : FlowView)
    → filter (λ (f : FlowView). is_named names f.name) (flows ++ flow ∷ []) ≡ filter (λ (f : FlowView). is_named names f.name) flows ++ cond (is_named names flow.name) (flow ∷ []) []
one_kept names flows flow = filter-append (λ (f : FlowView). is_named names f.name) flows (flow ∷ [])

-- one more flow, where it is told whether it is named
pub kept_more : (names : List ℕ) (flows kept more : List FlowView) (flow : FlowView) (b : Bool) → kept ≡ filter (λ (f : FlowView). is_named names f.name) flows → is_named names flow.name ≡ b
    → more ≡ kept ++ cond b (flow ∷ []) [] → more ≡ filter (λ (f : FlowView). is_named names f.name) (flows ++ flow ∷ [])
kept_more names flows kept more flow b had told is =
    is ∙ ap (λ (k : List FlowView). k ++ cond b (flow ∷ []) []) had
    ∙ ap (λ (c : Bool). filter (λ (f : FlowView). is_named names f.name) flows ++ cond c (flow ∷ []) []) (sym told) ∙ sym (one_kept names flows flow)
