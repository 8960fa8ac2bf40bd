use Rattle.prl_base.proofs.Standard.{◌≡◌, ◌&&◌, ◌∙◌, ◌<◌, ◌≤◌, ◌-◌, ℕ, Bool, true, false, List, [], ◌∷◌, length, map, drop, take, get_or, refl, arith, take_rest, string_bytes}
use Rattle.prl_io.specs.Pairs.{are_pairs, is_pair}
use Rattle.prl_io.proofs.words.+are_pairs.Goals as goal

-- one word alone is no pair
alone : {A : Type 0} (f : A → List ℕ) (options : List (List ℕ)) (words : List A) → 1 ≤ length words → length words < 2
    → false ≡ are_pairs options (map f words)
alone f options [] some few = absurd (omega arith)
alone f options (word ∷ []) some few = refl
alone f options (word ∷ value ∷ words) some few = absurd (omega arith)

-- what is said of the first pair and of the words after it is said of the words
step : {A : Type 0} (f : A → List ℕ) (options : List (List ℕ)) (words : List A) (word value : A) (here rest : Bool) (front next : List ℕ)
    → 2 ≤ length words → word ≡ get_or words 0 word → value ≡ get_or words 1 value → front ≡ f word → next ≡ f value
    → here ≡ is_pair options front next (map f (take (length words - 2) (drop 2 words)))
    → rest ≡ are_pairs options (map f (take (length words - 2) (drop 2 words)))
    → (here && rest) ≡ are_pairs options (map f words)
step f options [] word value here rest front next some a b c d h r = absurd (omega arith)
step f options (w ∷ []) word value here rest front next some a b c d h r = absurd (omega arith)
step f options (w ∷ v ∷ ws) word value here rest front next some a b c d h r =
    rw (h, r, take_rest (w ∷ v ∷ ws) 2, c, d, a, b) refl

pub returns-in-len1 : goal.returns-in-len1
returns-in-len1 t c =
    alone string_bytes (map (λ option. option.now) c.args.options.now) c.args.words.now c.in-len1.len_at_least c.in-len1.len_below

-- where that is a pair, the words after it decide
yes : {A : Type 0} (f : A → List ℕ) (options : List (List ℕ)) (words : List A) (here rest : Bool)
    → here ≡ true → (here && rest) ≡ are_pairs options (map f words) → rest ≡ are_pairs options (map f words)
yes f options words here rest t h = rw t at h

-- where it is none, the words are no pairs
no_pair : {A : Type 0} (f : A → List ℕ) (options : List (List ℕ)) (words : List A) (here rest : Bool)
    → here ≡ false → (here && rest) ≡ are_pairs options (map f words) → here ≡ are_pairs options (map f words)
no_pair f options words here rest t h = t ∙ (rw t at h)

pub returns-then-is_pair : goal.returns-then-is_pair
returns-then-is_pair t c =
    yes string_bytes (map (λ option. option.now) c.args.options.now) c.args.words.now c.is_pair.result c.are_pairs.result c.if-is_pair.true
    (step string_bytes (map (λ option. option.now) c.args.options.now) c.args.words.now c.word-item.result c.value-item.result
    c.is_pair.result c.are_pairs.result c.as_bytes.result.now c.as_bytes-in-len2-up.result.now
    c.in-len2-up.len_at_least c.word-item.is c.value-item.is c.as_bytes.ensures.value c.as_bytes-in-len2-up.ensures.value c.is_pair.ensures c.are_pairs.ensures)

pub returns-else-is_pair : goal.returns-else-is_pair
returns-else-is_pair t c =
    no_pair string_bytes (map (λ option. option.now) c.args.options.now) c.args.words.now c.is_pair.result _ c.if-is_pair.false
    (step string_bytes (map (λ option. option.now) c.args.options.now) c.args.words.now c.word-item.result c.value-item.result
    c.is_pair.result (are_pairs (map (λ option. option.now) c.args.options.now) (map string_bytes (take (length c.args.words.now - 2) (drop 2 c.args.words.now))))
    c.as_bytes.result.now c.as_bytes-in-len2-up.result.now
    c.in-len2-up.len_at_least c.word-item.is c.value-item.is c.as_bytes.ensures.value c.as_bytes-in-len2-up.ensures.value c.is_pair.ensures refl)
