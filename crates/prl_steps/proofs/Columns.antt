-- The bars of columns, with one more step before the others.
use Rattle.prl_base.proofs.Standard.{◌≡◌, ◌<◌, ◌≤◌, ◌+◌, ◌-◌, ◌∙◌, ◌==◌, ℕ, zero, suc, true, false, cond, List, [], ◌∷◌, ◌++◌, length, map, set, drop, get_or, Option, Some, None, refl, ap, sym, subst}
use Rattle.prl_base.proofs.Standard.{arith, range_with_len, drop_more, get_or-map-range_with_len, length-map-range_with_len, map-range_with_len_more}
use Rattle.std.specs.List.{filter}
use Rattle.prl_drawing.specs.declared.scales.Scale.{Scale}
use Rattle.prl_steps.specs.declared.bars.Bar.{Bar}
use Rattle.prl_steps.specs.declared.samples.Step.{Step}
use Rattle.prl_steps.specs.Bars.{bar_of, begins_in, column_of, columns_of, joined}

-- functions that agree from some number on
same_from : {A : Type 0} (f g : ℕ → A) (a n : ℕ) → ((i : ℕ) → a ≤ i → g i ≡ f i) → map f (range_with_len a n) ≡ map g (range_with_len a n)
same_from f g a zero h = refl
same_from f g a (suc n) h =
    let head : g a ≡ f a = h a (omega arith) in
    let tail = same_from f g (a + 1) n (λ i le. h i (omega arith)) in
    rw (head, tail) refl

-- functions that agree but at one number, whose place is set
pub replaced : {A : Type 0} (f g : ℕ → A) (a n k : ℕ) (y : A) → k < n → g (a + k) ≡ y → ((i : ℕ) → (i ≡ a + k → ⊥) → g i ≡ f i)
    → set (map f (range_with_len a n)) k y ≡ map g (range_with_len a n)
replaced f g a zero k y h at other = absurd (omega arith)
replaced f g a (suc n) zero y h at other =
    let here : g a ≡ y = subst (λ (j : ℕ). g j ≡ y) (omega arith) at in
    let tail = same_from f g (a + 1) n (λ i le. other i (λ e. omega arith)) in
    rw (here, tail) refl
replaced f g a (suc n) (suc k) y h at other =
    let head : g a ≡ f a = other a (λ e. omega arith) in
    let e : a + suc k ≡ (a + 1) + k = omega arith in
    let tail = replaced f g (a + 1) n k y (omega arith) (subst (λ (j : ℕ). g j ≡ y) e at) (λ i differs. other i (λ is. differs (is ∙ e))) in
    rw (head, tail) refl

same_column : (c : ℕ) → (c == c) ≡ true
same_column c = grind arith

other_column : (c i : ℕ) → (i ≡ c → ⊥) → (c == i) ≡ false
other_column c i differs = grind (arith, differs)

-- one more step, in its column
one_more : (scale : Scale) (count k : ℕ) (step : Step) (steps : List Step) (bars : List (Option Bar)) (item : Option Bar)
    → k < count → k ≡ column_of scale step.from → bars ≡ columns_of count scale steps → item ≡ get_or bars k item
    → set bars k (Some (joined scale step item)) ≡ columns_of count scale (step ∷ steps)
unfolding columns_of
one_more scale count k step steps bars item within at is found =
    let f : ℕ → Option Bar = λ c. bar_of scale (filter (begins_in scale c) steps) in
    let g : ℕ → Option Bar = λ c. bar_of scale (filter (begins_in scale c) (step ∷ steps)) in
    let there : 0 + k ≡ k = omega arith in
    let held : item ≡ f k = found ∙ ap (λ (bs : List (Option Bar)). get_or bs k item) is ∙ get_or-map-range_with_len f 0 count k k item within there in
    let yes : (column_of scale step.from == k) ≡ true = rw (sym at) (same_column k) in
    let here : g k ≡ Some (joined scale step item) = rw (yes, held) refl in
    let here_too : g (0 + k) ≡ Some (joined scale step item) = subst (λ (j : ℕ). g j ≡ Some (joined scale step item)) (sym there) here in
    let not_here : (i : ℕ) → (i ≡ k → ⊥) → (column_of scale step.from == i) ≡ false = λ i differs. rw (sym at) (other_column k i differs) in
    ap (λ (bs : List (Option Bar)). set bs k (Some (joined scale step item))) is
    ∙ replaced f g 0 count k (Some (joined scale step item)) within here_too (λ i differs. rw (not_here i (λ e. differs (e ∙ sym there))) refl)

-- the step before those that were passed, from the last one on
pub one_back : (scale : Scale) (count k at : ℕ) (steps : List Step) (bars : List (Option Bar)) (item : Option Bar) (bar : Bar) (d : Step)
    → k < length steps → at < count → bars ≡ columns_of count scale (drop (length steps - k) steps)
    → at ≡ column_of scale (get_or steps (length steps - 1 - k) d).from → item ≡ get_or bars at item
    → bar ≡ joined scale (get_or steps (length steps - 1 - k) d) item
    → set bars at (Some bar) ≡ columns_of count scale (drop (length steps - (k + 1)) steps)
one_back scale count k at steps bars item bar d some within is place found joins =
    let e : length steps - 1 - k ≡ length steps - (k + 1) = omega arith in
    let next : (length steps - 1 - k) + 1 ≡ length steps - k = omega arith in
    let whole : drop (length steps - (k + 1)) steps ≡ get_or steps (length steps - 1 - k) d ∷ drop (length steps - k) steps =
    ap (λ (i : ℕ). drop i steps) (sym e) ∙ drop_more steps (length steps - 1 - k) d (omega arith)
    ∙ ap (λ (i : ℕ). get_or steps (length steps - 1 - k) d ∷ drop i steps) next in
    ap (λ (b : Bar). set bars at (Some b)) joins
    ∙ one_more scale count at (get_or steps (length steps - 1 - k) d) (drop (length steps - k) steps) bars item within place is found
    ∙ ap (columns_of count scale) (sym whole)

pub length_of : (count : ℕ) (scale : Scale) (steps : List Step) → length (columns_of count scale steps) ≡ count
unfolding columns_of
length_of count scale steps = length-map-range_with_len (λ column. bar_of scale (filter (begins_in scale column) steps)) 0 count

pub none_yet : (scale : Scale) → [] ≡ columns_of 0 scale []
unfolding columns_of
none_yet scale = refl

pub one_none : (scale : Scale) (count : ℕ) (bars : List (Option Bar)) → bars ≡ columns_of count scale []
    → bars ++ None ∷ [] ≡ columns_of (count + 1) scale []
unfolding columns_of
one_none scale count bars is =
    ap (λ (bs : List (Option Bar)). bs ++ None ∷ []) is
    ∙ sym (map-range_with_len_more (λ (column : ℕ). bar_of scale (filter (begins_in scale column) [])) 0 count count (omega arith))
