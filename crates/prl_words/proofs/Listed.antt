-- The words of the edges so far, with one more.
use Rattle.prl_base.proofs.Standard.{◌≡◌, ◌+◌, ◌<◌, ◌++◌, ℕ, zero, suc, List, [], ◌∷◌, Some, length, inl, inr, refl, sym, ap, subst, ◌∙◌, arith, slice_get, sum_by, sum_by-cons, cases_lt, length_push}
use Rattle.prl_base.proofs.Standard.{same_Some}
use Rattle.prl_plan.specs.Vocabulary.{first_reader, IsWordOf}
use Rattle.prl_plan.specs.declared.graphs.Edge.{Edge}
use Rattle.prl_plan.specs.declared.words.Word.{Word}

-- the first words are those of the first edges
abbrev pub AreSoMany : List Edge → ℕ → List Word → Type 0
AreSoMany edges i ws = (length ws ≡ i)
    × ((e : ℕ) (edge : Edge) → e < i → slice_get edges e ≡ Some edge → (w : Word) × (slice_get ws e ≡ Some w) × IsWordOf edge.ops w)

get_left : (xs ys : List Word) (n : ℕ) → n < length xs → slice_get (xs ++ ys) n ≡ slice_get xs n
get_left [] ys n h = absurd (omega (arith, h))
get_left (x ∷ xs) ys zero h = refl
get_left (x ∷ xs) ys (suc n) h = get_left xs ys n (omega (arith, h))

get_last : (xs : List Word) (w : Word) (n : ℕ) → n ≡ length xs → slice_get (xs ++ w ∷ []) n ≡ Some w
get_last [] w zero is = refl
get_last [] w (suc n) is = absurd (omega (arith, is))
get_last (x ∷ xs) w zero is = absurd (omega (arith, is))
get_last (x ∷ xs) w (suc n) is = get_last xs w n (omega (arith, is))

pub one_more : (edges : List Edge) (i : ℕ) (ws : List Word) (edge : Edge) (w : Word) → AreSoMany edges i ws → slice_get edges i ≡ Some edge → IsWordOf edge.ops w →
    AreSoMany edges (i + 1) (ws ++ w ∷ [])
one_more edges i ws edge w are found is = (
  length_push ws w ∙ ap (λ (n : ℕ). n + 1) are.0,
  λ e other within at. elim (cases_lt e i) [
    | inl less ↦
        (let old = are.1 e other less at in
        (old.0, get_left ws (w ∷ []) e (omega (arith, less, are.0)) ∙ old.1, old.2))
    | inr above ↦
        (let same : e ≡ i = omega (arith, above, within) in
        let here : slice_get edges i ≡ Some other = subst (λ (n : ℕ). slice_get edges n ≡ Some other) same at in
        let edges_same : edge ≡ other = same_Some edge other (sym found ∙ here) in
        (w, get_last ws w e (omega (arith, same, are.0)), subst (λ (x : Edge). IsWordOf x.ops w) edges_same is))
  ],
)

-- lists whose elements match have one sum
pub same_sum : (edges : List Edge) (ws : List Word) → length ws ≡ length edges →
    ((e : ℕ) (edge : Edge) → slice_get edges e ≡ Some edge → (w : Word) × (slice_get ws e ≡ Some w) × (length w.prefix ≡ first_reader edge.ops)) →
    sum_by (λ (w : Word). length w.prefix) ws ≡ sum_by (λ (edge : Edge). first_reader edge.ops) edges
same_sum [] [] long each = refl
same_sum [] (w ∷ ws) long each = absurd (omega (arith, long))
same_sum (edge ∷ edges) [] long each = absurd (omega (arith, long))
same_sum (edge ∷ edges) (w ∷ ws) long each =
    let first = each 0 edge refl in
    let here : w ≡ first.0 = same_Some w first.0 first.1 in
    let long_is : length w.prefix ≡ first_reader edge.ops = ap (λ (x : Word). length x.prefix) here ∙ first.2 in
    let rest = same_sum edges ws (omega (arith, long)) (λ e x at. each (suc e) x at) in
    let a = sum_by-cons (λ (x : Word). length x.prefix) w ws in
    let b = sum_by-cons (λ (x : Edge). first_reader x.ops) edge edges in
    omega (arith, a, b, long_is, rest)
