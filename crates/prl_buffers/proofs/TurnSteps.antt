-- What the jobs of a hyperperiod read, one job more at a time.
use Rattle.prl_base.proofs.Standard.{◌≡◌, ◌+◌, ◌<◌, ◌≤◌, ◌++◌, ℕ, List, [], ◌∷◌, length, take, sum, inl, inr, refl, sym, ◌∙◌, ap, subst, arith, slice_index, cases_lt, take_all, take-append-le}
use Rattle.prl_base.proofs.Standard.{length_push, get_or_push, get_or_append_left, sum_by-cons}
use Rattle.prl_plan.specs.Words.{number_at}
use Rattle.prl_plan.specs.declared.words.Word.{Word}
use Rattle.prl_buffers.specs.code.Turns.{IsTurn}

pub sum_push : (xs : List ℕ) (g : ℕ) → sum (xs ++ g ∷ []) ≡ sum xs + g
sum_push [] g = omega (arith, sum_by-cons (λ y. y) g [])
sum_push (x ∷ xs) g = omega (arith, sum_push xs g, sum_by-cons (λ y. y) x (xs ++ g ∷ []), sum_by-cons (λ y. y) x xs)

module _ (w : Word) where
  pub turn_begins : IsTurn w 0 [] []
  turn_begins = record {
    long = refl;
    positive = λ j inside. absurd (omega (arith, inside));
    within = λ j inside. absurd (omega (arith, inside));
    each = λ j inside. absurd (omega (arith, inside));
    next = λ j inside. absurd (omega (arith, inside));
    whole = (let z : sum [] ≡ 0 = refl in omega (arith, z));
    all = λ i small. (0, omega arith, (let e : i ≡ 0 = omega (arith, small) in let z : sum (take 0 []) ≡ 0 = refl in omega (arith, ap (λ (k : ℕ). number_at w k) e, z)));
  }

  module _ (i : ℕ) (gaps last : List ℕ) (is : IsTurn w i gaps last) where
    pub turn_same : number_at w (i + 1) ≡ number_at w i → IsTurn w (i + 1) gaps last
    turn_same same = record {
      long = is.long;
      positive = is.positive;
      within = λ j inside. omega (arith, is.within j inside);
      each = is.each;
      next = is.next;
      whole = omega (arith, same, is.whole);
      all = λ k small.
          elim (cases_lt i k) [
            | inl above ↦
                (let old = is.all i (omega arith) in
                let e : k ≡ i + 1 = omega (arith, above, small) in
                (old.0, old.1, omega (arith, old.2, ap (λ (x : ℕ). number_at w x) e, same)))
            | inr below ↦ is.all k below
          ];
    }

    module _ (gap : ℕ) (some : 1 ≤ gap) (up : number_at w (i + 1) ≡ number_at w i + gap) where
      abbrev longer : List ℕ
      longer = gaps ++ gap ∷ []

      old_sum : (j : ℕ) → j ≤ length gaps → sum (take j (gaps ++ gap ∷ [])) ≡ sum (take j gaps)
      old_sum j small = ap sum (take-append-le j gaps (gap ∷ []) small)

      all_sum : (j : ℕ) → length gaps < j → sum (take j (gaps ++ gap ∷ [])) ≡ sum gaps + gap
      all_sum j above = ap sum (take_all j (gaps ++ gap ∷ []) (omega (arith, above, length_push gaps gap))) ∙ sum_push gaps gap

      last_at : (j : ℕ) → length gaps ≤ j → j < length (gaps ++ gap ∷ []) → slice_index (last ++ i ∷ []) j ≡ i
      last_at j above inside =
          (let e : j ≡ length last = omega (arith, above, inside, length_push gaps gap, is.long) in
          ap (λ (x : ℕ). slice_index (last ++ i ∷ []) x) e ∙ get_or_push last i 0 (length last) refl)

      last_old : (j : ℕ) → j < length gaps → slice_index (last ++ i ∷ []) j ≡ slice_index last j
      last_old j below = get_or_append_left last (i ∷ []) 0 j (omega (arith, below, is.long))

      pub turn_more : IsTurn w (i + 1) (gaps ++ gap ∷ []) (last ++ i ∷ [])
      turn_more = record {
        long = (let a = length_push last i in let b = length_push gaps gap in let long = is.long in omega (arith, a, b, long));
        positive = λ j inside.
            elim (cases_lt j (length gaps)) [
              | inl below ↦ subst (λ (x : ℕ). 1 ≤ x) (sym (get_or_append_left gaps (gap ∷ []) 0 j below)) (is.positive j below)
              | inr above ↦
                  (let l = length_push gaps gap in
                  let e : j ≡ length gaps = omega (arith, inside, above, l) in
                  let s : slice_index (gaps ++ gap ∷ []) j ≡ gap = ap (λ (x : ℕ). slice_index (gaps ++ gap ∷ []) x) e ∙ get_or_push gaps gap 0 (length gaps) refl in
                  omega (arith, s, some))
            ];
        within = λ j inside.
            elim (cases_lt j (length gaps)) [
              | inl below ↦ (let b = is.within j below in let s = last_old j below in omega (arith, b, s))
              | inr above ↦ (let s = last_at j above inside in omega (arith, s))
            ];
        each = λ j inside.
            elim (cases_lt j (length gaps)) [
              | inl below ↦ ap (λ (x : ℕ). number_at w x) (last_old j below) ∙ is.each j below ∙ ap (λ (x : ℕ). number_at w 0 + x) (sym (old_sum j (omega (arith, below))))
              | inr above ↦
                  (let l = length_push gaps gap in
                  let e : j ≡ length gaps = omega (arith, inside, above, l) in
                  let t : sum (take j gaps) ≡ sum gaps = ap sum (take_all j gaps (omega (arith, e))) in
                  let o = old_sum j (omega (arith, e)) in
                  let h = is.whole in
                  ap (λ (x : ℕ). number_at w x) (last_at j above inside) ∙ omega (arith, t, o, h))
            ];
        next = λ j inside.
            elim (cases_lt j (length gaps)) [
              | inl below ↦ subst (λ (x : ℕ). number_at w x < number_at w (x + 1)) (sym (last_old j below)) (is.next j below)
              | inr above ↦ subst (λ (x : ℕ). number_at w x < number_at w (x + 1)) (sym (last_at j above inside)) (omega (arith, up, some))
            ];
        whole = (let s = sum_push gaps gap in let h = is.whole in omega (arith, s, h, up));
        all = λ k small.
            elim (cases_lt i k) [
              | inl above ↦
                  (let e : k ≡ i + 1 = omega (arith, above, small) in
                  let s = ap (λ (x : ℕ). number_at w x) e in
                  let l = length_push gaps gap in
                  let a = all_sum (length gaps + 1) (omega arith) in
                  let h = is.whole in
                  (length gaps + 1, omega (arith, l), omega (arith, s, a, h, up)))
              | inr below ↦
                  (let old = is.all k below in
                  let l = length_push gaps gap in
                  let small_j = old.1 in
                  let o = old_sum old.0 old.1 in
                  let at = old.2 in
                  (old.0, omega (arith, small_j, l), omega (arith, at, o)))
            ];
      }

-- one job more, as the loop does it
pub turn_step : (w : Word) (i gap : ℕ) (gaps last gaps2 last2 : List ℕ) → IsTurn w i gaps last → number_at w (i + 1) ≡ number_at w i + gap → 1 ≤ gap →
    gaps2 ≡ gaps ++ gap ∷ [] → last2 ≡ last ++ i ∷ [] → IsTurn w (i + 1) gaps2 last2
turn_step w i gap gaps last gaps2 last2 is up some g l = rw (g, l) (turn_more w i gaps last is gap some up)

pub turn_stays : (w : Word) (i : ℕ) (gaps last gaps2 last2 : List ℕ) → IsTurn w i gaps last → number_at w (i + 1) ≡ number_at w i →
    gaps2 ≡ gaps → last2 ≡ last → IsTurn w (i + 1) gaps2 last2
turn_stays w i gaps last gaps2 last2 is same g l = rw (g, l) (turn_same w i gaps last is same)
