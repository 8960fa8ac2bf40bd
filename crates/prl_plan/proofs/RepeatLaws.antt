-- The shortest list that repeats in one way is one; and so are the word of an edge, and an enumeration by gaps.
use Rattle.prl_base.proofs.Standard.{◌≡◌, ◌+◌, ◌-◌, ◌*◌, ◌/◌, ◌%◌, ◌<◌, ◌≤◌, ℕ, zero, suc, List, [], ◌∷◌, length, get_or, take, sum, Some, inl, inr, refl, sym, ◌∙◌, ap, subst, arith, slice_get}
use Rattle.prl_base.proofs.Standard.{slice_index, cases_lt, div-mul-add, mod-mul-add, mod_below, same_lists, take_all, get_or_default, sum_by_more, slice_get-get_or, same_Some, add-mul-mod_self_right}
use Rattle.prl_base.proofs.Standard.{mod-eq_of_lt, div-eq_of_lt, mod-add-div'}
use Rattle.prl_base.specs.declared.operators.Op.{Op}
use Rattle.prl_base.specs.declared.values.Value.{Value}
use Rattle.prl_plan.specs.declared.walks.Operand.TheVariants as operands
use Rattle.prl_plan.specs.Vocabulary.{Word, Edge, Used, repeated, ComesAgain, IsShortestRepeat, number_at, word_at, IsWordOf, Climbs, used_at, EnumeratesUsed}
use Rattle.prl_plan.proofs.WordNumbers.{in_prefix, after_prefix, next_turns}
use Rattle.prl_plan.proofs.UsedLaws.{rising_to, some_gaps}

small_mod : (n k : ℕ) → n < k → n % k ≡ n
small_mod n k below = mod-eq_of_lt below

-- a list comes again after its length
own_length : {A : Type 0} (list : List A) → ComesAgain list (length list)
own_length list n =
    ap (λ (k : ℕ). slice_get list k)
    (ap (λ (k : ℕ). (n + k) % length list) (let e : length list ≡ 1 * length list = omega arith in e) ∙ add-mul-mod_self_right n 1 (length list))

no_longer : {A : Type 0} (one other : List A) → 1 ≤ length one → ((n : ℕ) → repeated one n ≡ repeated other n) → IsShortestRepeat other → length other ≤ length one
no_longer one other some same short =
    short.least (length one) some (λ n. sym (same (n + length one)) ∙ own_length one n ∙ same n)

-- two lists that repeat alike and are both shortest
pub one_repeat : {A : Type 0} (one other : List A) → 1 ≤ length one → 1 ≤ length other → ((n : ℕ) → repeated one n ≡ repeated other n) →
    IsShortestRepeat one → IsShortestRepeat other → one ≡ other
one_repeat one other some_one some_other same short_one short_other =
    let long : length one ≡ length other = omega (arith, no_longer one other some_one same short_other, no_longer other one some_other (λ n. sym (same n)) short_one) in
    same_lists one other long
    (λ k d below.
    (let here : slice_get one (k % length one) ≡ Some (get_or one k d) =
    ap (λ (x : ℕ). slice_get one x) (small_mod k (length one) below) ∙ slice_get-get_or one k d below in
    let there : slice_get other (k % length other) ≡ Some (get_or other k d) =
    ap (λ (x : ℕ). slice_get other x) (small_mod k (length other) (omega (arith, below, long))) ∙ slice_get-get_or other k d (omega (arith, below, long)) in
    same_Some (get_or one k d) (get_or other k d) (sym here ∙ same k ∙ there)))

same_instance : (a b : ℕ) → operands.From a ≡ operands.From b → a ≡ b
same_instance a b e = cc

same_constant : (a b : Value) → operands.Const a ≡ operands.Const b → a ≡ b
same_constant a b e = cc

never : (c : Value) (m : ℕ) → operands.Const c ≡ operands.From m → ⊥
never c m e = cc

word_is : (a b : Word) → a.prefix ≡ b.prefix → a.repeat ≡ b.repeat → a.step_in ≡ b.step_in → a.step_out ≡ b.step_out → a ≡ b
word_is a b p r i o =
    ap (λ (x : List Value). (let w : Word = record { prefix = x; repeat = a.repeat; step_in = a.step_in; step_out = a.step_out } in w)) p
    ∙ ap (λ (x : List ℕ). (let w : Word = record { prefix = b.prefix; repeat = x; step_in = a.step_in; step_out = a.step_out } in w)) r
    ∙ ap (λ (x : ℕ). (let w : Word = record { prefix = b.prefix; repeat = b.repeat; step_in = x; step_out = a.step_out } in w)) i
    ∙ ap (λ (x : ℕ). (let w : Word = record { prefix = b.prefix; repeat = b.repeat; step_in = b.step_in; step_out = x } in w)) o

module _ (ops : List Op) (a b : Word) (of_a : IsWordOf ops a) (of_b : IsWordOf ops b) where
  same_at : (n : ℕ) → word_at a n ≡ word_at b n
  same_at n = of_a.at n ∙ sym (of_b.at n)

  -- a prefix is no longer than the other
  prefix_within : length b.prefix ≤ length a.prefix
  prefix_within =
      elim (cases_lt (length a.prefix) (length b.prefix)) [
        | inl below ↦ absurd (go b.prefix refl below)
        | inr above ↦ above
      ]
    where
      go : (p : List Value) → b.prefix ≡ p → length a.prefix < length b.prefix → ⊥
      go [] is below = absurd (omega (arith, ap length is, below))
      go (c ∷ rest) is below =
          never (get_or b.prefix (length a.prefix) c) (number_at a (length a.prefix - length a.prefix))
          (sym (in_prefix b (length a.prefix) c below) ∙ sym (same_at (length a.prefix)) ∙ after_prefix a (length a.prefix) (omega arith))

  -- the step of a word serves
  own_step : Climbs ops (length a.prefix) a.step_in a.step_out
  own_step n m past reads =
      let here : number_at a (n - length a.prefix) ≡ m = same_instance (number_at a (n - length a.prefix)) m (sym (after_prefix a n past) ∙ of_a.at n ∙ reads) in
      let place : n - length a.prefix + 1 * a.step_in ≡ n + a.step_in - length a.prefix = omega (arith, past) in
      let there : number_at a (n + a.step_in - length a.prefix) ≡ m + a.step_out =
      (omega (arith, here, next_turns a of_a.word.some (n - length a.prefix) 1, ap (λ (k : ℕ). number_at a k) place)) in
      sym (of_a.at (n + a.step_in)) ∙ after_prefix a (n + a.step_in) (omega (arith, past)) ∙ ap (λ (k : ℕ). operands.From k) there

-- the number in the first turn
number_first : (w : Word) (i : ℕ) → i < w.step_in → number_at w i ≡ slice_index w.repeat i
number_first w i within =
    omega (arith, ap (λ (x : ℕ). x * w.step_out) (div-eq_of_lt within), ap (λ (k : ℕ). slice_index w.repeat k) (small_mod i w.step_in within))

-- the step is the rise over one turn
step_is : (w : Word) → 1 ≤ w.step_in → number_at w w.step_in ≡ number_at w 0 + w.step_out
step_is w some = omega (arith, next_turns w some 0 1, ap (λ (k : ℕ). number_at w k) (let e : 0 + 1 * w.step_in ≡ w.step_in = omega arith in e))

-- operators have one word
pub one_word : (ops : List Op) (a b : Word) → IsWordOf ops a → IsWordOf ops b → a ≡ b
one_word ops a b of_a of_b =
    let long : length a.prefix ≡ length b.prefix = (let x = prefix_within ops a b of_a of_b in let y = prefix_within ops b a of_b of_a in omega (arith, x, y)) in
    let prefix : a.prefix ≡ b.prefix =
    same_lists a.prefix b.prefix long
    (λ k d below. same_constant (get_or a.prefix k d) (get_or b.prefix k d)
    (sym (in_prefix a k d below) ∙ of_a.at k ∙ sym (of_b.at k) ∙ in_prefix b k d (omega (arith, below, long)))) in
    let numbers : (i : ℕ) → number_at a i ≡ number_at b i =
    λ i. (let n : ℕ = length a.prefix + i in
    let first : number_at a (length a.prefix + i - length a.prefix) ≡ number_at a i = ap (λ (k : ℕ). number_at a k) (let e : length a.prefix + i - length a.prefix ≡ i = omega arith in e) in
    let second : number_at b (length a.prefix + i - length b.prefix) ≡ number_at b i = ap (λ (k : ℕ). number_at b k) (let e : length a.prefix + i - length b.prefix ≡ i = omega (arith, long) in e) in
    let same : number_at a (length a.prefix + i - length a.prefix) ≡ number_at b (length a.prefix + i - length b.prefix) =
    same_instance (number_at a (length a.prefix + i - length a.prefix)) (number_at b (length a.prefix + i - length b.prefix))
    (sym (after_prefix a (length a.prefix + i) (omega arith)) ∙ of_a.at (length a.prefix + i) ∙ sym (of_b.at (length a.prefix + i))
    ∙ after_prefix b (length a.prefix + i) (omega (arith, long))) in
    omega (arith, first, second, same)) in
    let down : b.step_in ≤ a.step_in =
    of_b.shortest.least a.step_in of_a.word.some (a.step_out, subst (λ (k : ℕ). Climbs ops k a.step_in a.step_out) long (own_step ops a b of_a of_b)) in
    let up : a.step_in ≤ b.step_in =
    of_a.shortest.least b.step_in of_b.word.some (b.step_out, subst (λ (k : ℕ). Climbs ops k b.step_in b.step_out) (sym long) (own_step ops b a of_b of_a)) in
    let step : a.step_in ≡ b.step_in = omega (arith, down, up) in
    let repeat : a.repeat ≡ b.repeat =
    same_lists a.repeat b.repeat (of_a.word.long ∙ step ∙ sym of_b.word.long)
    (λ k d below.
    (let in_a : k < a.step_in = omega (arith, below, of_a.word.long) in
    let in_b : k < b.step_in = omega (arith, in_a, step) in
    let x : get_or a.repeat k d ≡ slice_index a.repeat k = get_or_default a.repeat k d 0 below in
    let y : get_or b.repeat k d ≡ slice_index b.repeat k = get_or_default b.repeat k d 0 (omega (arith, in_b, of_b.word.long)) in
    x ∙ sym (number_first a k in_a) ∙ numbers k ∙ number_first b k in_b ∙ sym y)) in
    let out : a.step_out ≡ b.step_out =
    (let x = step_is a of_a.word.some in let y = step_is b of_b.word.some in
    let z : number_at a a.step_in ≡ number_at b b.step_in = numbers a.step_in ∙ ap (λ (k : ℕ). number_at b k) step in
    omega (arith, x, y, z, numbers 0)) in
    word_is a b prefix repeat step out

-- the next of the numbers that gaps list is a gap higher
pub next_gap : (used : Used) → 1 ≤ length used.gaps → (k : ℕ) → used_at used (k + 1) ≡ used_at used k + get_or used.gaps (k % length used.gaps) 0
next_gap used some k =
    let l : ℕ = length used.gaps in
    let gaps : List ℕ = used.gaps in
    let q : ℕ = k / length used.gaps in
    let r : ℕ = k % length used.gaps in
    let below : k % length used.gaps < length used.gaps = mod_below k (length used.gaps) some in
    let whole : k ≡ q * l + r = omega (arith, mod-add-div' k (length used.gaps)) in
    let more : sum (take (r + 1) gaps) ≡ sum (take r gaps) + get_or gaps r 0 = sum_by_more (λ (x : ℕ). x) gaps r 0 below in
    elim (cases_lt (r + 1) l) [
      | inl inside ↦
          (let at : k + 1 ≡ q * l + (r + 1) = omega (arith, whole) in
          let d : (k + 1) / length used.gaps ≡ q = ap (λ (x : ℕ). x / length used.gaps) at ∙ div-mul-add q l (r + 1) inside in
          let m : (k + 1) % length used.gaps ≡ r + 1 = ap (λ (x : ℕ). x % length used.gaps) at ∙ mod-mul-add q l (r + 1) inside in
          omega (arith, ap (λ (x : ℕ). x * sum gaps) d, ap (λ (x : ℕ). sum (take x gaps)) m, more))
      | inr full ↦
          (let at : k + 1 ≡ (q + 1) * l + 0 = (let e : (q + 1) * l ≡ q * l + l = omega arith in omega (arith, whole, e, full, below)) in
          let d : (k + 1) / length used.gaps ≡ q + 1 = ap (λ (x : ℕ). x / length used.gaps) at ∙ div-mul-add (q + 1) l 0 some in
          let m : (k + 1) % length used.gaps ≡ 0 = ap (λ (x : ℕ). x % length used.gaps) at ∙ mod-mul-add (q + 1) l 0 some in
          let z : sum (take 0 gaps) ≡ 0 = refl in
          let t : (q + 1) * sum gaps ≡ q * sum gaps + sum gaps = omega arith in
          omega (arith, ap (λ (x : ℕ). x * sum gaps) d, ap (λ (x : ℕ). sum (take x gaps)) m, z, ap sum (take_all (r + 1) gaps full), t, more))
    ]

pub first_number : (used : Used) → 1 ≤ length used.gaps → used_at used 0 ≡ used.first
first_number used some =
    let l : ℕ = length used.gaps in
    let at : 0 ≡ 0 * l + 0 = omega arith in
    let d : 0 / length used.gaps ≡ 0 = ap (λ (x : ℕ). x / length used.gaps) at ∙ div-mul-add 0 l 0 some in
    omega (arith, ap (λ (x : ℕ). x * sum used.gaps) d, ap (λ (x : ℕ). sum (take x used.gaps)) (ap (λ (x : ℕ). x % length used.gaps) at ∙ mod-mul-add 0 l 0 some))

-- two enumerations of the same numbers agree
no_later : (edge : Edge) (a b : Used) → EnumeratesUsed edge a → EnumeratesUsed edge b → (k : ℕ) → ((j : ℕ) → j < k → used_at a j ≡ used_at b j) → used_at b k ≤ used_at a k
no_later edge a b all_a all_b k same =
    let found = all_b.all (used_at a k) (all_a.each k) in
    elim (cases_lt found.0 k) [
      | inl below ↦ absurd
          omega (arith, rising_to edge a all_a k found.0 below, same found.0 below, found.1)
      | inr above ↦
          elim (cases_lt k found.0) [
            | inl past ↦ omega (arith, rising_to edge b all_b found.0 k past, found.1)
            | inr under ↦
                (let e : found.0 ≡ k = omega (arith, above, under) in
                omega (arith, ap (λ (x : ℕ). used_at b x) e, found.1))
          ]
    ]

-- two enumerations of the used instances are one
pub agree_below : (edge : Edge) (a b : Used) → EnumeratesUsed edge a → EnumeratesUsed edge b → (n j : ℕ) → j < n → used_at a j ≡ used_at b j
agree_below edge a b all_a all_b zero j below = absurd (omega (arith, below))
agree_below edge a b all_a all_b (suc n) j below =
    let before : (i : ℕ) → i < j → used_at a i ≡ used_at b i = λ i less. agree_below edge a b all_a all_b n i (omega (arith, less, below)) in
    omega (arith, no_later edge a b all_a all_b j before, no_later edge b a all_b all_a j (λ i less. sym (before i less)))

used_is : (a b : Used) → a.first ≡ b.first → a.gaps ≡ b.gaps → a ≡ b
used_is a b f g =
    ap (λ (x : ℕ). (let u : Used = record { first = x; gaps = a.gaps } in u)) f
    ∙ ap (λ (x : List ℕ). (let u : Used = record { first = b.first; gaps = x } in u)) g

pub some_length : (n : ℕ) → (n ≡ 0 → ⊥) → 1 ≤ n
some_length zero some = absurd (some refl)
some_length (suc n) some = omega arith

-- the used instances have one enumeration by shortest gaps
pub one_used : (edge : Edge) (a b : Used) → EnumeratesUsed edge a → EnumeratesUsed edge b → IsShortestRepeat a.gaps → IsShortestRepeat b.gaps → a ≡ b
one_used edge a b all_a all_b short_a short_b =
    let some_a = some_length (length a.gaps) (some_gaps edge a all_a) in
    let some_b = some_length (length b.gaps) (some_gaps edge b all_b) in
    let same : (k : ℕ) → used_at a k ≡ used_at b k = λ k. agree_below edge a b all_a all_b (suc k) k (omega arith) in
    let first : a.first ≡ b.first = sym (first_number a some_a) ∙ same 0 ∙ first_number b some_b in
    let gaps : (k : ℕ) → repeated a.gaps k ≡ repeated b.gaps k =
    λ k. (let e : get_or a.gaps (k % length a.gaps) 0 ≡ get_or b.gaps (k % length b.gaps) 0 = omega (arith, next_gap a some_a k, next_gap b some_b k, same k, same (k + 1)) in
    slice_get-get_or a.gaps (k % length a.gaps) 0 (mod_below k (length a.gaps) some_a) ∙ ap (λ (z : ℕ). Some z) e
    ∙ sym (slice_get-get_or b.gaps (k % length b.gaps) 0 (mod_below k (length b.gaps) some_b))) in
    used_is a b first (one_repeat a.gaps b.gaps some_a some_b gaps short_a short_b)
