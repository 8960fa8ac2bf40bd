-- When the order along an edge is kept, told by where classes begin and end.
use Rattle.prl_base.proofs.Standard.{◌≡◌, ◌+◌, ◌*◌, ◌-◌, ◌/◌, ◌%◌, ◌<◌, ◌≤◌, ◌^◌, ℕ, zero, suc, Bool, true, false, cond, List, [], ◌∷◌, length, Some, inl, inr, refl, sym, ◌∙◌, ap, subst, arith, ℤ}
use Rattle.prl_base.proofs.Standard.{pos, negsuc, ◌+ℤ◌, ◌-ℤ◌, ◌*ℤ◌, slice_get, max, pos-*ℤ-pos, mul-le-mul_right, cases_lt, ints}
use Rattle.prl_plan.specs.Vocabulary.{PlanView, IsPlan, edge_at, preceding, ComesFrom}
use Rattle.prl_plan.specs.declared.graphs.Producer.{Producer}
use Rattle.prl_plan.specs.declared.graphs.Producer.TheVariants as producers
use Rattle.prl_plan.proofs.Periods.{plus_mul}
use Rattle.prl_tables.specs.Vocabulary.{Sums, Entry, classes, is_of, end_of, KeepsOrder, sums_of}
use Rattle.prl_tables.proofs.GoodTables.{HasEntry, Is, entry_here, entry_later}
use Rattle.prl_tables.proofs.Shifts.{preceding_shifted, some_classes}
use Rattle.prl_tables.proofs.Summed.{by_no, by_yes, is_yes}

-- the end among the sums
pub end_is : (entries : List Entry) (i c : ℕ) → (sums_of entries i c).end ≡ end_of entries i c
end_is [] i c = refl
end_is (entry ∷ entries) i c = go (is_of i c entry) refl (end_is entries i c)
  where
    go : (b : Bool) → is_of i c entry ≡ b → (sums_of entries i c).end ≡ end_of entries i c → (sums_of (entry ∷ entries) i c).end ≡ end_of (entry ∷ entries) i c
    go true is rest =
        let s = ap (λ (x : Sums). x.end) (by_yes i c entry entries is) in
        let e : end_of (entry ∷ entries) i c ≡ max (entry.at + entry.units) (end_of entries i c) =
        ap (λ (b : Bool). cond b (max (entry.at + entry.units) (end_of entries i c)) (end_of entries i c)) is in
        omega (arith, s, e, rest)
    go false is rest =
        let s = ap (λ (x : Sums). x.end) (by_no i c entry entries is) in
        let e : end_of (entry ∷ entries) i c ≡ end_of entries i c =
        ap (λ (b : Bool). cond b (max (entry.at + entry.units) (end_of entries i c)) (end_of entries i c)) is in
        omega (arith, s, e, rest)

-- each entry of the class lies between them
pub within_sums : (entries : List Entry) (i c k : ℕ) (entry : Entry) → slice_get entries k ≡ Some entry → entry.task.0 ≡ i → entry.job ≡ c →
    ((sums_of entries i c).first ≤ entry.at) × (entry.at + entry.units ≤ (sums_of entries i c).end)
within_sums [] i c k entry at task job = cc
within_sums (first ∷ entries) i c zero entry at task job =
    let same : first ≡ entry = (let e : Some first ≡ Some entry = at in cc e) in
    let is : is_of i c first ≡ true = is_yes i c first (ap (λ (x : Entry). x.task.0) same ∙ task) (ap (λ (x : Entry). x.job) same ∙ job) in
    let f = ap (λ (x : Sums). x.first) (by_yes i c first entries is) in
    let e = ap (λ (x : Sums). x.end) (by_yes i c first entries is) in
    let a = ap (λ (x : Entry). x.at) same in
    let u = ap (λ (x : Entry). x.units) same in
    (omega (arith, f, a), omega (arith, e, a, u))
within_sums (first ∷ entries) i c (suc k) entry at task job = go (is_of i c first) refl (within_sums entries i c k entry at task job)
  where
    go : (b : Bool) → is_of i c first ≡ b → ((sums_of entries i c).first ≤ entry.at) × (entry.at + entry.units ≤ (sums_of entries i c).end) →
        ((sums_of (first ∷ entries) i c).first ≤ entry.at) × (entry.at + entry.units ≤ (sums_of (first ∷ entries) i c).end)
    go true is rest =
        let f = ap (λ (x : Sums). x.first) (by_yes i c first entries is) in
        let e = ap (λ (x : Sums). x.end) (by_yes i c first entries is) in
        let r0 = rest.0 in let r1 = rest.1 in
        (omega (arith, f, r0), omega (arith, e, r1))
    go false is rest =
        let f = ap (λ (x : Sums). x.first) (by_no i c first entries is) in
        let e = ap (λ (x : Sums). x.end) (by_no i c first entries is) in
        let r0 = rest.0 in let r1 = rest.1 in
        (omega (arith, f, r0), omega (arith, e, r1))

-- an entry of the class that begins first
abbrev pub IsFirst : List Entry → ℕ → ℕ → Type 0
IsFirst entries i c = HasEntry entries i c (λ entry. entry.at ≡ (sums_of entries i c).first)

-- where the class has units, there is one
pub first_entry : (entries : List Entry) (i c : ℕ) → ((k : ℕ) (entry : Entry) → slice_get entries k ≡ Some entry → entry.at < 2 ^ 64) →
    (sums_of entries i c).first < 2 ^ 64 - 1 → IsFirst entries i c
first_entry [] i c small some = absurd (omega (arith, some))
first_entry (entry ∷ entries) i c small some = go (is_of i c entry) refl (first_entry entries i c (λ k e at. small (suc k) e at))
  where
    later : IsFirst entries i c → (sums_of (entry ∷ entries) i c).first ≡ (sums_of entries i c).first → IsFirst (entry ∷ entries) i c
    later is same = entry_later entry entries i c _ _ is (λ other first. first ∙ sym same)

    go : (b : Bool) → is_of i c entry ≡ b → ((sums_of entries i c).first < 2 ^ 64 - 1 → IsFirst entries i c) → IsFirst (entry ∷ entries) i c
    go true is rest =
        let f = ap (λ (x : Sums). x.first) (by_yes i c entry entries is) in
        elim (cases_lt (sums_of entries i c).first entry.at) [
          | inl earlier ↦ later (rest (omega (arith, f, earlier, some))) (omega (arith, f, earlier))
          | inr not_earlier ↦ entry_here entry entries i c _ is (omega (arith, f, not_earlier))
        ]
    go false is rest =
        let f = ap (λ (x : Sums). x.first) (by_no i c entry entries is) in
        later (rest (omega (arith, f, some))) f

-- a number has one quotient and one remainder
pub one_division : (m q s per : ℕ) → 1 ≤ per → q < per → m ≡ q + s * per → (m % per ≡ q) × (m / per ≡ s)
one_division m q s per some below is =
    let split : m ≡ m % per + m / per * per = omega arith in
    let low : m % per < per = omega (arith, some) in
    let same : m / per ≡ s =
    elim (cases_lt (m / per) s) [
      | inl less ↦ absurd (let t = times per (m / per) s less in omega (arith, t, split, low, is))
      | inr not_less ↦ (elim (cases_lt s (m / per)) [
        | inl more ↦ absurd (let t = times per s (m / per) more in omega (arith, t, split, below, is))
        | inr not_more ↦ omega (arith, not_less, not_more)
      ])
    ] in
    let products = ap (λ (x : ℕ). x * per) same in
    (omega (arith, split, is, products), same)
  where
    times : (each a b : ℕ) → a < b → a * each + each ≤ b * each
    times each a b less = (let m = mul-le-mul_right each (let g : a + 1 ≤ b = omega (arith, less) in g) in let e : (a + 1) * each ≡ a * each + each = omega arith in omega (arith, m, e))

module _ (plan : PlanView) (is : IsPlan plan) (entries : List Entry) (e i c k m : ℕ) (edge : e < length plan.graph.edges)
    (comes : ComesFrom (edge_at plan.graph e).from i) (to_in : (edge_at plan.graph e).to.0 < length plan.graph.tasks) (i_in : i < length plan.graph.tasks)
    (number : preceding (edge_at plan.graph e).ops (pos (c + k * classes plan.graph (edge_at plan.graph e).to.0)) ≡ pos m) where
  abbrev pub Shown : Type 0
  Shown = (sums_of entries i (m % classes plan.graph i)).end + m / classes plan.graph i * plan.graph.hyper
      ≤ (sums_of entries (edge_at plan.graph e).to.0 c).first + k * plan.graph.hyper

  -- the number of the class, and the hyperperiods between
  shift : (q : ℕ) (z : ℤ) → q < classes plan.graph i → preceding (edge_at plan.graph e).ops (pos c) ≡ pos q +ℤ (z *ℤ pos (classes plan.graph i)) →
      (m % classes plan.graph i ≡ q) × ((z +ℤ pos k) ≡ pos (m / classes plan.graph i))
  shift q z below is_q = go (z +ℤ pos k) refl
    where
      by : (z +ℤ pos k) *ℤ pos (classes plan.graph i) ≡ (z *ℤ pos (classes plan.graph i)) +ℤ pos (k * classes plan.graph i)
      by = plus_mul z k (classes plan.graph i)

      m_is : pos m ≡ pos q +ℤ ((z +ℤ pos k) *ℤ pos (classes plan.graph i))
      m_is = (let b = plus_mul z k (classes plan.graph i) in omega (arith, ints, preceding_shifted plan is e i c k to_in i_in edge comes, number, is_q, b))

      go : (w : ℤ) → (z +ℤ pos k) ≡ w → (m % classes plan.graph i ≡ q) × ((z +ℤ pos k) ≡ pos (m / classes plan.graph i))
      go (pos s) is_w =
          let w = ap (λ (x : ℤ). x *ℤ pos (classes plan.graph i)) is_w in
          let moved = preceding_shifted plan is e i c k to_in i_in edge comes in
          let b = plus_mul z k (classes plan.graph i) in
          let one = one_division m q s (classes plan.graph i) (some_classes plan is i i_in) below (omega (arith, ints, moved, number, is_q, b, w, pos-*ℤ-pos s (classes plan.graph i))) in
          (one.0, is_w ∙ ap pos (sym one.1))
      go (negsuc s) is_w =
          absurd (let w : (z +ℤ pos (k + s + 1)) ≡ pos 0 = omega (arith, ints, is_w) in
          let zero_product = ap (λ (x : ℤ). x *ℤ pos (classes plan.graph i)) w in
          let split : (k + s + 1) * classes plan.graph i ≡ k * classes plan.graph i + s * classes plan.graph i + classes plan.graph i = omega arith in
          let none : 0 * classes plan.graph i ≡ 0 = omega arith in
          let moved = preceding_shifted plan is e i c k to_in i_in edge comes in
          omega (arith, ints, moved, number, is_q, plus_mul z (k + s + 1) (classes plan.graph i), zero_product, pos-*ℤ-pos 0 (classes plan.graph i), split, none, below))

  pub kept : Shown → KeepsOrder plan entries e c
  kept shown j q z from q_in is_q a b one other at_a at_b one_is other_is =
      let same : i ≡ j = one_producer (edge_at plan.graph e).from comes from in
      let q_below : q < classes plan.graph i = subst (λ (x : ℕ). q < classes plan.graph x) (sym same) q_in in
      let its : preceding (edge_at plan.graph e).ops (pos c) ≡ pos q +ℤ (z *ℤ pos (classes plan.graph i)) =
      subst (λ (x : ℕ). preceding (edge_at plan.graph e).ops (pos c) ≡ pos q +ℤ (z *ℤ pos (classes plan.graph x))) (sym same) is_q in
      let s = shift q z q_below its in
      let end = (within_sums entries i (m % classes plan.graph i) a one at_a (one_is.0 ∙ sym same) (one_is.1 ∙ sym s.0)).1 in
      let hs = ap (λ (x : ℤ). x *ℤ pos plan.graph.hyper) s.1 in
      let product = pos-*ℤ-pos (m / classes plan.graph i) plan.graph.hyper in
      omega (arith, ints, shown, end, (within_sums entries (edge_at plan.graph e).to.0 c b other at_b other_is.0 other_is.1).0, plus_mul z k plan.graph.hyper, hs, product)
    where
      one_producer : (p : Producer) → ComesFrom p i → ComesFrom p j → i ≡ j
      one_producer (producers.Port task out) x y = sym x ∙ y
      one_producer (producers.Constant value) x y = absurd x

  pub broken : (last : Is entries i (m % classes plan.graph i)) → IsFirst entries (edge_at plan.graph e).to.0 c → (Shown → ⊥) → KeepsOrder plan entries e c → ⊥
  broken last first not_shown keeps =
      let z : ℤ = pos (m / classes plan.graph i) -ℤ pos k in
      let back : z +ℤ pos k ≡ pos (m / classes plan.graph i) = omega (arith, ints) in
      let bs = ap (λ (x : ℤ). x *ℤ pos (classes plan.graph i)) back in
      let product = pos-*ℤ-pos (m / classes plan.graph i) (classes plan.graph i) in
      let split : m ≡ m % classes plan.graph i + m / classes plan.graph i * classes plan.graph i = omega arith in
      let its : preceding (edge_at plan.graph e).ops (pos c) ≡ pos (m % classes plan.graph i) +ℤ (z *ℤ pos (classes plan.graph i)) =
      omega (arith, ints, preceding_shifted plan is e i c k to_in i_in edge comes, number, plus_mul z k (classes plan.graph i), bs, product, split) in
      let order = keeps i (m % classes plan.graph i) z comes (omega (arith, some_classes plan is i i_in)) its last.k first.k last.entry first.entry last.stands first.stands
      (last.task, last.job) (first.task, first.job) in
      let hs = ap (λ (x : ℤ). x *ℤ pos plan.graph.hyper) back in
      let e_is = end_is entries i (m % classes plan.graph i) in
      not_shown (omega (arith, ints, order, plus_mul z k plan.graph.hyper, hs, pos-*ℤ-pos (m / classes plan.graph i) plan.graph.hyper, last.holds, first.holds, e_is))
