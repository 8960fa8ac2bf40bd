-- The entries that are cut out of a run, tick by tick.
use Rattle.prl_base.proofs.Standard.{◌≡◌, ◌≢◌, ◌==◌, ◌+◌, ◌*◌, ◌/◌, ◌%◌, ◌<◌, ◌≤◌, ◌++◌, ◌&&◌, ◌⊎◌, ℕ, zero, suc, Bool, true, false, cond, List, [], ◌∷◌, Option, Some, None, length, inl, inr, refl}
use Rattle.prl_base.proofs.Standard.{sym, ◌∙◌, ap, subst, arith, slice_get, mul-le-mul_right, cases_eq, cases_lt, nat_tests}
use Rattle.prl_plan.specs.Vocabulary.{sum_below, PlanView, IsPlan, release_at}
use Rattle.prl_tables.specs.Tables.{classes, is_of, units_of}
use Rattle.prl_overlaps.specs.declared.entries.Entry.{Entry}
use Rattle.prl_table.specs.Vocabulary.{cut_to, goes, is_job, is_same, last_of, lengthened, longer, unit_at, units_in, with_tick, IsCut, IsCutFrom, IsRun, HaveAtMost}
use Rattle.prl_table.proofs.MadeTables.{sum_none, sum_one}
use Rattle.prl_tables.proofs.Ordering.{one_division}
use Rattle.prl_tables.proofs.OrderLaws.{release_later}
use Rattle.prl_tables.proofs.Shifts.{some_classes, split}

-- an element of a list with one more at its end
at_end : (xs : List Entry) (y e : Entry) (k : ℕ) → slice_get (xs ++ y ∷ []) k ≡ Some e → ((k < length xs) × (slice_get xs k ≡ Some e)) ⊎ ((k ≡ length xs) × (y ≡ e))
at_end [] y e zero at = inr (refl, (let s : Some y ≡ Some e = at in cc s))
at_end [] y e (suc k) at = cc
at_end (x ∷ xs) y e zero at = inl (omega arith, at)
at_end (x ∷ xs) y e (suc k) at = elim (at_end xs y e k at) [
  | inl there ↦ (let b = there.0 in inl (omega (arith, b), there.1))
  | inr here ↦ (let b = here.0 in inr (omega (arith, b), here.1))
]

front_get : (xs : List Entry) (y e : Entry) (k : ℕ) → slice_get xs k ≡ Some e → slice_get (xs ++ y ∷ []) k ≡ Some e
front_get [] y e k at = cc
front_get (x ∷ xs) y e zero at = at
front_get (x ∷ xs) y e (suc k) at = front_get xs y e k at

end_get : (xs : List Entry) (y : Entry) → slice_get (xs ++ y ∷ []) (length xs) ≡ Some y
end_get [] y = refl
end_get (x ∷ xs) y = end_get xs y

units_more : (xs : List Entry) (y : Entry) (i c : ℕ) → units_of (xs ++ y ∷ []) i c ≡ units_of xs i c + cond (is_of i c y) y.units 0
units_more [] y i c = omega arith
units_more (x ∷ xs) y i c = (let rest = units_more xs y i c in omega (arith, rest))

pub lengthened_end : (xs : List Entry) (y : Entry) → lengthened (xs ++ y ∷ []) ≡ xs ++ longer y ∷ []
lengthened_end [] y = refl
lengthened_end (x ∷ []) y = refl
lengthened_end (x ∷ z ∷ xs) y = ap (λ (l : List Entry). x ∷ l) (lengthened_end (z ∷ xs) y)

sum_add : (f g : ℕ → ℕ) (bound : ℕ) → sum_below (λ h. f h + g h) bound ≡ sum_below f bound + sum_below g bound
sum_add f g zero = refl
sum_add f g (suc n) = (let rest = sum_add f g n in omega (arith, rest))

few_lengthened : (most : ℕ) (xs : List Entry) → HaveAtMost most xs → HaveAtMost (most + 1) (lengthened xs)
few_lengthened most [] few k entry at = cc
few_lengthened most (x ∷ []) few zero entry at =
    (let same : longer x ≡ entry = (let s : Some (longer x) ≡ Some entry = at in cc s) in
    let u = ap (λ (e : Entry). e.units) same in let f = few zero x refl in omega (arith, u, f))
few_lengthened most (x ∷ []) few (suc k) entry at = cc
few_lengthened most (x ∷ y ∷ xs) few zero entry at = (let f = few zero entry at in omega (arith, f))
few_lengthened most (x ∷ y ∷ xs) few (suc k) entry at = few_lengthened most (y ∷ xs) (λ j e is. few (suc j) e is) k entry at

few_pushed : (most : ℕ) (xs : List Entry) (y : Entry) → y.units ≡ 1 → HaveAtMost most xs → HaveAtMost (most + 1) (xs ++ y ∷ [])
few_pushed most xs y one few k entry at = elim (at_end xs y entry k at) [
  | inl there ↦ (let f = few k entry there.1 in omega (arith, f))
  | inr here ↦ (let u = ap (λ (e : Entry). e.units) here.1 in omega (arith, u, one))
]

-- a tick adds one unit at most
pub few_more : (plan : PlanView) (xs : List Entry) (t : ℕ) (last this : Option (ℕ × ℕ)) (most : ℕ) → HaveAtMost most xs → HaveAtMost (most + 1) (with_tick plan xs t last this)
few_more plan xs t last None most few = λ k entry at. (let f = few k entry at in omega (arith, f))
few_more plan xs t last (Some job) most few = go (is_same last job)
  where
    go : (b : Bool) → HaveAtMost (most + 1) (cond b (lengthened xs) (xs ++ unit_at plan t job ∷ []))
    go true = few_lengthened most xs few
    go false = few_pushed most xs (unit_at plan t job) refl few

module _ (plan : PlanView) (is : IsPlan plan) (until : ℕ) (run : ℕ → Option (ℕ × ℕ)) (is_run : IsRun plan until (goes run)) (start bound : ℕ)
    (many : start + plan.graph.hyper ≤ bound * plan.graph.hyper) where
  abbrev CutFrom : Entry → ℕ → Type 0
  CutFrom entry back = IsCutFrom plan (goes run) start entry back

  -- the last of n ticks has gone to the job, and the last entry ends with it
  pub record EndsWith (n : ℕ) (entries : List Entry) (job : ℕ × ℕ) : Type 0 where
    pub front : List Entry
    pub entry : Entry
    pub list : entries ≡ front ++ entry ∷ []
    pub task : entry.task.0 ≡ job.0
    pub class : entry.job ≡ job.1 % classes plan.graph job.0
    pub piece : IsCutFrom plan (goes run) start entry (job.1 / classes plan.graph job.0)
    pub end : entry.at + job.1 / classes plan.graph job.0 * plan.graph.hyper + entry.units ≡ start + n

  -- the entries are those of the first n ticks
  pub record Upto (n : ℕ) (entries : List Entry) : Type 0 where
    pub pieces : (k : ℕ) (entry : Entry) → slice_get entries k ≡ Some entry →
        (back : ℕ) × IsCutFrom plan (goes run) start entry back × (entry.at + back * plan.graph.hyper + entry.units ≤ start + n)
    pub ordered : (k l : ℕ) (one other : Entry) (x y : ℕ) → k < l → slice_get entries k ≡ Some one → slice_get entries l ≡ Some other →
        IsCutFrom plan (goes run) start one x → IsCutFrom plan (goes run) start other y → one.at + x * plan.graph.hyper + one.units ≤ other.at + y * plan.graph.hyper
    pub units : (i c : ℕ) → i < length plan.graph.tasks → c < classes plan.graph i →
        units_of entries i c ≡ sum_below (λ h. units_in (goes run) start n i (c + h * classes plan.graph i)) bound
    pub last : (job : ℕ × ℕ) → last_of run start n ≡ Some job → EndsWith n entries job

  times : (s t : ℕ) → s < t → s * plan.graph.hyper + plan.graph.hyper ≤ t * plan.graph.hyper
  times s t less =
      (let m = mul-le-mul_right plan.graph.hyper (let g : s + 1 ≤ t = omega (arith, less) in g) in
      let e : (s + 1) * plan.graph.hyper ≡ s * plan.graph.hyper + plan.graph.hyper = omega arith in omega (arith, m, e))

  -- a piece is moved by one number of hyperperiods
  one_back : (entry : Entry) (x y : ℕ) → IsCutFrom plan (goes run) start entry x → IsCutFrom plan (goes run) start entry y → x ≡ y
  one_back entry x y a b =
      let u = a.units in
      let a_from = a.from in let a_to = a.to in let b_from = b.from in let b_to = b.to in
      elim (cases_lt x y) [
        | inl less ↦ absurd (let t = times x y less in omega (arith, t, u, a_from, b_to))
        | inr not_less ↦ (elim (cases_lt y x) [
          | inl more ↦ absurd (let t = times y x more in omega (arith, t, u, b_from, a_to))
          | inr not_more ↦ omega (arith, not_less, not_more)
        ])
      ]

  yes_job : (a b : ℕ) → is_job (Some (a, b)) a b ≡ true
  yes_job a b = grind (arith, nat_tests)

  -- what is known of a tick that goes to a job
  module _ (n : ℕ) (below : n < plan.graph.hyper) (job : ℕ × ℕ) (this : run (start + n) ≡ Some job) where
    gone : goes run (start + n) job.0 job.1 ≡ true
    gone = ap (λ (o : Option (ℕ × ℕ)). is_job o job.0 job.1) this ∙ yes_job job.0 job.1

    inside : job.0 < length plan.graph.tasks
    inside = (is_run.job (start + n) job.0 job.1 gone).task

    class_in : job.1 % classes plan.graph job.0 < classes plan.graph job.0
    class_in = (let s = some_classes plan is job.0 inside in omega (arith, s))

    back_fits : job.1 / classes plan.graph job.0 * plan.graph.hyper ≤ start + n
    back_fits =
        (let w = (is_run.window (start + n) job.0 job.1 gone).0 in
        let r = release_later plan is job.0 (job.1 % classes plan.graph job.0) (job.1 / classes plan.graph job.0) inside in
        let s = ap (λ (x : ℕ). release_at plan job.0 x) (split plan is job.0 job.1) in
        omega (arith, w, r, s))

    back_few : job.1 / classes plan.graph job.0 < bound
    back_few =
        elim (cases_lt (job.1 / classes plan.graph job.0) bound) [
          | inl less ↦ less
          | inr not_less ↦ absurd
              (let m = mul-le-mul_right plan.graph.hyper not_less in
              let f = back_fits in omega (arith, m, f, many, below))
        ]

    -- one unit more of its class
    abbrev its_class : ℕ → ℕ → Bool
    its_class i c = (job.0 == i) && (job.1 % classes plan.graph job.0 == c)

    one_more : (i c : ℕ) → c < classes plan.graph i → sum_below (λ h. cond (is_job (Some job) i (c + h * classes plan.graph i)) 1 0) bound ≡ cond (its_class i c) 1 0
    one_more i c c_in =
        elim (cases_eq job.0 i) [
          | inl same ↦
              (let per : classes plan.graph job.0 ≡ classes plan.graph i = ap (λ (x : ℕ). classes plan.graph x) same in
              let back : ℕ = job.1 / classes plan.graph i in
              let quotient : job.1 / classes plan.graph job.0 ≡ job.1 / classes plan.graph i = ap (λ (x : ℕ). job.1 / x) per in
              let rest : job.1 % classes plan.graph job.0 ≡ job.1 % classes plan.graph i = ap (λ (x : ℕ). job.1 % x) per in
              let few = back_few in
              let some : 1 ≤ classes plan.graph i = omega (arith, c_in) in
              elim (cases_eq (job.1 % classes plan.graph i) c) [
                | inl here ↦
                    (let only = sum_one (λ h. cond (is_job (Some job) i (c + h * classes plan.graph i)) 1 0) bound (job.1 / classes plan.graph i) (omega (arith, quotient, few))
                    (λ h h_in differs. off (is_job (Some job) i (c + h * classes plan.graph i)) (no_job job.0 job.1 i (c + h * classes plan.graph i)
                    (λ e. differs (let d = one_division job.1 c h (classes plan.graph i) some c_in e in sym d.1)))) in
                    let whole : c + job.1 / classes plan.graph i * classes plan.graph i ≡ job.1 =
                    (let s : job.1 ≡ job.1 % classes plan.graph i + job.1 / classes plan.graph i * classes plan.graph i = omega arith in omega (arith, s, here)) in
                    only ∙ on (is_job (Some job) i (c + job.1 / classes plan.graph i * classes plan.graph i))
                    (its_job job.0 job.1 i (c + job.1 / classes plan.graph i * classes plan.graph i) same (sym whole))
                    ∙ sym (on (its_class i c) (its_job job.0 (job.1 % classes plan.graph job.0) i c same (rest ∙ here))))
                | inr other ↦
                    (sum_none (λ h. cond (is_job (Some job) i (c + h * classes plan.graph i)) 1 0) bound
                    (λ h h_in. off (is_job (Some job) i (c + h * classes plan.graph i)) (no_job job.0 job.1 i (c + h * classes plan.graph i)
                    (λ e. other (one_division job.1 c h (classes plan.graph i) some c_in e).0)))
                    ∙ sym (off (its_class i c) (no_job job.0 (job.1 % classes plan.graph job.0) i c (λ e. other (sym rest ∙ e)))))
              ])
          | inr apart ↦
              sum_none (λ h. cond (is_job (Some job) i (c + h * classes plan.graph i)) 1 0) bound
              (λ h h_in. off (is_job (Some job) i (c + h * classes plan.graph i)) (no_task job.0 job.1 i (c + h * classes plan.graph i) apart))
              ∙ sym (off (its_class i c) (no_task job.0 (job.1 % classes plan.graph job.0) i c apart))
        ]
      where
        off : (b : Bool) → b ≡ false → ◌≡◌ {A = ℕ} (cond b 1 0) 0
        off b e = ap {B = ℕ} (λ (x : Bool). cond x 1 0) e

        on : (b : Bool) → b ≡ true → ◌≡◌ {A = ℕ} (cond b 1 0) 1
        on b e = ap {B = ℕ} (λ (x : Bool). cond x 1 0) e

        no_job : (a b i m : ℕ) → (b ≡ m → ⊥) → ((a == i) && (b == m)) ≡ false
        no_job a b i m differs = grind (arith, nat_tests, differs)

        no_task : (a b i m : ℕ) → a ≢ i → ((a == i) && (b == m)) ≡ false
        no_task a b i m differs = grind (arith, nat_tests, differs)

        its_job : (a b i m : ℕ) → a ≡ i → b ≡ m → ((a == i) && (b == m)) ≡ true
        its_job a b i m x y = grind (arith, nat_tests, x, y)

    units_now : (entries more : List Entry) → ((i c : ℕ) → units_of more i c ≡ units_of entries i c + cond (its_class i c) 1 0) →
        ((i c : ℕ) → i < length plan.graph.tasks → c < classes plan.graph i → units_of entries i c ≡ sum_below (λ h. units_in (goes run) start n i (c + h * classes plan.graph i)) bound) →
        (i c : ℕ) → i < length plan.graph.tasks → c < classes plan.graph i →
        units_of more i c ≡ sum_below (λ h. units_in (goes run) start (suc n) i (c + h * classes plan.graph i)) bound
    units_now entries more one so_far i c i_in c_in =
        (let o = one i c in
        let s = so_far i c i_in c_in in
        let m = one_more i c c_in in
        let add = sum_add (λ h. units_in (goes run) start n i (c + h * classes plan.graph i)) (λ h. cond (is_job (run (start + n)) i (c + h * classes plan.graph i)) 1 0) bound in
        let is_this = ap (λ (o : Option (ℕ × ℕ)). sum_below (λ h. cond (is_job o i (c + h * classes plan.graph i)) 1 0) bound) this in
        omega (arith, o, s, m, add, is_this))

    back : ℕ
    back = job.1 / classes plan.graph job.0

    new : Entry
    new = unit_at plan (start + n) job

    -- the new piece
    new_piece : IsCutFrom plan (goes run) start (unit_at plan (start + n) job) (job.1 / classes plan.graph job.0)
    new_piece = record {
      task = inside;
      job = class_in;
      units = omega arith;
      from = (let f = back_fits in omega (arith, f));
      to = (let f = back_fits in omega (arith, f, below));
      runs = λ t low high.
          (let f = back_fits in
          let here : start + n ≡ t = omega (arith, f, low, high) in
          let number : job.1 ≡ job.1 % classes plan.graph job.0 + job.1 / classes plan.graph job.0 * classes plan.graph job.0 = split plan is job.0 job.1 in
          subst (λ (m : ℕ). goes run t job.0 m ≡ true) number (subst (λ (u : ℕ). goes run u job.0 job.1 ≡ true) here gone));
    }

    pub pushed : (entries : List Entry) → Upto n entries → Upto (suc n) (entries ++ unit_at plan (start + n) job ∷ [])
    pushed entries so_far = record {
      pieces = λ k entry at. elim (at_end entries (unit_at plan (start + n) job) entry k at) [
        | inl there ↦ (let p = so_far.pieces k entry there.1 in (p.0, p.1, (let b = p.2 in omega (arith, b))))
        | inr here ↦
            subst (λ (e : Entry). (b : ℕ) × IsCutFrom plan (goes run) start e b × (e.at + b * plan.graph.hyper + e.units ≤ start + suc n)) here.1
            (job.1 / classes plan.graph job.0, new_piece, (let f = back_fits in omega (arith, f)))
      ];
      ordered = λ k l one other x y less at_k at_l one_is other_is. elim (at_end entries (unit_at plan (start + n) job) other l at_l) [
        | inl there ↦
            (let l_in = there.0 in
            elim (at_end entries (unit_at plan (start + n) job) one k at_k) [
              | inl k_there ↦ so_far.ordered k l one other x y less k_there.1 there.1 one_is other_is
              | inr k_here ↦ absurd (let b = k_here.0 in omega (arith, b, less, l_in))
            ])
        | inr here ↦
            (elim (at_end entries (unit_at plan (start + n) job) one k at_k) [
              | inl k_there ↦
                  (let p = so_far.pieces k one k_there.1 in
                  let same = one_back one x p.0 one_is p.1 in
                  let turned = subst (λ (e : Entry). IsCutFrom plan (goes run) start e y) (sym here.1) other_is in
                  let other_same = one_back (unit_at plan (start + n) job) y (job.1 / classes plan.graph job.0) turned new_piece in
                  let xs = ap (λ (v : ℕ). v * plan.graph.hyper) same in
                  let ys = ap (λ (v : ℕ). v * plan.graph.hyper) other_same in
                  let at = ap (λ (e : Entry). e.at) here.1 in
                  let b = p.2 in let f = back_fits in
                  omega (arith, xs, ys, at, b, f))
              | inr k_here ↦ absurd (let b = k_here.0 in let d = here.0 in omega (arith, b, d, less))
            ])
      ];
      units = units_now entries (entries ++ unit_at plan (start + n) job ∷ []) (λ i c. units_more entries (unit_at plan (start + n) job) i c) so_far.units;
      last = λ other at.
          (let same : job ≡ other = (let s : Some job ≡ Some other = sym this ∙ at in cc s) in
          subst (EndsWith (suc n) (entries ++ unit_at plan (start + n) job ∷ [])) same (record {
            front = entries;
            entry = unit_at plan (start + n) job;
            list = refl;
            task = refl;
            class = refl;
            piece = new_piece;
            end = (let f = back_fits in omega (arith, f));
          }));
    }

    -- or the last piece goes on
    module _ (entries : List Entry) (so_far : Upto n entries) (ends : EndsWith n entries job) where
      longer_piece : IsCutFrom plan (goes run) start (longer ends.entry) (job.1 / classes plan.graph job.0)
      longer_piece =
          let p = ends.piece in
          let e = ends.end in
          record {
            task = p.task;
            job = p.job;
            units = omega arith;
            from = p.from;
            to = omega (arith, e, below);
            runs = λ t low high. elim (cases_lt t (ends.entry.at + job.1 / classes plan.graph job.0 * plan.graph.hyper + ends.entry.units)) [
              | inl before ↦ p.runs t low before
              | inr not_before ↦
                  (let here : start + n ≡ t = omega (arith, e, high, not_before) in
                  let per = ap (λ (x : ℕ). job.1 / classes plan.graph job.0 * classes plan.graph x) ends.task in
                  let class = ends.class in
                  let number : job.1 ≡ ends.entry.job + job.1 / classes plan.graph job.0 * classes plan.graph ends.entry.task.0 =
                  (let s = split plan is job.0 job.1 in omega (arith, s, per, class)) in
                  subst (λ (m : ℕ). goes run t ends.entry.task.0 m ≡ true) number (subst (λ (i : ℕ). goes run t i job.1 ≡ true) (sym ends.task)
                  (subst (λ (u : ℕ). goes run u job.0 job.1 ≡ true) here gone)))
            ];
          }

      old : (k : ℕ) (entry : Entry) → slice_get ends.front k ≡ Some entry → slice_get entries k ≡ Some entry
      old k entry at = subst (λ (l : List Entry). slice_get l k ≡ Some entry) (sym ends.list) (front_get ends.front ends.entry entry k at)

      old_end : slice_get entries (length ends.front) ≡ Some ends.entry
      old_end = subst (λ (l : List Entry). slice_get l (length ends.front) ≡ Some ends.entry) (sym ends.list) (end_get ends.front ends.entry)

      longer_list : Upto (suc n) (ends.front ++ longer ends.entry ∷ [])
      longer_list = record {
        pieces = λ k entry at. elim (at_end ends.front (longer ends.entry) entry k at) [
          | inl there ↦ (let p = so_far.pieces k entry (old k entry there.1) in (p.0, p.1, (let b = p.2 in omega (arith, b))))
          | inr here ↦
              subst (λ (e : Entry). (b : ℕ) × IsCutFrom plan (goes run) start e b × (e.at + b * plan.graph.hyper + e.units ≤ start + suc n)) here.1
              (job.1 / classes plan.graph job.0, longer_piece, (let e = ends.end in omega (arith, e)))
        ];
        ordered = λ k l one other x y less at_k at_l one_is other_is. elim (at_end ends.front (longer ends.entry) other l at_l) [
          | inl there ↦
              (let l_in = there.0 in
              elim (at_end ends.front (longer ends.entry) one k at_k) [
                | inl k_there ↦ so_far.ordered k l one other x y less (old k one k_there.1) (old l other there.1) one_is other_is
                | inr k_here ↦ absurd (let b = k_here.0 in omega (arith, b, less, l_in))
              ])
          | inr here ↦
              (elim (at_end ends.front (longer ends.entry) one k at_k) [
                | inl k_there ↦
                    (let turned = subst (λ (e : Entry). IsCutFrom plan (goes run) start e y) (sym here.1) other_is in
                    let same = one_back (longer ends.entry) y (job.1 / classes plan.graph job.0) turned longer_piece in
                    let before = so_far.ordered k (length ends.front) one ends.entry x (job.1 / classes plan.graph job.0) k_there.0 (old k one k_there.1) old_end one_is ends.piece in
                    let ys = ap (λ (v : ℕ). v * plan.graph.hyper) same in
                    let at = ap (λ (e : Entry). e.at) here.1 in
                    omega (arith, before, ys, at))
                | inr k_here ↦ absurd (let b = k_here.0 in let d = here.0 in omega (arith, b, d, less))
              ])
        ];
        units = units_now entries (ends.front ++ longer ends.entry ∷ []) one_unit so_far.units;
        last = λ other at.
            (let same : job ≡ other = (let s : Some job ≡ Some other = sym this ∙ at in cc s) in
            subst (EndsWith (suc n) (ends.front ++ longer ends.entry ∷ [])) same (record {
              front = ends.front;
              entry = longer ends.entry;
              list = refl;
              task = ends.task;
              class = ends.class;
              piece = longer_piece;
              end = (let e = ends.end in omega (arith, e));
            }));
      }
        where
          one_unit : (i c : ℕ) → units_of (ends.front ++ longer ends.entry ∷ []) i c ≡ units_of entries i c + cond (its_class i c) 1 0
          one_unit i c =
              (let a = units_more ends.front (longer ends.entry) i c in
              let b = units_more ends.front ends.entry i c in
              let l = ap (λ (xs : List Entry). units_of xs i c) ends.list in
              let t = ap {B = ℕ} (λ (x : ℕ). cond ((x == i) && (ends.entry.job == c)) 1 0) ends.task in
              let d = ap {B = ℕ} (λ (x : ℕ). cond ((job.0 == i) && (x == c)) 1 0) ends.class in
              let e = by_cases ((ends.entry.task.0 == i) && (ends.entry.job == c)) ends.entry.units in
              omega (arith, a, b, l, t, d, e))
            where
              by_cases : (b : Bool) (u : ℕ) → cond b (u + 1) 0 ≡ cond b u 0 + cond b 1 0
              by_cases true u = refl
              by_cases false u = refl

      pub went_on : Upto (suc n) (lengthened entries)
      went_on = subst (Upto (suc n)) (sym (ap lengthened ends.list ∙ lengthened_end ends.front ends.entry)) longer_list

  -- a tick that goes to no job
  idle : (n : ℕ) (entries : List Entry) → run (start + n) ≡ None → Upto n entries → Upto (suc n) entries
  idle n entries none so_far = record {
    pieces = λ k entry at. (let p = so_far.pieces k entry at in (p.0, p.1, (let b = p.2 in omega (arith, b))));
    ordered = so_far.ordered;
    units = λ i c i_in c_in.
        (let s = so_far.units i c i_in c_in in
        let add = sum_add (λ h. units_in (goes run) start n i (c + h * classes plan.graph i)) (λ h. cond (is_job (run (start + n)) i (c + h * classes plan.graph i)) 1 0) bound in
        let is_none = ap (λ (o : Option (ℕ × ℕ)). sum_below (λ h. cond (is_job o i (c + h * classes plan.graph i)) 1 0) bound) none in
        let zeros = sum_none (λ h. cond (is_job None i (c + h * classes plan.graph i)) 1 0) bound (λ h h_in. refl) in
        omega (arith, s, add, is_none, zeros));
    last = λ job at. (let e : None ≡ Some job = sym none ∙ at in cc);
  }

  same_is : (o : Option (ℕ × ℕ)) (job : ℕ × ℕ) → is_same o job ≡ true → o ≡ Some job
  same_is None job e = cc
  same_is (Some last) job e =
      ap Some (ap (λ (x : ℕ). (x, last.1)) (let a : last.0 ≡ job.0 = grind (arith, nat_tests) in a)
      ∙ ap (λ (x : ℕ). (job.0, x)) (let b : last.1 ≡ job.1 = grind (arith, nat_tests) in b))

  one_tick : (n : ℕ) → n < plan.graph.hyper → (entries : List Entry) → Upto n entries → (this : Option (ℕ × ℕ)) → run (start + n) ≡ this →
      Upto (suc n) (with_tick plan entries (start + n) (last_of run start n) this)
  one_tick n below entries so_far None at = idle n entries at so_far
  one_tick n below entries so_far (Some job) at = go (is_same (last_of run start n) job) refl
    where
      go : (b : Bool) → is_same (last_of run start n) job ≡ b → Upto (suc n) (cond b (lengthened entries) (entries ++ unit_at plan (start + n) job ∷ []))
      go true same = went_on n below job at entries so_far (so_far.last job (same_is (last_of run start n) job same))
      go false same = pushed n below job at entries so_far

  pub cut_upto : (n : ℕ) → n ≤ plan.graph.hyper → Upto n (cut_to plan run start n)
  cut_upto zero small = record {
    pieces = λ k entry at. cc;
    ordered = λ k l one other x y less at_k. cc;
    units = λ i c i_in c_in. sym (sum_none (λ h. 0) bound (λ h h_in. refl));
    last = λ job at. cc;
  }
  cut_upto (suc n) small = one_tick n (omega (arith, small)) (cut_to plan run start n) (cut_upto n (omega (arith, small))) (run (start + n)) refl

  pub cut_is : IsCut plan (goes run) start bound (cut_to plan run start plan.graph.hyper)
  cut_is =
      let all = cut_upto plan.graph.hyper (omega arith) in
      record {
        piece = λ k entry at. (let p = all.pieces k entry at in (p.0, p.1));
        once = λ k l one other x y t at_k at_l one_low one_high one_is other_low other_high other_is. elim (cases_lt k l) [
          | inl less ↦ absurd (let o = all.ordered k l one other x y less at_k at_l one_is other_is in omega (arith, o, one_high, other_low))
          | inr not_less ↦ (elim (cases_lt l k) [
            | inl more ↦ absurd (let o = all.ordered l k other one y x more at_l at_k other_is one_is in omega (arith, o, other_high, one_low))
            | inr not_more ↦ omega (arith, not_less, not_more)
          ])
        ];
        units = all.units;
      }
