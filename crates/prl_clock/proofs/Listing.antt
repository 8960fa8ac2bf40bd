-- Which flows are listed at a flow, while flows go from one to another.
use Rattle.prl_base.proofs.Standard.{◌≡◌, ◌≢◌, ◌<◌, ◌≤◌, ◌+◌, ◌++◌, ◌∷◌, ◌∙◌, ◌⊎◌, inl, inr, ℕ, zero, suc, List, [], length, length-set, length-append, get_or, set, get_or-set_same, arith, map, Vec, Global, vec_items}
use Rattle.prl_base.proofs.Standard.{refl, sym, ap, subst, cases_lt, map-set, get_or-map, length-map, get_or-append, get_or-append_seam, get_or-eq_default, Contains-append_left, Contains-append_right, Contains-append_cases}
use Rattle.prl_base.proofs.Standard.{Result, Ok, Err, IsErrAnd, cond, set-get_or}
use Rattle.std.specs.Result.{is_ok}
use Rattle.std.proofs.Common.{get_or-set_other, Contains}
use Rattle.prl_clock.specs.Vocabulary.{AreChanged, AreListed, AreMoved, AreTimed, HaveChanged, IsMoved, IsTimed, Standing, Timing, alone, joint_list, listed_at, root_at, standing_at}
use Rattle.prl_clock.proofs.Merging.{decide, timed_or_same}

-- the list that is read, and a list that is written
pub read_is : (lists : List (Vec ℕ Global)) (r : ℕ) (v : Vec ℕ Global) (xs : List ℕ) → r < length lists → v ≡ get_or lists r v → xs ≡ v.items → xs ≡ listed_at (map vec_items lists) r
read_is lists r v xs lt e is =
    let items = λ (c : Vec ℕ Global). c.items in
    is ∙ ap items e ∙ sym (get_or-map items lists r v [] lt)

pub written_is : (lists : List (Vec ℕ Global)) (r : ℕ) (v : Vec ℕ Global) (xs : List ℕ) → v.items ≡ xs → map vec_items (set lists r v) ≡ set (map vec_items lists) r xs
written_is lists r v xs e =
    let items = λ (c : Vec ℕ Global). c.items in
    map-set items lists r v ∙ ap (λ (ys : List ℕ). set (map items lists) r ys) e

-- a list that is written as it was changes nothing
pub as_it_was : {T E : Type 0} (lists : List (Vec ℕ Global)) (r : ℕ) (old new : Vec ℕ Global) (result : Result T E) (joint : List (List ℕ)) (P : E → Type 0) → r < length lists → old ≡ get_or lists r old → new.items ≡ old.items
    → IsErrAnd result P → map vec_items (set lists r new) ≡ cond (is_ok result) joint (map vec_items lists)
as_it_was lists r old new (Ok x) joint P lt e same err = absurd err
as_it_was lists r old new (Err x) joint P lt e same err =
    let was : listed_at (map vec_items lists) r ≡ old.items = sym (read_is lists r old old.items lt e refl) in
    written_is lists r new (listed_at (map vec_items lists) r) (same ∙ sym was) ∙ set-get_or (map vec_items lists) r []

pub none_listed : (lists : List (List ℕ)) (r x : ℕ) → length lists ≤ r → Contains (listed_at lists r) x → ⊥
none_listed lists r x past h =
    let e : listed_at lists r ≡ [] = get_or-eq_default lists [] past in
    let g : Contains [] x = subst (λ (ys : List ℕ). Contains ys x) e h in
    let lt : g.0 < 0 = g.1 in omega (arith, lt)

-- each flow by itself
pub record AreSingle (lists : List (List ℕ)) (count : ℕ) : Type 0 where
  pub count_is : length lists ≡ count
  pub single : (k : ℕ) → k < count → listed_at lists k ≡ k ∷ []

pub single_none : AreSingle [] 0
single_none = record { count_is = refl; single = λ k lt. absurd (omega (arith, lt)) }

pub single_next : (lists : List (List ℕ)) (n : ℕ) → AreSingle lists n → AreSingle (lists ++ (n ∷ []) ∷ []) (n + 1)
single_next lists n h = record {
  count_is = length-append lists ((n ∷ []) ∷ []) ∙ ap (λ k. k + 1) h.count_is;
  single = λ k lt. elim (cases_lt k n) [
    | inl below ↦ get_or-append lists ((n ∷ []) ∷ []) [] k (let e = h.count_is in omega (arith, below, e)) ∙ h.single k below
    | inr past ↦
        let e : k ≡ n = omega (arith, lt, past) in
        let P : ℕ → Type 0 = λ j. listed_at (lists ++ (n ∷ []) ∷ []) j ≡ j ∷ [] in
        let here : listed_at (lists ++ (n ∷ []) ∷ []) (length lists) ≡ n ∷ [] = get_or-append_seam lists (n ∷ []) [] [] in
        let Q : ℕ → Type 0 = λ j. listed_at (lists ++ (n ∷ []) ∷ []) j ≡ n ∷ [] in
        subst P (sym e) (subst Q h.count_is here)
  ];
}

only_one : (n x : ℕ) → Contains (n ∷ []) x → x ≡ n
only_one n x (zero, lt, e) = sym e
only_one n x (suc i, lt, e) = absurd (omega (arith, lt))

pub single_listed : (st : List Standing) (lists : List (List ℕ)) (n : ℕ) → length st ≡ n → ((x : ℕ) → standing_at st x ≡ alone x) → AreSingle lists n → AreListed st lists
single_listed st lists n len own h = record {
  count = h.count_is ∙ sym len;
  all = λ x lt.
      let root : (standing_at st x).root ≡ x = ap (λ (s : Standing). s.root) (own x) in
      let at : listed_at lists (standing_at st x).root ≡ x ∷ [] = ap (listed_at lists) root ∙ h.single x (omega (arith, lt, len)) in
      let P : List ℕ → Type 0 = λ ys. Contains ys x in subst P (sym at) (0, omega arith, refl);
  only = λ x r among.
      elim (cases_lt r n) [
        | inl below ↦
            let P : List ℕ → Type 0 = λ ys. Contains ys x in
            let e : x ≡ r = only_one r x (subst P (h.single r below) among) in omega (arith, e, below, len)
        | inr past ↦ absurd (none_listed lists r x (let e = h.count_is in omega (arith, e, past)) among)
      ];
}

-- What is listed at `high` at `low` as well.
module _ (high low : ℕ) (lists : List (List ℕ)) (apart : low ≢ high) (within : low < length lists) where
  at_low : listed_at (joint_list high low lists) low ≡ listed_at lists low ++ listed_at lists high
  at_low = get_or-set_same lists low (listed_at lists low ++ listed_at lists high) [] within

  at_other : (r : ℕ) → r ≢ low → listed_at (joint_list high low lists) r ≡ listed_at lists r
  at_other r n = get_or-set_other lists low r (listed_at lists low ++ listed_at lists high) [] n

  pub joint_stays : (r x : ℕ) → Contains (listed_at lists r) x → Contains (listed_at (joint_list high low lists) r) x
  joint_stays r x h =
      let P : List ℕ → Type 0 = λ ys. Contains ys x in
      elim (decide r low) [
        | inl e ↦
            let Q : ℕ → Type 0 = λ q. Contains (listed_at lists q) x in
            let R : ℕ → Type 0 = λ q. Contains (listed_at (joint_list high low lists) q) x in
            subst R (sym e) (subst P (sym at_low) (Contains-append_left (listed_at lists low) (listed_at lists high) x (subst Q e h)))
        | inr n ↦ subst P (sym (at_other r n)) h
      ]

  pub joint_moves : (x : ℕ) → Contains (listed_at (joint_list high low lists) high) x → Contains (listed_at (joint_list high low lists) low) x
  joint_moves x h =
      let P : List ℕ → Type 0 = λ ys. Contains ys x in
      subst P (sym at_low) (Contains-append_right (listed_at lists low) (listed_at lists high) x (subst P (at_other high (λ e. apart (sym e))) h))

  joint_only : (r x : ℕ) → Contains (listed_at (joint_list high low lists) r) x → (q : ℕ) × Contains (listed_at lists q) x
  joint_only r x h =
      let P : List ℕ → Type 0 = λ ys. Contains ys x in
      elim (decide r low) [
        | inl e ↦
            let R : ℕ → Type 0 = λ q. Contains (listed_at (joint_list high low lists) q) x in
            elim (Contains-append_cases (listed_at lists low) (listed_at lists high) x (subst P at_low (subst R e h))) [ inl a ↦ (low, a) | inr b ↦ (high, b) ]
        | inr n ↦ (r, subst P (at_other r n) h)
      ]

  pub joint_listed : (st : List Standing) → AreListed st lists → AreListed st (joint_list high low lists)
  joint_listed st h = record {
    count = length-set lists low (listed_at lists low ++ listed_at lists high) ∙ h.count;
    all = λ x lt. joint_stays (standing_at st x).root x (h.all x lt);
    only = λ x r among. let q = joint_only r x among in h.only x q.0 q.1;
  }

-- flows that stand over another flow are listed there already
pub moved_listed : (high low : ℕ) (lists : List (List ℕ)) (st new : List Standing) → AreListed st lists → length new ≡ length st
    → ((x : ℕ) → (root_at new x ≡ root_at st x) ⊎ ((root_at st x ≡ high) × (root_at new x ≡ low)))
    → ((x : ℕ) → Contains (listed_at lists high) x → Contains (listed_at lists low) x) → AreListed new lists
moved_listed high low lists st new h len roots moves = record {
  count = h.count ∙ sym len;
  all = λ x lt.
      let was = h.all x (omega (arith, lt, len)) in
      let P : ℕ → Type 0 = λ r. Contains (listed_at lists r) x in
      elim (roots x) [
        | inl e ↦ subst P (sym e) was
        | inr e ↦ subst P (sym e.1) (moves x (subst P e.0 was))
      ];
  only = λ x r among. let b = h.only x r among in omega (arith, b, len);
}

pub same_listed : (lists : List (List ℕ)) (st new : List Standing) → AreListed st lists → length new ≡ length st → ((x : ℕ) → root_at new x ≡ root_at st x) → AreListed new lists
same_listed lists st new h len roots = moved_listed 0 0 lists st new h len (λ x. inl (roots x)) (λ x a. a)

-- nothing is listed any more at a flow over which none stands
pub cleared_listed : (high : ℕ) (lists : List (List ℕ)) (st : List Standing) → AreListed st lists → ((x : ℕ) → x < length st → root_at st x ≢ high) → AreListed st (set lists high [])
cleared_listed high lists st h gone = record {
  count = length-set lists high [] ∙ h.count;
  all = λ x lt.
      let P : List ℕ → Type 0 = λ ys. Contains ys x in
      subst P (sym (get_or-set_other lists high (root_at st x) [] [] (gone x lt))) (h.all x lt);
  only = λ x r among.
      elim (decide r high) [
        | inr n ↦ let P : List ℕ → Type 0 = λ ys. Contains ys x in h.only x r (subst P (get_or-set_other lists high r [] [] n) among)
        | inl e ↦ elim (cases_lt r (length lists)) [
          | inl below ↦
              let P : List ℕ → Type 0 = λ ys. Contains ys x in
              let Q : ℕ → Type 0 = λ q. Contains (listed_at (set lists high []) q) x in
              let within : high < length lists = omega (arith, below, e) in
              let g : Contains [] x = subst P (get_or-set_same lists high [] [] within) (subst Q e among) in
              let lt : g.0 < 0 = g.1 in absurd (omega (arith, lt))
          | inr past ↦ absurd (none_listed (set lists high []) r x (let l = length-set lists high [] in omega (arith, l, past)) among)
        ]
      ];
}

-- what becomes of the roots
pub moved_roots : (high low : ℕ) (shift : Timing) (old new : List Standing) → AreChanged (IsMoved high low shift) old new
    → (x : ℕ) → (root_at new x ≡ root_at old x) ⊎ ((root_at old x ≡ high) × (root_at new x ≡ low))
moved_roots high low shift old new changed x =
    elim (changed x) [
      | inr same ↦ inl (ap (λ (s : Standing). s.root) same)
      | inl r ↦ elim (decide (root_at old x) high) [
        | inl e ↦ inr (e, (r.moved e).0)
        | inr n ↦ inl (ap (λ (s : Standing). s.root) (r.kept n))
      ]
    ]

pub timed_roots : (root : ℕ) (clock : Timing) (old new : List Standing) → AreChanged (IsTimed root clock) old new → (x : ℕ) → root_at new x ≡ root_at old x
timed_roots root clock old new changed x =
    elim (changed x) [
      | inr same ↦ ap (λ (s : Standing). s.root) same
      | inl r ↦ elim (timed_or_same root clock _ _ r) [
        | inr same ↦ ap (λ (s : Standing). s.root) same
        | inl e ↦ let t = r.timed e.0 e.1 in ap (λ (s : Standing). s.root) t.1.0
      ]
    ]

pub gone_root : (high low : ℕ) (shift : Timing) (old new : List Standing) → low ≢ high → AreMoved high low shift old new → (x : ℕ) → x < length old → root_at new x ≢ high
gone_root high low shift old new apart moved x lt e =
    elim (decide (root_at old x) high) [
      | inl h ↦ apart (sym ((moved x lt).moved h).0 ∙ e)
      | inr n ↦ n (sym (ap (λ (s : Standing). s.root) ((moved x lt).kept n)) ∙ e)
    ]

-- where all flows that are listed have changed so, all have that stand there
pub moved_all : (high low : ℕ) (shift : Timing) (lists : List (List ℕ)) (old new : List Standing) → AreListed old lists → AreChanged (IsMoved high low shift) old new
    → (xs : List ℕ) → xs ≡ listed_at lists high → HaveChanged (IsMoved high low shift) xs old new → AreMoved high low shift old new
moved_all high low shift lists old new h changed xs is have x lt =
    elim (changed x) [
      | inl r ↦ r
      | inr same ↦ record {
        moved = λ e.
            let P : List ℕ → Type 0 = λ ys. Contains ys x in
            let Q : ℕ → Type 0 = λ r. Contains (listed_at lists r) x in
            (have x (subst P (sym is) (subst Q e (h.all x lt)))).moved e;
        kept = λ _. same;
      }
    ]

pub timed_all : (root : ℕ) (clock : Timing) (lists : List (List ℕ)) (old new : List Standing) → AreListed old lists → AreChanged (IsTimed root clock) old new
    → (xs : List ℕ) → xs ≡ listed_at lists root → HaveChanged (IsTimed root clock) xs old new → AreTimed root clock old new
timed_all root clock lists old new h changed xs is have x lt =
    elim (changed x) [
      | inl r ↦ r
      | inr same ↦ record {
        timed = λ e n.
            let P : List ℕ → Type 0 = λ ys. Contains ys x in
            let Q : ℕ → Type 0 = λ r. Contains (listed_at lists r) x in
            (have x (subst P (sym is) (subst Q e (h.all x lt)))).timed e n;
        had = λ _ _. same;
        kept = λ _. same;
      }
    ]

pub listed_within : (lists : List (List ℕ)) (st : List Standing) → AreListed st lists → (r : ℕ) (xs : List ℕ) → xs ≡ listed_at lists r → (x : ℕ) → Contains xs x → x < length st
listed_within lists st h r xs is x among = let P : List ℕ → Type 0 = λ ys. Contains ys x in h.only x r (subst P is among)

-- What becomes of the lists where the flows over `high` go over `low`.
module _ (high low : ℕ) (shift : Timing) (before lists : List (List ℕ)) (st new : List Standing) (h : AreListed st before) (lower : low < high) (within : high < length before)
    (joint : lists ≡ joint_list high low before) (len : length new ≡ length st) (changed : AreChanged (IsMoved high low shift) st new) where
  apart : low ≢ high
  apart e = omega (arith, e, lower)

  low_within : low < length before
  low_within = omega (arith, lower, within)

  pub together : AreListed st lists
  together = let P : List (List ℕ) → Type 0 = λ ls. AreListed st ls in subst P (sym joint) (joint_listed high low before apart low_within st h)

  pub brought : AreListed new lists
  brought =
      let P : List (List ℕ) → Type 0 = λ ls. (x : ℕ) → Contains (listed_at ls high) x → Contains (listed_at ls low) x in
      moved_listed high low lists st new together len (moved_roots high low shift st new changed) (subst P (sym joint) (joint_moves high low before apart low_within))

  module _ (xs : List ℕ) (is : xs ≡ listed_at lists high) (have : HaveChanged (IsMoved high low shift) xs st new) where
    pub all_moved : AreMoved high low shift st new
    all_moved = moved_all high low shift lists st new together changed xs is have

    pub cleared : AreListed new (set lists high [])
    cleared = cleared_listed high lists new brought (λ x lt. gone_root high low shift st new apart all_moved x (omega (arith, lt, len)))

pub reached_within : (lists : List (Vec ℕ Global)) (st old : List Standing) (r : ℕ) → length (map vec_items lists) ≡ length st → st ≡ old → r < length old → r < length lists
reached_within lists st old r count same h =
    let a = length-map lists (vec_items {X = ℕ} {Z = Global}) in let b = ap length same in omega (arith, a, b, count, h)
