-- Exits, one link more at a time.
use Rattle.prl_base.proofs.Standard.{◌≡◌, ◌+◌, ◌-◌, ◌<◌, ◌≤◌, ◌++◌, ◌⊎◌, ℕ, List, [], ◌∷◌, length, set, replicate, Some, inl, inr, refl, sym, ◌∙◌, ap, subst, arith, slice_get, slice_index, cases_lt, length-set}
use Rattle.prl_base.proofs.Standard.{get_or_push, length_push}
use Rattle.prl_plan.specs.Vocabulary.{jobs_in_hyperperiod}
use Rattle.prl_plan.specs.declared.graphs.TaskGraph.{TaskGraph}
use Rattle.prl_dates.specs.Vocabulary.{Exit, Lane, link_at, AreExitsPart, IsExit, exit_at, no_exit}
use Rattle.prl_dates.proofs.FirstTables.{get_first, get_past, get_same, length_same}
use Rattle.prl_dates.proofs.Pushes.{set_index}

same_lane : (lanes : List Lane) (l : ℕ) (a b : Lane) → slice_get lanes l ≡ Some a → slice_get lanes l ≡ Some b → a ≡ b
same_lane lanes l a b x y = cc

-- no link yet
zeros : (n q : ℕ) → slice_index (replicate n 0) q ≡ 0
zeros n q =
    elim (cases_lt q n) [
      | inl below ↦ get_same n q 0 0 below
      | inr past ↦ get_past (replicate n 0) q 0 (omega (arith, length_same {A = ℕ} n 0, past))
    ]

pub exits_begin : (graph : TaskGraph) (lanes : List Lane) (jobs : ℕ) → jobs ≡ jobs_in_hyperperiod graph → AreExitsPart graph lanes 0 0 [] (replicate jobs 0)
exits_begin graph lanes jobs all = record {
  long = length_same {A = ℕ} jobs 0 ∙ all;
  each = λ a below. absurd (omega (arith, below));
  falls = λ a below. absurd (omega (arith, below));
  same = λ a below. absurd (omega (arith, below));
  none_between = λ a b below. absurd (omega (arith, below));
  inside = λ q. omega (arith, zeros jobs q);
  own = λ q some. absurd (omega (arith, some, zeros jobs q));
  none_after = λ a below. absurd (omega (arith, below));
  all = λ l k lane first.
      absurd (elim first [
        | inl less ↦ omega (arith, less)
        | inr less ↦ omega (arith, less.1)
      ]);
}

-- one link more
module _ (graph : TaskGraph) (lanes : List Lane) (l k : ℕ) (list : List Exit) (last : List ℕ) (part : AreExitsPart graph lanes l k list last)
    (lane : Lane) (stands : slice_get lanes l ≡ Some lane) (inside : k < length lane.links) (exit : Exit)
    (from_is : (link_at lane k).from ≡ exit.from) (lane_is : exit.lane ≡ l) (place_is : exit.place ≡ k) (before_is : exit.before ≡ slice_index last exit.from)
    (from_inside : exit.from < length last) where
  old_at : (a : ℕ) → a < length list → exit_at (list ++ exit ∷ []) a ≡ exit_at list a
  old_at a below = get_first list (exit ∷ []) a no_exit below

  new_at : (a : ℕ) → length list ≡ a → exit_at (list ++ exit ∷ []) a ≡ exit
  new_at a e = get_or_push list exit no_exit a e

  long_is : length (list ++ exit ∷ []) ≡ length list + 1
  long_is = length_push list exit

  is_exit : IsExit lanes exit
  is_exit = (lane, subst (λ (x : ℕ). slice_get lanes x ≡ Some lane) (sym lane_is) stands, omega (arith, inside, place_is), ap (λ (x : ℕ). (link_at lane x).from) place_is ∙ from_is)

  each : (a : ℕ) → a < length (list ++ exit ∷ []) → IsExit lanes (exit_at (list ++ exit ∷ []) a)
  each a below =
      elim (cases_lt a (length list)) [
        | inl less ↦ subst (λ (e : Exit). IsExit lanes e) (sym (old_at a less)) (part.each a less)
        | inr above ↦ subst (λ (e : Exit). IsExit lanes e) (sym (new_at a (omega (arith, above, below, long_is)))) is_exit
      ]

  falls : (a : ℕ) → a < length (list ++ exit ∷ []) → (exit_at (list ++ exit ∷ []) a).before ≤ a
  falls a below =
      elim (cases_lt a (length list)) [
        | inl less ↦ omega (arith, ap (λ (e : Exit). e.before) (old_at a less), part.falls a less)
        | inr above ↦ omega (arith, ap (λ (e : Exit). e.before) (new_at a (omega (arith, above, below, long_is))), before_is, part.inside exit.from, above)
      ]

  same : (a : ℕ) → a < length (list ++ exit ∷ []) → 1 ≤ (exit_at (list ++ exit ∷ []) a).before →
      (exit_at (list ++ exit ∷ []) ((exit_at (list ++ exit ∷ []) a).before - 1)).from ≡ (exit_at (list ++ exit ∷ []) a).from
  same a below some =
      elim (cases_lt a (length list)) [
        | inl less ↦
            (let b : (exit_at (list ++ exit ∷ []) a).before ≡ (exit_at list a).before = ap (λ (e : Exit). e.before) (old_at a less) in
            let s : 1 ≤ (exit_at list a).before = omega (arith, some, b) in
            let lower : (exit_at list a).before - 1 < length list = omega (arith, part.falls a less, less, s) in
            ap (λ (x : ℕ). (exit_at (list ++ exit ∷ []) (x - 1)).from) b ∙ ap (λ (e : Exit). e.from) (old_at ((exit_at list a).before - 1) lower) ∙ part.same a less s
            ∙ sym (ap (λ (e : Exit). e.from) (old_at a less)))
        | inr above ↦
            (let n : exit_at (list ++ exit ∷ []) a ≡ exit = new_at a (omega (arith, above, below, long_is)) in
            let b : (exit_at (list ++ exit ∷ []) a).before ≡ slice_index last exit.from = ap (λ (e : Exit). e.before) n ∙ before_is in
            let s : 1 ≤ slice_index last exit.from = omega (arith, some, b) in
            let lower : slice_index last exit.from - 1 < length list = omega (arith, part.inside exit.from, s) in
            ap (λ (x : ℕ). (exit_at (list ++ exit ∷ []) (x - 1)).from) b ∙ ap (λ (e : Exit). e.from) (old_at (slice_index last exit.from - 1) lower) ∙ part.own exit.from s
            ∙ sym (ap (λ (e : Exit). e.from) n))
      ]

  none_between : (a b : ℕ) → a < length (list ++ exit ∷ []) → b < a → (exit_at (list ++ exit ∷ []) b).from ≡ (exit_at (list ++ exit ∷ []) a).from →
      b < (exit_at (list ++ exit ∷ []) a).before
  none_between a b below before one =
      elim (cases_lt a (length list)) [
        | inl less ↦
            (let x = ap (λ (e : Exit). e.from) (old_at a less) in
            let y = ap (λ (e : Exit). e.from) (old_at b (omega (arith, less, before))) in
            let h = part.none_between a b less before (sym y ∙ one ∙ x) in
            omega (arith, h, ap (λ (e : Exit). e.before) (old_at a less)))
        | inr above ↦
            (let n : exit_at (list ++ exit ∷ []) a ≡ exit = new_at a (omega (arith, above, below, long_is)) in
            let lower : b < length list = omega (arith, below, before, long_is) in
            let y : (exit_at list b).from ≡ exit.from = sym (ap (λ (e : Exit). e.from) (old_at b lower)) ∙ one ∙ ap (λ (e : Exit). e.from) n in
            let h = part.none_after b lower in
            omega (arith, h, ap (λ (x : ℕ). slice_index last x) y, ap (λ (e : Exit). e.before) n, before_is))
      ]

  last_inside : (q : ℕ) → slice_index (set last exit.from (length list + 1)) q ≤ length (list ++ exit ∷ [])
  last_inside q =
      elim (set_index last exit.from q (length list + 1) from_inside) [
        | inl here ↦ omega (arith, here.1, long_is)
        | inr there ↦ omega (arith, there.1, part.inside q, long_is)
      ]

  own : (q : ℕ) → 1 ≤ slice_index (set last exit.from (length list + 1)) q →
      (exit_at (list ++ exit ∷ []) (slice_index (set last exit.from (length list + 1)) q - 1)).from ≡ q
  own q some =
      elim (set_index last exit.from q (length list + 1) from_inside) [
        | inl here ↦
            (let at : length list ≡ slice_index (set last exit.from (length list + 1)) q - 1 = omega (arith, here.1) in
            ap (λ (e : Exit). e.from) (new_at (slice_index (set last exit.from (length list + 1)) q - 1) at) ∙ sym here.0)
        | inr there ↦
            (let s : 1 ≤ slice_index last q = omega (arith, some, there.1) in
            let lower : slice_index last q - 1 < length list = omega (arith, part.inside q, s) in
            ap (λ (x : ℕ). (exit_at (list ++ exit ∷ []) (x - 1)).from) there.1 ∙ ap (λ (e : Exit). e.from) (old_at (slice_index last q - 1) lower) ∙ part.own q s)
      ]

  none_after : (a : ℕ) → a < length (list ++ exit ∷ []) → a < slice_index (set last exit.from (length list + 1)) (exit_at (list ++ exit ∷ []) a).from
  none_after a below =
      elim (set_index last exit.from (exit_at (list ++ exit ∷ []) a).from (length list + 1) from_inside) [
        | inl here ↦ omega (arith, here.1, below, long_is)
        | inr there ↦
            elim (cases_lt a (length list)) [
              | inl less ↦
                  (let x : (exit_at (list ++ exit ∷ []) a).from ≡ (exit_at list a).from = ap (λ (e : Exit). e.from) (old_at a less) in
                  omega (arith, part.none_after a less, there.1, ap (λ (y : ℕ). slice_index last y) x))
              | inr above ↦ absurd (there.0 (ap (λ (e : Exit). e.from) (new_at a (omega (arith, above, below, long_is)))))
            ]
      ]

  all : (l' k' : ℕ) (other : Lane) → (l' < l) ⊎ ((l' ≡ l) × (k' < k + 1)) → slice_get lanes l' ≡ Some other → k' < length other.links →
      (a : ℕ) × (a < length (list ++ exit ∷ [])) × ((exit_at (list ++ exit ∷ []) a).lane ≡ l') × ((exit_at (list ++ exit ∷ []) a).place ≡ k')
  all l' k' other first at in_it =
      elim first [
        | inl less ↦ kept (part.all l' k' other (inl less) at in_it)
        | inr here ↦
            elim (cases_lt k' k) [
              | inl less ↦ kept (part.all l' k' other (inr (here.0, less)) at in_it)
              | inr above ↦ (
                length list,
                omega (arith, long_is),
                ap (λ (e : Exit). e.lane) (new_at (length list) refl) ∙ lane_is ∙ sym here.0,
                ap (λ (e : Exit). e.place) (new_at (length list) refl) ∙ place_is ∙ (let e : k ≡ k' = omega (arith, above, here.1) in e),
              )
            ]
      ]
    where
      kept : (a : ℕ) × (a < length list) × ((exit_at list a).lane ≡ l') × ((exit_at list a).place ≡ k') →
          (a : ℕ) × (a < length (list ++ exit ∷ [])) × ((exit_at (list ++ exit ∷ []) a).lane ≡ l') × ((exit_at (list ++ exit ∷ []) a).place ≡ k')
      kept a = (
        a.0,
        omega (arith, a.1, long_is),
        ap (λ (e : Exit). e.lane) (old_at a.0 a.1) ∙ a.2,
        ap (λ (e : Exit). e.place) (old_at a.0 a.1) ∙ a.3,
      )

  pub exits_more : AreExitsPart graph lanes l (k + 1) (list ++ exit ∷ []) (set last exit.from (length list + 1))
  exits_more = record {
    long = length-set last exit.from (length list + 1) ∙ part.long;
    each = each;
    falls = falls;
    same = same;
    none_between = none_between;
    inside = last_inside;
    own = own;
    none_after = none_after;
    all = all;
  }

-- all links of a lane
pub exits_whole : (graph : TaskGraph) (lanes : List Lane) (l k : ℕ) (list : List Exit) (last : List ℕ) → AreExitsPart graph lanes l k list last →
    (lane : Lane) → slice_get lanes l ≡ Some lane → k ≡ length lane.links → AreExitsPart graph lanes (l + 1) 0 list last
exits_whole graph lanes l k list last part lane stands whole = record {
  long = part.long;
  each = part.each;
  falls = part.falls;
  same = part.same;
  none_between = part.none_between;
  inside = part.inside;
  own = part.own;
  none_after = part.none_after;
  all = λ l' k' other first at in_it. part.all l' k' other (here l' k' other first at in_it) at in_it;
}
  where
    here : (l' k' : ℕ) (other : Lane) → (l' < l + 1) ⊎ ((l' ≡ l + 1) × (k' < 0)) → slice_get lanes l' ≡ Some other → k' < length other.links → (l' < l) ⊎ ((l' ≡ l) × (k' < k))
    here l' k' other (inr none) at in_it = absurd (omega (arith, none.1))
    here l' k' other (inl first) at in_it =
        elim (cases_lt l' l) [
          | inl less ↦ inl less
          | inr above ↦
              (let e : l' ≡ l = omega (arith, above, first) in
              let o : other ≡ lane = same_lane lanes l other lane (subst (λ (x : ℕ). slice_get lanes x ≡ Some other) e at) stands in
              inr (e, omega (arith, in_it, whole, ap (λ (x : Lane). length x.links) o)))
        ]
