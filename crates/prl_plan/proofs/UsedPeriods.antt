-- The used instances of an edge come again with the producer's jobs in a hyperperiod, so the shortest gaps are no longer.
use Rattle.prl_base.proofs.Standard.{◌≡◌, ◌+◌, ◌-◌, ◌*◌, ◌/◌, ◌%◌, ◌<◌, ◌≤◌, ℕ, zero, suc, length, get_or, take, sum, Some, inl, inr, sym, ◌∙◌, ap, subst, arith, pos, cases_lt, div-mul-add}
use Rattle.prl_base.proofs.Standard.{mod-mul-add, mod_below, slice_get-get_or}
use Rattle.prl_plan.specs.Vocabulary.{Edge, TaskGraph, Used, IsWellFormed, IsEdge, ComesFrom, ComesAgain, IsShortestRepeat, IsUsed, used_at, EnumeratesUsed, first_instance, IsAsked, span_of}
use Rattle.prl_plan.proofs.CellPeriods.{again, some_span}
use Rattle.prl_plan.proofs.ReaderLaws.{used_is}
use Rattle.prl_plan.proofs.RepeatLaws.{next_gap, first_number, some_length}
use Rattle.prl_plan.proofs.UsedLaws.{rising_to, some_gaps}

module _ (graph : TaskGraph) (good : IsWellFormed graph) (edge : Edge) (is : IsEdge graph edge) (i : ℕ) (comes : ComesFrom edge.from i) where
  abbrev span : ℕ
  span = span_of graph edge

  used_up : (m : ℕ) → IsUsed edge m → IsUsed edge (m + span_of graph edge)
  used_up m h =
      let r = (used_is edge i comes is.operators m).0 h in
      let late = r.0 in
      let at : first_instance edge.ops + (m - first_instance edge.ops) ≡ m = omega (arith, late) in
      let up = (again graph good edge is i comes (m - first_instance edge.ops)).0 (subst (λ (x : ℕ). IsAsked edge.ops (pos x)) (sym at) r.1) in
      let there : first_instance edge.ops + (m - first_instance edge.ops + span_of graph edge) ≡ m + span_of graph edge = omega (arith, at) in
      (used_is edge i comes is.operators (m + span_of graph edge)).1 (omega (arith, late), subst (λ (x : ℕ). IsAsked edge.ops (pos x)) there up)

  used_down : (m : ℕ) → first_instance edge.ops ≤ m → IsUsed edge (m + span_of graph edge) → IsUsed edge m
  used_down m late h =
      let r = (used_is edge i comes is.operators (m + span_of graph edge)).0 h in
      let at : first_instance edge.ops + (m - first_instance edge.ops) ≡ m = omega (arith, late) in
      let there : first_instance edge.ops + (m - first_instance edge.ops + span_of graph edge) ≡ m + span_of graph edge = omega (arith, at) in
      let down = (again graph good edge is i comes (m - first_instance edge.ops)).1 (subst (λ (x : ℕ). IsAsked edge.ops (pos x)) (sym there) r.1) in
      (used_is edge i comes is.operators m).1 (late, subst (λ (x : ℕ). IsAsked edge.ops (pos x)) at down)

  first_below : (m : ℕ) → IsUsed edge m → first_instance edge.ops ≤ m
  first_below m h = ((used_is edge i comes is.operators m).0 h).0

  module _ (used : Used) (all : EnumeratesUsed edge used) where
    -- not above, at a place that is not earlier
    rises : (j k : ℕ) → j ≤ k → used_at used j ≤ used_at used k
    rises j k before =
        elim (cases_lt j k) [
          | inl less ↦ (let up = rising_to edge used all k j less in omega (arith, up))
          | inr past ↦ (let same : j ≡ k = omega (arith, before, past) in omega (arith, ap (λ (x : ℕ). used_at used x) same))
        ]

    -- a later number stands at a later place
    places_rise : (j k : ℕ) → used_at used j < used_at used k → j < k
    places_rise j k less =
        elim (cases_lt j k) [
          | inl before ↦ before
          | inr past ↦ absurd (omega (arith, rises k j past, less))
        ]

    grows : (k : ℕ) → used_at used 0 + k ≤ used_at used k
    grows zero = omega arith
    grows (suc k) = omega (arith, grows k, rising_to edge used all (suc k) k (omega arith))

    -- a span further in numbers is `turn` further in places
    module _ (turn : ℕ) (at : used_at used turn ≡ used_at used 0 + span_of graph edge) where
      turns : (k : ℕ) → used_at used (k + turn) ≡ used_at used k + span_of graph edge
      turns zero = ap (λ (x : ℕ). used_at used x) (let e : 0 + turn ≡ turn = omega arith in e) ∙ at
      turns (suc k) =
          let before : used_at used (k + turn) ≡ used_at used k + span_of graph edge = turns k in
          let there : used_at used (k + turn) < used_at used (suc k + turn) = rising_to edge used all (suc k + turn) (k + turn) (omega arith) in
          let l = all.all (used_at used (suc k) + span_of graph edge) (used_up (used_at used (suc k)) (all.each (suc k))) in
          let l_at = l.1 in
          let up = rises (suc k + turn) l.0 (omega (arith, places_rise (k + turn) l.0 (omega (arith, before, rising_to edge used all (suc k) k (omega arith), l_at)))) in
          let whole : used_at used (suc k + turn) - span_of graph edge + span_of graph edge ≡ used_at used (suc k + turn) = omega (arith, before, there) in
          let asked : IsUsed edge (used_at used (suc k + turn) - span_of graph edge) =
          used_down (used_at used (suc k + turn) - span_of graph edge) (omega (arith, before, there, first_below (used_at used k) (all.each k)))
          (subst (λ (x : ℕ). IsUsed edge x) (sym whole) (all.each (suc k + turn))) in
          let d = all.all (used_at used (suc k + turn) - span_of graph edge) asked in
          let d_at = d.1 in
          omega (arith, up, l_at, rises (suc k) d.0 (omega (arith, places_rise k d.0 (omega (arith, before, there, d_at, whole)))), d_at, whole)

      gaps_again : 1 ≤ length used.gaps → ComesAgain used.gaps turn
      gaps_again some n =
          let c = turns n in
          let d = turns (n + 1) in
          let order : used_at used (n + 1 + turn) ≡ used_at used (n + turn + 1) = ap (λ (x : ℕ). used_at used x) (let e : n + 1 + turn ≡ n + turn + 1 = omega arith in e) in
          let same : get_or used.gaps ((n + turn) % length used.gaps) 0 ≡ get_or used.gaps (n % length used.gaps) 0 = omega (arith, next_gap used some n, next_gap used some (n + turn), c, d, order) in
          slice_get-get_or used.gaps ((n + turn) % length used.gaps) 0 (mod_below (n + turn) (length used.gaps) some) ∙ ap (λ (z : ℕ). Some z) same
          ∙ sym (slice_get-get_or used.gaps (n % length used.gaps) 0 (mod_below n (length used.gaps) some))

    -- after all gaps stands the first number and their sum
    all_gaps : 1 ≤ length used.gaps → used_at used (length used.gaps) ≡ used.first + sum used.gaps
    all_gaps some =
        let at : length used.gaps ≡ 1 * length used.gaps + 0 = omega arith in
        let d : length used.gaps / length used.gaps ≡ 1 = ap (λ (x : ℕ). x / length used.gaps) at ∙ div-mul-add 1 (length used.gaps) 0 some in
        let m : length used.gaps % length used.gaps ≡ 0 = ap (λ (x : ℕ). x % length used.gaps) at ∙ mod-mul-add 1 (length used.gaps) 0 some in
        omega (arith, ap (λ (x : ℕ). x * sum used.gaps) d, ap (λ (x : ℕ). sum (take x used.gaps)) m)

    pub gaps_within : IsShortestRepeat used.gaps → (length used.gaps ≤ span_of graph edge) × (sum used.gaps ≤ span_of graph edge)
    gaps_within short =
        let some : 1 ≤ length used.gaps = some_length (length used.gaps) (some_gaps edge used all) in
        let l = all.all (used_at used 0 + span_of graph edge) (used_up (used_at used 0) (all.each 0)) in
        let at = l.1 in
        let turn_some : 0 < l.0 = places_rise 0 l.0 (omega (arith, at, some_span graph good edge is i comes)) in
        let least : length used.gaps ≤ l.0 = short.least l.0 (omega (arith, turn_some)) (gaps_again l.0 at some) in
        (omega (arith, least, grows l.0, at), omega (arith, rises (length used.gaps) l.0 least, at, all_gaps some, first_number used some))
