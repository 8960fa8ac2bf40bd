-- The cells of an edge: the least number by the dates of one hyperperiod is the least at all, and shorter gaps tell the same.
use Rattle.prl_base.proofs.Standard.{◌≡◌, ◌+◌, ◌-◌, ◌*◌, ◌/◌, ◌%◌, ◌<◌, ◌≤◌, ◌^◌, ◌↔◌, ℕ, zero, suc, List, [], ◌∷◌, length, take, sum, min, inl, inr, refl, sym, ◌∙◌, ap, subst, arith, ℤ, pos, negsuc}
use Rattle.prl_base.proofs.Standard.{◌+ℤ◌, ◌-ℤ◌, ◌≤ℤ◌, ◌<ℤ◌, slice_index, mul-le-mul_left, div-eq_of_lt, mod-eq_of_lt, cases_lt, ints, mod_below, sum_by-take-le, sum_by-cons, slice_get-get_or}
use Rattle.prl_base.proofs.Standard.{same_Some}
use Rattle.prl_plan.specs.Vocabulary.{used_at, EnumeratesUsed, IsLeastCount, IsUsed, IsOverBy, FitsInPeriod, span_of, encoded_release, encoded_deadline, first_instance, task_at, deadline_of}
use Rattle.prl_plan.specs.Vocabulary.{preceding, ComesFrom, number_at}
use Rattle.prl_plan.specs.declared.graphs.Edge.{Edge}
use Rattle.prl_plan.specs.declared.graphs.TaskGraph.{TaskGraph}
use Rattle.prl_plan.specs.declared.tables.Used.{Used}
use Rattle.prl_plan.specs.declared.tables.Window.{Window}
use Rattle.prl_plan.specs.declared.words.Word.{Word}
use Rattle.prl_plan.proofs.CellPeriods.{inside_from, spans, enumerates, fits_in_period, fits_over_period}
use Rattle.prl_plan.proofs.DatePeriods.{least_repeat, greatest_repeat}
use Rattle.prl_plan.proofs.DatesRise.{releases_rise, deadlines_rise}
use Rattle.prl_plan.proofs.ReaderLaws.{preceding_rises}
use Rattle.prl_plan.proofs.RepeatLaws.{next_gap, first_number, some_length}
use Rattle.prl_plan.proofs.RoundPeriods.{task_is}
use Rattle.prl_plan.proofs.UsedLaws.{some_gaps}
use Rattle.prl_buffers.specs.Vocabulary.{at_turn, AreReleased, AreOver, IsLeastTurn, IsPlanned, jobs_of, release_in, deadline_in, AreReleases, ReleasesFit, AreEnds, EndsFit, HasLeastCount, IsCutOf}
use Rattle.prl_buffers.specs.Vocabulary.{IsTurn}
use Rattle.prl_buffers.proofs.EdgeNumbers.{edge_is, precedes, first_is, dates_small, releases_small, numbers_small, some_period, full, lists}

not_before : (a b : ℤ) → (a <ℤ b → ⊥) → b ≤ℤ a
not_before a b never = go (a -ℤ b) refl
  where
    go : (d : ℤ) → a -ℤ b ≡ d → b ≤ℤ a
    go (pos k) at = omega (arith, ints, at)
    go (negsuc k) at = absurd (never (omega (arith, ints, at)))

-- each gap is at least one, so there are no more gaps than their sum
few_gaps : (gaps : List ℕ) → ((j : ℕ) → j < length gaps → 1 ≤ slice_index gaps j) → length gaps ≤ sum gaps
few_gaps [] each = omega arith
few_gaps (x ∷ gaps) each =
    omega (arith, few_gaps gaps (λ j below. each (suc j) (omega (arith, below))), each 0 (omega arith), sum_by-cons (λ y. y) x gaps)

module _ (graph : TaskGraph) (windows : List (List Window)) (edge : Edge) (w : Word) (known : IsPlanned graph windows edge w) (i : ℕ) (comes : ComesFrom edge.from i)
    (gaps last : List ℕ) (turn : IsTurn w (jobs_of graph edge) gaps last) where
  abbrev span : ℕ
  span = span_of graph edge

  inside : i < length graph.tasks
  inside = inside_from graph known.well edge (edge_is graph windows edge w known i comes) i comes

  abbrev plain : Used
  plain = record { first = first_instance edge.ops; gaps = gaps }

  all_used : EnumeratesUsed edge (record { first = first_instance edge.ops; gaps = gaps })
  all_used = enumerates graph known.well edge (edge_is graph windows edge w known i comes) i comes gaps (lists graph windows edge w known i comes gaps last turn)

  pub some_gap : 1 ≤ length gaps
  some_gap = some_length (length gaps) (some_gaps edge (record { first = first_instance edge.ops; gaps = gaps }) all_used)

  pub sum_small : sum gaps < 2 ^ 45
  sum_small = omega (arith, numbers_small graph windows edge w known i comes (jobs_of graph edge) (omega arith), turn.whole)

  few : length gaps ≤ graph.hyper
  few =
      let h = spans graph known.well edge (edge_is graph windows edge w known i comes) i comes in
      let p = some_period graph windows edge w known i comes in
      let e : span_of graph edge * 1 ≡ span_of graph edge = omega arith in
      omega (arith, few_gaps gaps turn.positive, full graph windows edge w known i comes gaps last turn, h, mul-le-mul_left (span_of graph edge) p, e)

  -- the encoded release of an instance
  abbrev release : ℕ → ℤ
  release m = encoded_release graph windows i (pos m)

  release_is : (m : ℕ) → encoded_release graph windows i (pos m) ≡ pos (release_in graph windows i m)
  release_is m = omega (arith, ints)

  release_again : (q m : ℕ) → encoded_release graph windows i (pos (m + q * span_of graph edge)) ≡ encoded_release graph windows i (pos m) +ℤ pos (q * graph.hyper)
  release_again zero m =
      let e : m + 0 * span_of graph edge ≡ m = omega arith in
      let z : 0 * graph.hyper ≡ 0 = omega arith in
      omega (arith, ints, ap (λ (n : ℕ). encoded_release graph windows i (pos n)) e, z)
  release_again (suc q) m =
      let once = (least_repeat graph known.well (encoded_release graph windows) known.dates.releases).again i (span_of graph edge) inside
      (spans graph known.well edge (edge_is graph windows edge w known i comes) i comes) (pos (m + q * span_of graph edge)) in
      let e : pos (m + suc q * span_of graph edge) ≡ pos (m + q * span_of graph edge) +ℤ pos (span_of graph edge) =
      (let t : suc q * span_of graph edge ≡ q * span_of graph edge + span_of graph edge = omega arith in omega (arith, ints, t)) in
      let t : suc q * graph.hyper ≡ q * graph.hyper + graph.hyper = omega arith in
      omega (arith, ints, release_again q m, once, ap (λ (z : ℤ). encoded_release graph windows i z) e, t)

  release_rises : (a b : ℕ) → a ≤ b → encoded_release graph windows i (pos a) ≤ℤ encoded_release graph windows i (pos b)
  release_rises a b order = releases_rise graph known.well (encoded_release graph windows) known.dates.releases i (pos a) (pos b) inside (omega (arith, ints, order))

  -- the instance that a gap of the turn leads from
  abbrev at_gap : ℕ → ℕ
  at_gap x = number_at w 0 + sum (take x gaps)

  gap_rises : (x y : ℕ) → x ≤ y → number_at w 0 + sum (take x gaps) ≤ number_at w 0 + sum (take y gaps)
  gap_rises x y order = omega (arith, taken x y order gaps)
    where
      taken : (x y : ℕ) → x ≤ y → (xs : List ℕ) → sum (take x xs) ≤ sum (take y xs)
      taken zero y order xs = (let z : sum (take 0 xs) ≡ 0 = refl in omega (arith, z))
      taken (suc x) zero order xs = absurd (omega (arith, order))
      taken (suc x) (suc y) order [] = omega arith
      taken (suc x) (suc y) order (a ∷ xs) =
          omega (arith, taken x y (omega (arith, order)) xs, sum_by-cons (λ z. z) a (take x xs), sum_by-cons (λ z. z) a (take y xs))

  pub releases_fit : ReleasesFit graph i (number_at w 0) gaps
  releases_fit = record {
    last = omega (arith, numbers_small graph windows edge w known i comes (jobs_of graph edge) (omega arith), turn.whole);
    each = λ x below.
        (let s = ap (λ (n : ℕ). (task_at graph i).clock.start + n * (task_at graph i).clock.period) (turn.each x below) in
        omega (arith, releases_small graph windows edge w known i comes (slice_index last x) (omega (arith, turn.within x below)), s));
  }

  -- the encoded deadline of a job from the prefix on
  abbrev ending : ℕ → ℕ
  ending x = deadline_in graph windows edge.to.0 (length w.prefix + slice_index last x)

  deadline_is : (n : ℕ) → encoded_deadline graph windows edge.to.0 (pos n) ≡ pos (deadline_in graph windows edge.to.0 n)
  deadline_is n = omega (arith, ints)

  pub ends_fit : EndsFit graph windows edge.to.0 (length w.prefix) last
  ends_fit x below =
      let e = edge_is graph windows edge w known i comes in
      let n : ℕ = length w.prefix + slice_index last x in
      let long = turn.long in
      let d = dates_small graph windows edge w known i comes (slice_index last x) (let b = turn.within x (omega (arith, below, long)) in omega (arith, b)) in
      let t = task_is graph known.well edge.to.0 e.to in
      omega (arith, ints, d, known.dates.deadlines.deadlines.below edge.to.0 (pos (length w.prefix + slice_index last x)) e.to, t.due.1, t.period.1)

  module _ (releases ends : List ℕ) (are : AreReleases graph windows i (number_at w 0) gaps releases) (ending_at : AreEnds graph windows edge.to.0 (length w.prefix) last ends) where
    release_at_place : (x : ℕ) → x < length releases → slice_index releases x ≡ min (release_in graph windows i (number_at w 0 + sum (take x gaps))) (2 ^ 64 - 1)
    release_at_place x below = are.each x (let l = are.long in omega (arith, below, l))

    pub released : AreReleased releases graph.hyper
    released = record {
      some = (let s = some_gap in let l = are.long in omega (arith, s, l));
      few = (let s = few in let l = are.long in omega (arith, s, l));
      rises = λ x y order below.
          (let a = release_at_place x (omega (arith, order, below)) in
          let b = release_at_place y below in
          let up = release_rises (number_at w 0 + sum (take x gaps)) (number_at w 0 + sum (take y gaps)) (gap_rises x y order) in
          let c = release_is (number_at w 0 + sum (take x gaps)) in
          let d = release_is (number_at w 0 + sum (take y gaps)) in
          let real : release_in graph windows i (number_at w 0 + sum (take x gaps)) ≤ release_in graph windows i (number_at w 0 + sum (take y gaps)) = omega (arith, ints, up, c, d) in
          omega (arith, a, b, real));
      within = λ y below.
          (let a = release_at_place 0 (let l = are.long in let s = some_gap in omega (arith, l, s)) in
          let b = release_at_place y below in
          let all : sum (take y gaps) ≤ sum gaps = sum_by-take-le (λ z. z) gaps y in
          let s = full graph windows edge w known i comes gaps last turn in
          let one : 1 * span_of graph edge ≡ span_of graph edge = omega arith in
          let h : 1 * graph.hyper ≡ graph.hyper = omega arith in
          let z : sum (take 0 gaps) ≡ 0 = refl in
          let up = release_rises (number_at w 0 + sum (take y gaps)) (number_at w 0 + sum (take 0 gaps) + 1 * span_of graph edge) (omega (arith, all, s, one, z)) in
          let again = release_again 1 (number_at w 0 + sum (take 0 gaps)) in
          let c = release_is (number_at w 0 + sum (take 0 gaps)) in
          let d = release_is (number_at w 0 + sum (take y gaps)) in
          let real : release_in graph windows i (number_at w 0 + sum (take y gaps)) ≤ release_in graph windows i (number_at w 0 + sum (take 0 gaps)) + graph.hyper = omega (arith, ints, up, again, c, d, h) in
          omega (arith, a, b, real));
    }

    -- a date is past the release at a place exactly where it is past the one that the list tells
    before_is : (x date : ℕ) → date < 2 ^ 50 → (at_turn releases graph.hyper x < date) ↔ (encoded_release graph windows i (pos (used_at plain x)) <ℤ pos date)
    before_is x date small =
        let long = are.long in
        let part = mod_below x (length releases) (let s = some_gap in omega (arith, s, long)) in
        let at = release_at_place (x % length releases) part in
        let s = full graph windows edge w known i comes gaps last turn in
        let f = first_is graph windows edge w known i comes in
        let number : used_at plain x ≡ number_at w 0 + sum (take (x % length releases) gaps) + x / length releases * span_of graph edge =
        (let a = ap (λ (k : ℕ). x / k * sum gaps) (sym long) in let b = ap (λ (k : ℕ). sum (take (x % k) gaps)) (sym long) in let d = ap (λ (k : ℕ). x / length releases * k) s in omega (arith, a, b, d, f)) in
        let again = release_again (x / length releases) (number_at w 0 + sum (take (x % length releases) gaps)) in
        let same = ap (λ (n : ℕ). encoded_release graph windows i (pos n)) number in
        let c = release_is (number_at w 0 + sum (take (x % length releases) gaps)) in (
          (λ early. omega (arith, ints, early, at, again, same, c, small)),
          (λ early. omega (arith, ints, early, at, again, same, c, small)),
        )

    used_small : (k : ℕ) → k < length gaps → used_at plain k ≡ number_at w 0 + sum (take k gaps)
    used_small k below =
        let z : 0 * sum gaps ≡ 0 = omega arith in
        let b = ap (λ (x : ℕ). sum (take x gaps)) (mod-eq_of_lt below) in
        omega (arith, first_is graph windows edge w known i comes, ap (λ (x : ℕ). x * sum gaps) (div-eq_of_lt below), z, b)

    -- the last reader of an instance is due last
    last_due : (k : ℕ) → k < length gaps → (n : ℤ) → preceding edge.ops n ≡ pos (used_at plain k) →
        encoded_deadline graph windows edge.to.0 n ≤ℤ pos (slice_index ends k)
    last_due k below n at =
        let e = edge_is graph windows edge w known i comes in
        let order : n ≤ℤ pos (length w.prefix + slice_index last k) =
        not_before (pos (length w.prefix + slice_index last k)) n (λ later.
        (let up = preceding_rises edge.ty edge.ops e.operators (pos (length w.prefix + (slice_index last k + 1))) n (omega (arith, ints, later)) in
        omega (arith, ints, up, precedes graph windows edge w known i comes (slice_index last k + 1), at, used_small k below, turn.each k below, turn.next k below))) in
        let up = deadlines_rise graph known.well windows known.dates edge.to.0 n (pos (length w.prefix + slice_index last k)) e.to order in
        omega (arith, ints, up, deadline_is (length w.prefix + slice_index last k), ending_at.each k (omega (arith, below, turn.long)))

    in_gaps : (k : ℕ) → k < length ends → k < length gaps
    in_gaps k below = omega (arith, ending_at.long, turn.long, below)

    pub ends_small : (k : ℕ) → k < length ends → slice_index ends k < 2 ^ 50
    ends_small k below =
        let inside : k < length last = omega (arith, ending_at.long, below) in
        omega (arith, ending_at.each k inside, ends_fit k inside)

    over_turn : (cells : ℕ) → FitsInPeriod edge i (encoded_release graph windows) (encoded_deadline graph windows) plain cells → AreOver releases graph.hyper ends (length ends) cells
    over_turn cells fit k below =
        let inside = in_gaps k below in
        let p = precedes graph windows edge w known i comes (slice_index last k) in
        let d = deadline_is (length w.prefix + slice_index last k) in
        let is = ending_at.each k (omega (arith, inside, turn.long)) in
        elim (cases_lt (at_turn releases graph.hyper (k + cells)) (slice_index ends k)) [
          | inl early ↦ absurd
              (let e = (before_is (k + cells) (slice_index ends k) (ends_small k below)).0 early in
              omega (arith, ints, e, fit k inside (pos (length w.prefix + slice_index last k)) (omega (arith, ints, p, turn.each k inside, used_small k inside)), d, is))
          | inr late ↦ late
        ]

    fit_turn : (cells : ℕ) → AreOver releases graph.hyper ends (length ends) cells → FitsInPeriod edge i (encoded_release graph windows) (encoded_deadline graph windows) plain cells
    fit_turn cells over k below n at =
        let inside : k < length ends = omega (arith, ending_at.long, turn.long, below) in
        let late = not_before (encoded_release graph windows i (pos (used_at plain (k + cells)))) (pos (slice_index ends k))
        (λ early. omega (arith, (before_is (k + cells) (slice_index ends k) (ends_small k inside)).1 early, over k inside)) in
        omega (arith, ints, last_due k below n at, late)

    releases_shift : (m : ℤ) → encoded_release graph windows i (m +ℤ pos (span_of graph edge)) ≡ encoded_release graph windows i m +ℤ pos graph.hyper
    releases_shift = (least_repeat graph known.well (encoded_release graph windows) known.dates.releases).again i (span_of graph edge) inside
        (spans graph known.well edge (edge_is graph windows edge w known i comes) i comes)

    abbrev there : ℕ
    there = (task_is graph known.well edge.to.0 (edge_is graph windows edge w known i comes).to).divides.0

    deadlines_shift : (n : ℤ) → encoded_deadline graph windows edge.to.0 (n +ℤ pos there) ≡ encoded_deadline graph windows edge.to.0 n +ℤ pos graph.hyper
    deadlines_shift = (greatest_repeat graph known.well (encoded_deadline graph windows) known.dates.deadlines).again edge.to.0 there
        (edge_is graph windows edge w known i comes).to (task_is graph known.well edge.to.0 (edge_is graph windows edge w known i comes).to).divides.1

    least_plain : (count : ℕ) → IsLeastTurn releases graph.hyper ends (length ends) count →
        IsLeastCount edge i (encoded_release graph windows) (encoded_deadline graph windows) plain count
    least_plain count least =
        let e = edge_is graph windows edge w known i comes in
        let l = lists graph windows edge w known i comes gaps last turn in
        record {
          some = least.some;
          fits = fits_in_period graph known.well edge e i comes gaps l (encoded_release graph windows) (encoded_deadline graph windows) releases_shift deadlines_shift count
              (fit_turn count least.fits);
          least = λ fewer some fit. least.least fewer some (over_turn fewer
              (fits_over_period graph known.well edge e i comes gaps l (encoded_release graph windows) (encoded_deadline graph windows) releases_shift deadlines_shift fewer fit));
        }

    pub least_is : (count : ℕ) → IsLeastTurn releases graph.hyper ends (length ends) count → count < 2 ^ 51 →
        HasLeastCount graph windows edge i (record { first = number_at w 0; gaps = gaps }) count
    least_is count least small = record {
      least = subst (λ (x : ℕ). IsLeastCount edge i (encoded_release graph windows) (encoded_deadline graph windows) (record { first = x; gaps = gaps }) count)
          (first_is graph windows edge w known i comes) (least_plain count least);
      small = small;
    }

  -- the same by a front of the gaps that repeats as they do
  module _ (cut : List ℕ) (is : IsCutOf gaps cut) where
    abbrev whole_list : Used
    whole_list = record { first = number_at w 0; gaps = gaps }

    abbrev short_list : Used
    short_list = record { first = number_at w 0; gaps = cut }

    enumerates_whole : EnumeratesUsed edge whole_list
    enumerates_whole = subst (λ (x : ℕ). EnumeratesUsed edge (record { first = x; gaps = gaps })) (first_is graph windows edge w known i comes) all_used

    same_gap : (k : ℕ) → slice_index cut (k % length cut) ≡ slice_index gaps (k % length gaps)
    same_gap k =
        same_Some (slice_index cut (k % length cut)) (slice_index gaps (k % length gaps))
        (sym (slice_get-get_or cut (k % length cut) 0 (mod_below k (length cut) is.some)) ∙ is.same k ∙ slice_get-get_or gaps (k % length gaps) 0 (mod_below k (length gaps) some_gap))

    same_at : (k : ℕ) → used_at short_list k ≡ used_at whole_list k
    same_at zero = omega (arith, first_number short_list is.some, first_number whole_list some_gap)
    same_at (suc k) =
        let e : k + 1 ≡ suc k = omega arith in
        let t = ap (λ (x : ℕ). used_at whole_list x) e in
        omega (arith, same_at k, next_gap short_list is.some k, next_gap whole_list some_gap k, same_gap k, ap (λ (x : ℕ). used_at short_list x) e, t)

    pub enumerates_cut : EnumeratesUsed edge (record { first = number_at w 0; gaps = cut })
    enumerates_cut = record {
      rising = λ k. omega (arith, same_at k, same_at (k + 1), enumerates_whole.rising k);
      each = λ k. subst (λ (m : ℕ). IsUsed edge m) (sym (same_at k)) (enumerates_whole.each k);
      all = λ m used. (let l = enumerates_whole.all m used in (l.0, same_at l.0 ∙ l.1));
    }

    pub least_cut : (count : ℕ) → HasLeastCount graph windows edge i (record { first = number_at w 0; gaps = gaps }) count →
        HasLeastCount graph windows edge i (record { first = number_at w 0; gaps = cut }) count
    least_cut count has = record {
      least = record {
        some = has.least.some;
        fits = λ k. go (used_at short_list k) (used_at whole_list k) (used_at short_list (k + count)) (used_at whole_list (k + count)) (same_at k) (same_at (k + count)) (has.least.fits k);
        least = λ fewer some fit. has.least.least fewer some
            (λ k. go (used_at whole_list k) (used_at short_list k) (used_at whole_list (k + fewer)) (used_at short_list (k + fewer)) (sym (same_at k)) (sym (same_at (k + fewer))) (fit k));
      };
      small = has.small;
    }
      where
        go : (a b x y : ℕ) → a ≡ b → x ≡ y → IsOverBy edge (encoded_deadline graph windows) b (encoded_release graph windows i (pos y)) →
            IsOverBy edge (encoded_deadline graph windows) a (encoded_release graph windows i (pos x))
        go a b x y same later over = rw (same, later) over
