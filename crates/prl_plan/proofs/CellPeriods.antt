-- One hyperperiod shows the used instances and the cells that fit.
use Rattle.prl_base.proofs.Standard.{◌≡◌, ◌+◌, ◌-◌, ◌*◌, ◌/◌, ◌%◌, ◌<◌, ◌≤◌, ◌↔◌, ℕ, zero, suc, List, length, refl, sym, ◌∙◌, ap, subst, arith, ℤ, pos, negsuc, ◌+ℤ◌, ◌-ℤ◌, ◌≤ℤ◌, mul-div_cancel, ints}
use Rattle.prl_base.specs.declared.operators.Clock.{Clock}
use Rattle.prl_plan.specs.Vocabulary.{Edge, TaskGraph, Producer, Used, task_at, preceding, ComesFrom, IsWellFormed, IsEdge, IsSource, Family, used_at, EnumeratesUsed, Fits, first_reader}
use Rattle.prl_plan.specs.Vocabulary.{first_instance, IsAsked, IsAskedFrom, ListsGaps, FitsInPeriod, span_of}
use Rattle.prl_plan.specs.declared.graphs.Producer.TheVariants as producers
use Rattle.prl_plan.proofs.RoundPeriods.{task_is, edge_precedes}
use Rattle.prl_plan.proofs.RoundLaws.{source_inside}
use Rattle.prl_plan.proofs.ReaderLaws.{first_precedes, reads_is, used_is}
use Rattle.prl_plan.proofs.GapLaws.{offset, split, inside, offset_shift, offset_rises, offset_each, offset_all}

module _ (graph : TaskGraph) (good : IsWellFormed graph) (edge : Edge) (is : IsEdge graph edge) (i : ℕ) (comes : ComesFrom edge.from i) where
  abbrev span : ℕ
  span = span_of graph edge

  abbrev first : ℕ
  first = first_instance edge.ops

  abbrev R : ℕ → Type 0
  R = IsAskedFrom edge.ops (first_instance edge.ops)

  pub inside_from : i < length graph.tasks
  inside_from = source_inside graph edge is edge.from refl i comes

  period_is : edge.period ≡ (task_at graph i).clock.period
  period_is = go edge.from refl
    where
      go : (from : Producer) → edge.from ≡ from → edge.period ≡ (task_at graph i).clock.period
      go (producers.Constant value) from = absurd (subst (λ (f : Producer). ComesFrom f i) from comes)
      go (producers.Port task out) from =
          let source : IsSource graph edge is.clocks.0 (producers.Port task out) = subst (λ (f : Producer). IsSource graph edge is.clocks.0 f) from is.clocks.2 in
          sym is.clocks.1 ∙ ap (λ (c : Clock). c.period) (source.3 ∙ ap (λ (x : ℕ). (task_at graph x).clock) (subst (λ (f : Producer). ComesFrom f i) from comes))

  pub spans : graph.hyper ≡ span_of graph edge * (task_at graph i).clock.period
  spans =
      let t = task_is graph good i inside_from in
      let e : graph.hyper / edge.period ≡ t.divides.0 =
      ap (λ (x : ℕ). x / edge.period) t.divides.1 ∙ ap (λ (x : ℕ). t.divides.0 * (task_at graph i).clock.period / x) period_is ∙ mul-div_cancel t.divides.0 t.period.0 in
      t.divides.1 ∙ ap (λ (x : ℕ). x * (task_at graph i).clock.period) (sym e)

  positive : (c p : ℕ) → 1 ≤ graph.hyper → graph.hyper ≡ c * p → 1 ≤ c
  positive zero p some is = absurd (let e : 0 * p ≡ 0 = omega arith in omega (arith, some, is, e))
  positive (suc c) p some is = omega arith

  pub some_span : 1 ≤ span_of graph edge
  some_span = positive (span_of graph edge) (task_at graph i).clock.period good.hyper spans

  -- how many jobs the consumer has in a hyperperiod
  abbrev turn : ℕ
  turn = (task_is graph good edge.to.0 is.to).divides.0

  turns : graph.hyper ≡ (task_is graph good edge.to.0 is.to).divides.0 * (task_at graph edge.to.0).clock.period
  turns = (task_is graph good edge.to.0 is.to).divides.1

  some_turn : 1 ≤ (task_is graph good edge.to.0 is.to).divides.0
  some_turn = positive (task_is graph good edge.to.0 is.to).divides.0 (task_at graph edge.to.0).clock.period good.hyper turns

  once : (n : ℤ) → preceding edge.ops (n +ℤ pos turn) ≡ preceding edge.ops n +ℤ pos (span_of graph edge)
  once n = edge_precedes graph good edge is i turn (span_of graph edge) comes turns spans n

  often : (q : ℕ) (n : ℤ) → preceding edge.ops (n +ℤ pos (q * turn)) ≡ preceding edge.ops n +ℤ pos (q * span_of graph edge)
  often zero n =
      let a : 0 * turn ≡ 0 = omega arith in
      let b : 0 * span_of graph edge ≡ 0 = omega arith in
      let e : n +ℤ pos (0 * turn) ≡ n = omega (arith, ints, a) in
      ap (λ (z : ℤ). preceding edge.ops z) e ∙ (omega (arith, ints, b))
  often (suc q) n =
      let a : suc q * turn ≡ q * turn + turn = omega arith in
      let b : suc q * span_of graph edge ≡ q * span_of graph edge + span_of graph edge = omega arith in
      let e : n +ℤ pos (suc q * turn) ≡ (n +ℤ pos (q * turn)) +ℤ pos turn = omega (arith, ints, a) in
      ap (λ (z : ℤ). preceding edge.ops z) e ∙ (omega (arith, ints, b, once (n +ℤ pos (q * turn)), often q n))

  pub here : IsAskedFrom edge.ops (first_instance edge.ops) 0
  here = (pos (first_reader edge.ops), omega (arith, ints, first_precedes edge.ty edge.ops is.operators))

  pub again : (x : ℕ) → IsAskedFrom edge.ops (first_instance edge.ops) x ↔ IsAskedFrom edge.ops (first_instance edge.ops) (x + span_of graph edge)
  again x = (
    (λ h. (h.0 +ℤ pos turn, omega (arith, ints, once h.0, h.1))),
    (λ h.
        (let back : (h.0 -ℤ pos turn) +ℤ pos turn ≡ h.0 = omega (arith, ints) in
        (h.0 -ℤ pos turn, omega (arith, ints, once (h.0 -ℤ pos turn), ap (λ (z : ℤ). preceding edge.ops z) back, h.1)))),
  )

  module _ (gaps : List ℕ) (lists : ListsGaps (IsAskedFrom edge.ops (first_instance edge.ops)) (span_of graph edge) gaps) where
    abbrev used : Used
    used = record { first = first_instance edge.ops; gaps = gaps }

    used_offset : (k : ℕ) → used_at used k ≡ first_instance edge.ops + offset gaps k
    used_offset k = omega arith

    pub enumerates : EnumeratesUsed edge (record { first = first_instance edge.ops; gaps = gaps })
    enumerates = record {
      rising = λ k.
          (let a = used_offset k in let b = used_offset (k + 1) in
          omega (arith, a, b, offset_rises (IsAskedFrom edge.ops (first_instance edge.ops)) (span_of graph edge) gaps some_span here again lists k));
      each = λ k.
          (let a = used_offset k in
          let asked = offset_each (IsAskedFrom edge.ops (first_instance edge.ops)) (span_of graph edge) gaps some_span here again lists k in
          (used_is edge i comes is.operators (used_at used k)).1 (omega (arith, a), (subst (λ (x : ℕ). IsAsked edge.ops (pos x)) (sym a) asked)));
      all = λ m h.
          (let r = (used_is edge i comes is.operators m).0 h in
          let x : ℕ = m - first_instance edge.ops in
          let e : first_instance edge.ops + (m - first_instance edge.ops) ≡ m = omega (arith, r.0) in
          let at = offset_all (IsAskedFrom edge.ops (first_instance edge.ops)) (span_of graph edge) gaps some_span here again lists (m - first_instance edge.ops)
          (subst (λ (x : ℕ). IsAsked edge.ops (pos x)) (sym e) r.1) in
          (at.0, (let a = used_offset at.0 in omega (arith, a, at.1, e))));
    }

    pub used_shift : (k q : ℕ) → used_at used (k + q * length gaps) ≡ used_at used k + q * span_of graph edge
    used_shift k q =
        omega (arith, offset_shift (IsAskedFrom edge.ops (first_instance edge.ops)) (span_of graph edge) gaps some_span here again lists k q, used_offset k, used_offset (k + q * length gaps))

    module _ (release deadline : Family) (releases : (m : ℤ) → release i (m +ℤ pos (span_of graph edge)) ≡ release i m +ℤ pos graph.hyper)
        (deadlines : (n : ℤ) → deadline edge.to.0 (n +ℤ pos turn) ≡ deadline edge.to.0 n +ℤ pos graph.hyper) (cells : ℕ) where
      releases_often : (q : ℕ) (m : ℤ) → release i (m +ℤ pos (q * span_of graph edge)) ≡ release i m +ℤ pos (q * graph.hyper)
      releases_often zero m =
          let a : 0 * span_of graph edge ≡ 0 = omega arith in
          let b : 0 * graph.hyper ≡ 0 = omega arith in
          let e : m +ℤ pos (0 * span_of graph edge) ≡ m = omega (arith, ints, a) in
          ap (λ (z : ℤ). release i z) e ∙ (omega (arith, ints, b))
      releases_often (suc q) m =
          let a : suc q * span_of graph edge ≡ q * span_of graph edge + span_of graph edge = omega arith in
          let b : suc q * graph.hyper ≡ q * graph.hyper + graph.hyper = omega arith in
          let e : m +ℤ pos (suc q * span_of graph edge) ≡ (m +ℤ pos (q * span_of graph edge)) +ℤ pos (span_of graph edge) = omega (arith, ints, a) in
          ap (λ (z : ℤ). release i z) e ∙ (omega (arith, ints, b, releases (m +ℤ pos (q * span_of graph edge)), releases_often q m))

      deadlines_often : (q : ℕ) (n : ℤ) → deadline edge.to.0 (n +ℤ pos (q * turn)) ≡ deadline edge.to.0 n +ℤ pos (q * graph.hyper)
      deadlines_often zero n =
          let a : 0 * turn ≡ 0 = omega arith in
          let b : 0 * graph.hyper ≡ 0 = omega arith in
          let e : n +ℤ pos (0 * turn) ≡ n = omega (arith, ints, a) in
          ap (λ (z : ℤ). deadline edge.to.0 z) e ∙ (omega (arith, ints, b))
      deadlines_often (suc q) n =
          let a : suc q * turn ≡ q * turn + turn = omega arith in
          let b : suc q * graph.hyper ≡ q * graph.hyper + graph.hyper = omega arith in
          let e : n +ℤ pos (suc q * turn) ≡ (n +ℤ pos (q * turn)) +ℤ pos turn = omega (arith, ints, a) in
          ap (λ (z : ℤ). deadline edge.to.0 z) e ∙ (omega (arith, ints, b, deadlines (n +ℤ pos (q * turn)), deadlines_often q n))

      -- the date that the reader n of the k-th instance has to keep, so many hyperperiods later
      moved : (k q : ℕ) (n : ℤ) → (deadline edge.to.0 n ≤ℤ release i (pos (used_at used (k + cells))))
          ↔ (deadline edge.to.0 (n +ℤ pos (q * turn)) ≤ℤ release i (pos (used_at used (k + q * length gaps + cells))))
      moved k q n =
          let d = deadlines_often q n in
          let r = releases_often q (pos (used_at used (k + cells))) in
          let order : k + q * length gaps + cells ≡ k + cells + q * length gaps = omega arith in
          let u : used_at used (k + q * length gaps + cells) ≡ used_at used (k + cells) + q * span_of graph edge = ap (used_at used) order ∙ (used_shift (k + cells) q) in
          let z : pos (used_at used (k + q * length gaps + cells)) ≡ pos (used_at used (k + cells)) +ℤ pos (q * span_of graph edge) = omega (arith, ints, u) in
          let e = ap (λ (y : ℤ). release i y) z in
          ((λ h. omega (arith, ints, d, r, e, h)), (λ h. omega (arith, ints, d, r, e, h)))

      pub fits_in_period : FitsInPeriod edge i release deadline used cells → Fits edge i release deadline used cells
      fits_in_period once k n reads =
          let q : ℕ = k / length gaps in
          let r : ℕ = k % length gaps in
          let below = inside (IsAskedFrom edge.ops (first_instance edge.ops)) (span_of graph edge) gaps some_span here again lists k in
          let order : k ≡ r + q * length gaps = omega (arith, split (IsAskedFrom edge.ops (first_instance edge.ops)) (span_of graph edge) gaps some_span here again lists k) in
          let back : (pos n -ℤ pos (q * turn)) +ℤ pos (q * turn) ≡ pos n = omega (arith, ints) in
          let at : preceding edge.ops (pos n) ≡ pos (used_at used k) = ((reads_is edge i comes is.operators n (used_at used k)).0 reads).1 in
          let b = ap (λ (z : ℤ). preceding edge.ops z) back in
          let u : used_at used k ≡ used_at used r + q * span_of graph edge = ap (used_at used) order ∙ used_shift r q in
          let early : preceding edge.ops (pos n -ℤ pos (q * turn)) ≡ pos (used_at used r) = omega (arith, ints, at, often q (pos n -ℤ pos (q * turn)), b, u) in
          let x = ap (λ (z : ℤ). deadline edge.to.0 z) back in
          let y : release i (pos (used_at used (r + q * length gaps + cells))) ≡ release i (pos (used_at used (k + cells))) =
          ap (λ (z : ℕ). release i (pos (used_at used (z + cells)))) (sym order) in
          omega (arith, ints, (moved r q (pos n -ℤ pos (q * turn))).0 (once r below (pos n -ℤ pos (q * turn)) early), x, y)

      -- far enough on, the number is one of a job that reads instances
      far : (n : ℤ) → (q : ℕ) × (job : ℕ) × (n +ℤ pos (q * turn) ≡ pos job) × (first_reader edge.ops ≤ job)
      far (pos n) =
          let p : ℕ = first_reader edge.ops in
          (p, n + p * turn, (omega (arith, ints)), (omega (arith, enough p turn some_turn)))
        where
          enough : (p t : ℕ) → 1 ≤ t → p ≤ p * t
          enough p zero some = absurd (omega (arith, some))
          enough p (suc t) some = (let e : p * suc t ≡ p * t + p = omega arith in omega (arith, e))
      far (negsuc n) =
          let p : ℕ = first_reader edge.ops + suc n in
          let up : p ≤ p * turn = enough p turn some_turn in
          (p, p * turn - suc n, (omega (arith, ints, up)), (omega (arith, up)))
        where
          enough : (p t : ℕ) → 1 ≤ t → p ≤ p * t
          enough p zero some = absurd (omega (arith, some))
          enough p (suc t) some = (let e : p * suc t ≡ p * t + p = omega arith in omega (arith, e))

      pub fits_over_period : Fits edge i release deadline used cells → FitsInPeriod edge i release deadline used cells
      fits_over_period fits k below n at =
          let f = far n in
          let q : ℕ = f.0 in
          let job : ℕ = f.1 in
          let b = ap (λ (z : ℤ). preceding edge.ops z) f.2 in
          let later : preceding edge.ops (pos job) ≡ pos (used_at used (k + q * length gaps)) = omega (arith, ints, at, often q n, b, used_shift k q) in
          let reads = (reads_is edge i comes is.operators job (used_at used (k + q * length gaps))).1 (f.3, later) in
          (moved k q n).1 (omega (arith, ints, fits (k + q * length gaps) job reads, ap (λ (z : ℤ). deadline edge.to.0 z) f.2))
