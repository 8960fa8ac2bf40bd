-- What the jobs of one hyperperiod read on an edge: the numbers fit, do not fall, and come again.
use Rattle.prl_base.proofs.Standard.{◌≡◌, ◌+◌, ◌-◌, ◌*◌, ◌<◌, ◌≤◌, ◌^◌, ℕ, zero, suc, List, length, take, sum, inl, inr, sym, ◌∙◌, ap, arith, ℤ, pos, ◌+ℤ◌, slice_index, mul-le-mul_left}
use Rattle.prl_base.proofs.Standard.{mul-le-mul_right, cases_lt, ints, take_all}
use Rattle.prl_plan.specs.Vocabulary.{IsAskedFrom, ListsGaps, span_of, first_reader, natural, first_instance, IsEdge, task_at, walk, preceding, ComesFrom, number_at}
use Rattle.prl_plan.specs.declared.graphs.Edge.{Edge}
use Rattle.prl_plan.specs.declared.graphs.TaskGraph.{TaskGraph}
use Rattle.prl_plan.specs.declared.tables.Window.{Window}
use Rattle.prl_plan.specs.declared.words.Word.{Word}
use Rattle.prl_plan.specs.declared.walks.Operand.TheVariants as operands
use Rattle.prl_plan.proofs.CellPeriods.{inside_from, spans}
use Rattle.prl_plan.proofs.DatePeriods.{jobs_are}
use Rattle.prl_plan.proofs.ReaderLaws.{reads_is, used_is, preceding_rises, is_first_reader}
use Rattle.prl_plan.proofs.RoundPeriods.{task_is, edge_precedes}
use Rattle.prl_plan.proofs.WalkLaws.{edge_back, walk_preceding}
use Rattle.prl_plan.proofs.WordNumbers.{after_prefix, first_after_prefix, one_first}
use Rattle.prl_buffers.specs.Vocabulary.{IsPlanned, jobs_of, IsSteady, IsTurn}

positive : (c p : ℕ) → 1 ≤ c * p → 1 ≤ c
positive zero p some = absurd (let e : 0 * p ≡ 0 = omega arith in omega (arith, some, e))
positive (suc c) p some = omega arith

module _ (graph : TaskGraph) (windows : List (List Window)) (edge : Edge) (w : Word) (known : IsPlanned graph windows edge w) (i : ℕ) (comes : ComesFrom edge.from i) where
  pub edge_is : IsEdge graph edge
  edge_is = known.well.edges known.place edge known.at

  abbrev P : ℕ
  P = length w.prefix

  abbrev jobs : ℕ
  jobs = jobs_of graph edge

  abbrev Tc : ℕ
  Tc = (task_at graph edge.to.0).clock.period

  abbrev Ti : ℕ
  Ti = (task_at graph i).clock.period

  walks : (x : ℕ) → walk edge.ops (length w.prefix + x) ≡ operands.From (number_at w x)
  walks x =
      sym (known.of_edge.at (length w.prefix + x)) ∙ after_prefix w (length w.prefix + x) (omega arith)
      ∙ ap (λ (k : ℕ). operands.From (number_at w k)) (let e : length w.prefix + x - length w.prefix ≡ x = omega arith in e)

  pub precedes : (x : ℕ) → preceding edge.ops (pos (length w.prefix + x)) ≡ pos (number_at w x)
  precedes x = walk_preceding edge.ops (length w.prefix + x) (number_at w x) (walks x)

  pub numbers_rise : (x y : ℕ) → x ≤ y → number_at w x ≤ number_at w y
  numbers_rise x y order =
      let a = precedes x in
      let b = precedes y in
      omega (arith, ints, preceding_rises edge.ty edge.ops edge_is.operators (pos (length w.prefix + x)) (pos (length w.prefix + y)) (omega (arith, ints, order)), a, b)

  pub jobs_is : graph.hyper ≡ jobs_of graph edge * (task_at graph edge.to.0).clock.period
  jobs_is = jobs_are graph known.well edge.to.0 edge_is.to

  pub some_jobs : 1 ≤ jobs_of graph edge
  some_jobs = positive (jobs_of graph edge) (task_at graph edge.to.0).clock.period (omega (arith, known.well.hyper, jobs_is))

  pub number_again : (x : ℕ) → number_at w (x + jobs_of graph edge) ≡ number_at w x + span_of graph edge
  number_again x =
      let up = edge_precedes graph known.well edge edge_is i (jobs_of graph edge) (span_of graph edge) comes jobs_is (spans graph known.well edge edge_is i comes) (pos (length w.prefix + x)) in
      let at : pos (length w.prefix + x) +ℤ pos (jobs_of graph edge) ≡ pos (length w.prefix + (x + jobs_of graph edge)) = omega (arith, ints) in
      let same = ap (λ (z : ℤ). preceding edge.ops z) at in
      let a = precedes x in
      let b = precedes (x + jobs_of graph edge) in
      omega (arith, ints, up, same, a, b)

  pub reader_is : first_reader edge.ops ≡ length w.prefix
  reader_is = one_first edge.ops (first_reader edge.ops) (length w.prefix) (is_first_reader edge.ty edge.ops edge_is.operators) (first_after_prefix edge.ops w known.of_edge)

  pub first_is : first_instance edge.ops ≡ number_at w 0
  first_is =
      let at : first_reader edge.ops ≡ length w.prefix + 0 = omega (arith, reader_is) in
      ap natural (ap (λ (n : ℕ). preceding edge.ops (pos n)) at ∙ precedes 0)

  -- the dates of the consumer's jobs
  pub dates_small : (x : ℕ) → x ≤ jobs_of graph edge →
      (task_at graph edge.to.0).clock.start + (length w.prefix + x) * (task_at graph edge.to.0).clock.period < 2 ^ 45
  dates_small x small =
      let t = task_is graph known.well edge.to.0 edge_is.to in
      let few = known.few in
      let ticks = known.well.few_ticks in
      let start = t.start in
      let turn = jobs_is in
      let some = some_jobs in
      let one : 1 * (task_at graph edge.to.0).clock.period ≤ jobs_of graph edge * (task_at graph edge.to.0).clock.period = mul-le-mul_right (task_at graph edge.to.0).clock.period some in
      let e : 1 * (task_at graph edge.to.0).clock.period ≡ (task_at graph edge.to.0).clock.period = omega arith in
      let period : (task_at graph edge.to.0).clock.period ≤ 10000000 = omega (arith, one, e, turn, ticks) in
      let a : length w.prefix * (task_at graph edge.to.0).clock.period ≤ length w.prefix * 10000000 = mul-le-mul_left (length w.prefix) period in
      let b : x * (task_at graph edge.to.0).clock.period ≤ jobs_of graph edge * (task_at graph edge.to.0).clock.period = mul-le-mul_right (task_at graph edge.to.0).clock.period small in
      let d : (length w.prefix + x) * (task_at graph edge.to.0).clock.period ≡ length w.prefix * (task_at graph edge.to.0).clock.period + x * (task_at graph edge.to.0).clock.period = omega arith in
      omega (arith, few, ticks, start, turn, a, b, d)

  -- and those of the producer's
  pub releases_small : (x : ℕ) → x ≤ jobs_of graph edge → (task_at graph i).clock.start + number_at w x * (task_at graph i).clock.period < 2 ^ 45
  releases_small x small = omega (arith, edge_back graph edge edge_is i comes (length w.prefix + x) (number_at w x) (walks x), dates_small x small)

  pub some_period : 1 ≤ (task_at graph i).clock.period
  some_period = (task_is graph known.well i (inside_from graph known.well edge edge_is i comes)).period.0

  pub numbers_small : (x : ℕ) → x ≤ jobs_of graph edge → number_at w x < 2 ^ 45
  numbers_small x small =
      let e : number_at w x * 1 ≡ number_at w x = omega arith in
      omega (arith, releases_small x small, mul-le-mul_left (number_at w x) some_period, e)

  pub is_steady : IsSteady w (jobs_of graph edge)
  is_steady = record {
    word = known.of_edge.word;
    fits = λ x small. omega (arith, numbers_small x small);
    rises = λ x. numbers_rise x (x + 1) (omega arith);
  }

  module _ (gaps last : List ℕ) (turn : IsTurn w (jobs_of graph edge) gaps last) where
    pub full : sum gaps ≡ span_of graph edge
    full =
        omega (arith, turn.whole, number_again 0, ap (λ (x : ℕ). number_at w x) (let z : 0 + jobs_of graph edge ≡ jobs_of graph edge = omega arith in z))

    all_taken : (j : ℕ) → length gaps ≤ j → sum (take j gaps) ≡ sum gaps
    all_taken j above = ap sum (take_all j gaps above)

    -- the gaps list all instances of a hyperperiod that precede a job
    pub lists : ListsGaps (IsAskedFrom edge.ops (first_instance edge.ops)) (span_of graph edge) gaps
    lists = record {
      positive = turn.positive;
      each = λ j small.
          (elim (cases_lt j (length gaps)) [
            | inl below ↦
                ((pos (length w.prefix + slice_index last j), omega (arith, ints, turn.each j below, precedes (slice_index last j), first_is)))
            | inr above ↦
                ((pos (length w.prefix + jobs_of graph edge), omega (arith, ints, precedes (jobs_of graph edge), all_taken j above, turn.whole, first_is)))
          ]);
      all = λ x small asked.
          (let used = (used_is edge i comes edge_is.operators (first_instance edge.ops + x)).1 (omega arith, asked) in
          let reads = (reads_is edge i comes edge_is.operators used.0 (first_instance edge.ops + x)).0 used.1 in
          let late : length w.prefix ≤ used.0 = omega (arith, reads.0, reader_is) in
          let at : length w.prefix + (used.0 - length w.prefix) ≡ used.0 = omega (arith, late) in
          let same = ap (λ (n : ℕ). preceding edge.ops (pos n)) at in
          let number : number_at w (used.0 - length w.prefix) ≡ number_at w 0 + x = omega (arith, ints, precedes (used.0 - length w.prefix), same, first_is, reads.1) in
          elim (cases_lt (jobs_of graph edge) (used.0 - length w.prefix)) [
            | inl far ↦
                (let a = all_taken (length gaps) (omega arith) in
                let b = turn.whole in
                (length gaps, omega arith, omega (arith, numbers_rise (jobs_of graph edge) (used.0 - length w.prefix) (omega (arith, far)), number, a, b, full, small)))
            | inr near ↦
                (let l = turn.all (used.0 - length w.prefix) near in
                (l.0, l.1, omega (arith, l.2, number)))
          ]);
      within = omega (arith, full);
    }
