-- Words repeat with the hyperperiod.
use Rattle.prl_base.proofs.Standard.{◌≡◌, ◌+◌, ◌-◌, ◌*◌, ◌<◌, ◌≤◌, ℕ, zero, suc, List, [], ◌∷◌, length, Some, sym, ◌∙◌, ap, subst, arith, ℤ, pos, ◌+ℤ◌, slice_get, ints, slice_get-get_or}
use Rattle.prl_base.specs.Operators.{IsOperatorFor}
use Rattle.prl_base.specs.declared.operators.Clock.{Clock}
use Rattle.prl_base.specs.declared.operators.Op.{Op}
use Rattle.prl_base.specs.declared.values.Ty.{Ty}
use Rattle.prl_plan.specs.Vocabulary.{IsWellFormed, IsEdge, TakeClock, Divides, task_at, preceding, IsWordOf, RepeatsAfter, number_at, edge_at, no_edge}
use Rattle.prl_plan.specs.declared.graphs.Edge.{Edge}
use Rattle.prl_plan.specs.declared.graphs.TaskGraph.{TaskGraph}
use Rattle.prl_plan.specs.declared.words.Word.{Word}
use Rattle.prl_plan.specs.declared.walks.Operand.TheVariants as operands
use Rattle.prl_plan.proofs.Periods.{preceding_shift}
use Rattle.prl_plan.proofs.PlanNumbers.{walked_within}
use Rattle.prl_plan.proofs.ReaderLaws.{reads_from, never_before}
use Rattle.prl_plan.proofs.WalkLaws.{walk_preceding}
use Rattle.prl_plan.proofs.WordNumbers.{after_prefix}

-- how often the producer's clock comes in the hyperperiod
producer_divides : (hyper : ℕ) (ops : List Op) (producer consumer : Clock) → TakeClock hyper ops producer consumer → Divides producer.period hyper
producer_divides hyper [] producer consumer takes = subst (λ (c : Clock). Divides c.period hyper) takes.2 takes.1
producer_divides hyper (op ∷ ops) producer consumer takes = producer_divides hyper ops producer takes.2.0 takes.2.2

same_number : (a b : ℕ) → pos a ≡ pos b → a ≡ b
same_number a b e = cc

-- a hyperperiod later the instance that is read is one of a hyperperiod later
module _ (ty : Ty) (hyper : ℕ) (ops : List Op) (are : (k : ℕ) (op : Op) → slice_get ops k ≡ Some op → IsOperatorFor ty op)
    (producer consumer : Clock) (takes : TakeClock hyper ops producer consumer) (jobs : ℕ) (times : hyper ≡ jobs * consumer.period) where
  pub walk_repeats : (from : ℕ) → RepeatsAfter ops from jobs
  walk_repeats from =
      let d = producer_divides hyper ops producer consumer takes in (
        d.0,
        λ n m past reads.
            (let first = never_before ty ops are n m reads in
            let later = reads_from ty ops are (n + jobs) (omega (arith, first)) in
            let a : preceding ops (pos (n + jobs)) ≡ pos later.0 = walk_preceding ops (n + jobs) later.0 later.1 in
            let b : preceding ops (pos n) ≡ pos m = walk_preceding ops n m reads in
            let c : preceding ops (pos n +ℤ pos jobs) ≡ preceding ops (pos n) +ℤ pos d.0 = preceding_shift ty hyper ops are producer consumer takes jobs d.0 times d.1 (pos n) in
            let e : pos n +ℤ pos jobs ≡ pos (n + jobs) = omega (arith, ints) in
            let f : preceding ops (pos (n + jobs)) ≡ pos (m + d.0) = ap (λ (z : ℤ). preceding ops z) (sym e) ∙ c ∙ omega (arith, ints, b) in
            later.1 ∙ ap (λ (k : ℕ). operands.From k) (same_number later.0 (m + d.0) (sym a ∙ f))),
      )

module _ (graph : TaskGraph) (good : IsWellFormed graph) (e : ℕ) (inside : e < length graph.edges) where
  abbrev edge : Edge
  edge = edge_at graph e

  edge_is : IsEdge graph (edge_at graph e)
  edge_is = good.edges e (edge_at graph e) (slice_get-get_or graph.edges e no_edge inside)

  pub words_repeat : (jobs from : ℕ) → graph.hyper ≡ jobs * (task_at graph (edge_at graph e).to.0).clock.period → RepeatsAfter (edge_at graph e).ops from jobs
  words_repeat jobs from times =
      walk_repeats (edge_at graph e).ty graph.hyper (edge_at graph e).ops edge_is.operators edge_is.clocks.0 (task_at graph (edge_at graph e).to.0).clock edge_is.clocks.3
      jobs times from

  some_jobs : (jobs period hyper : ℕ) → 1 ≤ hyper → hyper ≡ jobs * period → 1 ≤ jobs
  some_jobs zero period hyper some is = absurd (let z : 0 * period ≡ 0 = omega arith in omega (arith, z, is, some))
  some_jobs (suc jobs) period hyper some is = omega arith

  pub step_within : (w : Word) (jobs : ℕ) → IsWordOf (edge_at graph e).ops w → graph.hyper ≡ jobs * (task_at graph (edge_at graph e).to.0).clock.period → w.step_in ≤ jobs
  step_within w jobs is times =
      is.shortest.least jobs (some_jobs jobs (task_at graph (edge_at graph e).to.0).clock.period graph.hyper good.hyper times) (words_repeat jobs (length w.prefix) times)

  pub number_within_date : (w : Word) (i : ℕ) → IsWordOf (edge_at graph e).ops w →
      number_at w i ≤ (task_at graph (edge_at graph e).to.0).clock.start + (length w.prefix + i) * (task_at graph (edge_at graph e).to.0).clock.period
  number_within_date w i is =
      let at = after_prefix w (length w.prefix + i) (omega arith) in
      let same : number_at w (length w.prefix + i - length w.prefix) ≡ number_at w i = ap (λ (k : ℕ). number_at w k) (let z : length w.prefix + i - length w.prefix ≡ i = omega arith in z) in
      walked_within graph good e (length w.prefix + i) (number_at w i) inside
      (sym (is.at (length w.prefix + i)) ∙ at ∙ ap (λ (k : ℕ). operands.From k) same)
