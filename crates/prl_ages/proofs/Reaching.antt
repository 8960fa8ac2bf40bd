-- What reaches a job: it rises with the number of the job, comes again a hyperperiod later, and is not released later.
use Rattle.prl_base.proofs.Standard.{◌≡◌, ◌+◌, ◌*◌, ◌<◌, ◌≤◌, ℕ, List, [], length, refl, sym, ◌∙◌, ap, subst, arith}
use Rattle.prl_base.specs.declared.numbers.TaskNo.{TaskNo}
use Rattle.prl_plan.specs.Vocabulary.{task_at, IsWellFormed, operand_of}
use Rattle.prl_plan.specs.declared.graphs.TaskGraph.{TaskGraph}
use Rattle.prl_plan.specs.declared.walks.Operand.TheVariants as operands
use Rattle.prl_plan.proofs.DatePeriods.{jobs_are}
use Rattle.prl_ages.specs.Reaching.{Takes, Reaches, IsFreshest, jobs_of}
use Rattle.prl_ages.specs.Reaching as reaching
use Rattle.prl_ages.specs.Ages.{released}
use Rattle.prl_ages.proofs.Operands.{operand_rises, operand_repeats, operand_not_later}

-- what reaches a job that is reached reaches on
pub reaches_on : (graph : TaskGraph) (chain : List TaskNo) (s m t n a k : ℕ) → Reaches graph chain s m t n → Reaches graph chain t n a k → Reaches graph chain s m a k
reaches_on graph chain s m t n a k first (reaching.itself b l task number) =
    subst (λ (x : ℕ). Reaches graph chain s m x l) (sym task) (subst (λ (x : ℕ). Reaches graph chain s m t x) (sym number) first)
reaches_on graph chain s m t n a k first (reaching.through b l i j takes second) =
    reaching.through b l i j takes (reaches_on graph chain s m t n i j first second)

-- what is taken along a chain is taken
taken_without : (graph : TaskGraph) (chain : List TaskNo) (t n i j : ℕ) → Takes graph chain t n i j → Takes graph [] t n i j
taken_without graph chain t n i j takes =
    record { number = takes.number; edge = takes.edge; at = takes.at; to = takes.to; from = takes.from; along = refl; reads = takes.reads }

pub without_chain : (graph : TaskGraph) (chain : List TaskNo) (s m t n : ℕ) → Reaches graph chain s m t n → Reaches graph [] s m t n
without_chain graph chain s m t n (reaching.itself b c task number) = reaching.itself t n task number
without_chain graph chain s m t n (reaching.through b c i j takes rest) =
    reaching.through t n i j (taken_without graph chain t n i j takes) (without_chain graph chain s m i j rest)

module _ (graph : TaskGraph) (chain : List TaskNo) (good : IsWellFormed graph) where
  -- a later job takes a later value
  pub takes_rises : (t n i j l : ℕ) → Takes graph chain t n i j → n ≤ l → (later : ℕ) × (j ≤ later) × Takes graph chain t l i later
  takes_rises t n i j l takes past =
      let up = operand_rises graph good takes.edge (good.edges takes.number takes.edge takes.at) i takes.from n j l takes.reads past in
      (up.0, up.1, record { number = takes.number; edge = takes.edge; at = takes.at; to = takes.to; from = takes.from; along = takes.along; reads = up.2 })

  pub takes_repeats : (t n i j : ℕ) → Takes graph chain t n i j → Takes graph chain t (n + jobs_of graph t) i (j + jobs_of graph i)
  takes_repeats t n i j takes = record {
    number = takes.number;
    edge = takes.edge;
    at = takes.at;
    to = takes.to;
    from = takes.from;
    along = takes.along;
    reads = subst (λ (x : ℕ). operand_of takes.edge (n + jobs_of graph x) ≡ operands.From (j + jobs_of graph i)) takes.to
        (operand_repeats graph good takes.edge (good.edges takes.number takes.edge takes.at) i takes.from n j takes.reads);
  }

  pub takes_not_later : (t n i j : ℕ) → Takes graph chain t n i j → released graph i j ≤ released graph t n
  takes_not_later t n i j takes =
      subst (λ (x : ℕ). released graph i j ≤ released graph x n) takes.to
      (operand_not_later graph good takes.edge (good.edges takes.number takes.edge takes.at) i takes.from n j takes.reads)

  pub rises : (s m t n l : ℕ) → Reaches graph chain s m t n → n ≤ l → (later : ℕ) × (m ≤ later) × Reaches graph chain s later t l
  rises s m t n l (reaching.itself b c task number) past = (l, omega (arith, number, past), reaching.itself t l task refl)
  rises s m t n l (reaching.through b c i j takes rest) past =
      let up = takes_rises b c i j l takes past in
      let deeper = rises s m i j up.0 rest up.1 in
      (deeper.0, deeper.1, reaching.through b l i up.0 up.2 deeper.2)

  pub repeats : (s m t n : ℕ) → Reaches graph chain s m t n → Reaches graph chain s (m + jobs_of graph s) t (n + jobs_of graph t)
  repeats s m t n (reaching.itself b c task number) =
      let same : n + jobs_of graph t ≡ m + jobs_of graph s = ap (λ (x : ℕ). x + jobs_of graph t) number ∙ ap (λ (x : ℕ). m + jobs_of graph x) task in
      reaching.itself t (n + jobs_of graph t) task same
  repeats s m t n (reaching.through b c i j takes rest) =
      reaching.through t (n + jobs_of graph t) i (j + jobs_of graph i) (takes_repeats b c i j takes) (repeats s m i j rest)

  pub not_later : (s m t n : ℕ) → Reaches graph chain s m t n → released graph s m ≤ released graph t n
  not_later s m t n (reaching.itself b c task number) =
      let e : released graph t n ≡ released graph s m = ap (λ (x : ℕ). released graph x n) task ∙ ap (λ (x : ℕ). released graph s x) number in
      omega (arith, e)
  not_later s m t n (reaching.through b c i j takes rest) =
      omega (arith, not_later s m i j rest, takes_not_later b c i j takes)

  -- so many jobs later a job is released a hyperperiod later
  pub released_again : (i n : ℕ) → i < length graph.tasks → released graph i (n + jobs_of graph i) ≡ released graph i n + graph.hyper
  released_again i n inside =
      let e : (n + jobs_of graph i) * (task_at graph i).clock.period ≡ n * (task_at graph i).clock.period + jobs_of graph i * (task_at graph i).clock.period = omega arith in
      let h : graph.hyper ≡ jobs_of graph i * (task_at graph i).clock.period = jobs_are graph good i inside in
      omega (arith, e, h)
