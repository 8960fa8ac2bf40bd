-- A program has one task graph, and the stages that plan it refuse with one fault and only where there is no part.
use Rattle.prl_base.proofs.Standard.{◌≡◌, ◌<◌, ℕ, ℤ, pos, List, Some, None, sum, sym, ap, ◌∙◌, ◌⊎◌, inl, inr, subst, arith, ◌≤ℤ◌}
use borrow.Author.Differences.{ints}
use Rattle.prl_base.specs.declared.limits.Limit.{Limit}
use Rattle.prl_base.specs.declared.numbers.TaskNo.{TaskNo}
use Rattle.prl_base.specs.declared.operators.Clock.{Clock}
use Rattle.prl_base.specs.declared.limits.What.TheVariants as whats
use Rattle.prl_flow.specs.Programs.{FlatProgram}
use Rattle.prl_graph.specs.TaskGraphs.{IsGraphOf, IsGraphFault, IsOfProgram}
use Rattle.prl_graph.specs.declared.faults.GraphFault.{GraphFault}
use Rattle.prl_plan.specs.Vocabulary.{AreLeastCells, IsBest, AreEncodedDates, jobs_in_hyperperiod, Job, AreShortWindows, PlanView}
use Rattle.prl_plan.specs.declared.graphs.TaskGraph.{TaskGraph}
use Rattle.prl_plan.specs.declared.limits.TheConstants.{MAX_PREFIX}
use Rattle.prl_plan.specs.declared.tables.Used.{Used}
use Rattle.prl_plan.specs.declared.tables.Window.{Window}
use Rattle.prl_plan.specs.declared.words.Word.{Word}
use Rattle.prl_words.specs.GraphWords.{constant_reads}
use Rattle.prl_dates.specs.Faults.{EndsLoop, HasNarrowChain, HasNoNarrowChain, IsDateFault, IsLate, IsLowest, IsOfGraph, IsSomehowLate, NoneOfPeriod}
use Rattle.prl_dates.specs.declared.faults.DateFault.{DateFault}
use Rattle.prl_dates.specs.declared.faults.DateFault.TheVariants as date_faults
use Rattle.prl_plantext.proofs.Counts.{constants_are, counts_are_one}
use Rattle.prl_stages.specs.Vocabulary.{DatesRefusal, GraphRefusal, Fault, Given, HasClocks, IsFlattened, HasDates, HasGraph, HasPlan, HasWords, RefusesCells, RefusesDates, RefusesGraph, RefusesWords}
use Rattle.prl_stages.specs.Vocabulary.{dates_refusal, graph_fault, told_graph, PlanLaws}
use Rattle.prl_stages.specs.declared.faults.GraphRefusal.TheVariants as bad_graph
use Rattle.prl_stages.specs.declared.faults.Fault.TheVariants as faults
use Rattle.prl_stages.proofs.Told.{graph_told, same_told, some_some}

-- a refusal of the task graph is of the program
of_program : (r : GraphRefusal) → IsOfProgram (graph_fault r)
of_program (bad_graph.DueOnNonTask label) = tt
of_program (bad_graph.DueRange flow due period) = tt
of_program (bad_graph.Limit limit) = tt

none_some : {A : Type 0} (a : A) → None ≡ Some a → ⊥
none_some a e = cc

-- a fault of dates that is told as a refusal is of the graph
of_graph : (graph : TaskGraph) (fault : DateFault) (r : DatesRefusal) → dates_refusal graph fault ≡ Some r → IsOfGraph fault
of_graph graph (date_faults.Narrow task job needs has) r e = tt
of_graph graph (date_faults.Loop task job) r e = tt
of_graph graph date_faults.Memory r e = absurd (none_some r e)

abbrev prefix_limit : TaskGraph → Limit
prefix_limit graph = record { what = whats.Prefix; found = constant_reads graph }

abbrev cells_limit : List ℕ → Limit
cells_limit counts = record { what = whats.Cells; found = sum counts }

abbrev task_no : ℕ → TaskNo
task_no i = record { 0 = i }

abbrev job_at : ℕ → ℤ → Job
job_at i m = record { task = i; number = m }

module _ (graph : TaskGraph) where
  -- the lowest job that has P is one
  one_lowest : (P : Job → Type 0) (i j : ℕ) (m n : ℤ) → IsLowest graph P i m → IsLowest graph P j n → (i ≡ j) × (m ≡ n)
  one_lowest P i j m n a b =
      let at_a : P (job_at i (pos a.job.0)) = subst (λ (k : ℤ). P (job_at i k)) a.job.1 a.has in
      let at_b : P (job_at j (pos b.job.0)) = subst (λ (k : ℤ). P (job_at j k)) b.job.1 b.has in
      both (a.none_lower j b.job.0 b.job.2 at_b) (b.none_lower i a.job.0 a.job.2 at_a) a.job.1 b.job.1
    where
      both : {x y : ℕ} → (i < j) ⊎ ((i ≡ j) × (m ≤ℤ pos y)) → (j < i) ⊎ ((j ≡ i) × (n ≤ℤ pos x)) → m ≡ pos x → n ≡ pos y → (i ≡ j) × (m ≡ n)
      both (inl h) (inl k) d e = absurd (omega (arith, h, k))
      both (inl h) (inr k) d e = let same = k.0 in absurd (omega (arith, h, same))
      both (inr h) (inl k) d e = let same = h.0 in absurd (omega (arith, k, same))
      both (inr h) (inr k) d e = let one = h.1 in let other = k.1 in (h.0, omega (arith, ints, one, other, d, e))

  module _ (best : (most : ℕ) (job : Job) (a b : ℤ) → IsBest graph most job a → IsBest graph most job b → a ≡ b) where
    one_late : (job : Job) (needs has more had : ℤ) → IsLate graph job needs has → IsLate graph job more had → (needs ≡ more) × (has ≡ had)
    one_late job needs has more had a b = (best (jobs_in_hyperperiod graph) job needs more a.best b.best, a.due ∙ sym b.due)

    -- where a best is above its deadline, no job is told to end a loop
    not_loop : (i : ℕ) (m : ℤ) → IsLowest graph (IsSomehowLate graph) i m → NoneOfPeriod graph (IsSomehowLate graph) → ⊥
    not_loop i m a none = none i a.job.0 a.job.2 (subst (λ (k : ℤ). IsSomehowLate graph (job_at i k)) a.job.1 a.has)

    one_date_fault : (a b : DateFault) → IsOfGraph a → IsOfGraph b → IsDateFault graph a → IsDateFault graph b → a ≡ b
    one_date_fault (date_faults.Narrow t m needs has) (date_faults.Narrow u n more had) oa ob a b =
        let same = one_lowest (IsSomehowLate graph) t.0 u.0 m n a.1 b.1 in
        let at_i : IsLate graph (job_at t.0 n) more had = subst (λ (i : ℕ). IsLate graph (job_at i n) more had) (sym same.0) b.0 in
        let at : IsLate graph (job_at t.0 m) more had = subst (λ (k : ℤ). IsLate graph (job_at t.0 k) more had) (sym same.1) at_i in
        let numbers = one_late (job_at t.0 m) needs has more had a.0 at in
        ap (λ (i : ℕ). date_faults.Narrow (task_no i) m needs has) same.0
        ∙ ap (λ (k : ℤ). date_faults.Narrow u k needs has) same.1
        ∙ ap (λ (k : ℤ). date_faults.Narrow u n k has) numbers.0
        ∙ ap (λ (k : ℤ). date_faults.Narrow u n more k) numbers.1
    one_date_fault (date_faults.Narrow t m needs has) (date_faults.Loop u n) oa ob a b = absurd (not_loop t.0 m a.1 b.0)
    one_date_fault (date_faults.Loop t m) (date_faults.Narrow u n more had) oa ob a b = absurd (not_loop u.0 n b.1 a.0)
    one_date_fault (date_faults.Loop t m) (date_faults.Loop u n) oa ob a b =
        let same = one_lowest (EndsLoop graph) t.0 u.0 m n a.1 b.1 in
        ap (λ (i : ℕ). date_faults.Loop (task_no i) m) same.0 ∙ ap (λ (k : ℤ). date_faults.Loop u k) same.1
    one_date_fault (date_faults.Narrow t m needs has) date_faults.Memory oa ob a b = absurd ob
    one_date_fault (date_faults.Loop t m) date_faults.Memory oa ob a b = absurd ob
    one_date_fault date_faults.Memory b oa ob h k = absurd oa

module _ (law : PlanLaws) (g : Given) (one_flat : (a b : FlatProgram) → IsFlattened g a → IsFlattened g b → a ≡ b)
    (one_clocks : (p q : FlatProgram) (a b : List Clock) → HasClocks g p a → HasClocks g q b → a ≡ b) where
  pub one_graph : (a b : TaskGraph) → HasGraph g a → HasGraph g b → a ≡ b
  one_graph a b h k =
      let flats = one_flat k.flat h.flat k.clocked.causal.flattened h.clocked.causal.flattened in
      let clocks = one_clocks k.flat h.flat k.clocks h.clocks k.clocked h.clocked in
      let at : IsGraphOf h.flat k.clocks b = subst (λ (p : FlatProgram). IsGraphOf p k.clocks b) flats k.is_graph in
      let here : IsGraphOf h.flat h.clocks b = subst (λ (cs : List Clock). IsGraphOf h.flat cs b) clocks at in
      law.one_graph h.flat h.clocks a b h.is_graph here

  moved_fault : (p q : FlatProgram) (a b : List Clock) (fault : GraphFault) → HasClocks g p a → HasClocks g q b → IsGraphFault p a fault → IsGraphFault q b fault
  moved_fault p q a b fault h k is =
      let at : IsGraphFault q a fault = subst (λ (x : FlatProgram). IsGraphFault x a fault) (one_flat p q h.causal.flattened k.causal.flattened) is in
      subst (λ (cs : List Clock). IsGraphFault q cs fault) (one_clocks p q a b h k) at

  pub graph_apart : (graph : TaskGraph) (f : Fault) → HasGraph g graph → RefusesGraph g f → ⊥
  graph_apart graph f h k =
      let fault = graph_fault k.3 in
      law.not_both h.flat h.clocks graph fault (of_program k.3) h.is_graph (moved_fault k.0 h.flat k.1 h.clocks fault k.2 h.clocked k.4)

  pub graph_one : (a b : Fault) → RefusesGraph g a → RefusesGraph g b → a ≡ b
  graph_one a b h k =
      let x = graph_fault h.3 in
      let y = graph_fault k.3 in
      let same = law.one_fault h.0 h.1 x y (of_program h.3) (of_program k.3) h.4 (moved_fault k.0 h.0 k.1 h.1 y k.2 h.2 k.4) in
      same_told told_graph x y (faults.Graph h.3) (faults.Graph k.3) a b same (graph_told h.3) h.5 (graph_told k.3) k.5

  pub words_apart : (graph : TaskGraph) (words : List Word) (f : Fault) → HasWords g graph words → RefusesWords g f → ⊥
  words_apart graph words f h k =
      let count = constants_are graph words law.first law.one_first h.has_graph.well_formed h.are_words in
      let few = h.are_words.few in
      let past : MAX_PREFIX < constant_reads graph =
      subst (λ (x : TaskGraph). MAX_PREFIX < constant_reads x) (one_graph k.0 graph k.1 h.has_graph) k.3.1 in
      omega (arith, count, few, past)

  pub words_one : (a b : Fault) → RefusesWords g a → RefusesWords g b → a ≡ b
  words_one a b h k = h.4 ∙ ap faults.Limit (h.3.0 ∙ ap prefix_limit (one_graph h.0 k.0 h.1 k.1) ∙ sym k.3.0) ∙ sym k.4

  pub dates_apart : (graph : TaskGraph) (windows : List (List Window)) (f : Fault) → HasDates g graph windows → RefusesDates g f → ⊥
  dates_apart graph windows f h k =
      let narrow : HasNarrowChain k.0 = law.narrow k.0 k.2 k.1.well_formed k.3 (of_graph k.0 k.2 k.4 k.5) in
      let none : HasNoNarrowChain graph = law.room graph windows h.are_dates h.room in
      none (subst HasNarrowChain (one_graph k.0 graph k.1 h.has_graph) narrow)

  pub dates_one : (a b : Fault) → RefusesDates g a → RefusesDates g b → a ≡ b
  dates_one a b h k =
      let same = one_graph k.0 h.0 k.1 h.1 in
      let is : IsDateFault h.0 k.2 = subst (λ (x : TaskGraph). IsDateFault x k.2) same k.3 in
      let cause : h.2 ≡ k.2 = one_date_fault h.0 (law.best h.0) h.2 k.2 (of_graph h.0 h.2 h.4 h.5) (of_graph k.0 k.2 k.4 k.5) h.3 is in
      let there : dates_refusal h.0 k.2 ≡ Some k.4 = subst (λ (x : TaskGraph). dates_refusal x k.2 ≡ Some k.4) same k.5 in
      let here : dates_refusal h.0 h.2 ≡ Some k.4 = subst (λ (x : DateFault). dates_refusal h.0 x ≡ Some k.4) (sym cause) there in
      h.6 ∙ ap faults.Dates (some_some (dates_refusal h.0 h.2) h.4 k.4 h.5 here) ∙ sym k.6

  -- the cells of one graph with its dates count to the same
  one_counts : (a b : TaskGraph) (v w : List (List Window)) (bases counts bases' counts' : List ℕ) (used used' : List Used)
      → HasGraph g a → HasGraph g b → AreEncodedDates a v → AreEncodedDates b w → AreShortWindows v → AreShortWindows w
      → AreLeastCells a v bases counts used → AreLeastCells b w bases' counts' used' → counts ≡ counts'
  one_counts a b v w bases counts bases' counts' used used' h k dates others short shorter cells more =
      let same = one_graph b a k h in
      let dated : AreEncodedDates a w = subst (λ (x : TaskGraph). AreEncodedDates x w) same others in
      let windows : w ≡ v = law.dates a w v dated dates shorter short in
      let at : AreLeastCells a w bases' counts' used' = subst (λ (x : TaskGraph). AreLeastCells x w bases' counts' used') same more in
      let here : AreLeastCells a v bases' counts' used' = subst (λ (x : List (List Window)). AreLeastCells a x bases' counts' used') windows at in
      counts_are_one a v bases counts bases' counts' used used' cells here

  pub cells_apart : (plan : PlanView) (f : Fault) → HasPlan g plan → RefusesCells g f → ⊥
  cells_apart plan f h k =
      let d = k.2 in
      let is = k.4 in
      let p = h.is_plan in
      let same = one_counts plan.graph k.0 plan.windows k.1 plan.bases plan.counts is.0 is.1 plan.used is.2 h.has_graph d.has_graph p.dates d.are_dates
      p.short_windows d.short p.cells is.3 in
      let sums = ap (λ (l : List ℕ). sum l) same in
      let few = p.few_cells in
      let past = is.5 in
      omega (arith, sums, few, past)

  pub cells_one : (a b : Fault) → RefusesCells g a → RefusesCells g b → a ≡ b
  cells_one a b h k =
      let d = h.2 in
      let e = k.2 in
      let is = h.4 in
      let so = k.4 in
      let same = one_counts h.0 k.0 h.1 k.1 is.0 is.1 so.0 so.1 is.2 so.2 d.has_graph e.has_graph d.are_dates e.are_dates d.short e.short is.3 so.3 in
      h.5 ∙ ap faults.Limit (is.4 ∙ ap cells_limit same ∙ sym so.4) ∙ sym k.5
