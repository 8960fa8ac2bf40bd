-- The graph from its parts.
use Rattle.std.proofs.Common.{◌≡◌, ◌<◌, ◌≤◌, ℕ, List, sym, subst}
use Rattle.prl_base.specs.declared.limits.What.TheVariants as limits
use Rattle.prl_base.specs.declared.operators.Clock.{Clock}
use Rattle.prl_flow.specs.Vocabulary.{FlatProgram, IsFlat, AreClocks, HasNoCycle}
use Rattle.prl_plan.specs.Graphs.{IsWellFormed}
use Rattle.prl_plan.specs.declared.graphs.Edge.{Edge}
use Rattle.prl_plan.specs.declared.graphs.Task.{Task}
use Rattle.prl_plan.specs.declared.graphs.TaskGraph.{TaskGraph}
use Rattle.prl_plan.specs.declared.limits.TheConstants.{MAX_PERIOD_JOBS}
use Rattle.prl_graph.specs.Vocabulary.{GraphFault, ports_of, task_count, AreSmallClocks, IsGraphFault, IsGraphOf, jobs_within, AreEdgesOf, AreFirstTasks, IsChecked}
use Rattle.prl_graph.specs.declared.faults.GraphFault.TheVariants as faults
use Rattle.prl_graph.proofs.WellFormed.{well_formed}

module _ (p : FlatProgram) (clocks : List Clock) (flat : IsFlat p) (are : AreClocks p clocks) (small : AreSmallClocks clocks) (hyper : ℕ) (checked : IsChecked p clocks hyper) where
  pub made_whole : HasNoCycle p → (tasks : List Task) (edges : List Edge) → AreFirstTasks p clocks (task_count p) tasks → AreEdgesOf p clocks (ports_of p) edges
      → jobs_within hyper tasks ≤ MAX_PERIOD_JOBS → IsGraphOf p clocks (record { tasks = tasks; edges = edges; hyper = hyper }) × IsWellFormed (record { tasks = tasks; edges = edges; hyper = hyper })
  made_whole causal tasks edges made_tasks made_edges few_jobs =
      let g : TaskGraph = record { tasks = tasks; edges = edges; hyper = hyper } in
      let of : IsGraphOf p clocks g = record {
        dues = checked.dues;
        tasks = record { count = made_tasks.count; each = made_tasks.each };
        edges = made_edges;
        hyper = checked.hyper_is;
        few_tasks = checked.few_tasks;
        few_edges = checked.few_edges;
        few_ticks = checked.few_ticks;
        few_jobs = few_jobs;
      } in
      (of, well_formed p clocks flat are small g of causal)

  pub past_jobs : (found : ℕ) (tasks : List Task) (fault : GraphFault) → fault ≡ faults.Limit (record { what = limits.PeriodJobs; found = found })
      → AreFirstTasks p clocks (task_count p) tasks → found ≡ jobs_within hyper tasks → MAX_PERIOD_JOBS < found → IsGraphFault p clocks fault
  past_jobs found tasks fault same made is past = subst (IsGraphFault p clocks) (sym same) (
    checked.dues,
    (
      checked.few_tasks,
      checked.few_edges,
      record {
        hyper = hyper;
        hyper_is = checked.hyper_is;
        few_ticks = checked.few_ticks;
        tasks = tasks;
        tasks_are = record { count = made.count; each = made.each };
        found_is = is;
        past = past;
      },
    ),
  )
