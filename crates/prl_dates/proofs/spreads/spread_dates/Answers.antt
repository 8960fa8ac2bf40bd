use Rattle.prl_base.proofs.Standard.{◌+◌, ◌<◌, ◌≤◌, ℕ, List, length, sym, ◌∙◌, ap, subst, slice_index}
use Rattle.prl_plan.specs.Vocabulary.{jobs_in_hyperperiod, task_at, IsSpread}
use Rattle.prl_plan.specs.declared.graphs.TaskGraph.{TaskGraph}
use Rattle.prl_plan.specs.declared.tables.Window.{Window}
use Rattle.prl_dates.specs.declared.spreads.Bound.TheVariants as bounds
use Rattle.prl_dates.specs.Vocabulary.{jobs_of, jobs_before, AreWindows}
use Rattle.prl_dates.proofs.SpreadDates.{table_long, end_room, windows_spread}
use Rattle.prl_dates.proofs.spreads.spread_dates.Goals as goal

pub windows-requires-clause-tails : goal.windows-requires-clause-tails
windows-requires-clause-tails c =
    ap (λ (xs : List ℕ). length xs) c.as_slice-3.ensures.value ∙ table_long c.args.plan.now c.graph.ensures.plan bounds.Deadline c.in_ok-deadlines.deadlines.items c.in_ok-deadlines.ensures
    ∙ ap (λ (g : TaskGraph). jobs_in_hyperperiod g) (sym c.graph.ensures.graph)

pub windows-requires-clause-room : goal.windows-requires-clause-room
windows-requires-clause-room c =
    let plan = c.args.plan.now in
    subst (λ (g : TaskGraph). (i p : ℕ) → i < length g.tasks → p < jobs_of g i → (task_at g i).wcet ≤ slice_index c.as_slice-2.result.now (jobs_before g i + p)) (sym c.graph.ensures.graph)
    (subst (λ (xs : List ℕ). (i p : ℕ) → i < length plan.graph.tasks → p < jobs_of plan.graph i → (task_at plan.graph i).wcet ≤ slice_index xs (jobs_before plan.graph i + p)) (sym c.as_slice-2.ensures.value)
    (end_room plan c.graph.ensures.plan c.args.processors.now c.in_ok-ends.ends.items c.in_ok-deadlines.deadlines.items c.in_ok-ends.ensures))

pub returns : goal.returns
returns c =
    let plan = c.args.plan.now in
    let ends = c.in_ok-ends.ends.items in
    let deadlines = c.in_ok-deadlines.deadlines.items in
    let lists : AreWindows plan.graph ends deadlines (length plan.graph.tasks) c.in_ok-windows.windows =
    subst (λ (g : TaskGraph). AreWindows g ends deadlines (length g.tasks) c.in_ok-windows.windows) c.graph.ensures.graph
    (subst (λ (xs : List ℕ). AreWindows c.graph.result.now ends xs (length c.graph.result.now.tasks) c.in_ok-windows.windows) c.as_slice-3.ensures.value
    (subst (λ (xs : List ℕ). AreWindows c.graph.result.now xs c.as_slice-3.result.now (length c.graph.result.now.tasks) c.in_ok-windows.windows) c.as_slice-2.ensures.value c.in_ok-windows.ensures)) in
    subst (λ (ws : List (List Window)). IsSpread plan (record { processors = c.args.processors.now; windows = ws })) (sym c.new.ensures)
    (windows_spread plan c.graph.ensures.plan c.args.processors.now ends deadlines c.in_ok-ends.ensures c.in_ok-windows.windows lists c.requires)
