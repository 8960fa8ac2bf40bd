use Rattle.prl_base.proofs.Standard.{List, ap, inl, inr, refl, err_from_is_err_and}
use Rattle.prl_buffers.specs.CellFaults.{IsCellFault}
use Rattle.prl_buffers.specs.declared.tables.CellFault.{CellFault}
use Rattle.prl_buffers.specs.declared.tables.CellFault.TheVariants as cell_faults
use Rattle.prl_plan.specs.Plans.{PlanView}
use Rattle.prl_plan.specs.declared.graphs.TaskGraph.{TaskGraph}
use Rattle.prl_plan.specs.declared.tables.Window.{Window}
use Rattle.prl_stages.specs.Given.{Given}
use Rattle.prl_stages.specs.Planned.{HasDates, HasPlan}
use Rattle.prl_stages.specs.Told.{stop_of, told_cells}
use Rattle.prl_stages.specs.declared.stages.Stage.TheVariants as stages
use Rattle.prl_calls.specs.Stops.{given_of, StopsAt}
use Rattle.prl_calls.proofs.fronts.make_planned.Goals as goal

-- cells refuse
cells_stop : (g : Given) (graph : TaskGraph) (windows : List (List Window)) (fault : CellFault) → HasDates g graph windows → IsCellFault graph windows fault
    → StopsAt g stages.Cells (stop_of stages.Cells (told_cells fault))
cells_stop g graph windows (cell_faults.Limit limit) h e = (refl, (graph, windows, h, limit, e, refl))
cells_stop g graph windows cell_faults.Memory h e = tt

pub returns-in_err-dates : goal.returns-in_err-dates
returns-in_err-dates c =
    let p = err_from_is_err_and c.from_residual.result c.from_residual.ensures.1 in
    rw (p.1, p.2) (inl c.in_err-dates.ensures)

pub returns-in_err-cells : goal.returns-in_err-cells
returns-in_err-cells c =
    let g = given_of c.args.request.now in
    let p = err_from_is_err_and c.from_residual-in_err-cells.result c.from_residual-in_err-cells.ensures.1 in
    let dates = c.in_ok-dates.ensures in
    rw (p.1, p.2) (inr (dates.1, inl (cells_stop g c.args.made.0 c.in_ok-dates.dates c.in_err-cells.field-0.0 dates.0 c.in_err-cells.ensures.cells)))

pub returns : goal.returns
returns c =
    let same = ap (λ (p : PlanView). p.graph) c.new.ensures.value in
    let has : HasPlan (given_of c.args.request.now) c.new.result = record { has_graph = rw same c.requires.has_graph; is_plan = c.new.ensures.plan } in
    ((same, has), (c.in_ok-dates.ensures.1, ((c.new.result, has), tt)))
