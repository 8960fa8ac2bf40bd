use Rattle.std.proofs.Common.{◌+◌, ◌*◌, ◌<◌, ◌^◌, ◌∙◌, ap, arith}
use Rattle.prl_plan.specs.declared.graphs.TaskGraph.{TaskGraph}
use Rattle.prl_table.specs.Made.{greatest_start}
use Rattle.prl_steady.proofs.Starts.{cut_small, starts_small}
use Rattle.prl_steady.proofs.lasting.repeats_from.Goals.{After-div_ceil-before}
use Rattle.prl_steady.proofs.lasting.repeats_from.Goals as goal

small : (c : After-div_ceil-before) → ((1 + c.div_ceil-before.result) * c.graph-graph.result.now.hyper < 2 ^ 33) × (c.div_ceil-before.result < 2 ^ 32)
small c =
    let hyper = ap (λ (g : TaskGraph). g.hyper) c.graph-graph.ensures.graph in
    let some = c.graph-graph.ensures.plan.graph.hyper in
    let few = c.graph-graph.ensures.plan.graph.few_ticks in
    let start = c.greatest_start.ensures ∙ ap greatest_start (c.as_slice.ensures ∙ ap (λ (g : TaskGraph). g.tasks) c.graph-graph.ensures.graph) in
    let early = starts_small c.args.plan.now c.graph-graph.ensures.plan in
    cut_small c.greatest_start.result c.graph-graph.result.now.hyper c.div_ceil-before.result (omega (arith, hyper, some)) (omega (arith, hyper, few)) (omega (arith, start, early))
    c.div_ceil-before.ensures

pub overflow_add-result : goal.overflow_add-result
overflow_add-result c = omega (arith, (small (goal.at.overflow_add-result c).After-div_ceil-before).1)

pub overflow_mul-result : goal.overflow_mul-result
overflow_mul-result c = omega (arith, (small (goal.at.overflow_mul-result c).After-div_ceil-before).0)

pub returns-clause-small : goal.returns-clause-small
returns-clause-small c = omega (arith, (small (goal.at.returns-clause-small c).After-div_ceil-before).0)
