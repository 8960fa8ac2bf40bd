use Rattle.prl_base.proofs.Standard.{◌≡◌, ◌+◌, ◌*◌, ◌<◌, ◌^◌, ◌∙◌, ap, arith}
use Rattle.prl_plan.specs.declared.graphs.TaskGraph.{TaskGraph}
use Rattle.prl_forever.specs.Answers.{IsAnswer}
use Rattle.prl_forever.specs.declared.deciding.ForEver.TheVariants as answers
use Rattle.prl_table.specs.Made.{greatest_start}
use Rattle.prl_steady.specs.Shares.{told_until}
use Rattle.prl_steady.proofs.Starts.{latest_is, starts_small}
use Rattle.prl_steady.proofs.shares.horizon_told.Goals.{After-graph-2}
use Rattle.prl_steady.proofs.shares.horizon_told.Goals as goal

tick : (c : After-graph-2) → c.greatest_start-start.result + 2 * c.graph-2.result.now.hyper ≡ told_until c.args.plan.now
tick c =
    let start = c.greatest_start-start.ensures ∙ ap greatest_start (c.as_slice.ensures ∙ ap (λ (g : TaskGraph). g.tasks) c.graph.ensures.graph) in
    let hyper = ap (λ (g : TaskGraph). g.hyper) c.graph-2.ensures.graph in
    omega (arith, start, hyper)

small : (c : After-graph-2) → c.greatest_start-start.result + 2 * c.graph-2.result.now.hyper < 2 ^ 32
small c =
    let early = starts_small c.args.plan.now c.plan_is_one.ensures in
    let few = c.plan_is_one.ensures.graph.few_ticks in
    omega (arith, tick c, early, few)

pub overflow_add-start : goal.overflow_add-start
overflow_add-start c = omega (arith, small (goal.at.overflow_add-start c).After-graph-2)

pub overflow_cast-start : goal.overflow_cast-start
overflow_cast-start c = omega (arith, small (goal.at.overflow_cast-start c).After-graph-2)

pub unreachable-requires : goal.unreachable-requires
unreachable-requires c =
    let answer : IsAnswer c.args.plan.now (answers.Overload c.requires.0 c.requires.1 c.requires.2) = c.requires.3 in
    let start = latest_is c.args.plan.now answer.1 answer.2 in
    let until = answer.5 in
    let same = tick (goal.at.unreachable-requires c).After-graph-2 in
    c.horizons_end_one_way.ensures.not_both c.args.plan.now (c.greatest_start-start.result + 2 * c.graph-2.result.now.hyper) answer.3 c.in-Err.field-0 answer.4
    (omega (arith, start, until, same)) c.in-Err.ensures
