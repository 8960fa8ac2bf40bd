use Rattle.prl_base.proofs.Standard.{◌≡◌, List, ap, ◌∙◌, arith, pos}
use Rattle.prl_plan.specs.Vocabulary.{window_at, task_at}
use Rattle.prl_plan.specs.declared.graphs.TaskGraph.{TaskGraph}
use Rattle.prl_plan.specs.declared.tables.Window.{Window}
use Rattle.prl_dates.proofs.SpreadDates.{window_fits, window_small}
use Rattle.prl_dates.proofs.spreads.bound_of.Goals as goal

pub overflow_add-result : goal.overflow_add-result
overflow_add-result c =
    let plan = c.args.plan.now in
    let w : c.window-window.result ≡ window_at plan.windows c.args.i.0 (pos c.args.n) =
    c.window-window.ensures ∙ ap (λ (ws : List (List Window)). window_at ws c.args.i.0 (pos c.args.n)) c.dates.ensures in
    let lead : c.window-window.result.lead ≡ (window_at plan.windows c.args.i.0 (pos c.args.n)).lead = ap (λ (x : Window). x.lead) w in
    let wcet : c.from.result ≡ (task_at plan.graph c.args.i.0).wcet =
    c.from.ensures ∙ c.wcet_of.ensures ∙ ap (λ (g : TaskGraph). (task_at g c.args.i.0).wcet) c.graph.ensures.graph in
    record { fits = omega (arith, (window_fits plan c.plan_is_one.ensures c.args.i.0 c.args.n c.requires).0, window_small plan c.plan_is_one.ensures c.args.i.0 c.args.n c.requires, lead, wcet) }
