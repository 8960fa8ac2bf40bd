use Rattle.prl_base.proofs.Standard.{◌<◌, ◌∙◌, List, [], All, All-push, ap, arith, length, map, sym, subst}
use Rattle.prl_plan.specs.declared.graphs.TaskGraph.{TaskGraph}
use Rattle.prl_responses.specs.Responses.{times_at}
use Rattle.prl_times.specs.Rows.{IsRow, about, lasting_task}
use Rattle.prl_timetext.specs.declared.rows.Lasting.TheVariants as lasting
use Rattle.prl_timetext.specs.declared.rows.Row.{Row}
use Rattle.prl_timetext.specs.declared.rows.Row.TheVariants as rows
use Rattle.prl_times.proofs.RowLists.{about_push, each_more}
use Rattle.prl_times.proofs.lasting.push_times.Goals as goal

pub loop-i-preserved : goal.loop-i-preserved
loop-i-preserved c =
    let graph = ap (λ (g : TaskGraph). length g.tasks) c.graph.ensures.graph in
    let inside : c.loop-i.i < length c.args.plan.now.graph.tasks = omega (arith, c.loop-i-test.true, c.loop-i.auto.i-end, c.len-i-end.ensures, graph) in (
      each_more lasting_task c.loop-i.i (map about c.args.rows.now.items) (map about c.loop-i.rows.items) (map about c.push.new.self.items) c.loop-i.invariant.0
          (ap (λ (xs : List Row). map about xs) c.in_ok-push.ensures.items ∙ about_push c.loop-i.rows.items (rows.ForEver (lasting.Task (record { 0 = c.loop-i.i }) (times_at c.args.times.now c.loop-i.i)))),
      λ until all. subst (λ (xs : List Row). All (IsRow c.args.plan.now [] until) xs) (sym c.in_ok-push.ensures.items)
          (All-push (IsRow c.args.plan.now [] until) c.loop-i.rows.items (rows.ForEver (lasting.Task (record { 0 = c.loop-i.i }) (times_at c.args.times.now c.loop-i.i))) (c.loop-i.invariant.1 until all)
          (c.requires.times c.loop-i.i inside)),
    )
