use Rattle.prl_base.proofs.Standard.{◌<◌, ◌∙◌, List, [], All, All-push, ap, arith, length, map, sym, subst}
use Rattle.prl_responses.specs.Responses.{times_at}
use Rattle.prl_times.specs.Rows.{IsRow, about}
use Rattle.prl_timetext.specs.declared.rows.Row.{Row}
use Rattle.prl_timetext.specs.declared.rows.Row.TheVariants as rows
use Rattle.prl_times.proofs.RowLists.{about_push, tasks_more}
use Rattle.prl_times.proofs.collected.push_tasks.Goals as goal

pub loop-i-preserved : goal.loop-i-preserved
loop-i-preserved c =
    let inside : c.loop-i.i < length c.args.times.now = omega (arith, c.loop-i-test.true, c.loop-i.auto.i-end) in (
      tasks_more c.loop-i.i (map about c.args.rows.now.items) (map about c.loop-i.rows.items) (map about c.push.new.self.items) c.loop-i.invariant.0
          (ap (λ (xs : List Row). map about xs) c.in_ok-push.ensures.items ∙ about_push c.loop-i.rows.items (rows.Task (record { 0 = c.loop-i.i }) (times_at c.args.times.now c.loop-i.i))),
      λ all. subst (λ (xs : List Row). All (IsRow c.args.plan.now [] c.args.horizon.until) xs) (sym c.in_ok-push.ensures.items)
          (All-push (IsRow c.args.plan.now [] c.args.horizon.until) c.loop-i.rows.items (rows.Task (record { 0 = c.loop-i.i }) (times_at c.args.times.now c.loop-i.i)) (c.loop-i.invariant.1 all)
          (c.requires.times c.loop-i.i inside)),
    )
