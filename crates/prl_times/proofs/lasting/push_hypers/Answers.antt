use Rattle.prl_base.proofs.Standard.{◌<◌, ◌∙◌, List, [], All, All-push, ap, arith, length, map, sym, subst}
use Rattle.prl_plan.specs.declared.graphs.TaskGraph.{TaskGraph}
use Rattle.prl_times.specs.Rows.{IsRow, about, hyper_share}
use Rattle.prl_timetext.specs.declared.rows.Lasting.TheVariants as lasting
use Rattle.prl_timetext.specs.declared.rows.Row.{Row}
use Rattle.prl_timetext.specs.declared.rows.Row.TheVariants as rows
use Rattle.prl_times.proofs.RowLists.{about_push, each_more}
use Rattle.prl_times.proofs.lasting.push_hypers.Goals as goal

pub loop-i-preserved : goal.loop-i-preserved
loop-i-preserved c = (
  each_more hyper_share c.loop-i.i (map about c.args.rows.now.items) (map about c.loop-i.rows.items) (map about c.push.new.self.items) c.loop-i.invariant.0
      (ap (λ (xs : List Row). map about xs) c.in_ok-push.ensures.items ∙ about_push c.loop-i.rows.items (rows.ForEver (lasting.Hyper (record { 0 = c.loop-i.i }) c.share_of_hyper.result))),
  λ until all. subst (λ (xs : List Row). All (IsRow c.args.plan.now [] until) xs) (sym c.in_ok-push.ensures.items)
      (All-push (IsRow c.args.plan.now [] until) c.loop-i.rows.items (rows.ForEver (lasting.Hyper (record { 0 = c.loop-i.i }) c.share_of_hyper.result)) (c.loop-i.invariant.1 until all)
      c.share_of_hyper.ensures),
)
