use Rattle.prl_base.proofs.Standard.{List, [], All, All-push, ap, length, map, sym, subst}
use Rattle.prl_plan.specs.declared.graphs.TaskGraph.{TaskGraph}
use Rattle.prl_times.specs.Rows.{IsRow, about, each_to, hyper_share}
use Rattle.prl_timetext.specs.declared.rows.Lasting.TheVariants as lasting
use Rattle.prl_timetext.specs.declared.rows.Row.{Row}
use Rattle.prl_timetext.specs.declared.rows.Row.TheVariants as rows
use Rattle.prl_times.proofs.RowLists.{about_more}
use Rattle.prl_times.proofs.lasting.push_heavy.Goals as goal

pub returns-clause-about : goal.returns-clause-about
returns-clause-about c =
    about_more c.args.rows.now.items c.push.new.self.items (rows.ForEver (lasting.Heavy c.args.load c.graph.result.now.hyper)) (map about c.push_hypers.new.rows.items)
    (each_to hyper_share (length c.args.plan.now.graph.tasks)) c.in_ok-push.ensures.items c.in_ok-push_hypers.ensures.about

pub returns-clause-rows : goal.returns-clause-rows
returns-clause-rows c = λ until all. c.in_ok-push_hypers.ensures.rows until
    (subst (λ (xs : List Row). All (IsRow c.args.plan.now [] until) xs) (sym c.in_ok-push.ensures.items)
    (All-push (IsRow c.args.plan.now [] until) c.args.rows.now.items (rows.ForEver (lasting.Heavy c.args.load c.graph.result.now.hyper)) all
    (c.requires, ap (λ (g : TaskGraph). g.hyper) c.graph.ensures.graph)))
