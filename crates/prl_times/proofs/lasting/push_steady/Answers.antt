use Rattle.prl_base.proofs.Standard.{List, [], All, All-push, length, map, sym, subst}
use Rattle.prl_times.specs.Rows.{IsRow, about, each_to, lasting_task}
use Rattle.prl_timetext.specs.declared.rows.Lasting.TheVariants as lasting
use Rattle.prl_timetext.specs.declared.rows.Row.{Row}
use Rattle.prl_timetext.specs.declared.rows.Row.TheVariants as rows
use Rattle.prl_times.proofs.RowLists.{about_more}
use Rattle.prl_times.proofs.lasting.push_steady.Goals as goal

pub returns-clause-about : goal.returns-clause-about
returns-clause-about c =
    about_more c.args.rows.now.items c.push.new.self.items (rows.ForEver lasting.Served) (map about c.push_times.new.rows.items) (each_to lasting_task (length c.args.plan.now.graph.tasks))
    c.in_ok-push.ensures.items c.in_ok-push_times.ensures.about

pub returns-clause-rows : goal.returns-clause-rows
returns-clause-rows c = λ until all. c.in_ok-push_times.ensures.rows until
    (subst (λ (xs : List Row). All (IsRow c.args.plan.now [] until) xs) (sym c.in_ok-push.ensures.items)
    (All-push (IsRow c.args.plan.now [] until) c.args.rows.now.items (rows.ForEver lasting.Served) all c.requires.serves))
