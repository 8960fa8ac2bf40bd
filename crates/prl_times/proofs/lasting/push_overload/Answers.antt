use Rattle.prl_base.proofs.Standard.{List, [], All, All-push, length, map, sym, subst}
use Rattle.prl_times.specs.Rows.{IsRow, about, withins_to}
use Rattle.prl_timetext.specs.declared.rows.Lasting.TheVariants as lasting
use Rattle.prl_timetext.specs.declared.rows.Row.{Row}
use Rattle.prl_timetext.specs.declared.rows.Row.TheVariants as rows
use Rattle.prl_times.proofs.RowLists.{about_more}
use Rattle.prl_times.proofs.lasting.push_overload.Goals as goal

pub horizon_told-requires : goal.horizon_told-requires
horizon_told-requires c = (c.args.from, c.args.to, c.args.demand, c.requires)

pub returns-clause-about : goal.returns-clause-about
returns-clause-about c =
    about_more c.args.rows.now.items c.push.new.self.items (rows.ForEver (lasting.Overload c.args.from c.args.to c.args.demand)) (map about c.push_withins.new.rows.items)
    (withins_to c.args.plan.now c.args.from c.args.to (length c.args.plan.now.graph.tasks)) c.in_ok-push.ensures.items c.in_ok-push_withins.ensures.about

pub returns-clause-rows : goal.returns-clause-rows
returns-clause-rows c = λ until all. c.in_ok-push_withins.ensures.rows until
    (subst (λ (xs : List Row). All (IsRow c.args.plan.now [] until) xs) (sym c.in_ok-push.ensures.items)
    (All-push (IsRow c.args.plan.now [] until) c.args.rows.now.items (rows.ForEver (lasting.Overload c.args.from c.args.to c.args.demand)) all c.requires))
