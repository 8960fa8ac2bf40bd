use Rattle.prl_base.proofs.Standard.{◌∙◌, List, [], ◌∷◌, All, All-push, ap, inr, map, refl, sym, subst}
use Rattle.prl_edf.specs.Vocabulary.{IsVerdict}
use Rattle.prl_edf.specs.declared.analysis.Verdict.{Verdict}
use Rattle.prl_overlaps.specs.Demand.{wcets_of}
use Rattle.prl_plan.specs.Vocabulary.{constants_of}
use Rattle.prl_times.specs.Rows.{IsRow, about, overload}
use Rattle.prl_timetext.specs.declared.rows.Row.{Row}
use Rattle.prl_timetext.specs.declared.rows.Row.TheVariants as rows
use Rattle.prl_times.proofs.RowLists.{about_push}
use Rattle.prl_times.proofs.collected.push_run.Goals as goal

pub returns-in_ok-push-in-Overload-clause-about : goal.returns-in_ok-push-in-Overload-clause-about
returns-in_ok-push-in-Overload-clause-about c = (
  overload ∷ [],
  inr refl,
  ap (λ (xs : List Row). map about xs) c.in_ok-push-in-Overload.ensures.items ∙ about_push c.args.rows.now.items (rows.Overload c.in-Overload.from c.in-Overload.to c.in-Overload.demand),
)

pub returns-in_ok-push-in-Overload-clause-rows : goal.returns-in_ok-push-in-Overload-clause-rows
returns-in_ok-push-in-Overload-clause-rows c = λ all.
    (let found = subst (λ (v : Verdict). IsVerdict (constants_of c.args.plan.now c.args.horizon) (wcets_of c.args.plan.now) v) c.in-Overload.is c.in_ok-from.ensures in
    subst (λ (xs : List Row). All (IsRow c.args.plan.now [] c.args.horizon.until) xs) (sym c.in_ok-push-in-Overload.ensures.items)
    (All-push (IsRow c.args.plan.now [] c.args.horizon.until) c.args.rows.now.items (rows.Overload c.in-Overload.from c.in-Overload.to c.in-Overload.demand) all
    (c.args.horizon, c.requires, refl, found)))
