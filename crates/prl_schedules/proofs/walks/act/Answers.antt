use Rattle.prl_base.proofs.Standard.{◌≢◌, arith, inl, inr, OnFalse_at, OnFalse_from}
use Rattle.prl_plan.specs.declared.events.Action.TheVariants as actions
use Rattle.prl_plan.specs.declared.events.Event.TheVariants as events
use Rattle.prl_schedules.specs.code.Walks.{IsForbidden}
use Rattle.prl_schedules.proofs.Walking.{action_is, too_many}
use Rattle.prl_schedules.proofs.walks.act.Goals as goal

pub returns-in-ReadConst-clause-no : goal.returns-in-ReadConst-clause-no
returns-in-ReadConst-clause-no c =
    let walk = c.args.walk.now in
    let other : c.action.result ≢ actions.End = λ k. elim c.in-ReadConst.is [ inl was ↦ cc | inr rest ↦ elim rest [ inl was ↦ cc | inr was ↦ cc ] ] in
    let task = c.requires.task in
    let ended = c.requires.size.0 in
    let places = c.requires.size.1 in
    let is = action_is c.args.plan.now c.args.task walk c.action.result c.index-job.result.now c.index-place.result.now (omega (arith, task, ended))
    (omega (arith, task, places)) c.index-job.ensures c.index-place.ensures c.action.ensures in
    OnFalse_from c.pass.result (IsForbidden c.args.plan.now (events.Act c.args.task) walk)
    (λ e. too_many c.args.plan.now c.args.task c.action.result walk other is (OnFalse_at e c.pass.ensures.no) c.plans_keep_facts.ensures c.plan_is_one.ensures)
