use Rattle.prl_base.proofs.Standard.{get_or, take, MatchOption-at_some, slice_get-get_or}
use Rattle.prl_plan.specs.declared.events.Event.TheVariants as events
use Rattle.prl_schedules.specs.code.Walks.{AreForbidden, IsWalk}
use Rattle.prl_schedules.proofs.Walking.{found_is, none_found}
use Rattle.prl_schedules.proofs.findings.finding_at.Goals as goal

pub returns-in-None : goal.returns-in-None
returns-in-None c =
    let plan = c.args.plan.now in
    let list = c.args.list.now in
    let index = c.args.index in
    let is_walk = MatchOption-at_some (AreForbidden plan (take index list)) (IsWalk plan (take index list)) c.in-Some.walk c.in-Some.is c.in_ok-walk.ensures in
    none_found plan c.plans_keep_facts.ensures c.plan_is_one.ensures list index c.args.rule c.in-Some.walk (get_or list index events.Tick)
    (slice_get-get_or list index events.Tick c.if-index-list.false) is_walk c.in-None.ensures

pub returns : goal.returns
returns c =
    let plan = c.args.plan.now in
    let list = c.args.list.now in
    let index = c.args.index in
    let is_walk = MatchOption-at_some (AreForbidden plan (take index list)) (IsWalk plan (take index list)) c.in-Some.walk c.in-Some.is c.in_ok-walk.ensures in
    found_is plan c.plans_keep_facts.ensures c.plan_is_one.ensures list index c.args.rule c.in-Some.walk (get_or list index events.Tick)
    (slice_get-get_or list index events.Tick c.if-index-list.false) is_walk c.in-Some-cause_of.cause c.in-Some-cause_of.ensures
