use Rattle.prl_base.proofs.Standard.{ℕ, arith, subst, get_or_read}
use Rattle.prl_schedules.specs.code.Dates.{IsNext}
use Rattle.prl_schedules.proofs.Jobs.{have_periods}
use Rattle.prl_schedules.proofs.Told.{none_overtaken, overtaken_is}
use Rattle.prl_schedules.proofs.findings.overtaken.Goals as goal

pub returns-in_default-least_pending : goal.returns-in_default-least_pending
returns-in_default-least_pending c h is s reached broken =
    let size = c.requires.size.0 in
    let inside = c.requires.task in
    let at = subst (λ (n : ℕ). IsNext c.args.plan.now c.args.task.0 n c.in-Some.next)
    (get_or_read c.args.walk.now.ended.items c.args.task.0 c.index.result.now (omega (arith, size, inside)) c.index.ensures 0) c.in-Some.ensures in
    none_overtaken c.args.plan.now h is (c.plans_keep_facts.ensures c.args.plan.now h c.plan_is_one.ensures is) c.horizon_jobs_are_counted.ensures
    (have_periods c.args.plan.now c.plan_is_one.ensures) s c.args.walk.now reached c.args.task c.in-Some.next at c.in_default-least_pending.ensures broken

pub returns : goal.returns
returns c h is s reached broken =
    let size = c.requires.size.0 in
    let inside = c.requires.task in
    let at = subst (λ (n : ℕ). IsNext c.args.plan.now c.args.task.0 n c.in-Some.next)
    (get_or_read c.args.walk.now.ended.items c.args.task.0 c.index.result.now (omega (arith, size, inside)) c.index.ensures 0) c.in-Some.ensures in
    overtaken_is c.args.plan.now h is (c.plans_keep_facts.ensures c.args.plan.now h c.plan_is_one.ensures is) c.horizon_jobs_are_counted.ensures
    (have_periods c.args.plan.now c.plan_is_one.ensures) s c.args.walk.now reached c.args.task c.in-Some.next c.in-Some-least_pending.other at
    c.in-Some-least_pending.ensures broken
