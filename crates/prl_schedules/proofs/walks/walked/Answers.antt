use Rattle.prl_base.proofs.Standard.{◌≡◌, ◌+◌, ℕ, suc, arith, get_or, length, take, subst, OnFalse_at, OnTrue_at, length-take-le, slice_get-get_or}
use Rattle.prl_plan.specs.declared.events.Event.TheVariants as events
use Rattle.prl_schedules.specs.code.Walks.{IsWalk}
use Rattle.prl_schedules.proofs.Walking.{list_forbidden, walks_on}
use Rattle.prl_schedules.proofs.walks.walked.Goals as goal

pub returns-then-not-go_on : goal.returns-then-not-go_on
returns-then-not-go_on c =
    let list = c.args.list.now in
    let k = c.loop-event.event-index in
    list_forbidden c.args.plan.now list k (get_or list k events.Tick) c.loop-event.walk (slice_get-get_or list k events.Tick c.loop-event-test.true)
    c.loop-event.invariant (OnFalse_at c.if-not-go_on.true c.go_on.ensures.no)

pub loop-event-preserved : goal.loop-event-preserved
loop-event-preserved c =
    let list = c.args.list.now in
    let k : ℕ = c.loop-event.event-index in
    let inside = c.loop-event-test.true in
    let next : suc k ≡ k + 1 = omega arith in
    subst (λ (n : ℕ). IsWalk c.args.plan.now (take n list) c.go_on.new.walk) next
    (walks_on c.args.plan.now list k (get_or list k events.Tick) c.loop-event.walk c.go_on.new.walk (slice_get-get_or list k events.Tick inside)
    c.loop-event.invariant (OnTrue_at c.if-not-go_on.false c.go_on.ensures.yes) c.go_on.ensures.size c.go_on.ensures.few inside
    (length-take-le k list (omega (arith, inside))) (length-take-le (suc k) list (omega (arith, inside))))
