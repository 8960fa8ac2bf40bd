use Rattle.prl_base.proofs.Standard.{◌++◌, ◌+◌, ℕ, replicate, ap, sym, subst, ◌∙◌, refl, arith, append-nil}
use Rattle.prl_plan.specs.declared.events.Event.TheVariants as kinds
use Rattle.prl_plan.specs.Vocabulary.{constants_of, RunConstants}
use Rattle.prl_track.specs.Routes.{IsAt}
use Rattle.prl_edf.proofs.Acted.{one_more_event, is_last, goes_on, small_dates}
use Rattle.prl_edf.proofs.unrolling.push_acts.Goals as goal

pub returns-then-is_end : goal.returns-then-is_end
returns-then-is_end c =
    let k : RunConstants = constants_of c.args.plan.now c.args.horizon in
    let all = is_last k (c.actions_end_once.ensures c.args.plan.now c.args.horizon) c.args.task.0 c.args.job c.requires.job c.loop-place.place c.loop-place.invariant.ahead
    (sym c.stop-next.ensures.action ∙ c.if-is_end.ensures.yes) in
    one_more_event c.loop-place.events.items c.push.new.self.items c.args.events.now.items c.loop-place.place (kinds.Act c.args.task) c.loop-place.invariant.acts c.in_ok-push.ensures.items
    ∙ ap (λ (m : ℕ). c.args.events.now.items ++ replicate m (kinds.Act c.args.task)) all

pub loop-place-init : goal.loop-place-init
loop-place-init c = record {
  acts = sym (append-nil c.args.events.now.items);
  at = record { inside = omega arith; stands = refl };
  ahead = (let end = c.actions_end_once.ensures c.args.plan.now c.args.horizon in let some = (end.last c.args.task.0 c.args.job c.requires.job).1 in omega (arith, some));
}

pub loop-place-preserved : goal.loop-place-preserved
loop-place-preserved c =
    let k : RunConstants = constants_of c.args.plan.now c.args.horizon in
    let place : ℕ = c.loop-place.place in
    let at = c.stop-next.ensures.at in
    record {
      acts = one_more_event c.loop-place.events.items c.push.new.self.items c.args.events.now.items place (kinds.Act c.args.task) c.loop-place.invariant.acts c.in_ok-push.ensures.items;
      at = subst (IsAt c.args.plan.now c.args.task.0 c.args.job (place + 1)) (sym c.moved-cursor.ensures) (record { inside = at.inside; stands = omega (arith, at.stands) });
      ahead = goes_on k (c.actions_end_once.ensures c.args.plan.now c.args.horizon) c.args.task.0 c.args.job c.requires.job place c.loop-place.invariant.ahead
          (λ is. c.if-is_end.ensures.no (c.stop-next.ensures.action ∙ is));
    }

pub stop-next-requires-clause-small : goal.stop-next-requires-clause-small
stop-next-requires-clause-small c =
    let facts = c.plan_facts.ensures in
    let i : ℕ = c.args.task.0 in
    let n : ℕ = c.args.job in
    let is = c.requires.job in
    (small_dates c.args.horizon.events _ _ _ c.args.horizon.end (facts.window i n is) (facts.within i n is) c.requires.horizon.events c.requires.horizon.few_events).0

pub moved-cursor-requires : goal.moved-cursor-requires
moved-cursor-requires c = omega (arith, c.stop-next.ensures.at.stands, c.loop-place-test.true)

pub unreachable-requires : goal.unreachable-requires
unreachable-requires c = (let short = c.plan_facts.ensures.short c.args.task.0 c.args.job c.requires.job in omega (arith, short, c.loop-place.invariant.ahead, c.loop-place-test.false))
