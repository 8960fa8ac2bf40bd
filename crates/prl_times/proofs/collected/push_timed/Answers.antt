use Rattle.prl_base.proofs.Standard.{◌≡◌, ◌<◌, List, Option, length, refl, ap, sym, subst, arith}
use Rattle.prl_responses.specs.Responses.{times_at}
use Rattle.prl_responses.specs.declared.responses.Times.{Times}
use Rattle.prl_times.specs.Rows.{EndSo}
use Rattle.prl_times.proofs.collected.push_timed.Goals as goal

pub push_tasks-requires-clause-times : goal.push_tasks-requires-clause-times
push_tasks-requires-clause-times c = λ i below.
    (let same : length c.deref.result.now ≡ length c.in_ok-times.times.items = ap (λ (xs : List (Option Times)). length xs) c.deref.ensures.value in
    let inside : i < length c.args.plan.now.graph.tasks = omega (arith, same, below, c.in_ok-times.ensures.long) in
    subst (λ (xs : List (Option Times)). EndSo c.args.plan.now c.args.horizon.until i (times_at xs i)) (sym c.deref.ensures.value)
    (c.args.horizon, c.requires.horizon, refl, (c.args.timed.now, c.requires.run, c.in_ok-times.ensures.times i inside)))
