use Rattle.prl_base.proofs.Standard.{◌+◌, ◌<◌, List, length, get_or, take, refl, subst, ◌∙◌, ap, arith, vec_items, slice_get-get_or, take_more, take_all}
use Rattle.prl_plan.specs.Rules.{IsLegal, IsComplete, IsFirstUnfinished, FirstBroken}
use Rattle.prl_plan.specs.declared.events.Event.{Event}
use Rattle.prl_plan.specs.declared.events.Event.TheVariants as events
use Rattle.prl_core.specs.Cores.{CoreView, constants}
use Rattle.prl_replay.specs.Replays.{after_all, TellsAll}
use Rattle.prl_replay.proofs.Runs.{legal_on, state_on, told_on}
use Rattle.prl_replay.proofs.replays.reads_of.Goals as goal

pub loop-i-preserved : goal.loop-i-preserved
loop-i-preserved c =
    let more = take_more c.args.events.now c.loop-i.i _ (omega arith) in
    record {
      legal = legal_on c.args.core.now c.loop-i.core (take c.loop-i.i c.args.events.now) (take (c.loop-i.i + 1) c.args.events.now) _ more c.loop-i.invariant.state c.loop-i.invariant.legal c.in-Ok.ensures.ok.0;
      state = state_on c.args.core.now c.loop-i.core c.step.new.self (take c.loop-i.i c.args.events.now) (take (c.loop-i.i + 1) c.args.events.now) _ more c.loop-i.invariant.state c.in-Ok.ensures.ok.2;
      told = told_on c.args.core.now c.loop-i.core (take c.loop-i.i c.args.events.now) (take (c.loop-i.i + 1) c.args.events.now) _ (vec_items c.loop-i.reads) (vec_items c.keep_read.new.reads) c.in-Ok.seen more c.loop-i.invariant.state c.loop-i.invariant.told c.in-Ok.ensures.ok.1 c.in_ok-keep_read-in-Ok.ensures;
    }

pub returns-in-Ok-finished-clause-run : goal.returns-in-Ok-finished-clause-run
returns-in-Ok-finished-clause-run c =
    let whole = take_all c.loop-i.i c.args.events.now (omega arith) in
    let state = c.loop-i.invariant.state ∙ ap (after_all c.args.core.now) whole in
    record {
      legal = subst (IsLegal (constants c.args.core.now) c.args.core.now.state) whole c.loop-i.invariant.legal;
      complete = subst (λ (m : CoreView). IsComplete (constants m) m.state) state c.in-Ok-finished.ensures;
      seens = c.loop-i.invariant.told.0;
      told = subst (λ (done : List Event). TellsAll c.args.core.now done c.loop-i.invariant.told.0) whole c.loop-i.invariant.told.1;
      kept = c.loop-i.invariant.told.2;
    }

pub returns-in-Err-finished-clause-run : goal.returns-in-Err-finished-clause-run
returns-in-Err-finished-clause-run c =
    let whole = take_all c.loop-i.i c.args.events.now (omega arith) in
    let state = c.loop-i.invariant.state ∙ ap (after_all c.args.core.now) whole in λ _. (
      subst (IsLegal (constants c.args.core.now) c.args.core.now.state) whole c.loop-i.invariant.legal,
      subst (λ (m : CoreView). IsFirstUnfinished (constants m) m.state c.in-Err-finished.field-0.task.0 c.in-Err-finished.field-0.job) state c.in-Err-finished.ensures,
    )

pub returns-in-Err-clause-run : goal.returns-in-Err-clause-run
returns-in-Err-clause-run c =
    let inside : c.loop-i.i < length c.args.events.now = c.loop-i-test.true in λ _. (
      c.loop-i.i,
      get_or c.args.events.now c.loop-i.i events.Tick,
      refl,
      slice_get-get_or c.args.events.now c.loop-i.i events.Tick inside,
      c.loop-i.invariant.legal,
      subst (λ (m : CoreView). FirstBroken (constants m) m.state (get_or c.args.events.now c.loop-i.i events.Tick) c.in-Err.illegal.rule) c.loop-i.invariant.state c.in-Err.ensures.err.0,
    )
