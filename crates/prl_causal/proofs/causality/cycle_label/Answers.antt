use Rattle.std.proofs.Common.{Ok, Err}
use Rattle.std.specs.Result.{IfOk}
use Rattle.prl_flow.specs.Uses.{IsCycleLabel}
use Rattle.prl_causal.specs.Cycles.{IsLabelOf}
use Rattle.prl_causal.proofs.Labels.{label_named, label_unnamed}
use Rattle.prl_causal.proofs.causality.cycle_label.Goals as goal

pub returns-in-Some : goal.returns-in-Some
returns-in-Some c =
    let p = c.args.uses.flat.now in
    let i = c.in-Some.flow in
    let first = rw c.in-Some.is at c.in_ok-flow.ensures in
    elim c.label_of.result as (λ r. IfOk r (IsLabelOf p i) → IfOk r (IsCycleLabel p)) [
      | Ok label ↦ λ h. label_named p i label first h
      | Err e ↦ λ h. h
    ] c.label_of.ensures

pub returns-in-Some-2 : goal.returns-in-Some-2
returns-in-Some-2 c =
    let p = c.args.uses.flat.now in
    let i = c.in-Some-2.flow in
    let made = rw c.in-None.is at c.in_ok-flow.ensures in
    let first = rw c.in-Some-2.is at c.in_ok-flow-in-None.ensures in
    elim c.label_of-in-Some-2.result as (λ r. IfOk r (IsLabelOf p i) → IfOk r (IsCycleLabel p)) [
      | Ok label ↦ λ h. label_unnamed p i label made first h
      | Err e ↦ λ h. h
    ] c.label_of-in-Some-2.ensures
