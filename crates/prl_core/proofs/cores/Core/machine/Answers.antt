use Rattle.prl_base.proofs.Standard.{◌<◌, length, refl, sym, subst, MatchOption}
use Rattle.prl_values.specs.Workers.{HasMachine, HasNoMachine}
use Rattle.prl_core.specs.Cores.{CoreView, IsMachineOf, IsNoNode}
use Rattle.prl_core.proofs.Given.{work_at, match_mono, machine_told, no_machine_told}
use Rattle.prl_core.proofs.cores.Core.machine.Goals as goal

pub returns : goal.returns
returns c =
    let kept = c.self.invariant.2 in
    let inside = subst (λ (v : CoreView). c.args.task.0 < length v.plan.graph.tasks) (sym c.self.view_is) c.requires in
    let its = work_at _ _ _ kept c.args.task.0 inside c.index.result.now c.index.ensures _ refl in
    subst (λ (v : CoreView). MatchOption c.machine.result (IsNoNode v c.args.task.0) (λ machine. IsMachineOf v c.args.task.0 machine.now)) c.self.view_is
    (match_mono (HasNoMachine c.index.result.now.work) _ (λ machine. HasMachine c.index.result.now.work machine.now)
    _ c.machine.result
    (no_machine_told _ _ _ kept c.args.task.0 c.index.result.now its.0 c.index.result.now.work its.1)
    (λ machine has. machine_told _ _ _ kept c.args.task.0 c.index.result.now its.0 c.index.result.now.work its.1 machine.now has)
    c.machine.ensures)
