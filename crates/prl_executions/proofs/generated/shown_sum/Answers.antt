use Rattle.std.proofs.Common.{◌≡◌, ◌∙◌, List, ap}
use Rattle.prl_flow.specs.declared.programs.OutFlow.{OutFlow}
use Rattle.prl_replay.specs.Shown.{AreShown}
use Rattle.prl_stages.specs.Ran.{sum_of}
use Rattle.prl_calls.proofs.Stops.{ok_map}
use Rattle.prl_executions.proofs.generated.shown_sum.Goals as goal

pub returns : goal.returns
returns c =
    ok_map c.sum_of.result (λ sum. sum ≡ sum_of c.deref.result.now)
    (λ sum. (outs : List OutFlow) × AreShown c.args.closed.now c.args.plan.now.graph outs × (sum ≡ sum_of outs))
    (λ sum is. (c.in_ok-flows.flows.items, c.in_ok-flows.ensures, is ∙ ap sum_of c.deref.ensures.value)) c.sum_of.ensures
