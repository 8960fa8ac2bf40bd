use Rattle.std.proofs.Common.{◌≡◌, true, false, Ok, Err}
use Rattle.std.specs.Result.{IfOk}
use Rattle.prl_flow.specs.Uses.{IsOnCycle, Leads}
use Rattle.prl_causal.specs.code.Sources.{UsesBy}
use Rattle.prl_causal.proofs.Meanings.{on_undelayed, on_inside, on_none, undelayed_sources, inside_sources}
use Rattle.prl_causal.proofs.causality.is_on_cycle.Goals as goal

pub leads_back-requires-clause-sources : goal.leads_back-requires-clause-sources
leads_back-requires-clause-sources c = undelayed_sources c.args.uses.flat.now c.args.uses.undelayed.now c.flows-flows.ensures.well_formed c.requires.uses.undelayed

pub leads_back-requires-2-clause-sources : goal.leads_back-requires-2-clause-sources
leads_back-requires-2-clause-sources c = inside_sources c.args.uses.flat.now c.args.uses.inside.now c.flows-flows.ensures.well_formed c.requires.uses.inside

pub returns-then-branch-clause-on : goal.returns-then-branch-clause-on
returns-then-branch-clause-on c = λ e. on_undelayed c.args.uses.flat.now c.args.uses.undelayed.now c.args.flow c.requires.uses.undelayed (c.in_ok-leads_back.ensures.back c.if-branch.true)

pub returns-clause-on : goal.returns-clause-on
returns-clause-on c =
    let p = c.args.uses.flat.now in
    let all = c.args.uses.inside.now in
    let i = c.args.flow in
    elim c.leads_back-2.result as (λ r. IfOk r (λ on. on ≡ true → Leads (UsesBy p all) i i) → IfOk r (λ on. on ≡ true → IsOnCycle p i)) [
      | Ok on ↦ λ h e. on_inside p all i c.requires.uses.inside (h e)
      | Err e ↦ λ h. h
    ] c.leads_back-2.ensures.back

pub returns-clause-off : goal.returns-clause-off
returns-clause-off c =
    let p = c.args.uses.flat.now in
    let all = c.args.uses.inside.now in
    let i = c.args.flow in
    elim c.leads_back-2.result as (λ r. IfOk r (λ on. on ≡ false → Leads (UsesBy p all) i i → ⊥) → IfOk r (λ on. on ≡ false → IsOnCycle p i → ⊥)) [
      | Ok on ↦ λ h e. on_none p c.args.uses.undelayed.now all i c.requires.uses.undelayed c.requires.uses.inside (c.in_ok-leads_back.ensures.none c.if-branch.false) (h e)
      | Err e ↦ λ h. h
    ] c.leads_back-2.ensures.none
