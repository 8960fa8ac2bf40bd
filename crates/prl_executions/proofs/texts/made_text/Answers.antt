use Rattle.prl_base.proofs.Standard.{◌++◌, [], ◌∷◌, ◌∙◌, inl, refl, sym, err_from_is_err_and}
use Rattle.prl_stages.specs.Vocabulary.{front, graphed, planned}
use Rattle.prl_stages.specs.Stages.{Holds, Refuses}
use Rattle.prl_stages.specs.Tabled.{HasMadeTable, IsTableText}
use Rattle.prl_stages.specs.declared.faults.Fault.TheVariants as faults
use Rattle.prl_stages.specs.declared.stages.Stop.TheVariants as stops
use Rattle.prl_stages.specs.declared.stages.Stage.TheVariants as stages
use Rattle.prl_calls.specs.Stops.{given_of}
use Rattle.prl_calls.proofs.Stops.{both_hold, stops_first, stops_rest}
use Rattle.prl_executions.proofs.texts.made_text.Goals as goal

pub returns-in_err-plan : goal.returns-in_err-plan
returns-in_err-plan c =
    let g = given_of c.args.request.now in
    let p = err_from_is_err_and c.from_residual.result c.from_residual.ensures.1 in
    rw (p.1, p.2) (stops_first g (front ++ graphed ++ planned) (stages.Made ∷ []) c.in_err-plan.field-0.0 c.in_err-plan.ensures)

pub returns-in-Ok : goal.returns-in-Ok
returns-in-Ok c =
    let g = given_of c.args.request.now in
    let plan = c.in_ok-plan.plan in
    let entries = c.in-Ok.table.entries in
    let made : HasMadeTable g plan entries = record { has_plan = c.in_ok-plan.ensures.0; made = c.in-Ok.ensures.made } in
    let told : IsTableText g c.in_ok-table_text-in-Ok.field-0.items =
    record { plan = plan; entries = entries; made = made; good = c.in-Ok.ensures.good; written = c.in_ok-table_text-in-Ok.ensures } in
    let holds : Holds g stages.Made = (plan, entries, made) in
    (told, both_hold g (front ++ graphed ++ planned) (stages.Made ∷ []) c.in_ok-plan.ensures.1 (holds, tt))

pub returns-in-Some : goal.returns-in-Some
returns-in-Some c =
    let g = given_of c.args.request.now in
    let refusal = c.in-Some.refusal in
    let refuses : Refuses g stages.Made (faults.Made refusal) =
    (c.in_ok-plan.plan, c.in_ok-plan.ensures.0, c.in-Err.fault, c.in-Err.ensures.cause, refusal, sym c.make_refusal.ensures ∙ c.in-Some.is, refl) in
    stops_rest g (front ++ graphed ++ planned) (stages.Made ∷ []) (stops.Refused stages.Made (faults.Made refusal)) c.in_ok-plan.ensures.1 (inl (refl, refuses))
