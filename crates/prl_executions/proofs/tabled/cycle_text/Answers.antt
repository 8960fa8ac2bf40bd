use Rattle.prl_base.proofs.Standard.{◌++◌, List, [], ◌∷◌, inl, subst, err_from_is_err_and}
use Rattle.prl_overlaps.specs.declared.entries.Entry.{Entry}
use Rattle.prl_stages.specs.Vocabulary.{front, ran}
use Rattle.prl_stages.specs.Stages.{Holds}
use Rattle.prl_stages.specs.declared.stages.Stage.TheVariants as stages
use Rattle.prl_calls.specs.Stops.{given_of}
use Rattle.prl_calls.proofs.Stops.{both_hold, stops_first, stops_rest}
use Rattle.prl_executions.specs.Ready.{IsDrivenTextOf}
use Rattle.prl_executions.proofs.Preparing.{ListLaws, cycle_text_is, has_plan_there}
use Rattle.prl_executions.proofs.tabled.cycle_text.Goals as goal

pub returns-in_err-ready : goal.returns-in_err-ready
returns-in_err-ready c =
    let p = err_from_is_err_and c.from_residual.result c.from_residual.ensures.1 in
    rw (p.1, p.2) (stops_first (given_of c.args.request.now) (front ++ ran) (stages.Table ∷ []) c.in_err-ready.field-0.0 c.in_err-ready.ensures)

pub returns-in_err-table : goal.returns-in_err-table
returns-in_err-table c =
    let p = err_from_is_err_and c.from_residual-in_err-table.result c.from_residual-in_err-table.ensures.1 in
    rw (p.1, p.2)
    (stops_rest (given_of c.args.request.now) (front ++ ran) (stages.Table ∷ []) c.in_err-table.field-0.0 c.in_ok-ready.ensures.1
    (inl c.in_err-table.ensures.stop))

pub returns-in-Ok : goal.returns-in-Ok
returns-in-Ok c =
    let law : ListLaws = record { gated = c.unrolled_table_is_gated.ensures.gated; complete = c.unrolled_table_is_gated.ensures.complete } in
    let g = given_of c.args.request.now in
    let r = c.in_ok-ready.ready in
    let entries = c.in_ok-table.table.entries in
    let plan = has_plan_there g r c.in_ok-ready.ensures.0 in
    let told = c.in_ok-table.ensures.told in
    let good = c.in-Ok.ensures.good in
    let holds : Holds g stages.Table = (r.plan, entries, record { has_plan = plan; read = told; good = good }) in (
      cycle_text_is law g r entries told good c.in_ok-driven_text-in-Ok.field-0.0.items c.in_ok-driven_text-in-Ok.field-0.1
          (subst (λ (list : List Entry). IsDrivenTextOf g r list c.in_ok-driven_text-in-Ok.field-0.0.items c.in_ok-driven_text-in-Ok.field-0.1) c.in-Ok.ensures.checked.1
          c.in_ok-driven_text-in-Ok.ensures),
      both_hold g (front ++ ran) (stages.Table ∷ []) c.in_ok-ready.ensures.1 (holds, tt),
    )

pub returns : goal.returns
returns c =
    stops_rest (given_of c.args.request.now) (front ++ ran) (stages.Table ∷ []) c.table_stop.result c.in_ok-ready.ensures.1 (inl c.table_stop.ensures)
