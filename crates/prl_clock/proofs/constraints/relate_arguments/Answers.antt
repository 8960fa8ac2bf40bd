use Rattle.prl_base.proofs.Standard.{◌<◌, ◌++◌, ◌∷◌, [], List, map, take, length, get_or, subst, arith, take_all, slice_get-get_or}
use Rattle.prl_flow.specs.declared.programs.Arg.{Arg}
use Rattle.prl_clock.specs.Vocabulary.{argument_constraint, related, IsReached, IsStopped, Timing}
use Rattle.prl_clock.proofs.Taking.{if_err_same, reached_next, stopped_next}
use Rattle.prl_clock.proofs.constraints.relate_arguments.Goals as goal

pub relate_at-requires-clause-reached : goal.relate_at-requires-clause-reached
relate_at-requires-clause-reached c = (_, c.loop-arg.invariant c.requires.reached.0 c.requires.reached.1)

pub relate_at-requires-clause-y : goal.relate_at-requires-clause-y
relate_at-requires-clause-y c =
    let here : c.loop-arg.arg-index < length c.args.args.now = omega arith in
    c.requires.args c.loop-arg.arg-index _ (slice_get-get_or c.args.args.now c.loop-arg.arg-index _ here)

pub returns-in_err-relate_at-clause-stopped : goal.returns-in_err-relate_at-clause-stopped
returns-in_err-relate_at-clause-stopped c =
    λ cs r.
    let here : c.loop-arg.arg-index < length c.args.args.now = omega arith in
    let d : Arg = record { flow = record { 0 = 0 }; at = record { at = 0; len = 0 } } in
    let a : Arg = get_or c.args.args.now c.loop-arg.arg-index d in
    let P : Timing → Type 0 = λ t.
    IsStopped (cs ++ map (argument_constraint c.args.x) (take c.loop-arg.arg-index c.args.args.now))
    ((record { constraint = related c.args.x a.flow.0 t; at = a.at.at }) ∷ []) c.in_err-relate_at.field-0.0 in
    if_err_same c.from_residual.result (IsStopped cs (map (argument_constraint c.args.x) c.args.args.now)) c.in_err-relate_at.field-0.0 c.from_residual.ensures.1
    (stopped_next cs (argument_constraint c.args.x) c.args.args.now c.loop-arg.arg-index d _ here
    (subst P c.same_clock-same.ensures.timing (c.in_err-relate_at.ensures.stopped _ (c.loop-arg.invariant cs r))))

pub loop-arg-preserved : goal.loop-arg-preserved
loop-arg-preserved c =
    λ cs r.
    let here : c.loop-arg.arg-index < length c.args.args.now = omega arith in
    let d : Arg = record { flow = record { 0 = 0 }; at = record { at = 0; len = 0 } } in
    let a : Arg = get_or c.args.args.now c.loop-arg.arg-index d in
    let P : Timing → Type 0 = λ t.
    IsReached c.args.flat.now
    ((cs ++ map (argument_constraint c.args.x) (take c.loop-arg.arg-index c.args.args.now)) ++ (record { constraint = related c.args.x a.flow.0 t; at = a.at.at }) ∷ [])
    c.relate_at.new.standings in
    reached_next c.args.flat.now cs (argument_constraint c.args.x) c.args.args.now c.loop-arg.arg-index d c.relate_at.new.standings here
    (subst P c.same_clock-same.ensures.timing (c.in_ok-relate_at.ensures.reached _ (c.loop-arg.invariant cs r)))

pub returns-clause-reached : goal.returns-clause-reached
returns-clause-reached c =
    λ cs r.
    let P : List Arg → Type 0 = λ xs. IsReached c.args.flat.now (cs ++ map (argument_constraint c.args.x) xs) c.loop-arg.standings in
    subst P (take_all c.loop-arg.arg-index c.args.args.now (omega arith)) (c.loop-arg.invariant cs r)
