use Rattle.prl_base.proofs.Standard.{◌∙◌, ap, subst, sym, arith, slice_get_within}
use Rattle.prl_flow.specs.declared.programs.Def.{Def}
use Rattle.prl_causal.specs.Tables.{table_of, value_of}
use Rattle.prl_evaluation.specs.code.Fronts.{IsPlain, IsThere}
use Rattle.prl_evaluation.proofs.AllAtOnce.{all_there, set_both}
use Rattle.prl_evaluation.proofs.wholes.fill_alone.Goals as goal

pub plain_values-requires-clause-there : goal.plain_values-requires-clause-there
plain_values-requires-clause-there c = λ n less.
    let s = c.args.setting.now in
    let (f, found, is) = c.requires.flow in
    subst (λ (d : Def). IsThere s.sensors.now c.args.flows.now d n) is
    (all_there s c.requires.set c.args.flows.now c.args.flow c.args.number c.requires.group f found (subst IsPlain (sym is) c.requires.plain) c.args._runs.now c.requires.under_way n less)

pub bounds-flows-flow : goal.bounds-flows-flow
bounds-flows-flow c =
    let (f, found, is) = c.requires.flow in
    omega (arith, slice_get_within c.args.setting.now.flat.now.flows c.args.flow.0 f found, c.requires.under_way.count)

pub returns : goal.returns
returns c =
    let s = c.args.setting.now in
    let flows = c.args.flows.now in
    let (f, found, is) = c.requires.flow in
    let both = set_both s c.requires.set flows c.args.flow c.args.number c.requires.group f found (subst IsPlain (sym is) c.requires.plain) c.args._runs.now c.requires.under_way
    c.in_ok-values.values c.in_ok-values.ensures.count
    (λ p bodies n less. c.in_ok-values.ensures.each p bodies n less ∙ ap (λ (d : Def). value_of p bodies s.sensors.now (table_of flows) d n) (sym is))
    c.requires.whole in
    record { under_way = both.0; whole = both.1 }
