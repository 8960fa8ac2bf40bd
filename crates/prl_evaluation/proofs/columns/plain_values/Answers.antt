use Rattle.std.proofs.Common.{◌≡◌, ◌<◌, ◌∙◌, refl, ℕ, List, length, take, get_or-take, slice_index_or, ap, subst, sym}
use Rattle.prl_base.specs.Operators.{origin_of}
use Rattle.prl_base.specs.declared.values.Value.{Value}
use Rattle.prl_body.specs.declared.bodies.CheckedBody.{CheckedBody}
use Rattle.prl_flow.specs.Vocabulary.{FlatProgram, HasInstance}
use Rattle.prl_flow.specs.declared.programs.Def.{Def}
use Rattle.prl_causal.specs.Tables.{nothing, table_of, taken, value_of}
use Rattle.prl_evaluation.specs.code.Fronts.{IsThere}
use Rattle.prl_evaluation.proofs.AllAtOnce.{listed, ok_more}
use Rattle.prl_evaluation.proofs.columns.plain_values.Goals as goal

pub operator_values-requires : goal.operator_values-requires
operator_values-requires c = λ n less.
    let flows = c.args.flows.now in
    let there = subst (λ (d : Def). IsThere c.args.setting.now.sensors.now flows d n) c.in-Op.is (c.requires.there n less) in
    let same = listed flows c.in-Op.of.0 c.index-flows-of-in-Op.result c.as_slice-of.result.now there.0 c.index-flows-of-in-Op.is c.as_slice-of.ensures in
    subst (λ (xs : List Value). HasInstance c.in-Op.op (length xs) n) (sym same) there.1

pub returns-in-Copy-clause-each : goal.returns-in-Copy-clause-each
returns-in-Copy-clause-each c =
    let rows = c.args.setting.now.sensors.now in
    let flows = c.args.flows.now in
    let number = c.args.number in
    let first = subst (λ (d : Def). IsThere rows flows d 0) c.in-Copy.is (c.requires.there 0 c.requires.some) in
    let same = listed flows c.in-Copy.of.0 c.index-flows-of.result c.index-flows-of.result first.0 c.index-flows-of.is refl in
    ok_more c.front.result (λ v. v ≡ take number c.index-flows-of.result)
    (λ v. (p : FlatProgram) (bodies : List CheckedBody) (n : ℕ) → n < number → slice_index_or v n nothing ≡ value_of p bodies rows (table_of flows) c.args.def n)
    (λ v is p bodies n less.
    ap (λ (xs : List Value). slice_index_or xs n nothing) is
    ∙ get_or-take number c.index-flows-of.result n nothing less
    ∙ ap (λ (xs : List Value). slice_index_or xs n nothing) same
    ∙ ap (λ (d : Def). value_of p bodies rows (table_of flows) d n) (sym c.in-Copy.is))
    c.front.ensures

pub returns-in_ok-operator_values-in-Op-clause-each : goal.returns-in_ok-operator_values-in-Op-clause-each
returns-in_ok-operator_values-in-Op-clause-each c = λ p bodies n less.
    let rows = c.args.setting.now.sensors.now in
    let flows = c.args.flows.now in
    let there = subst (λ (d : Def). IsThere rows flows d n) c.in-Op.is (c.requires.there n less) in
    let same = listed flows c.in-Op.of.0 c.index-flows-of-in-Op.result c.as_slice-of.result.now there.0 c.index-flows-of-in-Op.is c.as_slice-of.ensures in
    ap (λ (xs : List Value). slice_index_or xs n nothing) c.owned-in-Op.ensures
    ∙ c.in_ok-operator_values-in-Op.ensures.each n less
    ∙ ap (λ (xs : List Value). taken (λ m. slice_index_or xs m nothing) (origin_of c.in-Op.op n)) same
    ∙ ap (λ (d : Def). value_of p bodies rows (table_of flows) d n) (sym c.in-Op.is)
