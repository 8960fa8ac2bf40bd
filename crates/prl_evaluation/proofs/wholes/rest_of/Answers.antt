use Rattle.prl_base.proofs.Standard.{◌≡◌, ◌∙◌, ◌++◌, ◌∷◌, ◌<◌, ◌^◌, [], List, true, false, ap, arith, cond, not, slice_index_or, subst, sym, take, length, append-nil, take_all, filter_more}
use Rattle.prl_base.proofs.Standard.{slice_get-get_or}
use Rattle.std.specs.List.{filter}
use Rattle.prl_base.specs.declared.numbers.FlowNo.{FlowNo}
use Rattle.prl_evaluation.specs.code.Dates.{AreAt, IsRest}
use Rattle.prl_evaluation.proofs.Groups.{is_left, rest_at_first, rest_few, rest_in_order}
use Rattle.prl_evaluation.proofs.Orders.{order_within}
use Rattle.prl_evaluation.proofs.wholes.rest_of.Goals as goal
use Rattle.prl_evaluation.proofs.wholes.rest_of.Goals.{then-not-is_full+in_ok-push, else-not-is_full}

pub is_full-requires-clause-flow : goal.is_full-requires-clause-flow
is_full-requires-clause-flow c =
    let order : List FlowNo = c.args.setting.now.order.now in
    let x : FlowNo = slice_index_or order c.loop-flow.flow-index (record { 0 = 0 }) in
    order_within c.args.setting.now.flat.now order c.requires.set.is_order c.loop-flow.flow-index x (slice_get-get_or order c.loop-flow.flow-index (record { 0 = 0 }) c.loop-flow-test.true)

pub loop-flow-preserved : goal.loop-flow-preserved
loop-flow-preserved c =
    let order : List FlowNo = c.args.setting.now.order.now in
    let x : FlowNo = slice_index_or order c.loop-flow.flow-index (record { 0 = 0 }) in
    let more = filter_more (is_left c.args.setting.now c.args.flows.now) order c.loop-flow.flow-index (record { 0 = 0 }) c.loop-flow-test.true in
    elim c.if-not-is_full.branch [
      | then-not-is_full+in_ok-push w ↦
          let left : is_left c.args.setting.now c.args.flows.now x ≡ true = ap not (sym c.is_full.ensures) ∙ ap not w.if-not-is_full.true in
          ap (λ v. v.items) w.rest-is ∙ w.in_ok-push.ensures.items ∙ ap (λ (xs : List FlowNo). xs ++ x ∷ []) c.loop-flow.invariant
          ∙ sym (more ∙ ap (λ b. filter (is_left c.args.setting.now c.args.flows.now) (take c.loop-flow.flow-index order) ++ cond b (x ∷ []) []) left)
      | else-not-is_full w ↦
          let full : is_left c.args.setting.now c.args.flows.now x ≡ false = ap not (sym c.is_full.ensures) ∙ ap not w.if-not-is_full.false in
          ap (λ v. v.items) w.rest-is ∙ c.loop-flow.invariant
          ∙ sym (more ∙ ap (λ b. filter (is_left c.args.setting.now c.args.flows.now) (take c.loop-flow.flow-index order) ++ cond b (x ∷ []) []) full ∙ append-nil _)
    ]

pub returns : goal.returns
returns c =
    let s = c.args.setting.now in
    let flows = c.args.flows.now in
    let all = c.loop-flow.invariant ∙ ap (filter (is_left s flows)) (take_all c.loop-flow.flow-index s.order.now c.loop-flow-test.false) in
    let few = rest_few s c.requires.set flows c.requires.whole in
    record {
      rest = subst (λ rest. IsRest s rest flows) (sym all) (rest_in_order s c.requires.set flows c.requires.whole);
      at = subst (λ rest. AreAt s rest flows 0) (sym all) (rest_at_first s c.requires.set flows c.requires.whole);
      few = subst (λ (rest : List FlowNo). length rest < 2 ^ 32) (sym all) (omega (arith, few, c.requires.set.flat.few));
    }
