use Rattle.prl_base.proofs.Standard.{◌≤◌, ◌+◌, ◌-◌, ◌++◌, ◌∷◌, [], ◌∙◌, ℕ, arith, ap, length, map, refl, sym, reverse, range_with_len}
use Rattle.prl_causal.specs.Asked.{last_of}
use Rattle.prl_expand.specs.Vocabulary.{flow_no, Next, first_type, head_of, types_of, arg_of, flow_of, flows_of, operators_over, placed_at}
use Rattle.prl_expand.proofs.Adding.{given_last, no_given, no_types, operators_add, placed_given, placed_types}
use Rattle.prl_expand.proofs.Expressions.{next_of}
use Rattle.prl_expand.proofs.Within.{more_few}
use Rattle.prl_expand.proofs.nodes.operated.Goals as goal

pub returns-then-not-has_operators-clause-args : goal.returns-then-not-has_operators-clause-args
returns-then-not-has_operators-clause-args c =
    let none = c.if-not-has_operators.ensures.none refl in
    ap (map arg_of) (c.in_ok-placed.ensures ∙ ap (map (placed_at c.args.expr.now.at)) c.as_slice.ensures.value) ∙ placed_given c.args.expr.now.at c.args.of.items
    ∙ ap (map (λ (i : ℕ). record { flow = flow_no i; at = c.args.expr.now.at })) (sym (no_given c.args.made.now.next.flow c.args.expr.now.pre c.args.expr.now.post (map flow_of c.args.of.items) none.0 none.1))

pub returns-then-not-has_operators-clause-types : goal.returns-then-not-has_operators-clause-types
returns-then-not-has_operators-clause-types c =
    let none = c.if-not-has_operators.ensures.none refl in
    ap types_of (c.in_ok-placed.ensures ∙ ap (map (placed_at c.args.expr.now.at)) c.as_slice.ensures.value) ∙ placed_types c.args.expr.now.at c.args.of.items
    ∙ sym (no_types c.args.expr.now.pre c.args.expr.now.post (types_of c.args.of.items) none.0 none.1)

pub returns-clause-args : goal.returns-clause-args
returns-clause-args c =
    let some = c.if-not-has_operators.ensures.some refl in
    let post = c.as_slice-post.ensures in
    let pre = c.as_slice-pre.ensures in
    let flow = ap (λ (x : Next). x.flow) c.in_ok-before.ensures.next ∙ ap (λ (x : Next). x.flow + length c.as_slice-pre.result.now) c.in_ok-after.ensures.next
    ∙ ap (λ ps. (c.args.made.now.next.flow + length ps) + length c.as_slice-pre.result.now) post ∙ ap (λ ps. (c.args.made.now.next.flow + length c.args.expr.now.post) + length ps) pre in
    ap (map arg_of) c.in_ok-one_term.ensures ∙ ap (λ n. record { flow = flow_no (n - 1); at = c.args.expr.now.at } ∷ []) flow
    ∙ ap (map (λ (i : ℕ). record { flow = flow_no i; at = c.args.expr.now.at })) (sym (given_last c.args.made.now.next.flow c.args.expr.now.pre c.args.expr.now.post (map flow_of c.args.of.items) some))

pub returns-clause-made : goal.returns-clause-made
returns-clause-made c =
    let s : Next = c.args.made.now.next in
    let post = c.as_slice-post.ensures in
    let pre = c.as_slice-pre.ensures in
    let first_taken = c.in_ok-after.ensures.next ∙ ap (λ ps. next_of (s.flow + length ps) s.app s.node) post in
    let both_taken = c.in_ok-before.ensures.next ∙ ap (λ (x : Next). next_of (x.flow + length c.as_slice-pre.result.now) x.app x.node) first_taken
    ∙ ap (λ ps. next_of ((s.flow + length c.args.expr.now.post) + length ps) s.app s.node) pre in
    let before = c.in_ok-before.ensures.first ∙ ap (λ (x : Next). x.flow) first_taken in
    let first = c.first_flow-first.ensures ∙ ap (λ ts. head_of (map flow_of ts)) c.as_slice-3.ensures.value in
    let ty = c.first_type-ty.ensures ∙ ap (λ ts. first_type (types_of ts)) c.as_slice-2.ensures.value in
    let inner = c.as_slice-4.ensures.value ∙ c.in_ok-inner.ensures ∙ ap reverse pre in
    let middle = c.inner_operand-middle.ensures (map flow_of c.args.of.items) s.flow first (c.in_ok-before.ensures.first ∙ ap (λ (x : Next). x.flow) c.in_ok-after.ensures.next)
    ∙ ap (λ ps. head_of (last_of (map flow_of c.args.of.items) (range_with_len s.flow (length ps)))) post in
    let one = c.in_ok-push_operators.ensures ∙ ap (λ ps. c.args.made.now.flows.items ++ flows_of (operators_over c.first_type-ty.result ps c.in_ok-after.after c.first_flow-first.result)) post in
    let many = ap (λ (x : Next). x.flow) first_taken in
    let below : (s.flow + length c.args.expr.now.post) + length c.args.expr.now.pre ≤ 4096 = omega (arith, c.in_ok-before.ensures.few, many, ap length pre) in
    let few = more_few s (length c.args.expr.now.post) (length c.args.expr.now.pre) below c.requires in
    operators_add c.args.made.now _ c.args.expr.now.pre c.args.expr.now.post c.as_slice-4.result.now _ _ (map flow_of c.args.of.items) c.in_ok-after.after c.in_ok-before.before _ _ _ _
    inner ty c.in_ok-after.ensures.first before first middle one c.in_ok-push_operators-2.ensures refl both_taken few
