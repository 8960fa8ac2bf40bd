use Rattle.prl_base.proofs.Standard.{◌≡◌, List, ◌+◌, Result, Ok, sym, ap, ◌∙◌, subst, drop, [], drop_all, err_from_is_err_and}
use Rattle.prl_base.specs.declared.values.Ty.{Ty}
use Rattle.prl_body.specs.Vocabulary.{BodyFault, ExprRight, expression_of, pair_expressions, Expression, Rights, tree_of, pair_trees, typed, typed_rights}
use Rattle.prl_body.proofs.Lists.{next_of}
use Rattle.prl_body.proofs.TextSeries.{tree_of_Series}
use Rattle.prl_body.proofs.Typing.{expression_of_Series, typed_series, fails_series, rights_step, with_rights_none, prepended}
use Rattle.prl_body.proofs.types.+typing.Goals as goal

pub typed-returns-in_err-rights-in-Series : goal.typed-returns-in_err-rights-in-Series
typed-returns-in_err-rights-in-Series t c =
    let ins = c.args.scope.now.ins in
    let registers = c.args.scope.now.registers in
    let tree = tree_of c.in-Series.first.value in
    let p = err_from_is_err_and c.from_residual-in_err-rights-in-Series.result c.from_residual-in_err-rights-in-Series.ensures.1 in
    let code = expression_of c.in_ok-first-in-Series.first.value in
    let first : typed ins registers tree ≡ Ok (code, c.in_ok-first-in-Series.left) = rw c.deref-in-Series.ensures at c.in_ok-first-in-Series.ensures in
    let later = rw c.deref-in-Series-2.ensures.value at c.in_err-rights-in-Series.ensures in
    let fault = c.in_err-rights-in-Series.field-0.0 in
    rw (p.1, p.2, c.in-Series.is) (λ other. ap (typed ins registers) (tree_of_Series c.in-Series.first c.in-Series.rights)
    ∙ fails_series ins registers tree (pair_trees c.in-Series.rights.items) code c.in_ok-first-in-Series.left fault first (later other))

pub typed-returns-in_ok-rights-in-Series : goal.typed-returns-in_ok-rights-in-Series
typed-returns-in_ok-rights-in-Series t c =
    let ins = c.args.scope.now.ins in
    let registers = c.args.scope.now.registers in
    let tree = tree_of c.in-Series.first.value in
    let rights = pair_trees c.in-Series.rights.items in
    let code = expression_of c.in_ok-first-in-Series.first.value in
    let ty = c.in_ok-rights-in-Series.ty in
    let items = c.in_ok-rights-in-Series.rights.items in
    let first : typed ins registers tree ≡ Ok (code, c.in_ok-first-in-Series.left) = rw c.deref-in-Series.ensures at c.in_ok-first-in-Series.ensures in
    let later : typed_rights ins registers c.in_ok-first-in-Series.left rights ≡ Ok (pair_expressions items, ty) = rw c.deref-in-Series-2.ensures.value at c.in_ok-rights-in-Series.ensures in
    let whole = ap (typed ins registers) (tree_of_Series c.in-Series.first c.in-Series.rights) in
    let finish : Expression → Result (Expression × Ty) BodyFault = λ e. Ok (e, ty) in
    let done = ap finish (sym (expression_of_Series c.in_ok-first-in-Series.first c.in_ok-rights-in-Series.rights)) in
    rw c.in-Series.is (whole ∙ typed_series ins registers tree rights code (pair_expressions items) c.in_ok-first-in-Series.left ty first later ∙ done)

pub typed_rights-loop-pair-preserved : goal.typed_rights-loop-pair-preserved
typed_rights-loop-pair-preserved t c =
    let ins = c.args.scope.now.ins in
    let registers = c.args.scope.now.registers in
    let rights = c.args.rights.now in
    let k = c.loop-pair.pair-index in
    let whole = typed_rights ins registers c.args.left (pair_trees rights) in
    let next = next_of rights k c.pair-item.result c.loop-pair-test.true c.pair-item.is in
    let Before : List ExprRight → Type 0 = λ rest. prepended c.loop-pair.typed_ones.items (typed_rights ins registers c.loop-pair.ty (pair_trees rest)) ≡ whole in
    rw (c.in_ok-push.ensures.items, c.result_type-ty.ensures)
    (rights_step ins registers c.loop-pair.ty c.loop-pair.typed_ones.items c.pair-item.result (drop (k + 1) rights) c.in_ok-right.right c.in_ok-right.right_ty whole
    c.in_ok-right.ensures (sym c.allows.ensures ∙ c.if-not-allows.false) (subst Before next c.loop-pair.invariant))

pub typed_rights-returns : goal.typed_rights-returns
typed_rights-returns t c =
    let over : drop c.loop-pair.pair-index c.args.rights.now ≡ [] = drop_all c.loop-pair.pair-index c.args.rights.now c.loop-pair-test.false in
    let finish : Rights → Result (Rights × Ty) BodyFault = λ l. Ok (l, c.loop-pair.ty) in
    sym (rw over at c.loop-pair.invariant) ∙ ap finish (with_rights_none c.loop-pair.typed_ones.items)
