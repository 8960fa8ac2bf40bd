use Rattle.prl_base.proofs.Standard.{◌≡◌, List, map, Ok, refl, sym, ap, ◌∙◌, subst, arith, map_push, err_from_is_err_and}
use Rattle.prl_ast.specs.Trees.{tree_of}
use Rattle.prl_ast.specs.declared.expressions.PlacedOp.{PlacedOp}
use Rattle.prl_lex.specs.Vocabulary.{read_nested, Lexeme, Read}
use Rattle.prl_syntax.specs.Vocabulary.{Link, programs, Step, link_view, with_prefixes}
use Rattle.prl_lex.proofs.Loops.{step_goes_on}
use Rattle.prl_syntax.proofs.Links.{stem_goes_on, stem_ends, stem_fails}
use Rattle.prl_syntax.proofs.Right.{link_fewer, comma_expr_steps, expr_fewer}
use Rattle.prl_syntax.proofs.parser.Parser.+expression.Goals as goal

abbrev seen : Link → List Lexeme → Read Step
seen link rest = Ok (link_view link, rest)

pub stem-returns-in_err-link : goal.stem-returns-in_err-link
stem-returns-in_err-link t c =
    let p = err_from_is_err_and c.from_residual.result c.from_residual.ensures.1 in
    rw (p.1, p.2) (stem_fails c.in_err-link.field-0.0 c.each.prefixes.items c.each.self _ c.in_err-link.ensures c.each.invariant.exact)

pub stem-each-smaller : goal.stem-each-smaller
stem-each-smaller t c = link_fewer c.each.self _ _ c.in_ok-link.ensures

pub stem-each-preserved : goal.stem-each-preserved
stem-each-preserved t c =
    let after = c.read_link.new.self in
    let read = c.in_ok-link.ensures ∙ ap (λ l. seen l after) c.in-Prefix.is in
    let P : List PlacedOp → Type 0 = λ ops. with_prefixes ops (read_nested programs after) ≡ with_prefixes c.args.front.items (read_nested programs c.args.self.now) in
    let fewer = link_fewer c.each.self _ after c.in_ok-link.ensures in
    record {
      exact = subst P (sym c.in_ok-push-in-Prefix.ensures.items) (stem_goes_on c.each.prefixes.items c.each.self after c.in-Prefix.op _ read c.each.invariant.exact);
      shorter = omega (arith, fewer);
    }

pub stem-returns-in-Base : goal.stem-returns-in-Base
stem-returns-in-Base t c =
    let after = c.read_link.new.self in
    stem_ends c.each.prefixes.items c.each.self after _ _ (c.in_ok-link.ensures ∙ ap (λ l. seen l after) c.in-Base.is) c.each.invariant.exact

pub closed_exprs-more_exprs-requires : goal.closed_exprs-more_exprs-requires
closed_exprs-more_exprs-requires t c =
    let fewer = expr_fewer c.args.self.now _ _ c.in_ok-first.ensures in
    (omega (arith, fewer), tt)

pub more_exprs-more-smaller : goal.more_exprs-more-smaller
more_exprs-more-smaller t c = comma_expr_steps.fewer c.more.self _ _ c.in_ok-comma_expr.ensures

pub more_exprs-more-preserved : goal.more_exprs-more-preserved
more_exprs-more-preserved t c =
    let fewer = comma_expr_steps.fewer c.more.self _ _ c.in_ok-comma_expr.ensures in
    record {
      exact = rw (ap (map tree_of) c.in_ok-push.ensures.items ∙ map_push tree_of c.more.exprs.items _) (step_goes_on comma_expr_steps _ _ _ _ _ (sym c.next_is.ensures ∙ c.more-test.true) c.in_ok-comma_expr.ensures refl ∙ c.more.invariant.exact);
      shorter = omega (arith, fewer);
    }
