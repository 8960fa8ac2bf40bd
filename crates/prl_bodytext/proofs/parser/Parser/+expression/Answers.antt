use Rattle.prl_base.proofs.Standard.{map, sym, ap, ◌∙◌, arith, map_push}
use Rattle.prl_lex.proofs.Loops.{step_goes_on}
use Rattle.prl_lex.proofs.Nesting.{nested_step}
use Rattle.prl_bodytext.specs.declared.levels.Level.TheVariants as levels
use Rattle.prl_bodytext.specs.declared.words.Fixed.TheVariants as fixed
use Rattle.prl_bodytext.specs.Grammar.{Operand, Expression, bodies}
use Rattle.prl_bodytext.specs.Trees.{pair_view}
use Rattle.prl_bodytext.proofs.Right.{right, pair_steps, operand_fewer, token_fewer, after_fewer, run_left}
use Rattle.prl_bodytext.proofs.parser.Parser.+expression.Goals as goal

pub comparison-pair-requires : goal.comparison-pair-requires
comparison-pair-requires t c =
    let fewer = operand_fewer levels.Comparison c.args.self.now _ _ c.in_ok-first.ensures in
    (omega (arith, fewer), tt)

pub unary-primary-requires : goal.unary-primary-requires
unary-primary-requires t c =
    let left = run_left fixed.Minus c.args.self.now _ _ c.in_ok-ats.ensures in
    (omega (arith, left), tt)

pub negation-comparison-requires : goal.negation-comparison-requires
negation-comparison-requires t c =
    let left = run_left fixed.Not c.args.self.now _ _ c.in_ok-ats.ensures in
    (omega (arith, left), tt)

pub expression-returns : goal.expression-returns
unfolding Expression Operand bodies
expression-returns t c = rw (nested_step bodies right c.args.self.now) c.series.ensures

pub rights-more-preserved : goal.rights-more-preserved
rights-more-preserved t c =
    let steps = pair_steps c.args.level in
    let less = steps.fewer c.more.self _ _ c.in_ok-pair.ensures in
    let pushed = ap (map pair_view) c.in_ok-push.ensures.items ∙ map_push pair_view c.more.rights.items _ in
    record {
      exact = step_goes_on steps _ _ _ _ _ (sym c.begins_operator.ensures ∙ c.more-test.true) c.in_ok-pair.ensures pushed ∙ c.more.invariant.exact;
      shorter = omega (arith, less);
    }

pub conditional-boxed_after-requires-2 : goal.conditional-boxed_after-requires-2
conditional-boxed_after-requires-2 t c =
    let at = token_fewer fixed.If c.args.self.now _ _ c.in_ok-at.ensures in
    let test = after_fewer fixed.Open c.expect.new.self _ _ c.in_ok-test.ensures in
    (omega (arith, at, test), tt)

pub conditional-closing-requires : goal.conditional-closing-requires
conditional-closing-requires t c =
    let at = token_fewer fixed.If c.args.self.now _ _ c.in_ok-at.ensures in
    let test = after_fewer fixed.Open c.expect.new.self _ _ c.in_ok-test.ensures in
    let chosen = after_fewer fixed.Comma c.boxed_after.new.self _ _ c.in_ok-chosen.ensures in
    (omega (arith, at, test, chosen), tt)
