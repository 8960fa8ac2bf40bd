use Rattle.prl_base.proofs.Standard.{◌≡◌, ◌+◌, List, drop, subst, ◌++◌, ◌∷◌, [], sym, ap, ◌∙◌, length, length-drop, arith, take_rest, err_from_is_err_and}
use Rattle.prl_lex.specs.Vocabulary.{tokens_from, tokens_of, Token, kind_of}
use Rattle.prl_lex.proofs.Laws.{digits_of_number}
use Rattle.prl_lex.proofs.Steps.{with_front, gap_step, bad_step, token_step, fault_step, all_read}
use Rattle.prl_lex.proofs.lexing.tokens_of.Goals as goal

pub returns-in-Bad : goal.returns-in-Bad
returns-in-Bad c =
    λ other. bad_step c.args.text.now _ c.loop-at.at c.loop-at.depth c.loop-at.tokens.items _
    (record { left = c.loop-at-test.true; rest_is = take_rest c.args.text.now c.loop-at.at; piece_is = c.in-Bad.ensures.exact; fits = c.in-Bad.ensures.fits; so_far = c.loop-at.invariant.exact })

pub loop-at-preserved-in-Gap : goal.loop-at-preserved-in-Gap
loop-at-preserved-in-Gap c =
    let rest_is = take_rest c.args.text.now c.loop-at.at in
    let fits = c.in-Gap.ensures.fits in
    record {
      exact = gap_step c.args.text.now _ c.loop-at.at c.loop-at.depth c.in-Gap.len c.loop-at.tokens.items _
          (record { left = c.loop-at-test.true; rest_is = rest_is; piece_is = c.in-Gap.ensures.exact; fits = fits; so_far = c.loop-at.invariant.exact });
      within = omega (arith, ap length rest_is, length-drop c.loop-at.at c.args.text.now, fits.1);
      depth = omega arith;
    }

pub checked-requires-clause-digits : goal.checked-requires-clause-digits
checked-requires-clause-digits c = digits_of_number _ c.in-Token.kind (c.in-Token.ensures.fits.2 ∙ ap kind_of (sym c.split_at.ensures.front))

pub returns-in_err-checked-in-Token : goal.returns-in_err-checked-in-Token
returns-in_err-checked-in-Token c =
    let p = err_from_is_err_and c.from_residual.result c.from_residual.ensures.1 in
    rw (p.1, p.2) (λ other. fault_step c.args.text.now _ c.split_at.result.0.now c.loop-at.at c.loop-at.depth c.in-Token.len c.depth_after-depth.result c.in-Token.kind c.loop-at.tokens.items c.in_err-checked-in-Token.field-0.0 _
    (record { left = c.loop-at-test.true; rest_is = take_rest c.args.text.now c.loop-at.at; piece_is = c.in-Token.ensures.exact; fits = c.in-Token.ensures.fits; so_far = c.loop-at.invariant.exact })
    c.split_at.ensures.front c.depth_after-depth.ensures.exact (sym c.in_err-checked-in-Token.ensures))

pub loop-at-preserved : goal.loop-at-preserved
loop-at-preserved c =
    let rest_is = take_rest c.args.text.now c.loop-at.at in
    let fits = c.in-Token.ensures.fits in
    let token = c.in_ok-checked-in-Token.field-0 in
    let pushed : c.push.new.self.items ≡ c.loop-at.tokens.items ++ token ∷ [] = c.in_ok-push-in-Token.ensures.items in
    let after : List Token → Type 0 = λ front. with_front front (tokens_from (c.loop-at.at + c.in-Token.len) c.depth_after-depth.result 0 (drop (c.loop-at.at + c.in-Token.len) c.args.text.now)) ≡ tokens_of c.args.text.now in
    record {
      exact = subst after (sym pushed) (token_step c.args.text.now _ c.split_at.result.0.now c.loop-at.at c.loop-at.depth c.in-Token.len c.depth_after-depth.result c.in-Token.kind c.loop-at.tokens.items token _
          (record { left = c.loop-at-test.true; rest_is = rest_is; piece_is = c.in-Token.ensures.exact; fits = fits; so_far = c.loop-at.invariant.exact })
          c.split_at.ensures.front c.depth_after-depth.ensures.exact (sym c.in_ok-checked-in-Token.ensures));
      within = omega (arith, ap length rest_is, length-drop c.loop-at.at c.args.text.now, fits.1);
      depth = omega (arith, ap length rest_is, length-drop c.loop-at.at c.args.text.now, c.depth_after-depth.ensures.within, c.split_at.ensures.front_len, fits.1);
    }

pub returns : goal.returns
returns c = all_read c.args.text.now c.loop-at.at c.loop-at.depth c.loop-at.tokens.items _ c.loop-at-test.false c.loop-at.invariant.exact
