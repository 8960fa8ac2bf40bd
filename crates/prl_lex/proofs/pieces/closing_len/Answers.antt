use Rattle.prl_base.proofs.Standard.{sym, ap, ◌∙◌, arith, take_rest}
use Rattle.prl_lex.specs.Tokens.{begins}
use Rattle.prl_lex.proofs.Closing.{closing_more}
use Rattle.prl_lex.proofs.pieces.closing_len.Goals as goal

pub loop-i-preserved : goal.loop-i-preserved
loop-i-preserved c =
    let text = c.args.text.now in
    let i = c.loop-i.i in
    sym (closing_more text i (omega arith) (ap (begins 42 41) (sym (take_rest text i)) ∙ sym c.begins.ensures ∙ c.if-begins.false)) ∙ c.loop-i.invariant
