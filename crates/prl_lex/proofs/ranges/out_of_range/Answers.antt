use Rattle.std.proofs.Common.{◌+◌, ℕ, Option, Some, drop, sym, ap, ◌∙◌, arith}
use Rattle.prl_base.specs.declared.places.Span.{Span}
use Rattle.prl_lex.specs.Ranges.{inside_after, out_of_range}
use Rattle.prl_lex.proofs.RangeFaults.{fault_here, fault_later, no_fault}
use Rattle.prl_lex.proofs.ranges.out_of_range.Goals as goal

abbrev at_span : Span → Option ℕ
at_span s = Some s.at

pub returns-then-is_fault : goal.returns-then-is_fault
returns-then-is_fault g c =
    ap at_span c.at.ensures
    ∙ fault_here g.S.Syntax.texts.ranges c.each.inside c.each.last c.args.terminals.now c.each.terminal-index c.terminal-item.result _ (omega arith) c.terminal-item.is (sym c.is_fault.ensures ∙ c.if-is_fault.true) c.each.invariant

pub each-preserved : goal.each-preserved
each-preserved g c =
    ap (λ d. out_of_range g.S.Syntax.texts.ranges d c.class-last.result (drop (c.each.terminal-index + 1) c.args.terminals.now)) c.inside_after-inside.ensures
    ∙ ap (λ k. out_of_range g.S.Syntax.texts.ranges (inside_after g.S.Syntax.texts.ranges c.each.inside k) k (drop (c.each.terminal-index + 1) c.args.terminals.now)) c.class-last.ensures
    ∙ fault_later g.S.Syntax.texts.ranges c.each.inside c.each.last c.args.terminals.now c.each.terminal-index c.terminal-item.result _ (omega arith) c.terminal-item.is (sym c.is_fault.ensures ∙ c.if-is_fault.false) c.each.invariant

pub returns : goal.returns
returns g c = no_fault g.S.Syntax.texts.ranges c.each.inside c.each.last c.args.terminals.now c.each.terminal-index _ (omega arith) c.each.invariant
