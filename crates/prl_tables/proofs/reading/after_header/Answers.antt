use Rattle.std.proofs.Common.{sym, ◌∙◌}
use Rattle.prl_tables.specs.TableTexts.{is_header}
use Rattle.prl_tables.proofs.TextLines.{after_none, after_no, after_yes}
use Rattle.prl_tables.proofs.reading.after_header.Goals as goal

pub returns-in-None : goal.returns-in-None
returns-in-None c = λ _. after_none 1 is_header c.args.text.now (sym c.in-None.ensures)

pub returns-then-is_header : goal.returns-then-is_header
returns-then-is_header c =
    after_yes 1 is_header c.args.text.now c.in-Some.line.now c.in-Some.rest.now (sym c.in-Some.ensures) (sym c.is_header.ensures ∙ c.if-is_header.true)

pub returns-else-is_header : goal.returns-else-is_header
returns-else-is_header c = λ _.
    after_no 1 is_header c.args.text.now c.in-Some.line.now c.in-Some.rest.now (sym c.in-Some.ensures) (sym c.is_header.ensures ∙ c.if-is_header.false)
