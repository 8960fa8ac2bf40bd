use Rattle.std.proofs.Common.{sym, ◌∙◌}
use Rattle.prl_tables.specs.TableTexts.{tells_hyper}
use Rattle.prl_tables.proofs.TextLines.{after_none, after_no, after_yes}
use Rattle.prl_tables.proofs.reading.after_hyper.Goals as goal

pub returns-in-None : goal.returns-in-None
returns-in-None c = λ _. after_none 2 (tells_hyper c.args.hyper) c.args.text.now (sym c.in-None.ensures)

pub returns-then-tells_hyper : goal.returns-then-tells_hyper
returns-then-tells_hyper c =
    after_yes 2 (tells_hyper c.args.hyper) c.args.text.now c.in-Some.line.now c.in-Some.rest.now (sym c.in-Some.ensures) (sym c.tells_hyper.ensures ∙ c.if-tells_hyper.true)

pub returns-else-tells_hyper : goal.returns-else-tells_hyper
returns-else-tells_hyper c = λ _.
    after_no 2 (tells_hyper c.args.hyper) c.args.text.now c.in-Some.line.now c.in-Some.rest.now (sym c.in-Some.ensures) (sym c.tells_hyper.ensures ∙ c.if-tells_hyper.false)
