use Rattle.std.proofs.Common.{◌∙◌, ◌||◌, List, ℕ, ap, refl, take}
use Rattle.std.specs.Option.{is_some}
use Rattle.prl_plot.specs.Asked.{is_named}
use Rattle.prl_plot.specs.Places.{at_bytes}
use Rattle.prl_plot.proofs.Tables.{last_named, next_named}
use Rattle.prl_plot.proofs.chosen.names_in.Goals as goal

pub returns-then-at-rest : goal.returns-then-at-rest
returns-then-at-rest c =
    last_named (take c.len_before-at.result c.loop-table.rest.now) c.loop-table.rest.now c.len_before-at.result c.args.names.now c.loop-table.table c.insert.new.self
    c.len_before-at.ensures.exact c.if-at-rest.true refl c.in_ok-insert.ensures.updates c.loop-table.invariant

pub loop-table-preserved : goal.loop-table-preserved
loop-table-preserved c =
    λ name.
    ap (λ (rest : List ℕ). is_some (at_bytes c.insert.new.self name) || is_named rest name) c.behind-rest.ensures
    ∙ next_named (take c.len_before-at.result c.loop-table.rest.now) c.loop-table.rest.now c.len_before-at.result c.args.names.now c.loop-table.table c.insert.new.self
    c.len_before-at.ensures.exact c.if-at-rest.false refl c.in_ok-insert.ensures.updates c.loop-table.invariant name
