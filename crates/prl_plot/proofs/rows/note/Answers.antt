use Rattle.std.proofs.Common.{◌∙◌, List, ℕ, Some, cond, ap}
use Rattle.std.specs.Str.{bytes_eq}
use Rattle.prl_plot.specs.Places.{at_name}
use Rattle.prl_plot.proofs.Tables.{written}
use Rattle.prl_plot.proofs.rows.note.Goals as goal

pub returns : goal.returns
returns c =
    λ other.
    written c.in_ok-from_slice.field-0.items c.args.places.now c.insert.new.self (Some c.args.place) c.in_ok-insert.ensures.updates other
    ∙ ap (λ (name : List ℕ). cond (bytes_eq name other) (Some c.args.place) (at_name c.args.places.now other)) c.in_ok-from_slice.ensures.items
