use Rattle.std.proofs.Common.{◌≡◌, ◌∙◌, ℕ, List, length, sym, subst, arith}
use Rattle.prl_steps.specs.Flows.{FlowView}
use Rattle.prl_plot.specs.Places.{ArePlaces, IsNoted}
use Rattle.prl_plot.proofs.Placing.{begun_is, places_new}
use Rattle.prl_plot.proofs.rows.start.Goals as goal

pub returns-in_ok-note-in-Ok-clause-places : goal.returns-in_ok-note-in-Ok-clause-places
returns-in_ok-note-in-Ok-clause-places c =
    let flows = c.args.found.now.flows in
    let place : c.len-place.result ≡ length flows.items = omega (arith, c.len-place.ensures, flows.ok.0) in
    let name = c.args.entry.0.now in
    let P : ℕ → Type 0 = λ k. IsNoted c.args.found.now.places name k c.note.new.places in
    let Q : List FlowView → Type 0 = λ fs. ArePlaces c.note.new.places fs in
    subst Q (sym (begun_is c.args.number flows.items c.begin.new.flows.items (name, c.args.entry.1, c.args.entry.2) c.in-Ok.ensures))
    (places_new c.args.found.now.places c.note.new.places flows.items _ c.requires.places (sym (c.requires.places name) ∙ c.requires.new) (subst P place c.in_ok-note-in-Ok.ensures))
