use Rattle.prl_base.proofs.Standard.{◌≡◌, ◌<◌, length, sym, ap, subst, ◌∙◌, vec_items, Some, slice_get}
use Rattle.prl_seats.specs.JobSeats.{JobSeatView}
use Rattle.prl_board.specs.Vocabulary.{LoneView, place_of}
use Rattle.prl_board.proofs.Lists.{read_there}
use Rattle.prl_board.proofs.lone.Lone.place.Goals as goal

pub returns : goal.returns
returns c = λ s has.
    let inside : c.args.task.0 < length (vec_items c.self.inside.seats) = subst (λ (l : LoneView). c.args.task.0 < length l.seats) (sym c.self.view_is) c.requires in
    let there = read_there (vec_items c.self.inside.seats) c.args.task.0 c.index.result.now inside c.index.ensures in
    let one : c.index.result.now ≡ s = (let e : Some c.index.result.now ≡ Some s = sym there ∙ (ap (λ (l : LoneView). slice_get l.seats c.args.task.0) c.self.view_is ∙ has) in cc e) in
    c.place.ensures ∙ ap (λ (t : JobSeatView). place_of t.stage) one
