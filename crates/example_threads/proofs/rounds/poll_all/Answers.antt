use Rattle.std.proofs.Common.{◌≡◌, ◌++◌, List, length, take, drop, vec_items, sym, ap, ◌∙◌, subst, rules}
use Rattle.std.proofs.Math.Seq.{take-append_seam}
use Rattle.std.specs.List.{All}
use Rattle.kebrunza.specs.Vocabulary.{AreSeatsOf, IsSeatOf, JobSeatView}
use Rattle.kebrunza.proofs.Seats.{seats_belong, seats_stepped}
use Rattle.example_threads.proofs.rounds.poll_all.Goals as goal

pub poll_each-requires : goal.poll_each-requires
poll_each-requires g c = (
  c.type_bounds.sync-R,
  subst (λ (xs : List JobSeatView). All (IsSeatOf c.args.board.now) xs) (sym c.as_mut_slice.ensures.value) (seats_belong c.args.board.now (vec_items c.args.seats.now) c.requires),
)

pub returns : goal.returns
returns g c =
    let b = c.args.board.now in
    let before : List JobSeatView = c.as_mut_slice.result.now in
    let after : List JobSeatView = c.poll_each.new.seats in
    let all : AreSeatsOf b before = subst (λ (xs : List JobSeatView). AreSeatsOf b xs) (sym c.as_mut_slice.ensures.value) c.requires in
    let long : length after ≡ length before = search rules in
    let wide : c.args.seats.now.len ≡ length after = search rules in
    let rest : List JobSeatView = drop (length after) c.args.seats.now.items in
    let same : take c.args.seats.now.len (after ++ rest) ≡ after = ap (λ n. take n (after ++ rest)) wide ∙ take-append_seam after rest in
    subst (λ (xs : List JobSeatView). AreSeatsOf b xs) (sym same) (seats_stepped b before after all long c.poll_each.ensures)
