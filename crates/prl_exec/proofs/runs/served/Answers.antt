use Rattle.prl_base.proofs.Standard.{◌-◌, ◌%◌, ◌<◌, ℕ, arith, inl, inr, cases_eq}
use denote.Param.Send.{sendable}
use denote.Ref.{NamedLft}
use Rattle.prl_seats.specs.contracts.board.Board as Board
use Rattle.prl_seats.proofs.Crossing.{board_sync}
use Rattle.prl_exec.proofs.runs.BoardCrew.TheSendSync as crew
use Rattle.prl_exec.proofs.runs.served.Goals as goal

pub serve_all-hand-requires-sync-S : goal.serve_all-hand-requires-sync-S
serve_all-hand-requires-sync-S g c κs outlives =
    let h = λ (a : NamedLft) (b : NamedLft). crew.the_sync a (Board.the_row b) _ (board_sync b) c.type_bounds.sync-P in
    search (h, sendable) depth 6

pub collected-requires-clause-all : goal.collected-requires-clause-all
collected-requires-clause-all g c = λ i inside.
    let back = c.serve_all-hand.ensures in let wide = back.held.wide in
    let count = c.requires.workers.2 in let few = c.requires.workers.0 in
    let m : ℕ = i % c.args.workers in
    let below : m < c.args.workers = omega (arith, few) in
    elim (cases_eq m 0) [
      | inl zero_ ↦ back.kept i (c.requires.own.1 i (omega (arith, inside, wide)) zero_)
      | inr some_ ↦ back.back (m - 1) (omega (arith, below, count, some_)) i (omega (arith, inside, wide)) (omega (arith, some_))
    ]
