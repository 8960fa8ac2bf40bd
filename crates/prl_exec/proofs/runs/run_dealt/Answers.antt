use Rattle.std.specs.Vec.{vec_items}
use Rattle.prl_board.specs.Lones.{AreSeatsOf}
use Rattle.prl_exec.proofs.runs.run_dealt.Goals as goal

pub served-back-requires-clause-own : goal.served-back-requires-clause-own
served-back-requires-clause-own g c κs outlives =
    let b = c.in_ok-board.board in let first = c.in_ok-board.ensures.seats in
    let of : AreSeatsOf b (vec_items c.in_ok-board.seats) = record { tasks = first.tasks; each = λ i s has. let f = first.each i s has in (f.0, f.1.task) } in
    c.in_ok-dealt.ensures.own b of

pub served-back-requires-clause-hands : goal.served-back-requires-clause-hands
served-back-requires-clause-hands g c κs outlives =
    let b = c.in_ok-board.board in let first = c.in_ok-board.ensures.seats in
    let of : AreSeatsOf b (vec_items c.in_ok-board.seats) = record { tasks = first.tasks; each = λ i s has. let f = first.each i s has in (f.0, f.1.task) } in
    c.in_ok-dealt.ensures.hands b of
