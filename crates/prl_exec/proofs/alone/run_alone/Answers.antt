use Rattle.prl_board.specs.Openings.{first_clock}
use Rattle.prl_rule.specs.Known.{run_of}
use Rattle.std.specs.Vec.{vec_items}
use Rattle.std.proofs.Common.{refl}
use Rattle.prl_exec.proofs.Rounds.{all_ended, opening_stands}
use Rattle.prl_exec.proofs.alone.run_alone.Goals as goal

pub gather-lone-requires-clause-seats : goal.gather-lone-requires-clause-seats
gather-lone-requires-clause-seats g c =
    let first = c.in_ok-board.ensures.seats in record {
      tasks = first.tasks;
      each = λ i s has. let f = first.each i s has in (f.0, f.1.task);
    }

pub run_to_end-requires-clause-stands : goal.run_to_end-requires-clause-stands
run_to_end-requires-clause-stands g c =
    let k = c.in_ok-board.board.known in (
      first_clock (run_of k),
      opening_stands k c.run_laws.ensures c.in_ok-board.board (vec_items c.in_ok-board.seats) c.gather-lone.result refl c.in_ok-board.ensures.seats c.gather-lone.ensures.seats
          (c.gather-lone.ensures.clock (first_clock (run_of k)) c.in_ok-board.ensures.clock),
    )

pub returns-clause-ended : goal.returns-clause-ended
returns-clause-ended g c = λ k s known last.
    all_ended k c.close-closed.result.words c.run_to_end.new.lone.seats c.close-closed.result.seats c.run_to_end.ensures.over c.close-closed.ensures.seats (c.stands.ensures k known) s last
