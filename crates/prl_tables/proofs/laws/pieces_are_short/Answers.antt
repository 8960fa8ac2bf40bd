use Rattle.std.specs.Prelude.{◌^◌, ◌+◌}
use Rattle.prl_tables.proofs.Early.{piece_ends, piece_is_short}
use Rattle.prl_tables.proofs.laws.pieces_are_short.Goals as goal

pub returns-clause-end : goal.returns-clause-end
returns-clause-end c = λ plan is entry piece.
    piece_ends plan entry piece
    (c.look_ups_fit.ensures.horizon plan is (2 ^ 31 + plan.graph.hyper) entry.task.0 entry.job (c.classes_are_early.ensures.small plan is)
    (c.classes_are_early.ensures.job plan is entry.task.0 entry.job piece.task piece.class)).1

pub returns-clause-length : goal.returns-clause-length
returns-clause-length _ = piece_is_short
