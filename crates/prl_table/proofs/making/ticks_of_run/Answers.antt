use Rattle.std.proofs.Common.{List, ◌∙◌, subst}
use Rattle.prl_edf.specs.Pieces.{run_of}
use Rattle.prl_edf.specs.declared.pieces.Piece.{Piece}
use Rattle.prl_table.specs.code.Ticks.{HasTicks}
use Rattle.prl_table.proofs.MadeCode.{are_of_plan}
use Rattle.prl_table.proofs.making.ticks_of_run.Goals as goal

pub returns-clause-length : goal.returns-clause-length
returns-clause-length c = c.in_ok-ticks.ensures.length ∙ c.requires.until

pub returns-clause-ticks : goal.returns-clause-ticks
returns-clause-ticks c = subst (λ (ps : List Piece). HasTicks (run_of ps) c.in_ok-ticks.ticks.items) c.as_slice.ensures c.in_ok-ticks.ensures.ticks

pub returns-clause-jobs : goal.returns-clause-jobs
returns-clause-jobs c =
    are_of_plan c.args.plan.now c.graph.ensures.plan c.args.horizon (run_of c.args.timed.now.pieces) c.requires.run.plain.edf c.in_ok-ticks.ticks.items
    (subst (λ (ps : List Piece). HasTicks (run_of ps) c.in_ok-ticks.ticks.items) c.as_slice.ensures c.in_ok-ticks.ensures.ticks)
