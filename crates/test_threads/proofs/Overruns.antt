-- After a read that is overrun the stop may be raised.
use Rattle.std.proofs.Common.{ℕ}
use Rattle.prl_base.specs.declared.numbers.CellNo.{CellNo}
use Rattle.prl_plan.specs.declared.events.Action.TheVariants as actions
use Rattle.prl_rule.specs.declared.views.Constants.{Constants}
use Rattle.prl_seats.specs.JobSeats.{JobSeatView, MayRaise}
use Rattle.prl_seats.specs.declared.jobs.Stage.{Stage}
use Rattle.prl_seats.specs.declared.jobs.Stage.TheVariants as stages
use Rattle.prl_board.specs.declared.seats.Got.TheVariants as gots
use Rattle.prl_board.specs.TaskSeats.{AnswersRead}

pub may_raise : (k : Constants) (before after : JobSeatView) (cell : CellNo) (wanted found : ℕ) (stage : Stage) →
    AnswersRead k before after (gots.Overrun cell wanted found) stage → MayRaise k after
may_raise k before after cell wanted found stages.Over answer = absurd answer
may_raise k before after cell wanted found stages.Idle answer = absurd answer
may_raise k before after cell wanted found (stages.At (actions.ReadConst port value)) answer = let same = answer.0 in absurd (cc same)
may_raise k before after cell wanted found (stages.At (actions.Read port e m slot)) answer = answer.answer.3
may_raise k before after cell wanted found (stages.At (actions.Write e m slot)) answer = absurd answer
may_raise k before after cell wanted found (stages.At actions.End) answer = absurd answer
