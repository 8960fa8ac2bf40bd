use Rattle.std.proofs.Common.{sym, ◌∙◌}
use Rattle.prl_board.specs.declared.seats.Place.TheVariants as places
use Rattle.prl_board.specs.TaskSeats.{MayFinish, MayRead, MayRelease, MayWrite}
use Rattle.test_threads.proofs.Placed.{placed}
use Rattle.test_threads.proofs.lone_runs.act.Goals as goal

pub release-requires-clause-place : goal.release-requires-clause-place
release-requires-clause-place g c = placed MayRelease c.args.lone.now c.args.task.0 places.Idle c.requires.task (λ s has. sym c.in-Idle.is ∙ c.place.ensures s has) tt

pub release-requires-in-Over-clause-place : goal.release-requires-in-Over-clause-place
release-requires-in-Over-clause-place g c = placed MayRelease c.args.lone.now c.args.task.0 places.Over c.requires.task (λ s has. sym c.in-Over.is ∙ c.place.ensures s has) tt

pub read-requires-clause-place : goal.read-requires-clause-place
read-requires-clause-place g c =
    placed MayRead c.args.lone.now c.args.task.0 (places.Reading c.in-Reading.field-0 c.in-Reading.field-1) c.requires.task (λ s has. sym c.in-Reading.is ∙ c.place.ensures s has) tt

pub write-requires-clause-place : goal.write-requires-clause-place
write-requires-clause-place g c =
    placed MayWrite c.args.lone.now c.args.task.0 (places.Writing c.in-Writing.field-0 c.in-Writing.field-1) c.requires.task (λ s has. sym c.in-Writing.is ∙ c.place.ensures s has) tt

pub finish-requires-clause-place : goal.finish-requires-clause-place
finish-requires-clause-place g c = placed MayFinish c.args.lone.now c.args.task.0 places.Ending c.requires.task (λ s has. sym c.in-Ending.is ∙ c.place.ensures s has) tt
