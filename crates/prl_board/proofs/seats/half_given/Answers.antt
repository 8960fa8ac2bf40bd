use Rattle.std.proofs.Common.{refl, sym, ap, ◌∙◌}
use Rattle.prl_values.specs.Workers.{HasBegun}
use Rattle.prl_rule.specs.RunValues.{half_with}
use Rattle.prl_board.proofs.Worked.{given_half, out_there, write_may}
use Rattle.prl_board.proofs.Begun.{begun_with, ready_with}
use Rattle.prl_board.proofs.seats.half_given.Goals as goal

pub begin-requires : goal.begin-requires
begin-requires c = ready_with c.args.board.now.known.sensors c.sensors.result.now c.args.board.now.known.bodies c.bodies.result.now c.args.job c.args.job c.sensors.ensures c.bodies.ensures refl c.args.worker.now (write_may c.args.board.now.known c.keeps_values.ensures.work c.keeps_values.ensures.values c.args.task.0 c.args.job c.requires.0 c.requires.1 c.args.worker.now c.requires.3 c.args.edge c.args.job c.args.slot c.requires.2)

pub given-requires : goal.given-requires
given-requires c =
    let begun : HasBegun c.args.board.now.known.sensors c.args.board.now.known.bodies c.args.job c.args.worker.now c.begin.new.self = begun_with c.args.board.now.known.sensors c.sensors.result.now c.args.board.now.known.bodies c.bodies.result.now c.args.job c.args.job c.sensors.ensures c.bodies.ensures refl c.args.worker.now c.begin.new.self c.begin.ensures in
    out_there c.args.board.now.known c.keeps_values.ensures.work c.keeps_values.ensures.values c.args.task.0 c.args.job c.requires.0 c.requires.1 c.args.worker.now c.requires.3 c.args.edge c.args.job c.args.slot c.requires.2 c.begin.new.self begun c.output_of.ensures.0 c.output_of.result c.output_of.ensures.1

pub returns-then-is_low-clause-half : goal.returns-then-is_low-clause-half
returns-then-is_low-clause-half c =
    let begun : HasBegun c.args.board.now.known.sensors c.args.board.now.known.bodies c.args.job c.args.worker.now c.begin.new.self = begun_with c.args.board.now.known.sensors c.sensors.result.now c.args.board.now.known.bodies c.bodies.result.now c.args.job c.args.job c.sensors.ensures c.bodies.ensures refl c.args.worker.now c.begin.new.self c.begin.ensures in
    let gives = given_half c.args.board.now.known c.keeps_values.ensures.work c.keeps_values.ensures.values c.args.task.0 c.args.job c.requires.0 c.requires.1 c.args.worker.now c.requires.3 c.args.edge c.args.job c.args.slot c.requires.2 c.begin.new.self begun c.output_of.ensures.0 c.output_of.result c.output_of.ensures.1 c.given.result c.given.ensures c.halves-low.ensures.fits in
    (c.halves-low.ensures.halves.0 ∙ ap (half_with c.given.result) (sym c.if-is_low.ensures.yes) ∙ gives.0, gives.1)

pub returns-else-is_low-clause-half : goal.returns-else-is_low-clause-half
returns-else-is_low-clause-half c =
    let begun : HasBegun c.args.board.now.known.sensors c.args.board.now.known.bodies c.args.job c.args.worker.now c.begin.new.self = begun_with c.args.board.now.known.sensors c.sensors.result.now c.args.board.now.known.bodies c.bodies.result.now c.args.job c.args.job c.sensors.ensures c.bodies.ensures refl c.args.worker.now c.begin.new.self c.begin.ensures in
    let gives = given_half c.args.board.now.known c.keeps_values.ensures.work c.keeps_values.ensures.values c.args.task.0 c.args.job c.requires.0 c.requires.1 c.args.worker.now c.requires.3 c.args.edge c.args.job c.args.slot c.requires.2 c.begin.new.self begun c.output_of.ensures.0 c.output_of.result c.output_of.ensures.1 c.given.result c.given.ensures c.halves-low.ensures.fits in
    (c.halves-low.ensures.halves.1 ∙ ap (half_with c.given.result) (sym c.if-is_low.ensures.no) ∙ gives.0, gives.1)
