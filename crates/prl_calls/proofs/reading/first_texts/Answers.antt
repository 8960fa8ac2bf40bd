use Rattle.prl_base.proofs.Standard.{refl, ◌∙◌, err_from_is_err_and}
use Rattle.prl_stages.specs.declared.faults.InputFile.TheVariants as parts
use Rattle.prl_base.proofs.Standard.{[], ◌∷◌, take}
use Rattle.prl_stages.specs.Vocabulary.{all_files}
use Rattle.prl_calls.proofs.Asked.{asks_to, asks_two}
use Rattle.prl_calls.proofs.Contents.{file_stop, kept, program_next, bodies_next, sensors_next}
use Rattle.prl_calls.proofs.reading.first_texts.Goals as goal

pub returns-in_err-program-clause-stop : goal.returns-in_err-program-clause-stop
returns-in_err-program-clause-stop g c =
    let x = err_from_is_err_and c.from_residual.result c.from_residual.ensures.1 in
    let old = g.F.Files.seen c.args.files.now in
    let command = c.args.command.now in
    rw (x.1, x.2) (file_stop old old (g.F.Files.seen c.read_part.new.files) command parts.Program c.in_err-program.field-0.0 refl refl
    (program_next old.folder command) c.in_err-program.ensures.stop)

pub returns-in_err-bodies-clause-stop : goal.returns-in_err-bodies-clause-stop
returns-in_err-bodies-clause-stop g c =
    let x = err_from_is_err_and c.from_residual-in_err-bodies.result c.from_residual-in_err-bodies.ensures.1 in
    let old = g.F.Files.seen c.args.files.now in
    let command = c.args.command.now in
    let p = c.in_ok-program.ensures in
    rw (x.1, x.2) (file_stop old (g.F.Files.seen c.read_part.new.files) (g.F.Files.seen c.read_part-2.new.files) command parts.Bodies c.in_err-bodies.field-0.0 (p.kept) (p.failed)
    (bodies_next old.folder command c.in_ok-program.program.items p.content) c.in_err-bodies.ensures.stop)

pub returns-in_err-sensors-clause-stop : goal.returns-in_err-sensors-clause-stop
returns-in_err-sensors-clause-stop g c =
    let x = err_from_is_err_and c.from_residual-in_err-sensors.result c.from_residual-in_err-sensors.ensures.1 in
    let old = g.F.Files.seen c.args.files.now in
    let command = c.args.command.now in
    let p = c.in_ok-program.ensures in
    let b = c.in_ok-bodies.ensures in
    let bodies = kept command parts.Bodies c.in_ok-bodies.bodies.items (p.kept) b.content in
    rw (x.1, x.2) (file_stop old (g.F.Files.seen c.read_part-2.new.files) (g.F.Files.seen c.read_part-3.new.files) command parts.Sensors c.in_err-sensors.field-0.0 (b.kept ∙ p.kept) (b.failed ∙ p.failed)
    (sensors_next old.folder command c.in_ok-program.program.items p.content c.in_ok-bodies.bodies.items bodies) c.in_err-sensors.ensures.stop)

pub returns-in_err-program-clause-asks : goal.returns-in_err-program-clause-asks
returns-in_err-program-clause-asks g c =
    let x = err_from_is_err_and c.from_residual.result c.from_residual.ensures.1 in
    let old = g.F.Files.seen c.args.files.now in
    let e = c.in_err-program.ensures in
    rw (x.1, x.2) (asks_to old old (g.F.Files.seen c.read_part.new.files) c.args.command.now parts.Program c.args.command.now.program c.in_err-program.field-0.0 e.stop e.asked)

pub returns-in_err-bodies-clause-asks : goal.returns-in_err-bodies-clause-asks
returns-in_err-bodies-clause-asks g c =
    let x = err_from_is_err_and c.from_residual-in_err-bodies.result c.from_residual-in_err-bodies.ensures.1 in
    let old = g.F.Files.seen c.args.files.now in
    let mid = g.F.Files.seen c.read_part.new.files in
    let new = g.F.Files.seen c.read_part-2.new.files in
    let command = c.args.command.now in
    let e = c.in_err-bodies.ensures in
    rw (x.1, x.2) (asks_to old mid new command parts.Bodies command.bodies c.in_err-bodies.field-0.0 e.stop
    (asks_two old mid new command (take 1 all_files) (parts.Bodies ∷ []) c.in_ok-program.ensures.asked e.asked))

pub returns-in_err-sensors-clause-asks : goal.returns-in_err-sensors-clause-asks
returns-in_err-sensors-clause-asks g c =
    let x = err_from_is_err_and c.from_residual-in_err-sensors.result c.from_residual-in_err-sensors.ensures.1 in
    let old = g.F.Files.seen c.args.files.now in
    let first = g.F.Files.seen c.read_part.new.files in
    let mid = g.F.Files.seen c.read_part-2.new.files in
    let new = g.F.Files.seen c.read_part-3.new.files in
    let command = c.args.command.now in
    let e = c.in_err-sensors.ensures in
    let two = asks_two old first mid command (take 1 all_files) (parts.Bodies ∷ []) c.in_ok-program.ensures.asked c.in_ok-bodies.ensures.asked in
    rw (x.1, x.2) (asks_to old mid new command parts.Sensors command.sensors c.in_err-sensors.field-0.0 e.stop
    (asks_two old mid new command (take 2 all_files) (parts.Sensors ∷ []) two e.asked))
