use Rattle.prl_base.proofs.Standard.{refl, ◌∙◌, err_from_is_err_and}
use Rattle.prl_stages.specs.declared.faults.InputFile.TheVariants as parts
use Rattle.prl_base.proofs.Standard.{[], ◌∷◌, take}
use Rattle.prl_stages.specs.Vocabulary.{all_files}
use Rattle.prl_calls.proofs.Asked.{asks_to, asks_two}
use Rattle.prl_calls.proofs.Contents.{file_stop, kept, schedule_next, table_next, cores_next}
use Rattle.prl_calls.proofs.reading.later_texts.Goals as goal

pub returns-in_err-schedule-clause-stop : goal.returns-in_err-schedule-clause-stop
returns-in_err-schedule-clause-stop g c p b s first =
    let x = err_from_is_err_and c.from_residual.result c.from_residual.ensures.1 in
    let old = g.F.Files.seen c.args.files.now in
    let command = c.args.command.now in
    rw (x.1, x.2) (file_stop old old (g.F.Files.seen c.read_part.new.files) command parts.Schedule c.in_err-schedule.field-0.0 refl refl
    (schedule_next old.folder command p first.program b first.bodies s first.sensors) c.in_err-schedule.ensures.stop)

pub returns-in_err-table-clause-stop : goal.returns-in_err-table-clause-stop
returns-in_err-table-clause-stop g c p b s first =
    let x = err_from_is_err_and c.from_residual-in_err-table.result c.from_residual-in_err-table.ensures.1 in
    let old = g.F.Files.seen c.args.files.now in
    let command = c.args.command.now in
    let e = c.in_ok-schedule.ensures in
    rw (x.1, x.2) (file_stop old (g.F.Files.seen c.read_part.new.files) (g.F.Files.seen c.read_part-2.new.files) command parts.Table c.in_err-table.field-0.0 (e.kept) (e.failed)
    (table_next old.folder command p first.program b first.bodies s first.sensors c.in_ok-schedule.schedule.items e.content) c.in_err-table.ensures.stop)

pub returns-in_err-cores-clause-stop : goal.returns-in_err-cores-clause-stop
returns-in_err-cores-clause-stop g c p b s first =
    let x = err_from_is_err_and c.from_residual-in_err-cores.result c.from_residual-in_err-cores.ensures.1 in
    let old = g.F.Files.seen c.args.files.now in
    let command = c.args.command.now in
    let e = c.in_ok-schedule.ensures in
    let t = c.in_ok-table.ensures in
    let table = kept command parts.Table c.in_ok-table.table.items (e.kept) t.content in
    rw (x.1, x.2) (file_stop old (g.F.Files.seen c.read_part-2.new.files) (g.F.Files.seen c.read_part-3.new.files) command parts.Cores c.in_err-cores.field-0.0 (t.kept ∙ e.kept) (t.failed ∙ e.failed)
    (cores_next old.folder command p first.program b first.bodies s first.sensors c.in_ok-schedule.schedule.items e.content c.in_ok-table.table.items table) c.in_err-cores.ensures.stop)

pub returns-in_err-schedule-clause-asks : goal.returns-in_err-schedule-clause-asks
returns-in_err-schedule-clause-asks g c before asked =
    let x = err_from_is_err_and c.from_residual.result c.from_residual.ensures.1 in
    let old = g.F.Files.seen c.args.files.now in
    let new = g.F.Files.seen c.read_part.new.files in
    let command = c.args.command.now in
    let e = c.in_err-schedule.ensures in
    rw (x.1, x.2) (asks_to before old new command parts.Schedule command.schedule c.in_err-schedule.field-0.0 e.stop
    (asks_two before old new command (take 3 all_files) (parts.Schedule ∷ []) asked e.asked))

pub returns-in_err-table-clause-asks : goal.returns-in_err-table-clause-asks
returns-in_err-table-clause-asks g c before asked =
    let x = err_from_is_err_and c.from_residual-in_err-table.result c.from_residual-in_err-table.ensures.1 in
    let old = g.F.Files.seen c.args.files.now in
    let mid = g.F.Files.seen c.read_part.new.files in
    let new = g.F.Files.seen c.read_part-2.new.files in
    let command = c.args.command.now in
    let e = c.in_err-table.ensures in
    let four = asks_two before old mid command (take 3 all_files) (parts.Schedule ∷ []) asked c.in_ok-schedule.ensures.asked in
    rw (x.1, x.2) (asks_to before mid new command parts.Table command.table c.in_err-table.field-0.0 e.stop
    (asks_two before mid new command (take 4 all_files) (parts.Table ∷ []) four e.asked))

pub returns-in_err-cores-clause-asks : goal.returns-in_err-cores-clause-asks
returns-in_err-cores-clause-asks g c before asked =
    let x = err_from_is_err_and c.from_residual-in_err-cores.result c.from_residual-in_err-cores.ensures.1 in
    let old = g.F.Files.seen c.args.files.now in
    let first = g.F.Files.seen c.read_part.new.files in
    let mid = g.F.Files.seen c.read_part-2.new.files in
    let new = g.F.Files.seen c.read_part-3.new.files in
    let command = c.args.command.now in
    let e = c.in_err-cores.ensures in
    let four = asks_two before old first command (take 3 all_files) (parts.Schedule ∷ []) asked c.in_ok-schedule.ensures.asked in
    let five = asks_two before first mid command (take 4 all_files) (parts.Table ∷ []) four c.in_ok-table.ensures.asked in
    rw (x.1, x.2) (asks_to before mid new command parts.Cores command.cores c.in_err-cores.field-0.0 e.stop
    (asks_two before mid new command (take 5 all_files) (parts.Cores ∷ []) five e.asked))
