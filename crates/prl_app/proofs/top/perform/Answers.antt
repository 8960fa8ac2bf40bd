use Rattle.prl_base.proofs.Standard.{ℕ, List, map, subst, string_bytes}
use Rattle.prl_app.specs.Vocabulary.{Outside, IsWrittenBy}
use Rattle.prl_app.proofs.Exact.{stop_performs, written_ends, written_reads}
use Rattle.prl_app.proofs.top.perform.Goals as goal

pub returns-in-Ok-clause-ends : goal.returns-in-Ok-clause-ends
returns-in-Ok-clause-ends g c = λ err_old err_new.
    let words = map string_bytes c.args.words.now in
    let old : Outside = record { files = g.F.Files.seen c.args.files.now; out = g.S.Sink.seen c.args.out.now; err = err_old } in
    let new : Outside = record { files = g.F.Files.seen c.answer.new.files; out = g.S.Sink.seen c.written.new.out; err = err_new } in
    let a = c.in-Ok.ensures in
    written_ends words old new c.in-Ok.text.items c.in-Ok.ran c.written.result
    (record { command = c.args.command.now; asked = c.requires.asked; given = a.text.0; is_given = a.text.1; comes = a.text.2; meant = a.text.3 })
    (subst (λ (t : List ℕ). IsWrittenBy old.out new.out t c.in-Ok.ran c.written.result) c.deref.ensures.value c.written.ensures) a.failed

pub returns-in-Err-clause-ends : goal.returns-in-Err-clause-ends
returns-in-Err-clause-ends g c =
    stop_performs (map string_bytes c.args.words.now) (g.F.Files.seen c.args.files.now) (g.F.Files.seen c.answer.new.files) (g.S.Sink.seen c.args.out.now)
    c.args.command.now c.requires.asked c.in-Err.stop c.in-Err.ensures.stop

pub returns-in-Ok-clause-read : goal.returns-in-Ok-clause-read
returns-in-Ok-clause-read g c =
    let old = g.S.Sink.seen c.args.out.now in
    let new = g.S.Sink.seen c.written.new.out in
    written_reads c.args.command.now (g.F.Files.seen c.args.files.now) (g.F.Files.seen c.answer.new.files) old new c.in-Ok.text.items c.in-Ok.ran c.written.result
    (subst (λ (t : List ℕ). IsWrittenBy old new t c.in-Ok.ran c.written.result) c.deref.ensures.value c.written.ensures) c.in-Ok.ensures.asked
