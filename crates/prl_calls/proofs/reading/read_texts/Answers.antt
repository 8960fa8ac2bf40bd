use Rattle.prl_base.proofs.Standard.{Option, sym, subst}
use Rattle.prl_stages.specs.Given.{Folder}
use Rattle.prl_calls.specs.code.Texts.{AreFirst}
use Rattle.prl_calls.proofs.Contents.{stop_after}
use Rattle.prl_calls.proofs.reading.read_texts.Goals as goal

pub returns-in-Err-clause-stop : goal.returns-in-Err-clause-stop
returns-in-Err-clause-stop g c =
    let old = g.F.Files.seen c.args.files.now in
    let mid = g.F.Files.seen c.first_texts.new.files in
    let new = g.F.Files.seen c.later_texts.new.files in
    let command = c.args.command.now in
    let f = c.in_ok-first.ensures in
    let made = c.in_ok-first.first in
    let first = subst (λ (told : Option Folder). AreFirst told command made.0.items made.1.items made.2.items) (sym f.kept) f.given in
    stop_after old mid new command c.in-Err.stop f.kept f.failed (c.in-Err.ensures.stop made.0.items made.1.items made.2.items first)
