use Rattle.prl_base.proofs.Standard.{map, string_bytes}
use Rattle.prl_explain.proofs.Readings.{named_is}
use Rattle.prl_explain.proofs.texts.read_part.Goals as goal

pub returns-in-Ok-clause-text : goal.returns-in-Ok-clause-text
returns-in-Ok-clause-text g c =
    named_is (map string_bytes c.args.words.now) c.args.part c.option_of.result.now c.in-Some.name.now c.most_of.result (g.F.Files.seen c.args.files.now).folder
    c.in-Ok.bytes.items c.option_of.ensures c.in-Some.ensures c.most_of.ensures c.in-Ok.ensures.content c.in-Ok.ensures.few
