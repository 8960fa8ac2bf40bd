use Rattle.prl_timetext.specs.Texts.{head_words, instances_words}
use Rattle.prl_timetext.proofs.Pieces.{joined}
use Rattle.prl_timetext.proofs.texts.push_greatest.Goals as goal

pub returns : goal.returns
returns c =
    joined c.args.text.now.items (head_words c.args.skew) (instances_words c.args.skew) c.push_head.new.text.items c.push_instances.new.text.items c.in_ok-push_head.ensures
    c.in_ok-push_instances.ensures
