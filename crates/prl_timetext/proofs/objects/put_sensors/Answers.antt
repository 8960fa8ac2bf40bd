use Rattle.prl_base.proofs.Standard.{◌++◌, codes}
use Rattle.prl_timetext.specs.Objects.{pair_tokens, word}
use Rattle.prl_timetext.proofs.Pieces.{joined}
use Rattle.prl_timetext.proofs.objects.put_sensors.Goals as goal

pub returns-clause-tokens : goal.returns-clause-tokens
returns-clause-tokens c = joined c.args.w.now.tokens (pair_tokens (codes "skew") (codes "first") c.args.first.now) (word (codes "second") c.args.second.now) c.put_pair.new.w.tokens c.put_word.new.w.tokens
    c.in_ok-put_pair.ensures.tokens c.in_ok-put_word.ensures.tokens
