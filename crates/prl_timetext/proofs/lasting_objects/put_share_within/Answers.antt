use Rattle.prl_timetext.specs.Objects.{share_tokens, within_tokens}
use Rattle.prl_timetext.proofs.Pieces.{joined}
use Rattle.prl_timetext.proofs.lasting_objects.put_share_within.Goals as goal

pub returns-clause-tokens : goal.returns-clause-tokens
returns-clause-tokens c = joined c.args.w.now.tokens (within_tokens c.args.from c.args.to) (share_tokens c.args.task.now c.args.share) c.put_within.new.w.tokens c.put_share.new.w.tokens
    c.in_ok-put_within.ensures.tokens c.in_ok-put_share.ensures.tokens
