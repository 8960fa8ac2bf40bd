use Rattle.prl_base.proofs.Standard.{◌++◌, codes}
use Rattle.prl_timetext.specs.Objects.{count, interval_tokens}
use Rattle.prl_timetext.proofs.Pieces.{joined}
use Rattle.prl_timetext.proofs.objects.put_overload.Goals as goal

pub returns-clause-tokens : goal.returns-clause-tokens
returns-clause-tokens c = joined c.args.w.now.tokens (interval_tokens c.args.from c.args.to) (count (codes "demand") c.args.demand) c.put_interval.new.w.tokens c.put_count.new.w.tokens
    c.in_ok-put_interval.ensures.tokens c.in_ok-put_count.ensures.tokens
