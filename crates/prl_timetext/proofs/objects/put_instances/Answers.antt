use Rattle.prl_base.proofs.Standard.{◌++◌, codes}
use Rattle.prl_timetext.specs.Objects.{count}
use Rattle.prl_timetext.proofs.Pieces.{joined}
use Rattle.prl_timetext.proofs.objects.put_instances.Goals as goal

pub returns-clause-tokens : goal.returns-clause-tokens
returns-clause-tokens c = joined c.args.w.now.tokens (count (codes "first_instance") c.args.skew.first) (count (codes "second_instance") c.args.skew.second) c.put_count.new.w.tokens c.put_count-2.new.w.tokens
    c.in_ok-put_count.ensures.tokens c.in_ok-put_count-2.ensures.tokens
