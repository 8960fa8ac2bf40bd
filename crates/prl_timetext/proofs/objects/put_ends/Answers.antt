use Rattle.prl_base.proofs.Standard.{◌++◌, codes}
use Rattle.prl_timetext.specs.Objects.{count, response_tokens}
use Rattle.prl_timetext.proofs.Pieces.{joined}
use Rattle.prl_timetext.proofs.objects.put_ends.Goals as goal

pub returns-clause-tokens : goal.returns-clause-tokens
returns-clause-tokens c = joined c.args.w.now.tokens (response_tokens c.args.times ++ count (codes "slack") c.args.times.slack) (count (codes "slack_job") c.args.times.tightest) c.put_count.new.w.tokens c.put_count-2.new.w.tokens
    (joined c.args.w.now.tokens (response_tokens c.args.times) (count (codes "slack") c.args.times.slack) c.put_response.new.w.tokens c.put_count.new.w.tokens
    c.in_ok-put_response.ensures.tokens c.in_ok-put_count.ensures.tokens)
    c.in_ok-put_count-2.ensures.tokens
