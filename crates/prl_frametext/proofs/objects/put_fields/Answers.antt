use Rattle.prl_base.proofs.Standard.{◌++◌}
use Rattle.prl_frametext.specs.Objects.{job_tokens, mark_tokens, place_tokens, task_tokens}
use Rattle.prl_frametext.proofs.Pieces.{joined}
use Rattle.prl_frametext.proofs.objects.put_fields.Goals as goal

pub returns-clause-tokens : goal.returns-clause-tokens
returns-clause-tokens c = joined c.args.w.now.tokens (place_tokens c.args.slot ++ task_tokens c.args.plan.now.graph c.args.slot) (job_tokens c.args.slot ++ mark_tokens c.args.slot)
    c.put_front.new.w.tokens c.put_back.new.w.tokens c.in_ok-put_front.ensures.tokens c.in_ok-put_back.ensures.tokens
