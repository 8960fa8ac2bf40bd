use Rattle.prl_base.proofs.Standard.{◌++◌, codes}
use Rattle.prl_timetext.specs.Objects.{used_tokens, reaction_tokens, others_tokens}
use Rattle.prl_timetext.proofs.Pieces.{joined}
use Rattle.prl_timetext.proofs.objects.put_known.Goals as goal

pub returns-clause-tokens : goal.returns-clause-tokens
returns-clause-tokens c = joined c.args.w.now.tokens (used_tokens c.args.ages ++ reaction_tokens c.args.ages) (others_tokens c.args.ages) c.put_reaction.new.w.tokens c.put_others.new.w.tokens
    (joined c.args.w.now.tokens (used_tokens c.args.ages) (reaction_tokens c.args.ages) c.put_used.new.w.tokens c.put_reaction.new.w.tokens
    c.in_ok-put_used.ensures.tokens c.in_ok-put_reaction.ensures.tokens)
    c.in_ok-put_others.ensures.tokens
