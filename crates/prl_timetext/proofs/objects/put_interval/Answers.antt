use Rattle.prl_base.proofs.Standard.{◌++◌, codes}
use Rattle.prl_timetext.specs.Objects.{count, word}
use Rattle.prl_timetext.proofs.Pieces.{joined}
use Rattle.prl_timetext.proofs.objects.put_interval.Goals as goal

pub returns-clause-tokens : goal.returns-clause-tokens
returns-clause-tokens c = joined c.args.w.now.tokens (word (codes "row") (codes "overload") ++ count (codes "from") c.args.from) (count (codes "to") c.args.to) c.put_count.new.w.tokens c.put_count-2.new.w.tokens
    (joined c.args.w.now.tokens (word (codes "row") (codes "overload")) (count (codes "from") c.args.from) c.put_word.new.w.tokens c.put_count.new.w.tokens
    c.in_ok-put_word.ensures.tokens c.in_ok-put_count.ensures.tokens)
    c.in_ok-put_count-2.ensures.tokens
