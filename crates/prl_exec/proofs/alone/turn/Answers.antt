use Rattle.prl_base.proofs.Standard.{◌∙◌, sym, arith, get_or_default}
use Rattle.prl_rule.specs.Known.{run_of}
use Rattle.prl_exec.proofs.Noting.{turned, waits}
use Rattle.prl_exec.proofs.alone.turn.Goals as goal

pub returns-then-now-index-clause-told : goal.returns-then-now-index-clause-told
returns-then-now-index-clause-told g c = λ r list stands same noted.
    waits (run_of c.args.board.now.known) c.args.task.0 c.args.lone.now r list c.args.until.now.items c.args.now c.index.result.now stands same noted
    (get_or_default c.args.until.now.items c.args.task.0 0 c.index.result.now c.requires.task.1 ∙ sym c.index.ensures) c.if-now-index.true

pub returns-clause-told : goal.returns-clause-told
returns-clause-told g c = λ r list stands same noted.
    turned (run_of c.args.board.now.known) c.args.task.0 c.args.lone.now c.act_long-did.new.lone r list c.args.until.now.items c.next_release.result c.act_long-did.result c.requires.task.1
    (let t = c.act_long-did.ensures.tasks in let w = c.requires.task.0 in omega (arith, t, w)) noted (c.act_long-did.ensures.told r list stands) c.next_release.ensures
