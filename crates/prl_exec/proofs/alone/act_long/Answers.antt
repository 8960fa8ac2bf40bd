use Rattle.std.proofs.Common.{◌≡◌, ◌∙◌, subst, refl, ◌+◌, arith}
use Rattle.prl_rule.specs.Known.{run_of}
use Rattle.prl_exec.specs.code.Alone.{HasRunOn}
use Rattle.prl_exec.proofs.Noting.{none_yet, run_once, stops_so, stops_there}
use Rattle.prl_exec.proofs.alone.act_long.Goals as goal

pub loop-did-init : goal.loop-did-init
loop-did-init g c = record {
  lone = c.requires.lone;
  tasks = refl;
  steps = omega arith;
  told = λ r list stands. none_yet (run_of c.args.board.now.known) c.args.task.0 c.args.lone.now r list stands;
}

pub returns-then-not-poll-clause-told : goal.returns-then-not-poll-clause-told
returns-then-not-poll-clause-told g c = λ r list stands.
    let so_far = c.loop-did.invariant.told r list stands in
    stops_there (run_of c.args.board.now.known) c.args.task.0 c.loop-did.lone c.poll.new.lone r list c.loop-did.did so_far (c.if-not-poll.ensures.told r so_far.after so_far.stands)

pub returns-then-is_shut-clause-told : goal.returns-then-is_shut-clause-told
returns-then-is_shut-clause-told g c = λ r list stands.
    let so_far = c.loop-did.invariant.told r list stands in
    stops_so (run_of c.args.board.now.known) c.args.task.0 c.poll.new.lone r list (c.loop-did.did + 1) (omega arith)
    (run_once (run_of c.args.board.now.known) c.run_laws.ensures c.args.task.0 c.loop-did.lone c.poll.new.lone r list c.loop-did.did so_far (c.if-not-poll.ensures.told r so_far.after so_far.stands))

pub loop-did-preserved : goal.loop-did-preserved
loop-did-preserved g c =
    let steps = c.loop-did.invariant.steps in let more = c.poll.ensures.steps in
    record {
      lone = c.poll.ensures.lone;
      tasks = c.poll.ensures.tasks ∙ c.loop-did.invariant.tasks;
      steps = omega (arith, steps, more);
      told = λ r list stands.
          let so_far = c.loop-did.invariant.told r list stands in
          run_once (run_of c.args.board.now.known) c.run_laws.ensures c.args.task.0 c.loop-did.lone c.poll.new.lone r list c.loop-did.did so_far (c.if-not-poll.ensures.told r so_far.after so_far.stands);
    }

pub returns-clause-told : goal.returns-clause-told
returns-clause-told g c = λ r list stands.
    let test = c.loop-did-test.false in let end = c.loop-did.auto.did-end in
    let all : c.loop-did.did ≡ 1024 = omega (arith, test, end) in
    subst (HasRunOn (run_of c.args.board.now.known) c.args.task.0 c.loop-did.lone r list) all
    (stops_so (run_of c.args.board.now.known) c.args.task.0 c.loop-did.lone r list c.loop-did.did (omega (arith, all)) (c.loop-did.invariant.told r list stands))
