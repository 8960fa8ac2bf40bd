use Rattle.std.proofs.Common.{refl, ◌∙◌, arith}
use Rattle.prl_rule.specs.Known.{run_of}
use Rattle.prl_table.proofs.Driven.{begun, bounded, done_now, goes_on}
use Rattle.prl_table.proofs.noted.do_all.Goals as goal

pub loop-place-init : goal.loop-place-init
loop-place-init g c = record {
  lone = c.requires.lone;
  tasks = refl;
  doing = λ is facts state. begun c.args.board.now.known c.args.table.now is facts state c.args.lone.now c.args.next.now.items c.args.now c.args.task.0 c.args.job c.requires.task
      c.requires.driven c.requires.next;
}

pub poll-requires-clause-task : goal.poll-requires-clause-task
poll-requires-clause-task g c = (let t = c.requires.task in let n = c.loop-place.invariant.tasks in omega (arith, t, n))

pub job-requires : goal.job-requires
job-requires g c = (let t = c.requires.task in let n = c.loop-place.invariant.tasks in let p = c.poll.ensures.tasks in omega (arith, t, n, p))

pub returns-then-job-clause-tasks : goal.returns-then-job-clause-tasks
returns-then-job-clause-tasks g c = c.poll.ensures.tasks ∙ c.loop-place.invariant.tasks

pub returns-then-job-clause-done : goal.returns-then-job-clause-done
returns-then-job-clause-done g c =
    done_now c.args.board.now.known c.args.table.now c.requires.board c.keeps_facts.ensures (c.run_of_two_lists.ensures.state (run_of c.args.board.now.known)) c.loop-place.lone c.poll.new.lone
    c.args.next.now.items c.args.now c.args.task.0 c.args.job c.loop-place._place
    c.requires.next.job c.requires.next.acts (c.loop-place.invariant.doing c.requires.board c.keeps_facts.ensures (c.run_of_two_lists.ensures.state (run_of c.args.board.now.known))) c.poll.result
    c.poll.ensures.told
    (let t = c.requires.task in let n = c.loop-place.invariant.tasks in let p = c.poll.ensures.tasks in omega (arith, t, n, p)) c.job.result c.job.ensures c.if-job.true

pub loop-place-preserved : goal.loop-place-preserved
loop-place-preserved g c = record {
  lone = c.poll.ensures.lone;
  tasks = c.poll.ensures.tasks ∙ c.loop-place.invariant.tasks;
  doing = λ is facts state.
      goes_on c.args.board.now.known c.args.table.now is facts state c.loop-place.lone c.poll.new.lone c.args.next.now.items c.args.now c.args.task.0 c.args.job c.loop-place._place
      c.requires.next.job c.requires.next.acts (c.loop-place.invariant.doing is facts state) c.poll.result c.poll.ensures.told
      (let t = c.requires.task in let n = c.loop-place.invariant.tasks in let p = c.poll.ensures.tasks in omega (arith, t, n, p)) c.job.result c.job.ensures c.if-job.false;
}

pub unreachable-requires : goal.unreachable-requires
unreachable-requires g c =
    bounded c.args.board.now.known c.args.table.now c.requires.board c.keeps_facts.ensures (c.run_of_two_lists.ensures.state (run_of c.args.board.now.known)) c.loop-place.lone c.args.next.now.items
    c.args.now c.args.task.0 c.args.job c.loop-place._place
    c.requires.next.job (c.loop-place.invariant.doing c.requires.board c.keeps_facts.ensures (c.run_of_two_lists.ensures.state (run_of c.args.board.now.known))) c.loop-place-test.false
