use Rattle.prl_base.proofs.Standard.{◌<◌, ◌+◌, Some, length, sym, ◌∙◌, ap, arith, slice_get-get_or}
use Rattle.prl_rule.specs.Known.{run_of}
use Rattle.prl_base.proofs.Standard.{subst}
use Rattle.prl_rule.specs.Rule.{reached}
use Rattle.prl_table.specs.Noted.{AreNoted, HaveRoom}
use Rattle.prl_table.specs.code.Driving.{acts_at}
use Rattle.prl_table.proofs.Noting.{noted_one, noted_skip, room_kept}
use Rattle.prl_table.proofs.Driven.{acts_now, not_first_now, skipped}
use Rattle.prl_table.proofs.driving.act_at.Goals as goal

pub do_job-requires-clause-next : goal.do_job-requires-clause-next
do_job-requires-clause-next g c =
    let inside : c.args.task.0 < length c.args.next.now.items =
    (let t = c.requires.task in let n = c.requires.driven.stands.tasks in let w = c.requires.noted in omega (arith, t, n, w)) in
    acts_now c.args.board.now.known c.args.table.now c.requires.board c.keeps_facts.ensures (c.run_of_two_lists.ensures.state (run_of c.args.board.now.known)) c.args.driver.now.lone
    c.args.next.now.items c.args.now c.args.task.0 c.job-job.result c.requires.task c.requires.driven c.index.result.now
    (slice_get-get_or c.args.next.now.items c.args.task.0 c.index.result.now inside ∙ ap Some (sym c.index.ensures)) c.if-is_now.ensures.yes c.job-job.ensures

pub returns-else-is_now-clause-driven : goal.returns-else-is_now-clause-driven
returns-else-is_now-clause-driven g c =
    let inside : c.args.task.0 < length c.args.next.now.items =
    (let t = c.requires.task in let n = c.requires.driven.stands.tasks in let w = c.requires.noted in omega (arith, t, n, w)) in
    skipped c.args.board.now.known c.args.table.now c.requires.board c.keeps_facts.ensures (c.run_of_two_lists.ensures.state (run_of c.args.board.now.known)) c.args.driver.now.lone
    c.args.next.now.items c.args.now c.args.task.0 c.requires.task c.requires.driven c.index.result.now
    (slice_get-get_or c.args.next.now.items c.args.task.0 c.index.result.now inside ∙ ap Some (sym c.index.ensures)) c.if-is_now.ensures.no

pub returns-then-is_now-clause-room : goal.returns-then-is_now-clause-room
returns-then-is_now-clause-room g c =
    let inside : c.args.task.0 < length c.args.next.now.items =
    (let t = c.requires.task in let n = c.requires.driven.stands.tasks in let w = c.requires.noted in omega (arith, t, n, w)) in
    let next = acts_now c.args.board.now.known c.args.table.now c.requires.board c.keeps_facts.ensures (c.run_of_two_lists.ensures.state (run_of c.args.board.now.known)) c.args.driver.now.lone
    c.args.next.now.items c.args.now c.args.task.0 c.job-job.result c.requires.task c.requires.driven c.index.result.now
    (slice_get-get_or c.args.next.now.items c.args.task.0 c.index.result.now inside ∙ ap Some (sym c.index.ensures)) c.if-is_now.ensures.yes c.job-job.ensures in
    subst (HaveRoom (run_of c.args.board.now.known)) (sym (c.note.ensures.same ∙ c.do_job.ensures.noted))
    (room_kept (run_of c.args.board.now.known) c.args.driver.now.noted c.args.task.0 c.job-job.result c.args.now c.requires.room next.job)

pub returns-then-is_now-clause-after : goal.returns-then-is_now-clause-after
returns-then-is_now-clause-after g c =
    let inside : c.args.task.0 < length c.args.next.now.items =
    (let t = c.requires.task in let n = c.requires.driven.stands.tasks in let w = c.requires.noted in omega (arith, t, n, w)) in
    let next = acts_now c.args.board.now.known c.args.table.now c.requires.board c.keeps_facts.ensures (c.run_of_two_lists.ensures.state (run_of c.args.board.now.known)) c.args.driver.now.lone
    c.args.next.now.items c.args.now c.args.task.0 c.job-job.result c.requires.task c.requires.driven c.index.result.now
    (slice_get-get_or c.args.next.now.items c.args.task.0 c.index.result.now inside ∙ ap Some (sym c.index.ensures)) c.if-is_now.ensures.yes c.job-job.ensures in
    subst (AreNoted (run_of c.args.board.now.known) (acts_at c.args.board.now.known c.args.table.now) c.args.now (c.args.task.0 + 1)) (sym (c.note.ensures.same ∙ c.do_job.ensures.noted))
    (noted_one (run_of c.args.board.now.known) c.keeps_facts.ensures (acts_at c.args.board.now.known c.args.table.now) c.requires.board.placing c.args.driver.now.noted c.args.now c.args.task.0
    c.job-job.result c.requires.room next.job next.acts c.requires.before)

pub returns-else-is_now-clause-after : goal.returns-else-is_now-clause-after
returns-else-is_now-clause-after g c =
    let inside : c.args.task.0 < length c.args.next.now.items =
    (let t = c.requires.task in let n = c.requires.driven.stands.tasks in let w = c.requires.noted in omega (arith, t, n, w)) in
    noted_skip (run_of c.args.board.now.known) c.keeps_facts.ensures (acts_at c.args.board.now.known c.args.table.now) c.requires.board.placing c.args.driver.now.noted c.args.now c.args.task.0
    (reached (run_of c.args.board.now.known) c.requires.driven.list) c.requires.driven.acted
    (not_first_now c.args.board.now.known c.args.table.now c.requires.board c.keeps_facts.ensures (c.run_of_two_lists.ensures.state (run_of c.args.board.now.known)) c.args.driver.now.lone
    c.args.next.now.items c.args.now c.args.task.0 c.requires.task c.requires.driven c.index.result.now
    (slice_get-get_or c.args.next.now.items c.args.task.0 c.index.result.now inside ∙ ap Some (sym c.index.ensures)) c.if-is_now.ensures.no) c.requires.before
