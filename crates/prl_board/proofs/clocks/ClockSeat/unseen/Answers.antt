use Rattle.prl_base.proofs.Standard.{arith, ◌≡◌, ℕ, get_or, length, List, refl, sym, ap, ◌∙◌, get_or_from_slice_get, slice_get_read}
use Rattle.prl_rule.specs.declared.views.View.{View}
use Rattle.prl_board.specs.ClockSeats.{ClockSeatView}
use Rattle.prl_board.proofs.Unseen.{none_due, none_left}
use Rattle.prl_board.proofs.clocks.ClockSeat.unseen.Goals.{else-job-jobs_of-via-then-job-jobs_of+else-deadline-self, else-job-jobs_of-via-else-job-jobs_of}
use Rattle.prl_board.proofs.clocks.ClockSeat.unseen.Goals as goal

pub returns-else-job-jobs_of : goal.returns-else-job-jobs_of
returns-else-job-jobs_of c = λ r said n u.
    let view : c.self.inside.seat.me.0 ≡ c.args.self.now.view = ap (λ (s : ClockSeatView). s.view) c.self.view_is in
    let now : r.now ≡ c.self.inside.now = said.now ∙ sym (ap (λ (s : ClockSeatView). s.now) c.self.view_is) in
    let looks : r.looks ≡ c.self.inside.looks.items = said.looks ∙ sym (ap (λ (s : ClockSeatView). s.looks) c.self.view_is) in
    let wide = c.self.invariant.1.wide c.args.board.now.known (ap (λ (v : View). v.constants) view ∙ c.requires.seat) in
    let look : get_or r.looks c.args.task.0 0 ≡ c.index-job.result.now =
    ap (λ (l : List ℕ). get_or l c.args.task.0 0) looks
    ∙ get_or_from_slice_get c.self.inside.looks.items c.args.task.0 c.index-job.result.now 0
    (slice_get_read c.self.inside.looks.items (length c.self.inside.looks.items) c.args.task.0 c.index-job.result.now refl (omega (arith, wide, c.requires.task)) c.index-job.ensures) in
    elim c.else-job-jobs_of.branch [
      | else-job-jobs_of-via-then-job-jobs_of+else-deadline-self w ↦
          (let early = w.if-deadline-self.false in let some = w.deadline.ensures.positive in let at = w.deadline.ensures.at in
          none_due c.args.board.now.known c.keeps_facts.ensures r c.args.task.0 c.index-job.result.now look (omega (arith, early, some, now, at)) n u)
      | else-job-jobs_of-via-else-job-jobs_of w ↦
          (let all = w.if-job-jobs_of.false in let jobs = c.jobs_of.ensures in
          none_left c.args.board.now.known r c.args.task.0 c.index-job.result.now look (omega (arith, all, jobs)) n u)
    ]
