use Rattle.std.proofs.Common.{◌≡◌, ◌+◌, refl, sym, ap, subst, ◌∙◌}
use Rattle.prl_plan.specs.Runs.{action_at}
use Rattle.prl_plan.specs.declared.events.Action.{Action}
use Rattle.prl_seats.specs.Vocabulary.{Stage, Follows, JobSeatView, LoadsHalf}
use Rattle.prl_seats.specs.declared.jobs.Stage.TheVariants as stages
use Rattle.prl_rule.specs.Known.{run_of}
use Rattle.prl_rule.specs.declared.views.View.{View}
use Rattle.prl_seats.proofs.Following.{follows_on, found_follows, missed_follows, next_follows, seat_after, stands_in, stands_so}
use Rattle.prl_rule.proofs.Reading.{read_no_end}
use Rattle.prl_seats.proofs.jobs.JobSeat.load.Goals as goal

pub load_half-word-requires-clause-at : goal.load_half-word-requires-clause-at
load_half-word-requires-clause-at c = (stands_so c.self.view_is c.requires.seat c.self.invariant.1 c.requires.reads.2).follows.at

pub load_half-word-requires-clause-stands : goal.load_half-word-requires-clause-stands
load_half-word-requires-clause-stands c = (c.requires.reads.0, c.requires.reads.1, c.args.instance, stands_in (stands_so c.self.view_is c.requires.seat c.self.invariant.1 c.requires.reads.2))

pub place_after-self-inside-requires-clause-more : goal.place_after-self-inside-requires-clause-more
place_after-self-inside-requires-clause-more c = λ end.
    read_no_end c.requires.reads.0 c.requires.reads.1 c.args.instance c.args.slot (sym (stands_so c.self.view_is c.requires.seat c.self.invariant.1 c.requires.reads.2).follows.shown.2 ∙ end)

pub invariant_of-self : goal.invariant_of-self
invariant_of-self c =
    let at = stands_so c.self.view_is c.requires.seat c.self.invariant.1 c.requires.reads.2 in
    let told = c.load_half-word.ensures.told c.requires.reads.0 c.requires.reads.1 c.args.instance (stands_in at) in (
      c.load_half-word.ensures.same.2 ∙ c.self.invariant.0,
      follows_on (ap (λ (v : View). v.constants) told.view ∙ at.known)
          (subst (λ (z : Stage). Follows c.args.board.now.known c.load_half-word.new.seat.me.0 c.self.inside.task.0 c.self.inside.job c.self.inside.place z) (sym at.stage)
          (missed_follows c.args.board.now.known c.self.inside.task.0 _ _ c.self.inside.job _ _ _ _ _ _ at.follows told c.if-is_other.ensures.yes)),
    )

pub invariant_of-self-2 : goal.invariant_of-self-2
invariant_of-self-2 c =
    let at = stands_so c.self.view_is c.requires.seat c.self.invariant.1 c.requires.reads.2 in
    let told = c.load_half-word.ensures.told c.requires.reads.0 c.requires.reads.1 c.args.instance (stands_in at) in (
      c.load_half-word.ensures.same.2 ∙ c.self.invariant.0,
      follows_on (ap (λ (v : View). v.constants) told.view ∙ at.known)
          (next_follows c.self.inside.place c.place_after-self-inside.ensures c.action.ensures
          (found_follows c.args.board.now.known c.self.inside.task.0 _ _ c.self.inside.job _ _ _ _ _ _ at.follows told c.if-is_other.ensures.no)),
    )

pub returns-then-is_other-clause-seat : goal.returns-then-is_other-clause-seat
returns-then-is_other-clause-seat c =
    let told = c.load_half-word.ensures.told c.requires.reads.0 c.requires.reads.1 c.args.instance (stands_in (stands_so c.self.view_is c.requires.seat c.self.invariant.1 c.requires.reads.2)) in
    seat_after _ c.self.view_is c.requires.seat c.load_half-word.ensures.same.0 refl told.view

pub returns-clause-seat : goal.returns-clause-seat
returns-clause-seat c =
    let told = c.load_half-word.ensures.told c.requires.reads.0 c.requires.reads.1 c.args.instance (stands_in (stands_so c.self.view_is c.requires.seat c.self.invariant.1 c.requires.reads.2)) in
    seat_after _ c.self.view_is c.requires.seat c.load_half-word.ensures.same.0 refl told.view

pub returns-then-is_other-clause-told : goal.returns-then-is_other-clause-told
returns-then-is_other-clause-told c = λ port e at.
    let told = c.load_half-word.ensures.told port e c.args.instance (stands_in (stands_so c.self.view_is c.requires.seat c.self.invariant.1 at)) in
    let P : JobSeatView → Type 0 = λ s. LoadsHalf c.args.board.now.known e c.args.instance c.args.slot s (record { table = c.load_half-word.new.seat.table_id; id = c.load_half-word.new.seat.id; view = c.load_half-word.new.seat.me.0; task = c.self.inside.task; job = c.self.inside.job; place = c.self.inside.place; stage = c.self.inside.stage }) c.load_half-word.result in
    subst P c.self.view_is (record {
      told = told;
      found = λ tag. absurd (c.if-is_other.ensures.yes tag);
      missed = λ other. record { job = refl; place = refl; stage = refl };
    })

pub returns-clause-told : goal.returns-clause-told
returns-clause-told c = λ port e at.
    let told = c.load_half-word.ensures.told port e c.args.instance (stands_in (stands_so c.self.view_is c.requires.seat c.self.invariant.1 at)) in
    let place : c.place_after-self-inside.result ≡ c.self.inside.place + 1 = c.place_after-self-inside.ensures in
    let action : c.action.result ≡ action_at (run_of c.args.board.now.known) c.self.inside.task.0 c.self.inside.job (c.self.inside.place + 1) = c.action.ensures ∙ ap (action_at (run_of c.args.board.now.known) c.self.inside.task.0 c.self.inside.job) place in
    let P : JobSeatView → Type 0 = λ s. LoadsHalf c.args.board.now.known e c.args.instance c.args.slot s (record { table = c.load_half-word.new.seat.table_id; id = c.load_half-word.new.seat.id; view = c.load_half-word.new.seat.me.0; task = c.self.inside.task; job = c.self.inside.job; place = c.place_after-self-inside.result; stage = stages.At c.action.result }) c.load_half-word.result in
    subst P c.self.view_is (record {
      told = told;
      found = λ tag. record { job = refl; place = place; stage = ap (λ (x : Action). stages.At x) action };
      missed = λ other. absurd (other c.if-is_other.ensures.no);
    })
