use Rattle.std.proofs.Common.{arith, ◌≡◌, ◌<◌, ◌≤◌, ℕ, refl, sym, ap, subst, ◌∙◌}
use Rattle.prl_plan.specs.Runs.{action_at}
use Rattle.prl_plan.specs.declared.events.Action.{Action}
use Rattle.prl_seats.specs.Vocabulary.{Stage, Follows, JobSeatView}
use Rattle.prl_seats.specs.declared.jobs.Stage.TheVariants as stages
use Rattle.prl_rule.specs.Vocabulary.{NowTold, run_of}
use Rattle.prl_rule.specs.declared.views.View.{View}
use Rattle.prl_seats.proofs.Following.{early_follows, follows_on, open_follows, open_is, seat_after, stands_so}
use Rattle.prl_seats.proofs.jobs.JobSeat.open.Goals as goal

pub release-at-requires : goal.release-at-requires
release-at-requires c = let follows = (stands_so c.self.view_is c.requires.seat c.self.invariant.1 c.requires.idle).follows in record { task = follows.task; job = follows.shown.1 }

pub load_now-now-requires : goal.load_now-now-requires
load_now-now-requires c =
    let at = stands_so c.self.view_is c.requires.seat c.self.invariant.1 c.requires.idle in
    record {
      table = ap (λ (v : JobSeatView). v.table) c.self.view_is ∙ c.requires.seat.table;
      part = at.part;
      shut = sym (open_is c.args.board.now.known c.self.inside.task.0 c.self.inside.place c.self.inside.seat.me.0) ∙ at.follows.shown.0;
    }

pub invariant_of-self : goal.invariant_of-self
invariant_of-self c =
    let at = stands_so c.self.view_is c.requires.seat c.self.invariant.1 c.requires.idle in
    let test = c.if-now-at.true in let release = c.release-at.ensures in (
      c.load_now-now.ensures.same.2 ∙ c.self.invariant.0,
      follows_on (ap (λ (v : View). v.constants) c.load_now-now.ensures.told.view ∙ at.known)
          (subst (λ (z : Stage). Follows c.args.board.now.known c.load_now-now.new.seat.me.0 c.self.inside.task.0 c.self.inside.job c.self.inside.place z) (sym at.stage)
          (early_follows c.args.board.now.known c.self.inside.task.0 _ _ c.self.inside.job _ _ at.follows c.load_now-now.ensures.told (omega (arith, test, release)))),
    )

pub returns-then-now-at-clause-seat : goal.returns-then-now-at-clause-seat
returns-then-now-at-clause-seat c = seat_after _ c.self.view_is c.requires.seat c.load_now-now.ensures.same.0 refl c.load_now-now.ensures.told.view

pub invariant_of-self-2 : goal.invariant_of-self-2
invariant_of-self-2 c =
    let at = stands_so c.self.view_is c.requires.seat c.self.invariant.1 c.requires.idle in
    let test = c.if-now-at.false in let release = c.release-at.ensures in (
      c.load_now-now.ensures.same.2 ∙ c.self.invariant.0,
      follows_on (ap (λ (v : View). v.constants) c.load_now-now.ensures.told.view ∙ at.known)
          (subst (λ (x : Action). Follows c.args.board.now.known c.load_now-now.new.seat.me.0 c.self.inside.task.0 c.self.inside.job c.self.inside.place (stages.At x)) (sym c.action.ensures)
          (open_follows c.args.board.now.known c.self.inside.task.0 _ _ c.self.inside.job _ _ at.follows c.load_now-now.ensures.told (omega (arith, test, release)))),
    )

pub returns-clause-seat : goal.returns-clause-seat
returns-clause-seat c = seat_after _ c.self.view_is c.requires.seat c.load_now-now.ensures.same.0 refl c.load_now-now.ensures.told.view

pub returns-clause-answer : goal.returns-clause-answer
returns-clause-answer c =
    let follows = (stands_so c.self.view_is c.requires.seat c.self.invariant.1 c.requires.idle).follows in
    let test = c.if-now-at.false in let at = c.release-at.ensures in
    let P : JobSeatView → Type 0 = λ s. (c.self.inside.job ≡ s.job) × (c.self.inside.job < (run_of c.args.board.now.known).jobs s.task.0)
    × ((x : ℕ) × ((run_of c.args.board.now.known).release s.task.0 c.self.inside.job ≤ x) × NowTold c.args.board.now.known s.task.0 s.view x c.load_now-now.new.seat.me.0)
    × (c.self.inside.job ≡ s.job) × (stages.At c.action.result ≡ stages.At (action_at (run_of c.args.board.now.known) s.task.0 c.self.inside.job 0)) in
    subst P c.self.view_is (refl, follows.shown.1, (c.load_now-now.result, omega (arith, test, at), c.load_now-now.ensures.told), refl, ap (λ (x : Action). stages.At x) c.action.ensures)
