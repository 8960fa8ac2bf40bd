use Rattle.std.proofs.Common.{◌≡◌, ◌/◌, ℕ, refl, sym, ap, subst, ◌∙◌}
use Rattle.prl_base.specs.Values.{FitsValue}
use Rattle.prl_base.specs.declared.numbers.TaskNo.{TaskNo}
use Rattle.prl_plan.specs.declared.events.Action.TheVariants as actions
use Rattle.prl_plan.specs.Runs.{action_at}
use Rattle.prl_rule.specs.Vocabulary.{run_of, values_of, half_of}
use Rattle.prl_board.specs.code.Lows.{MayGive}
use Rattle.prl_seats.proofs.Following.{known_once}
use Rattle.prl_board.proofs.Lows.{low_after_write}
use Rattle.prl_board.proofs.SeatReads.{Keeps, goes_kept}
use Rattle.prl_board.proofs.Worked.{write_left, write_own}
use Rattle.prl_board.proofs.Begun.{begun_with}
use Rattle.prl_board.proofs.HalfReads.{stands_at}
use Rattle.prl_board.proofs.seats.TaskSeat.write_half.Goals as goal

pub half_given-half-requires : goal.half_given-half-requires
half_given-half-requires c =
    let at = stands_at c.self.view_is c.requires.seat c.requires.writes c.self.invariant c.stands.ensures in
    let own : c.args.instance ≡ c.self.inside.job.job = write_own c.args.board.now.known c.keeps_values.ensures.work c.keeps_values.ensures.values c.self.inside.job.task.0 c.self.inside.job.job c.self.inside.job.place at.job c.self.inside.worker at.kept.1 c.args.edge c.args.instance c.args.slot at.reads.shown.2 in
    let there : action_at (run_of c.args.board.now.known) c.self.inside.job.task.0 c.self.inside.job.job c.self.inside.job.place ≡ actions.Write c.args.edge c.self.inside.job.job c.args.slot = at.reads.shown.2 ∙ ap (λ (m : ℕ). actions.Write c.args.edge m c.args.slot) own in
    let P : TaskNo × ℕ → Type 0 = λ z. MayGive c.args.board.now.known z.0.0 z.1 c.args.edge c.args.slot c.self.inside.worker in
    subst P (λ h. (sym c.task.ensures h, sym c.job.ensures h)) (c.self.inside.job.place, at.job, there, at.kept.1)

pub store-requires-clause-writes : goal.store-requires-clause-writes
store-requires-clause-writes c =
    let at = stands_at c.self.view_is c.requires.seat c.requires.writes c.self.invariant c.stands.ensures in
    let own : c.args.instance ≡ c.self.inside.job.job = write_own c.args.board.now.known c.keeps_values.ensures.work c.keeps_values.ensures.values c.self.inside.job.task.0 c.self.inside.job.job c.self.inside.job.place at.job c.self.inside.worker at.kept.1 c.args.edge c.args.instance c.args.slot at.reads.shown.2 in
    let number : c.job.result ≡ c.args.instance = c.job.ensures ∙ sym own in
    let P : ℕ → Type 0 = λ n. (c.half_given-half.result ≡ half_of (values_of c.args.board.now.known) c.args.slot.0 n) × FitsValue ((values_of c.args.board.now.known).stored (c.args.slot.0 / 2) n) in
    let gives = subst P number c.half_given-half.ensures.half in
    (c.args.edge, c.args.instance, at.stage, gives.0, gives.1)

pub invariant_of-self : goal.invariant_of-self
invariant_of-self c =
    let at = stands_at c.self.view_is c.requires.seat c.requires.writes c.self.invariant c.stands.ensures in
    known_once c.store.new.self.view c.args.board.now.known (λ k. Keeps k c.store.new.self c.self.inside.low c.half_given-half.new.worker) c.store.ensures.seat.known (goes_kept c.args.board.now.known c.self.inside.job c.store.new.self c.self.inside.low c.half_given-half.new.worker c.store.ensures.same c.store.ensures.next
    (low_after_write c.args.board.now.known c.keeps_values.ensures.facts c.self.inside.job.task.0 c.self.inside.job.job at.job c.self.inside.low c.self.inside.job.place c.args.edge c.args.instance c.args.slot at.reads.shown.2)
    (write_left c.args.board.now.known c.keeps_values.ensures.work c.keeps_values.ensures.values c.self.inside.job.task.0 c.self.inside.job.job c.self.inside.job.place at.job c.self.inside.worker at.kept.1 c.args.edge c.args.instance c.args.slot at.reads.shown.2 c.half_given-half.new.worker
    (begun_with c.args.board.now.known.sensors c.args.board.now.known.sensors c.args.board.now.known.bodies c.args.board.now.known.bodies c.self.inside.job.job c.job.result refl refl c.job.ensures c.self.inside.worker c.half_given-half.new.worker c.half_given-half.ensures.begun)))
