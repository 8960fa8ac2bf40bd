use Rattle.std.proofs.Common.{◌≡◌, [], sym, ap, subst, Some}
use Rattle.atomic_table.specs.Table.{Me}
use Rattle.prl_rule.specs.declared.views.Constants.{Constants}
use Rattle.prl_rule.specs.declared.views.View.{View}
use Rattle.prl_seats.specs.JobSeats.{Follows, HasPartOf, JobSeatView}
use Rattle.prl_seats.proofs.jobs.JobSeat.exchange.Goals as goal

pub invariant_of-self : goal.invariant_of-self
invariant_of-self c =
    let P : Me (Unit {0}) View → Type 0 = λ me. (me.1 ≡ []) × ((k : Constants) → me.0.constants ≡ Some k → HasPartOf c.self.inside.task.0 me.0 → Follows k me.0 c.self.inside.task.0 c.self.inside.job c.self.inside.place c.self.inside.stage) in
    subst P (sym (ap (λ s. s.me) c.swap.ensures.x_after)) (
      c.requires.slots,
      subst (λ (s : JobSeatView). (k : Constants) → c.args.other.now.me.0.constants ≡ Some k → HasPartOf s.task.0 c.args.other.now.me.0 → Follows k c.args.other.now.me.0 s.task.0 s.job s.place s.stage) (sym c.self.view_is) c.requires.stands,
    )
