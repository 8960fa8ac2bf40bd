use Rattle.prl_plan.proofs.DateOrder.{next_released, release_earlier, deadline_earlier}
use Rattle.prl_plan.proofs.facts.encoded_dates_keep_order.Goals as goal

pub returns : goal.returns
returns c = record {
  room = λ plan is. is.room.room;
  next = next_released;
  earlier = λ plan is before after precedes. (release_earlier plan is before after precedes, deadline_earlier plan is before after precedes);
  releases = λ plan is. is.dates.releases.releases.along;
  deadlines = λ plan is. is.dates.deadlines.deadlines.along;
}
