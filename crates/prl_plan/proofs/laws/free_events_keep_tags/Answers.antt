use Rattle.prl_plan.specs.Runs.{opening}
use Rattle.prl_plan.proofs.Tagged.{tagged_opening, tagged_event, IsFree_tagged, high_not_later, gated_free}
use Rattle.prl_plan.proofs.laws.free_events_keep_tags.Goals as goal

pub returns : goal.returns
returns c = record {
  opening = tagged_opening;
  each = tagged_event;
  list = λ k facts list free. IsFree_tagged k facts (opening k) (tagged_opening k facts) list free;
  gated = λ k s event keeps. gated_free k s event keeps;
  halves = high_not_later;
}
