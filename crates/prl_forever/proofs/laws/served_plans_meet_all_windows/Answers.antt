use Rattle.prl_base.proofs.Standard.{slice_get-get_or}
use Rattle.prl_plan.specs.Vocabulary.{constants_of, no_task, task_at}
use Rattle.prl_overlaps.specs.Demand.{wcets_of}
use Rattle.prl_forever.proofs.Steady.{starts_by}
use Rattle.prl_forever.proofs.laws.served_plans_meet_all_windows.Goals as goal

pub returns : goal.returns
returns c = record {
  met = λ plan is serves h of units run are edf.
      c.feasibility.ensures.feasible (constants_of plan h) (c.plans_keep_facts.ensures plan h is of) (wcets_of plan) units run are (serves h) edf;
  started = λ plan i inside. starts_by plan.graph.tasks i (task_at plan.graph i) (slice_get-get_or plan.graph.tasks i no_task inside);
}
