use Rattle.prl_plan.proofs.PlanFacts.{turns_are_taken}
use Rattle.prl_words.proofs.jobs.instances_take_turns.Goals as goal

pub returns : goal.returns
returns c = turns_are_taken
