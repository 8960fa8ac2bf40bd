-- The plan of a program alone, with no command around it.
use Rattle.std.specs.Prelude.{◌++◌, ℕ, false, List, [], Option, Some, None, Ok}
use Rattle.prl_plan.specs.Plans.{PlanView}
use Rattle.prl_stages.specs.declared.faults.Fault.{Fault}
use Rattle.prl_stages.specs.declared.stages.Stage.{Stage}
use Rattle.prl_stages.specs.Given.{Given}
use Rattle.prl_stages.specs.Planned.{HasPlan}
use Rattle.prl_stages.specs.Stages.{Comes, front, graphed, planned}

-- what a program gives with no other file, where main is the node of this name, or the last one
abbrev pub program_alone : List ℕ → Option (List ℕ) → Given
program_alone text node = record {
  program = Ok text;
  bodies = Ok [];
  sensors = Ok [];
  schedule = Ok [];
  table = Ok [];
  cores = Ok [];
  listed = false;
  node = node;
  until = 0;
}

-- the plan of what is given; none where one of its stages refuses
abbrev pub IsPlanOrNone : Given → Option PlanView → Type 0
IsPlanOrNone g (Some plan) = HasPlan g plan
IsPlanOrNone g None = (stage : Stage) × (fault : Fault) × Comes g (front ++ graphed ++ planned) (Some (stage, fault))
