-- Worked graphs: two lanes that overload one processor for a while, and a loop that needs longer than its period.
use Rattle.prl_base.proofs.Standard.{◌≡◌, ℕ, List, [], ◌∷◌, refl, lit<, ℤ, pos, negsuc, codes}
use Rattle.prl_base.specs.declared.operators.Op.TheVariants as operators
use Rattle.prl_base.specs.declared.values.Ty.TheVariants as types
use Rattle.prl_base.specs.declared.values.Value.TheVariants as values
use Rattle.prl_plan.specs.declared.events.Action.TheVariants as actions
use Rattle.prl_plan.specs.Vocabulary.{Task, Edge, Kind, TaskGraph, Job, deadline_of, task_at, operand_of, Precedes, jobs_in_hyperperiod, IsChain, needs_of, PlanView, edge_at, release_at, deadline_at}
use Rattle.prl_plan.specs.Vocabulary.{cell_of, actions_of, jobs_up_to, actions_up_to, row_of, job_table}
use Rattle.prl_plan.specs.declared.graphs.Kind.TheVariants as kinds
use Rattle.prl_plan.specs.declared.graphs.Producer.TheVariants as producers
use Rattle.prl_plan.specs.declared.walks.Operand.TheVariants as operands

-- a task on the clock of period 4 from 0 on
abbrev lane_task : List ℕ → Kind → ℕ → Task
lane_task name kind wcet = record { name = name; kind = kind; clock = record { period = 4; start = 0 }; wcet = wcet; due = 4 }

abbrev lane_edge : ℕ → ℕ → Edge
lane_edge from to = record { from = producers.Port (record { 0 = from }) 0; to = record { 0 = to }; port = 0; ops = []; period = 4; ty = types.Int }

-- two sensors of WCET 2, each to an actuator of WCET 1
abbrev lanes : PlanView
lanes = record {
  graph = record {
    tasks =
        lane_task (codes "a") (kinds.Sensor 0) 2 ∷ lane_task (codes "b") (kinds.Sensor 1) 2
        ∷ lane_task (codes "o") (kinds.Actuator 0) 1 ∷ lane_task (codes "p") (kinds.Actuator 1) 1 ∷ [];
    edges = lane_edge 0 2 ∷ lane_edge 1 3 ∷ [];
    hyper = 4;
  };
  words =
      record { prefix = []; repeat = 0 ∷ []; step_in = 1; step_out = 1 }
      ∷ record { prefix = []; repeat = 0 ∷ []; step_in = 1; step_out = 1 } ∷ [];
  windows =
      (record { lead = 0; tail = 3 } ∷ []) ∷ (record { lead = 0; tail = 3 } ∷ [])
      ∷ (record { lead = 2; tail = 4 } ∷ []) ∷ (record { lead = 2; tail = 4 } ∷ []) ∷ [];
  bases = 0 ∷ 1 ∷ [];
  counts = 1 ∷ 1 ∷ [];
  used = record { first = 0; gaps = 1 ∷ [] } ∷ record { first = 0; gaps = 1 ∷ [] } ∷ [];
}

lanes_release_b : release_at lanes 1 3 ≡ 12
lanes_release_b = refl

lanes_deadline_b : deadline_at lanes 1 3 ≡ 15
lanes_deadline_b = refl

lanes_release_p : release_at lanes 3 3 ≡ 14
lanes_release_p = refl

lanes_deadline_p : deadline_at lanes 3 3 ≡ 16
lanes_deadline_p = refl

lanes_operand : operand_of (edge_at lanes.graph 1) 3 ≡ operands.From 3
lanes_operand = refl

lanes_cell : cell_of lanes 1 3 ≡ 1
lanes_cell = refl

-- the second lane's halves are those of cell 1
lanes_writes : actions_of lanes 1 3 ≡ actions.Write (record { 0 = 1 }) 3 (record { 0 = 2 }) ∷ actions.Write (record { 0 = 1 }) 3 (record { 0 = 3 }) ∷ actions.End ∷ []
lanes_writes = refl

lanes_reads : actions_of lanes 3 3 ≡ actions.Read 0 (record { 0 = 1 }) 3 (record { 0 = 2 }) ∷ actions.Read 0 (record { 0 = 1 }) 3 (record { 0 = 3 }) ∷ actions.End ∷ []
lanes_reads = refl

-- four jobs until 4, with three actions each
lanes_jobs : jobs_up_to lanes 4 ≡ 4
lanes_jobs = refl

lanes_actions : actions_up_to lanes 4 ≡ 12
lanes_actions = refl

-- the sensors first, each before its actuator, and equal releases by task
lanes_table : job_table lanes 4 ≡ row_of lanes 0 0 ∷ row_of lanes 1 0 ∷ row_of lanes 2 0 ∷ row_of lanes 3 0 ∷ []
lanes_table = refl

-- `o = x; x = A(0 :: (y ~> 1/2)); y = G(x ~> 1/2);` with period 10, WCET 6 of A and G, and 1 of o: A and o start at 0, G at 5
abbrev loop : TaskGraph
loop = record {
  tasks =
      record { name = codes "A@0"; kind = kinds.Node 0; clock = record { period = 10; start = 0 }; wcet = 6; due = 10 }
      ∷ record { name = codes "G@1"; kind = kinds.Node 1; clock = record { period = 10; start = 5 }; wcet = 6; due = 10 }
      ∷ record { name = codes "o"; kind = kinds.Actuator 0; clock = record { period = 10; start = 0 }; wcet = 1; due = 10 } ∷ [];
  edges =
      record {
        from = producers.Port (record { 0 = 1 }) 0;
        to = record { 0 = 0 };
        port = 0;
        ops = operators.Cons (values.Int (pos 0)) ∷ operators.Shift (record { num = pos 1; den = 2 }) ∷ [];
        period = 10;
        ty = types.Int;
      }
      ∷ record {
        from = producers.Port (record { 0 = 0 }) 0;
        to = record { 0 = 1 };
        port = 0;
        ops = operators.Shift (record { num = pos 1; den = 2 }) ∷ [];
        period = 10;
        ty = types.Int;
      }
      ∷ record { from = producers.Port (record { 0 = 0 }) 0; to = record { 0 = 2 }; port = 0; ops = []; period = 10; ty = types.Int } ∷ [];
  hyper = 10;
}

loop_jobs : jobs_in_hyperperiod loop ≡ 3
loop_jobs = refl

-- job 0 of A reads the constant, and job 3 instance 2 of G
loop_first : operand_of (edge_at loop 0) 0 ≡ operands.Const (values.Int (pos 0))
loop_first = refl

loop_later : operand_of (edge_at loop 0) 3 ≡ operands.From 2
loop_later = refl

abbrev a_job : ℤ → Job
a_job n = record { task = 0; number = n }

abbrev g_job : ℤ → Job
g_job n = record { task = 1; number = n }

-- precedence binds job 0 of A too: job -1 of G comes before it
g_before_a : Precedes loop (g_job (negsuc 0)) (a_job (pos 0))
g_before_a = (0, edge_at loop 0, refl, record { from = refl; to = refl; number = refl })

a_before_g : Precedes loop (a_job (negsuc 0)) (g_job (negsuc 0))
a_before_g = (1, edge_at loop 1, refl, record { from = refl; to = refl; number = refl })

earlier_g_before_a : Precedes loop (g_job (negsuc 1)) (a_job (negsuc 0))
earlier_g_before_a = (0, edge_at loop 0, refl, record { from = refl; to = refl; number = refl })

-- longer and longer chains end in job 0 of A, and each needs a tick more
alone : needs_of loop (a_job (pos 0)) [] ≡ pos 6
alone = refl

after_g : needs_of loop (g_job (negsuc 0)) (a_job (pos 0) ∷ []) ≡ pos 7
after_g = refl

after_both : needs_of loop (a_job (negsuc 0)) (g_job (negsuc 0) ∷ a_job (pos 0) ∷ []) ≡ pos 8
after_both = refl

chain_of_four : IsChain loop (g_job (negsuc 1)) (a_job (negsuc 0) ∷ g_job (negsuc 0) ∷ a_job (pos 0) ∷ [])
chain_of_four = (lit< tt, earlier_g_before_a, (lit< tt, a_before_g, (lit< tt, g_before_a, lit< tt)))

needs_of_four : needs_of loop (g_job (negsuc 1)) (a_job (negsuc 0) ∷ g_job (negsuc 0) ∷ a_job (pos 0) ∷ []) ≡ pos 9
needs_of_four = refl

-- job 0 of A has until 10
has_ten : deadline_of (task_at loop 0) (pos 0) ≡ pos 10
has_ten = refl
