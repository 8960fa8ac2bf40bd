-- The worked plan of the sampling program, and those of an input held for three periods and of one shifted by one and a half.
use Rattle.prl_base.proofs.Standard.{◌≡◌, ℕ, List, [], ◌∷◌, refl, pos, codes}
use Rattle.prl_base.specs.declared.operators.Op.{Op}
use Rattle.prl_base.specs.declared.values.Value.{Value}
use Rattle.prl_base.specs.declared.operators.Op.TheVariants as operators
use Rattle.prl_base.specs.declared.values.Ty.TheVariants as types
use Rattle.prl_base.specs.declared.values.Value.TheVariants as values
use Rattle.prl_plan.specs.declared.events.Action.TheVariants as actions
use Rattle.prl_plan.specs.Vocabulary.{Task, Edge, Kind, Window, Used, Word, operand_of, word_at, constants_in, used_at, PlanView, edge_at, release_at, deadline_at, cell_of, actions_of, jobs_up_to}
use Rattle.prl_plan.specs.Vocabulary.{actions_up_to, row_of, job_table}
use Rattle.prl_plan.specs.declared.graphs.Kind.TheVariants as kinds
use Rattle.prl_plan.specs.declared.graphs.Producer.TheVariants as producers
use Rattle.prl_plan.specs.declared.walks.Operand.TheVariants as operands

abbrev task : List ℕ → Kind → ℕ → ℕ → ℕ → Task
task name kind period start wcet =
    record { name = name; kind = kind; clock = record { period = period; start = start }; wcet = wcet; due = period }

abbrev edge : ℕ → ℕ → ℕ → ℕ → ℕ → List Op → Edge
edge from out to port period ops =
    record { from = producers.Port (record { 0 = from }) out; to = record { 0 = to }; port = port; ops = ops; period = period; ty = types.Int }

abbrev window : ℕ → ℕ → List Window
window lead tail = record { lead = lead; tail = tail } ∷ []

abbrev used : ℕ → List ℕ → Used
used first gaps = record { first = first; gaps = gaps }

abbrev word : List Value → List ℕ → ℕ → ℕ → Word
word prefix repeat step_in step_out = record { prefix = prefix; repeat = repeat; step_in = step_in; step_out = step_out }

abbrev none : Value
none = values.Int (pos 0)

-- `(o, vf) = F(i, (0 fby vs) *^ 3); vs = S(vf /^ 3);` with i and o of period 10
abbrev sampling : PlanView
sampling = record {
  graph = record {
    tasks =
        task (codes "i") (kinds.Sensor 0) 10 0 1 ∷ task (codes "F@0") (kinds.Node 0) 10 0 2 ∷ task (codes "S@1") (kinds.Node 1) 30 0 10
        ∷ task (codes "o") (kinds.Actuator 0) 10 0 1 ∷ [];
    edges =
        edge 0 0 1 0 10 [] ∷ edge 2 0 1 1 30 (operators.Up 3 ∷ operators.Fby none ∷ []) ∷ edge 1 1 2 0 10 (operators.Down 3 ∷ []) ∷ edge 1 0 3 0 10 [] ∷ [];
    hyper = 30;
  };
  words = word [] (0 ∷ []) 1 1 ∷ word (none ∷ none ∷ none ∷ []) (0 ∷ 0 ∷ 0 ∷ []) 3 1 ∷ word [] (0 ∷ []) 1 3 ∷ word [] (0 ∷ []) 1 1 ∷ [];
  windows = window 0 7 ∷ window 1 9 ∷ window 3 30 ∷ window 3 10 ∷ [];
  bases = 0 ∷ 1 ∷ 3 ∷ 4 ∷ [];
  counts = 1 ∷ 2 ∷ 1 ∷ 1 ∷ [];
  used = used 0 (1 ∷ []) ∷ used 0 (1 ∷ []) ∷ used 0 (3 ∷ []) ∷ used 0 (1 ∷ []) ∷ [];
}

-- the fast task reads the slow one by its word: three constants, and then each instance three times
slow_2 : operand_of (edge_at sampling.graph 1) 2 ≡ operands.Const none
slow_2 = refl

slow_5 : operand_of (edge_at sampling.graph 1) 5 ≡ operands.From 0
slow_5 = refl

slow_5_by_word : word_at (word (none ∷ none ∷ none ∷ []) (0 ∷ 0 ∷ 0 ∷ []) 3 1) 5 ≡ operands.From 0
slow_5_by_word = refl

slow_11_by_word : word_at (word (none ∷ none ∷ none ∷ []) (0 ∷ 0 ∷ 0 ∷ []) 3 1) 11 ≡ operand_of (edge_at sampling.graph 1) 11
slow_11_by_word = refl

constants : constants_in sampling.words ≡ 3
constants = refl

releases : release_at sampling 0 2 ∷ release_at sampling 1 2 ∷ release_at sampling 2 0 ∷ release_at sampling 3 2 ∷ [] ≡ 20 ∷ 21 ∷ 3 ∷ 23 ∷ []
releases = refl

deadlines : deadline_at sampling 0 2 ∷ deadline_at sampling 1 2 ∷ deadline_at sampling 2 0 ∷ deadline_at sampling 3 2 ∷ [] ≡ 27 ∷ 29 ∷ 30 ∷ 30 ∷ []
deadlines = refl

-- of what F gives to S every third instance is used
third_used : used_at (used 0 (3 ∷ [])) 2 ≡ 6
third_used = refl

-- the instances of S stand in two cells in turn
turns : cell_of sampling 1 0 ∷ cell_of sampling 1 1 ∷ cell_of sampling 1 2 ∷ [] ≡ 1 ∷ 2 ∷ 1 ∷ []
turns = refl

-- job 0 of F reads an instance by two halves and a constant at once, and writes to S and o
first_of_f : actions_of sampling 1 0
    ≡ actions.Read 0 (record { 0 = 0 }) 0 (record { 0 = 0 }) ∷ actions.Read 0 (record { 0 = 0 }) 0 (record { 0 = 1 }) ∷ actions.ReadConst 1 none
    ∷ actions.Write (record { 0 = 2 }) 0 (record { 0 = 6 }) ∷ actions.Write (record { 0 = 2 }) 0 (record { 0 = 7 })
    ∷ actions.Write (record { 0 = 3 }) 0 (record { 0 = 8 }) ∷ actions.Write (record { 0 = 3 }) 0 (record { 0 = 9 }) ∷ actions.End ∷ []
first_of_f = refl

-- job 4 reads S by halves too, and nobody uses its instance on the edge to S
fifth_of_f : actions_of sampling 1 4
    ≡ actions.Read 0 (record { 0 = 0 }) 4 (record { 0 = 0 }) ∷ actions.Read 0 (record { 0 = 0 }) 4 (record { 0 = 1 })
    ∷ actions.Read 1 (record { 0 = 1 }) 0 (record { 0 = 2 }) ∷ actions.Read 1 (record { 0 = 1 }) 0 (record { 0 = 3 })
    ∷ actions.Write (record { 0 = 3 }) 4 (record { 0 = 8 }) ∷ actions.Write (record { 0 = 3 }) 4 (record { 0 = 9 }) ∷ actions.End ∷ []
fifth_of_f = refl

-- until 60 the 20 jobs have 89 actions
jobs_until_60 : jobs_up_to sampling 60 ≡ 20
jobs_until_60 = refl

actions_until_60 : actions_up_to sampling 60 ≡ 89
actions_until_60 = refl

-- S and o are released together at 3, the lower task first
table_until_11 : job_table sampling 11
    ≡ row_of sampling 0 0 ∷ row_of sampling 1 0 ∷ row_of sampling 2 0 ∷ row_of sampling 3 0 ∷ row_of sampling 0 1 ∷ row_of sampling 1 1 ∷ row_of sampling 3 1 ∷ []
table_until_11 = refl

-- `o = i /^ 3 *^ 3`: each instance that is used is read three times
abbrev held : PlanView
held = record {
  graph = record {
    tasks = task (codes "i") (kinds.Sensor 0) 10 0 1 ∷ task (codes "o") (kinds.Actuator 0) 10 0 1 ∷ [];
    edges = edge 0 0 1 0 10 (operators.Up 3 ∷ operators.Down 3 ∷ []) ∷ [];
    hyper = 30;
  };
  words = word [] (0 ∷ 0 ∷ 0 ∷ []) 3 3 ∷ [];
  windows =
      (record { lead = 0; tail = 9 } ∷ record { lead = 0; tail = 10 } ∷ record { lead = 0; tail = 10 } ∷ [])
      ∷ (record { lead = 1; tail = 10 } ∷ record { lead = 0; tail = 10 } ∷ record { lead = 0; tail = 10 } ∷ []) ∷ [];
  bases = 0 ∷ [];
  counts = 1 ∷ [];
  used = used 0 (3 ∷ []) ∷ [];
}

held_operands : operand_of (edge_at held.graph 0) 4 ≡ word_at (word [] (0 ∷ 0 ∷ 0 ∷ []) 3 3) 4
held_operands = refl

held_dates : release_at held 1 3 ∷ release_at held 1 4 ∷ deadline_at held 0 3 ∷ deadline_at held 0 4 ∷ [] ≡ 31 ∷ 40 ∷ 39 ∷ 50 ∷ []
held_dates = refl

-- only every third job of the sensor writes
held_writes : actions_of held 0 4 ≡ actions.End ∷ []
held_writes = refl

-- `o = i ~> 3/2`: instance k is alive for 25 ticks from 10 k on, so three cells take turns
abbrev shifted : PlanView
shifted = record {
  graph = record {
    tasks = task (codes "i") (kinds.Sensor 0) 10 0 1 ∷ task (codes "o") (kinds.Actuator 0) 10 15 1 ∷ [];
    edges = edge 0 0 1 0 10 (operators.Shift (record { num = pos 3; den = 2 }) ∷ []) ∷ [];
    hyper = 10;
  };
  words = word [] (0 ∷ []) 1 1 ∷ [];
  windows = window 0 10 ∷ window 0 10 ∷ [];
  bases = 0 ∷ [];
  counts = 3 ∷ [];
  used = used 0 (1 ∷ []) ∷ [];
}

shifted_dates : release_at shifted 0 1 ∷ deadline_at shifted 0 1 ∷ release_at shifted 1 1 ∷ deadline_at shifted 1 1 ∷ [] ≡ 10 ∷ 20 ∷ 25 ∷ 35 ∷ []
shifted_dates = refl

shifted_cells : cell_of shifted 0 2 ∷ cell_of shifted 0 3 ∷ cell_of shifted 0 4 ∷ [] ≡ 2 ∷ 0 ∷ 1 ∷ []
shifted_cells = refl

-- of the five jobs of o before 60 the last is released at 55
shifted_jobs : jobs_up_to shifted 60 ≡ 11
shifted_jobs = refl
