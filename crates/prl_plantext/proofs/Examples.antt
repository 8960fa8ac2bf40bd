-- Worked texts of plans.
use Rattle.prl_base.proofs.Standard.{◌≡◌, ℕ, pos, List, [], ◌∷◌, refl, codes, digits}
use Rattle.prl_base.specs.declared.operators.Op.{Op}
use Rattle.prl_base.specs.declared.values.Value.{Value}
use Rattle.prl_base.specs.declared.operators.Op.TheVariants as operators
use Rattle.prl_base.specs.declared.values.Ty.TheVariants as types
use Rattle.prl_base.specs.declared.values.Value.TheVariants as values
use Rattle.prl_plan.specs.Plans.{PlanView}
use Rattle.prl_plan.specs.declared.graphs.Edge.{Edge}
use Rattle.prl_plan.specs.declared.graphs.Kind.{Kind}
use Rattle.prl_plan.specs.declared.graphs.Task.{Task}
use Rattle.prl_plan.specs.declared.words.Word.{Word}
use Rattle.prl_plan.specs.declared.graphs.Kind.TheVariants as kinds
use Rattle.prl_plan.specs.declared.graphs.Producer.TheVariants as producers
use Rattle.prl_plantext.specs.PlanTexts.{cells_words, dates_words, edge_words, line, plan_text, task_words, word_words}

task_line : line (task_words 2 (record { name = codes "S@1"; kind = kinds.Node 1; clock = record { period = 30; start = 0 }; wcet = 10; due = 30 }))
    ≡ codes "task 2 S@1 node period 30 start 0 due 30 wcet 10\n"
unfolding digits
task_line = refl

dates_line : line (dates_words 0 (record { lead = 0; tail = 1 } ∷ record { lead = 0; tail = 7 } ∷ [])) ≡ codes "dates 0 0:1 0:7\n"
unfolding digits
dates_line = refl

edge_line : line (edge_words 1 (record {
  from = producers.Port (record { 0 = 2 }) 0;
  to = record { 0 = 1 };
  port = 1;
  ops = operators.Up 3 ∷ operators.Fby (values.Int (pos 0)) ∷ [];
  period = 30;
  ty = types.Int;
})) ≡ codes "edge 1 from 2.0 to 1.1 type int period 30 ops up 3 fby 0\n"
unfolding digits
edge_line = refl

edge_of_constant : line (edge_words 0 (record {
  from = producers.Constant (values.Int (pos 7));
  to = record { 0 = 1 };
  port = 0;
  ops = operators.Shift (record { num = pos 3; den = 2 }) ∷ operators.Tail ∷ [];
  period = 10;
  ty = types.Int;
})) ≡ codes "edge 0 from const 7 to 1.0 type int period 10 ops shift 3/2 tail\n"
unfolding digits
edge_of_constant = refl

word_line : line (word_words 1 (record {
  prefix = values.Int (pos 0) ∷ values.Int (pos 0) ∷ values.Int (pos 0) ∷ [];
  repeat = 0 ∷ 0 ∷ 0 ∷ [];
  step_in = 3;
  step_out = 1;
})) ≡ codes "word 1 prefix 3 0 0 0 repeat 0 0 0 step 3 1\n"
unfolding digits
word_line = refl

cells_line : line (cells_words 1 (producers.Port (record { 0 = 2 }) 0) 1 2) ≡ codes "cells 1 base 1 count 2\n"
unfolding digits
cells_line = refl

no_cells_line : line (cells_words 0 (producers.Constant (values.Int (pos 7))) 0 0) ≡ codes "cells 0 none\n"
unfolding digits
no_cells_line = refl

-- the whole plan of the sampling program: a fast task between a sensor and an actuator reads a slow one that reads it

task_of : List ℕ → Kind → ℕ → ℕ → Task
task_of name kind period wcet = record { name = name; kind = kind; clock = record { period = period; start = 0 }; wcet = wcet; due = period }

edge_of : ℕ → ℕ → ℕ → ℕ → ℕ → List Op → Edge
edge_of from out to port period ops =
    record { from = producers.Port (record { 0 = from }) out; to = record { 0 = to }; port = port; ops = ops; period = period; ty = types.Int }

word_of : List Value → List ℕ → ℕ → ℕ → Word
word_of prefix repeat step_in step_out = record { prefix = prefix; repeat = repeat; step_in = step_in; step_out = step_out }

zero_value : Value
zero_value = values.Int (pos 0)

sampling : PlanView
sampling = record {
  graph = record {
    tasks =
        task_of (codes "i") (kinds.Sensor 0) 10 1 ∷ task_of (codes "F@0") (kinds.Node 0) 10 2 ∷ task_of (codes "S@1") (kinds.Node 1) 30 10
        ∷ task_of (codes "o") (kinds.Actuator 0) 10 1 ∷ [];
    edges =
        edge_of 0 0 1 0 10 [] ∷ edge_of 2 0 1 1 30 (operators.Up 3 ∷ operators.Fby zero_value ∷ []) ∷ edge_of 1 1 2 0 10 (operators.Down 3 ∷ [])
        ∷ edge_of 1 0 3 0 10 [] ∷ [];
    hyper = 30;
  };
  words =
      word_of [] (0 ∷ []) 1 1 ∷ word_of (zero_value ∷ zero_value ∷ zero_value ∷ []) (0 ∷ 0 ∷ 0 ∷ []) 3 1 ∷ word_of [] (0 ∷ []) 1 3 ∷ word_of [] (0 ∷ []) 1 1 ∷ [];
  windows =
      (record { lead = 0; tail = 7 } ∷ []) ∷ (record { lead = 1; tail = 9 } ∷ []) ∷ (record { lead = 3; tail = 30 } ∷ []) ∷ (record { lead = 3; tail = 10 } ∷ []) ∷ [];
  bases = 0 ∷ 1 ∷ 3 ∷ 4 ∷ [];
  counts = 1 ∷ 2 ∷ 1 ∷ 1 ∷ [];
  used = [];
}

sampling_text : plan_text sampling
    ≡ codes "plan 1\nhyperperiod 30\ntask 0 i sensor period 10 start 0 due 10 wcet 1\ntask 1 F@0 node period 10 start 0 due 10 wcet 2\ntask 2 S@1 node period 30 start 0 due 30 wcet 10\ntask 3 o actuator period 10 start 0 due 10 wcet 1\ndates 0 0:7\ndates 1 1:9\ndates 2 3:30\ndates 3 3:10\nedge 0 from 0.0 to 1.0 type int period 10 ops none\nedge 1 from 2.0 to 1.1 type int period 30 ops up 3 fby 0\nedge 2 from 1.1 to 2.0 type int period 10 ops down 3\nedge 3 from 1.0 to 3.0 type int period 10 ops none\nword 0 prefix 0 repeat 0 step 1 1\nword 1 prefix 3 0 0 0 repeat 0 0 0 step 3 1\nword 2 prefix 0 repeat 0 step 1 3\nword 3 prefix 0 repeat 0 step 1 1\ncells 0 base 0 count 1\ncells 1 base 1 count 2\ncells 2 base 3 count 1\ncells 3 base 4 count 1\n"
unfolding digits task_of edge_of word_of zero_value sampling
sampling_text = refl
