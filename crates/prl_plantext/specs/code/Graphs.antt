-- The graph that a text is read to: that of the text of a plan is the plan's. What no plan's text has is read to something,
-- since each text is compared with the text of its graph's plan.
use Rattle.std.specs.Prelude.{◌==◌, ◌%◌, ◌++◌, ◌&&◌, ◌^◌, ℕ, zero, suc, pos, Bool, true, false, List, [], ◌∷◌, Option, Some, None, unwrap_or, length, nat_le, nat_lt, codes, if◌then◌else◌}
use Rattle.std.specs.List.{onto_first, count_by}
use Rattle.std.specs.Str.{byte, bytes_eq}
use Rattle.prl_base.specs.Decimals.{decimal_of, integer_of}
use Rattle.prl_base.specs.Ratios.{Fraction}
use Rattle.prl_base.specs.declared.ratios.TheConstants.{MAX_PART}
use Rattle.prl_base.specs.declared.operators.Op.{Op}
use Rattle.prl_base.specs.declared.operators.Op.TheVariants as operators
use Rattle.prl_base.specs.declared.values.Ty.{Ty}
use Rattle.prl_base.specs.declared.values.Ty.TheVariants as types
use Rattle.prl_base.specs.declared.values.Value.{Value}
use Rattle.prl_base.specs.declared.values.Value.TheVariants as values
use Rattle.prl_plan.specs.declared.graphs.Edge.{Edge}
use Rattle.prl_plan.specs.declared.graphs.Kind.{Kind}
use Rattle.prl_plan.specs.declared.graphs.Kind.TheVariants as kinds
use Rattle.prl_plan.specs.declared.graphs.Producer.{Producer}
use Rattle.prl_plan.specs.declared.graphs.Producer.TheVariants as producers
use Rattle.prl_plan.specs.declared.graphs.Task.{Task}
use Rattle.prl_plan.specs.declared.graphs.TaskGraph.{TaskGraph}
use Rattle.prl_plan.specs.declared.limits.TheConstants.{MAX_TASKS, MAX_EDGES}
use Rattle.prl_plantext.specs.PlanTexts.{kind_text}

-- the parts of a text that this byte ends, and last what stands after these, if anything does
abbrev pub parts : ℕ → List ℕ → List (List ℕ)
parts end [] = []
parts end (b ∷ bs) = if b == end then [] ∷ parts end bs else onto_first b (parts end bs)

-- what stands before the first such byte
abbrev pub before : ℕ → List ℕ → List ℕ
before end [] = []
before end (b ∷ bs) = if b == end then [] else b ∷ before end bs

-- and after it
abbrev pub after : ℕ → List ℕ → List ℕ
after end [] = []
after end (b ∷ bs) = if b == end then bs else after end bs

abbrev pub words_in : List ℕ → List (List ℕ)
words_in line = parts (byte " ") line

abbrev pub lines_in : List ℕ → List (List ℕ)
lines_in text = parts (byte "\n") text

-- the first word, and those after it
abbrev pub first_of : List (List ℕ) → List ℕ
first_of [] = []
first_of (word ∷ words) = word

abbrev pub rest_of : List (List ℕ) → List (List ℕ)
rest_of [] = []
rest_of (word ∷ words) = words

abbrev pub words_after : ℕ → List (List ℕ) → List (List ℕ)
words_after zero words = words
words_after (suc k) words = words_after k (rest_of words)

-- the word of this number, from 0 on
abbrev pub word_at : ℕ → List (List ℕ) → List ℕ
word_at k words = first_of (words_after k words)

abbrev pub number_in : List ℕ → ℕ
number_in word = unwrap_or (decimal_of word) 0

-- a number of 32 bits
abbrev pub or_small : ℕ → ℕ
or_small n = if nat_lt n (2 ^ 32) then n else 0

abbrev pub small_in : List ℕ → ℕ
small_in word = or_small (number_in word)

abbrev pub value_in : List ℕ → Value
value_in word =
    if bytes_eq word (codes "true") then values.Bool true
    else if bytes_eq word (codes "false") then values.Bool false
    else values.Int (unwrap_or (integer_of word) (pos 0))

abbrev pub type_in : List ℕ → Ty
type_in word = if bytes_eq word (codes "bool") then types.Bool else types.Int

-- the greatest common divisor by so many divisions at most
abbrev pub divisor_by : ℕ → ℕ → ℕ → ℕ
divisor_by zero a b = a
divisor_by (suc steps) a b = if b == 0 then a else divisor_by steps b (a % b)

abbrev pub is_reduced : ℕ → ℕ → Bool
is_reduced a b = divisor_by (suc b) a b == 1

abbrev pub is_small_fraction : ℕ → ℕ → Bool
is_small_fraction num den = nat_le 1 den && nat_le num MAX_PART && nat_le den MAX_PART && is_reduced num den

abbrev pub fraction_or_none : ℕ → ℕ → Fraction
fraction_or_none num den = if is_small_fraction num den then record { num = pos num; den = den } else record { num = pos 0; den = 1 }

abbrev pub fraction_in : List ℕ → Fraction
fraction_in word = fraction_or_none (number_in (before (byte "/") word)) (unwrap_or (decimal_of (after (byte "/") word)) 1)

abbrev pub producer_in : List (List ℕ) → Producer
producer_in words =
    if bytes_eq (first_of words) (codes "const") then producers.Constant (value_in (word_at 1 words))
    else producers.Port (record { 0 = small_in (before (byte ".") (first_of words)) }) (small_in (after (byte ".") (first_of words)))

abbrev pub after_producer : List (List ℕ) → List (List ℕ)
after_producer words = if bytes_eq (first_of words) (codes "const") then rest_of (rest_of words) else rest_of words

-- the operator of a keyword and the word after it
abbrev pub operator_in : List ℕ → List ℕ → Option Op
operator_in word argument =
    if bytes_eq word (codes "fby") then Some (operators.Fby (value_in argument))
    else if bytes_eq word (codes "cons") then Some (operators.Cons (value_in argument))
    else if bytes_eq word (codes "up") then Some (operators.Up (small_in argument))
    else if bytes_eq word (codes "down") then Some (operators.Down (small_in argument))
    else if bytes_eq word (codes "shift") then Some (operators.Shift (fraction_in argument))
    else None

abbrev pub with_operator : Option Op → List Op → List Op
with_operator None ops = ops
with_operator (Some op) ops = op ∷ ops

abbrev pub operators_in : List (List ℕ) → List Op
operators_in [] = []
operators_in (word ∷ []) = if bytes_eq word (codes "tail") then operators.Tail ∷ [] else with_operator (operator_in word []) []
operators_in (word ∷ argument ∷ words) =
    if bytes_eq word (codes "tail") then operators.Tail ∷ operators_in (argument ∷ words)
    else with_operator (operator_in word argument) (operators_in words)

-- the edge of a line, by its words after the first
abbrev pub edge_after : Producer → List (List ℕ) → Edge
edge_after from words = record {
  from = from;
  to = record { 0 = small_in (before (byte ".") (word_at 1 words)) };
  port = small_in (after (byte ".") (word_at 1 words));
  ops = operators_in (words_after 7 words);
  period = number_in (word_at 5 words);
  ty = type_in (word_at 3 words);
}

abbrev pub edge_in : List (List ℕ) → Edge
edge_in words = edge_after (producer_in (rest_of (rest_of words))) (after_producer (rest_of (rest_of words)))

abbrev pub kind_named : List ℕ → ℕ → Kind
kind_named word k =
    if bytes_eq word (codes "sensor") then kinds.Sensor k
    else if bytes_eq word (codes "node") then kinds.Node k
    else kinds.Actuator k

-- how many of these tasks are of the kind of this name
abbrev pub count_named : List ℕ → List Task → ℕ
count_named word tasks = count_by (λ task. bytes_eq (kind_text task.kind) word) tasks

-- the task of a line, by its words after the first: of its kind it is the next after these
abbrev pub task_in : List Task → List (List ℕ) → Task
task_in earlier words = record {
  name = word_at 1 words;
  kind = kind_named (word_at 2 words) (count_named (word_at 2 words) earlier);
  clock = record {
    period = number_in (word_at 4 words);
    start = number_in (word_at 6 words);
  };
  due = number_in (word_at 8 words);
  wcet = small_in (word_at 10 words);
}

-- a graph with one task or edge more; one that has too many already stays
abbrev pub with_task : TaskGraph → List (List ℕ) → TaskGraph
with_task graph words =
    if nat_le (length graph.tasks) MAX_TASKS then
    record { tasks = graph.tasks ++ task_in graph.tasks words ∷ []; edges = graph.edges; hyper = graph.hyper }
    else graph

abbrev pub with_edge : TaskGraph → List (List ℕ) → TaskGraph
with_edge graph words =
    if nat_le (length graph.edges) MAX_EDGES then
    record { tasks = graph.tasks; edges = graph.edges ++ edge_in words ∷ []; hyper = graph.hyper }
    else graph

-- the graph so far with what a line of these words tells of it
abbrev pub with_words : TaskGraph → List ℕ → List (List ℕ) → TaskGraph
with_words graph word words =
    if bytes_eq word (codes "task") then with_task graph words
    else if bytes_eq word (codes "edge") then with_edge graph words
    else if bytes_eq word (codes "hyperperiod") then
    record { tasks = graph.tasks; edges = graph.edges; hyper = number_in (first_of words) }
    else graph

abbrev pub with_line : TaskGraph → List ℕ → TaskGraph
with_line graph line = with_words graph (first_of (words_in line)) (rest_of (words_in line))

abbrev pub with_lines : TaskGraph → List (List ℕ) → TaskGraph
with_lines graph [] = graph
with_lines graph (line ∷ lines) = with_lines (with_line graph line) lines

abbrev pub empty : TaskGraph
empty = record { tasks = []; edges = []; hyper = 0 }

-- the graph that a text is read to
abbrev pub graph_of : List ℕ → TaskGraph
graph_of text = with_lines empty (lines_in text)
