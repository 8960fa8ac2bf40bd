-- The text of a plan: lines of words. It has one line for the hyperperiod and one for each task, its dates, each edge,
-- its word and its cells.
use Rattle.std.specs.Prelude.{◌+◌, ◌++◌, ℕ, List, [], ◌∷◌, map, length, slice_index, codes, decimal}
use Rattle.std.specs.List.{flat_map}
use Rattle.std.specs.Str.{byte}
use Rattle.prl_base.specs.Texts.{type_text, value_text, fraction_text}
use Rattle.prl_base.specs.declared.operators.Op.{Op}
use Rattle.prl_base.specs.declared.operators.Op.TheVariants as operators
use Rattle.prl_plan.specs.declared.graphs.Edge.{Edge}
use Rattle.prl_plan.specs.declared.graphs.Kind.{Kind}
use Rattle.prl_plan.specs.declared.graphs.Kind.TheVariants as kinds
use Rattle.prl_plan.specs.declared.graphs.Producer.{Producer}
use Rattle.prl_plan.specs.declared.graphs.Producer.TheVariants as producers
use Rattle.prl_plan.specs.declared.graphs.Task.{Task}
use Rattle.prl_plan.specs.declared.tables.Window.{Window}
use Rattle.prl_plan.specs.declared.words.Word.{Word}
use Rattle.prl_plan.specs.Plans.{PlanView}

-- a word after others of its line
abbrev pub after_blank : List ℕ → List ℕ
after_blank word = byte " " ∷ word

-- the rest of a line: words, each after a blank, and a line feed
abbrev pub line_rest : List (List ℕ) → List ℕ
line_rest [] = byte "\n" ∷ []
line_rest (word ∷ words) = byte " " ∷ word ++ line_rest words

-- a line of these words
abbrev pub line : List (List ℕ) → List ℕ
line [] = byte "\n" ∷ []
line (word ∷ words) = word ++ line_rest words

-- two numbers with a byte between them
abbrev pub pair_text : ℕ → ℕ → ℕ → List ℕ
pair_text a between b = decimal a ++ between ∷ decimal b

abbrev pub kind_text : Kind → List ℕ
kind_text (kinds.Sensor k) = codes "sensor"
kind_text (kinds.Node k) = codes "node"
kind_text (kinds.Actuator k) = codes "actuator"

abbrev pub task_words : ℕ → Task → List (List ℕ)
task_words k task =
    codes "task" ∷ decimal k ∷ task.name ∷ kind_text task.kind ∷ codes "period" ∷ decimal task.clock.period
    ∷ codes "start" ∷ decimal task.clock.start ∷ codes "due" ∷ decimal task.due ∷ codes "wcet" ∷ decimal task.wcet ∷ []

-- how much later than a job's release its encoded release and its encoded deadline are
abbrev pub window_text : Window → List ℕ
window_text window = pair_text window.lead (byte ":") window.tail

abbrev pub dates_words : ℕ → List Window → List (List ℕ)
dates_words k windows = codes "dates" ∷ decimal k ∷ map window_text windows

-- an output of a task, or a constant
abbrev pub producer_words : Producer → List (List ℕ)
producer_words (producers.Port task out) = pair_text task.0 (byte ".") out ∷ []
producer_words (producers.Constant value) = codes "const" ∷ value_text value ∷ []

abbrev pub operator_words : Op → List (List ℕ)
operator_words (operators.Fby c) = codes "fby" ∷ value_text c ∷ []
operator_words (operators.Cons c) = codes "cons" ∷ value_text c ∷ []
operator_words operators.Tail = codes "tail" ∷ []
operator_words (operators.Up k) = codes "up" ∷ decimal k ∷ []
operator_words (operators.Down k) = codes "down" ∷ decimal k ∷ []
operator_words (operators.Shift q) = codes "shift" ∷ fraction_text q ∷ []

-- the operators from the consumer's end on
abbrev pub operators_words : List Op → List (List ℕ)
operators_words [] = codes "none" ∷ []
operators_words (op ∷ ops) = flat_map operator_words (op ∷ ops)

abbrev pub edge_words : ℕ → Edge → List (List ℕ)
edge_words k edge =
    codes "edge" ∷ decimal k ∷ codes "from" ∷ producer_words edge.from ++ codes "to" ∷ pair_text edge.to.0 (byte ".") edge.port
    ∷ codes "type" ∷ type_text edge.ty ∷ codes "period" ∷ decimal edge.period ∷ codes "ops" ∷ operators_words edge.ops

abbrev pub word_words : ℕ → Word → List (List ℕ)
word_words k word =
    codes "word" ∷ decimal k ∷ codes "prefix" ∷ decimal (length word.prefix) ∷ map value_text word.prefix
    ++ (codes "repeat" ∷ map decimal word.repeat ++ (codes "step" ∷ decimal word.step_in ∷ decimal word.step_out ∷ []))

-- the first cell of an edge and how many it has; an edge from a constant has none
abbrev pub cells_words : ℕ → Producer → ℕ → ℕ → List (List ℕ)
cells_words k (producers.Port task out) base count =
    codes "cells" ∷ decimal k ∷ codes "base" ∷ decimal base ∷ codes "count" ∷ decimal count ∷ []
cells_words k (producers.Constant value) base count = codes "cells" ∷ decimal k ∷ codes "none" ∷ []

abbrev pub cells_line_words : PlanView → ℕ → Edge → List (List ℕ)
cells_line_words plan e edge = cells_words e edge.from (slice_index plan.bases e) (slice_index plan.counts e)

-- a line for each item, with its number from k on
abbrev pub numbered : {A : Type 0} → (ℕ → A → List (List ℕ)) → ℕ → List A → List ℕ
numbered words k [] = []
numbered words k (item ∷ items) = line (words k item) ++ numbered words (k + 1) items

abbrev pub plan_text : PlanView → List ℕ
plan_text plan =
    line (codes "plan" ∷ codes "1" ∷ [])
    ++ line (codes "hyperperiod" ∷ decimal plan.graph.hyper ∷ [])
    ++ numbered task_words 0 plan.graph.tasks
    ++ numbered dates_words 0 plan.windows
    ++ numbered edge_words 0 plan.graph.edges
    ++ numbered word_words 0 plan.words
    ++ numbered (cells_line_words plan) 0 plan.graph.edges
