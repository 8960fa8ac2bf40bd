-- The rule of the table: a list of events has led to one state, with which the words and each part agree.
use Rattle.std.specs.Prelude.{◌≡◌, ℕ, zero, suc, List, [], ◌∷◌, replicate, true, false, Option, Some}
use mathlib.Core.Option.{some}
use lib.ListN.{get_elem?}
use Rattle.atomic_table.specs.Table as table
use Rattle.prl_base.specs.declared.values.Value.{Value}
use Rattle.prl_plan.specs.declared.events.Action.{Action}
use Rattle.prl_plan.specs.declared.events.Event.{Event}
use Rattle.prl_plan.specs.Runs.{RunConstants, ExecState, opening, action_at, after_events}
use Rattle.prl_plan.specs.Rules.{IsGated, IsFree}
use Rattle.prl_plan.specs.Facts.{HasPlanFacts}
use Rattle.prl_rule.specs.declared.views.Constants.{Constants}
use Rattle.prl_rule.specs.declared.views.Gate.TheVariants as gates
use Rattle.prl_rule.specs.declared.views.Standing.{Standing}
use Rattle.prl_rule.specs.declared.views.TaskPart.{TaskPart}
use Rattle.prl_rule.specs.declared.views.ClockPart.{ClockPart}
use Rattle.prl_rule.specs.declared.views.View.{View}
use Rattle.prl_rule.specs.RunValues.{RunValues, HasValueFacts}
use Rattle.prl_rule.specs.Agreement.{Witness, Shows, AgreesView}
use Rattle.prl_rule.specs.Known.{run_of, values_of}

-- the state that a list of events reaches from the opening
abbrev pub reached : RunConstants → List Event → ExecState
reached c events = after_events c (opening c) events

-- words and views agree with the state that this list of events reaches: a free list, and on a gated board a gated one, on which no task raises
pub record AgreesWith (k : Constants) (c : RunConstants) (v : RunValues) (w : Witness) (events : List Event) (words : List ℕ) (views : List View) : Type 0 where
  pub facts : HasPlanFacts c
  pub values : HasValueFacts c v
  pub free : IsFree c (opening c) events
  pub gated : k.gate ≡ gates.Gated → IsGated c (opening c) events
  pub calm : k.gate ≡ gates.Gated → (j : ℕ) → w.raised j ≡ false
  pub shows : Shows c v w.raised (reached c events) words
  pub each_view : (id : ℕ) (view : View) → get_elem? views id ≡ some view → AgreesView k c v w (reached c events) id view

abbrev pub Agreed : Constants → table.State (Unit {0}) View → Type 0
Agreed k t = (w : Witness) × (events : List Event) × AgreesWith k (run_of k) (values_of k) w events t.words t.views

-- at the opening the first seat has all parts
abbrev pub first_witness : Witness
first_witness = record { owner = λ i. 0; clock_owner = 0; raised = λ i. false }

-- the part of a task at the opening, with its registers
abbrev pub first_part : List Value → TaskPart
first_part registers = record {
  stand = record { ended = 0; place = 0; is_open = false; now = 0 };
  kept = record { word = 0; slot = 0; low = 0 };
  values = record { operands = []; registers = registers; outputs = [] };
  stop = record { word = 0; raised = false };
  loads = 0;
}

-- the parts of so many tasks, the first of which has number i
abbrev pub first_parts : RunValues → ℕ → ℕ → List (Option TaskPart)
first_parts v i zero = []
first_parts v i (suc n) = Some (first_part (v.registers i 0)) ∷ first_parts v (suc i) n

abbrev pub first_view : Constants → RunConstants → RunValues → View
first_view k c v = record {
  constants = Some k;
  tasks = first_parts v 0 c.tasks;
  clock = Some (record { now = 0; looks = replicate c.tasks 0; count = 0; stop = 0 });
}

abbrev pub all_parts : Constants → View
all_parts k = first_view k (run_of k) (values_of k)

-- seat `id` has this view, and in it this part of task i
pub record HasPart (views : List View) (id i : ℕ) (view : View) (p : TaskPart) : Type 0 where
  pub seat : get_elem? views id ≡ some view
  pub part : get_elem? view.tasks i ≡ some (Some p)

-- seat `id` has this view, and in it this part of the clock
pub record HasClock (views : List View) (id : ℕ) (view : View) (r : ClockPart) : Type 0 where
  pub seat : get_elem? views id ≡ some view
  pub part : view.clock ≡ Some r

-- an open job of task i stands at this action
pub record StandsAt (c : RunConstants) (i : ℕ) (at : Standing) (action : Action) : Type 0 where
  pub opened : at.is_open ≡ true
  pub next : action_at c i at.ended at.place ≡ action
