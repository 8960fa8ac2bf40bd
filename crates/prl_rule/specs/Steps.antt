-- What each kind of step does to its seat's view.
use Rattle.std.specs.Prelude.{◌≡◌, ◌+◌, ◌/◌, ◌%◌, ◌==◌, ◌^◌, ◌<◌, ◌&&◌, ℕ, zero, suc, List, [], ◌∷◌, ◌++◌, length, replicate, max, nat_lt, nat_le, slice_set, slice_index_or, if◌then◌else◌, true, false, Option, Some, None}
use Rattle.prl_base.specs.declared.values.Value.{Value}
use Rattle.prl_plan.specs.declared.events.Action.{Action}
use Rattle.prl_plan.specs.declared.events.Action.TheVariants as actions
use Rattle.prl_plan.specs.declared.events.Event.{Event}
use Rattle.prl_plan.specs.declared.events.Event.TheVariants as events
use Rattle.prl_plan.specs.Runs.{RunConstants, action_at}
use Rattle.prl_rule.specs.declared.views.Constants.{Constants}
use Rattle.prl_rule.specs.declared.views.Standing.{Standing}
use Rattle.prl_rule.specs.declared.views.HeldValues.{HeldValues}
use Rattle.prl_rule.specs.declared.views.TaskPart.{TaskPart}
use Rattle.prl_rule.specs.declared.views.ClockPart.{ClockPart}
use Rattle.prl_rule.specs.declared.views.View.{View}
use Rattle.prl_rule.specs.Halves.{value_of_halves}
use Rattle.prl_rule.specs.RunValues.{RunValues}
use Rattle.prl_rule.specs.Agreement.{Witness}

-- the view with this part of task i
abbrev pub with_part : ℕ → TaskPart → View → View
with_part i p view = record { constants = view.constants; tasks = slice_set view.tasks i (Some p); clock = view.clock }

abbrev pub with_clock : ClockPart → View → View
with_clock r view = record { constants = view.constants; tasks = view.tasks; clock = Some r }

-- the operands that an action completes: a constant, or with the high half, which is found, the value of both halves
abbrev pub taken : RunValues → Action → ℕ → ℕ → List Value
taken v (actions.ReadConst port value) low found = value ∷ []
taken v (actions.Read port e m slot) low found = if slot.0 % 2 == 1 then value_of_halves (v.types e.0) low found ∷ [] else []
taken v (actions.Write e m slot) low found = []
taken v actions.End low found = []

-- the values after the body of job n has run on these operands
abbrev pub values_run : RunValues → ℕ → ℕ → List Value → HeldValues → HeldValues
values_run v i n operands held = record {
  operands = operands;
  registers = (v.run i n operands held.registers).registers;
  outputs = held.outputs ++ (v.run i n operands held.registers).outputs ∷ [];
}

-- the values after an action that completes these operands
abbrev pub values_with : RunValues → ℕ → Standing → List Value → HeldValues → HeldValues
values_with v i at more held =
    if at.place + 1 == v.runs_at i at.ended
    then values_run v i at.ended (held.operands ++ more) held
    else record { operands = held.operands ++ more; registers = held.registers; outputs = held.outputs }

abbrev pub stand_moved : Standing → Standing
stand_moved at = record { ended = at.ended; place = at.place + 1; is_open = at.is_open; now = at.now }

-- the part after its next action, which does not end the job, and which finds this half where it reads one
abbrev pub moved_on : RunConstants → RunValues → ℕ → ℕ → TaskPart → TaskPart
moved_on c v i found p = record {
  stand = stand_moved p.stand;
  kept = p.kept;
  values = values_with v i p.stand (taken v (action_at c i p.stand.ended p.stand.place) p.kept.low found) p.values;
  stop = p.stop;
  loads = p.loads;
}

-- the next so many actions of the part read constants
abbrev pub AreConstants : RunConstants → ℕ → Standing → ℕ → Type 0
AreConstants c i at count = (j : ℕ) → j < count → (port : ℕ) × (value : Value) × (action_at c i at.ended (at.place + j) ≡ actions.ReadConst port value)

-- the task has read so many constants since its seat's last step: with none, its job need not be open
pub record HasRead (c : RunConstants) (i : ℕ) (p : TaskPart) (count : ℕ) : Type 0 where
  pub opened : 0 < count → p.stand.is_open ≡ true
  pub constants : AreConstants c i p.stand count

-- the part after the reads of so many constants
abbrev pub caught_up : RunConstants → RunValues → ℕ → ℕ → TaskPart → TaskPart
caught_up c v i zero p = p
caught_up c v i (suc count) p = caught_up c v i count (moved_on c v i 0 p)

-- so many acts of task i
abbrev pub acts : ℕ → ℕ → List Event
acts i count = replicate count (events.Act (record { 0 = i }))

-- Load now: the next job opens where it is one of the horizon, and released at the `now` that is found.
abbrev pub now_loaded : RunConstants → ℕ → ℕ → TaskPart → TaskPart
now_loaded c i found p = record {
  stand = record {
    ended = p.stand.ended;
    place = p.stand.place;
    is_open = nat_lt p.stand.ended (c.jobs i) && nat_le (c.release i p.stand.ended) found;
    now = max p.stand.now found;
  };
  kept = p.kept;
  values = p.values;
  stop = p.stop;
  loads = p.loads + 1;
}

-- Load half, where the word that is found has the wanted tag: the place moves, and the half is kept.
abbrev pub half_taken : RunConstants → RunValues → ℕ → ℕ → ℕ → TaskPart → TaskPart
half_taken c v i slot found p = record {
  stand = stand_moved p.stand;
  kept = record { word = found; slot = slot; low = found % 2 ^ 32 };
  values = (moved_on c v i (found % 2 ^ 32) p).values;
  stop = p.stop;
  loads = p.loads + 1;
}

-- and where it has another one
abbrev pub half_missed : ℕ → ℕ → TaskPart → TaskPart
half_missed slot found p = record {
  stand = p.stand;
  kept = record { word = found; slot = slot; low = p.kept.low };
  values = p.values;
  stop = p.stop;
  loads = p.loads + 1;
}

abbrev pub half_loaded : RunConstants → RunValues → ℕ → ℕ → ℕ → ℕ → TaskPart → TaskPart
half_loaded c v i slot tag found p = if found / 2 ^ 32 == tag then half_taken c v i slot found p else half_missed slot found p

-- Store half: the place moves.
abbrev pub half_stored : RunConstants → RunValues → ℕ → TaskPart → TaskPart
half_stored c v i p = moved_on c v i 0 p

-- Store done: the job is counted.
abbrev pub done_counted : RunValues → ℕ → TaskPart → TaskPart
done_counted v i p = record {
  stand = record { ended = p.stand.ended + 1; place = 0; is_open = false; now = p.stand.now };
  kept = p.kept;
  values = record {
    operands = [];
    registers = (values_with v i p.stand [] p.values).registers;
    outputs = (values_with v i p.stand [] p.values).outputs;
  };
  stop = p.stop;
  loads = p.loads;
}

-- Raise stop, and load stop.
abbrev pub part_raised : TaskPart → TaskPart
part_raised p = record { stand = p.stand; kept = p.kept; values = p.values; stop = record { word = p.stop.word; raised = true }; loads = p.loads }

abbrev pub stop_loaded : ℕ → TaskPart → TaskPart
stop_loaded found p = record { stand = p.stand; kept = p.kept; values = p.values; stop = record { word = found; raised = p.stop.raised }; loads = p.loads + 1 }

abbrev pub clock_stop_loaded : ℕ → ClockPart → ClockPart
clock_stop_loaded found r = record { now = r.now; looks = r.looks; count = r.count + 1; stop = found }

-- Load done: a kept look.
abbrev pub looked : ℕ → ℕ → ClockPart → ClockPart
looked i found r = record { now = r.now; looks = slice_set r.looks i found; count = r.count + 1; stop = r.stop }

-- Store now: `now` grows by 1.
abbrev pub ticked : ClockPart → ClockPart
ticked r = record { now = r.now + 1; looks = r.looks; count = r.count; stop = r.stop }

-- Split seat: the part of task i goes to the new view.
abbrev pub without_part : ℕ → View → View
without_part i view = record { constants = view.constants; tasks = slice_set view.tasks i None; clock = view.clock }

abbrev pub only_part : ℕ → View → View
only_part i view = record {
  constants = view.constants;
  tasks = slice_set (replicate (length view.tasks) None) i (slice_index_or view.tasks i None);
  clock = None;
}

-- Join seat: the parts of the other view go to this one, and the other is spent.
abbrev pub first_of : {A : Type 0} → Option A → Option A → Option A
first_of (Some a) other = Some a
first_of None other = other

abbrev pub merged : List (Option TaskPart) → List (Option TaskPart) → List (Option TaskPart)
merged [] others = others
merged (p ∷ parts) [] = p ∷ parts
merged (p ∷ parts) (q ∷ others) = first_of p q ∷ merged parts others

abbrev pub joined : View → View → View
joined view other = record { constants = view.constants; tasks = merged view.tasks other.tasks; clock = first_of view.clock other.clock }

abbrev pub spent : View
spent = record { constants = None; tasks = []; clock = None }

-- a view that has no part, and is not spent
abbrev pub bare : Constants → View
bare k = record { constants = Some k; tasks = []; clock = None }

-- the witness after task i has raised
abbrev pub raised_by : ℕ → Witness → Witness
raised_by i w = record { owner = w.owner; clock_owner = w.clock_owner; raised = λ j. if j == i then true else w.raised j }

-- the witness after the part of task i went to another seat
abbrev pub given_to : ℕ → ℕ → Witness → Witness
given_to i id w = record { owner = λ j. if j == i then id else w.owner j; clock_owner = w.clock_owner; raised = w.raised }

-- the witness after a seat took in what another seat had
abbrev pub moved_owner : ℕ → ℕ → ℕ → ℕ
moved_owner id other owner = if owner == other then id else owner

abbrev pub taken_in : ℕ → ℕ → Witness → Witness
taken_in id other w = record { owner = λ j. moved_owner id other (w.owner j); clock_owner = moved_owner id other w.clock_owner; raised = w.raised }
