-- What each kind of step tells a seat, by the view before and the view after.
use Rattle.std.specs.Prelude.{◌≡◌, ◌≢◌, ◌+◌, ◌-◌, ◌/◌, ◌%◌, ◌^◌, ◌<◌, ◌≤◌, ℕ, [], slice_index_or, true, Option, Some, None}
use mathlib.Core.Option.{some}
use lib.ListN.{get_elem?}
use Rattle.prl_base.specs.Values.{FitsValue}
use Rattle.prl_base.specs.declared.numbers.EdgeNo.{EdgeNo}
use Rattle.prl_plan.specs.Facts.{WritesAt}
use Rattle.prl_plan.specs.LastTags.{IsWriter, last_tag}
use Rattle.prl_plan.specs.Operands.{operand_of}
use Rattle.prl_plan.specs.Plans.{PlanView, deadline_at, edge_at}
use Rattle.prl_plan.specs.Runs.{action_at}
use Rattle.prl_plan.specs.declared.events.Action.TheVariants as actions
use Rattle.prl_plan.specs.declared.events.SlotNo.{SlotNo}
use Rattle.prl_plan.specs.declared.walks.Operand.TheVariants as operands
use Rattle.prl_rule.specs.declared.views.Constants.{Constants}
use Rattle.prl_rule.specs.declared.views.Gate.TheVariants as gates
use Rattle.prl_rule.specs.declared.views.ClockPart.{ClockPart}
use Rattle.prl_rule.specs.declared.views.Standing.{Standing}
use Rattle.prl_rule.specs.declared.views.TaskPart.{TaskPart}
use Rattle.prl_rule.specs.declared.views.View.{View}
use Rattle.prl_rule.specs.Halves.{value_of_halves}
use Rattle.prl_rule.specs.RunValues.{half_of, word_of}
use Rattle.prl_rule.specs.Known.{run_of, values_of}
use Rattle.prl_rule.specs.Rule.{first_part}
use Rattle.prl_rule.specs.Steps.{HasRead, caught_up, done_counted, half_loaded, half_stored, looked, now_loaded, part_raised, stop_loaded, clock_stop_loaded, ticked, with_clock, with_part}

abbrev pub part_or : Option TaskPart → TaskPart
part_or (Some p) = p
part_or None = first_part []

-- the view's part of task i
abbrev pub part_of : ℕ → View → TaskPart
part_of i view = part_or (slice_index_or view.tasks i None)

-- it has one, and since its last step the seat has read constants, up to this place
pub record IsAt (k : Constants) (i place : ℕ) (view : View) : Type 0 where
  pub known : view.constants ≡ Some k
  pub part : get_elem? view.tasks i ≡ some (Some (part_of i view))
  pub past : (part_of i view).stand.place ≤ place
  pub read : HasRead (run_of k) i (part_of i view) (place - (part_of i view).stand.place)

-- the part as the seat stands at this place
abbrev pub part_at : Constants → ℕ → ℕ → View → TaskPart
part_at k i place view = caught_up (run_of k) (values_of k) i (place - (part_of i view).stand.place) (part_of i view)

-- after a load of `now` that found n
pub record NowTold (k : Constants) (i : ℕ) (before : View) (n : ℕ) (after : View) : Type 0 where
  pub view : after ≡ with_part i (now_loaded (run_of k) i n (part_of i before)) before
  pub rises : (part_of i before).stand.now ≤ n
  pub within : n ≤ (run_of k).end
  -- where the view has the clock's part, it is that part's `now`
  pub own : (r : ClockPart) → before.clock ≡ Some r → n ≡ r.now

-- after a load of the half h, which found n, where instance m of edge e was wanted
pub record HalfTold (k : Constants) (i place e m h : ℕ) (before : View) (n : ℕ) (after : View) : Type 0 where
  pub view : after ≡ with_part i (half_loaded (run_of k) (values_of k) i h (m + 1) n (part_at k i place before)) before
  -- it is the half of the value of the instance of this tag, which a horizon job writes there
  pub found : n ≡ word_of (values_of k) h (n / 2 ^ 32)
  pub written : (l : ℕ) → n / 2 ^ 32 ≡ l + 1 → (j : ℕ) × (job : ℕ) × (at : ℕ) × WritesAt (run_of k) j job at l h
  -- with the wanted tag it is of the wanted instance, and with the low half that is kept a high half makes its value
  pub half : n / 2 ^ 32 ≡ m + 1 → (n % 2 ^ 32 ≡ half_of (values_of k) h m) × FitsValue ((values_of k).stored (h / 2) m)
  pub value : n / 2 ^ 32 ≡ m + 1 → h % 2 ≡ 1 →
      value_of_halves ((values_of k).types e) (part_of i before).kept.low (n % 2 ^ 32) ≡ (values_of k).stored (h / 2) m
  pub no_later : k.gate ≡ gates.Gated → n / 2 ^ 32 ≤ m + 1
  -- where the view has the part of the task that writes there, it is what that part left
  pub own : (j : ℕ) (q : TaskPart) → get_elem? before.tasks j ≡ some (Some q) → IsWriter (run_of k) j h →
      n ≡ word_of (values_of k) h (last_tag (run_of k) j h q.stand.ended q.stand.place)

-- no job that reads instance l of edge e, of the horizon or not, is due after this date
abbrev pub IsReadBy : PlanView → ℕ → ℕ → ℕ → Type 0
IsReadBy plan e l date = (n : ℕ) → operand_of (edge_at plan.graph e) n ≡ operands.From l → deadline_at plan (edge_at plan.graph e).to.0 n ≤ date

-- what the task itself left in a slot, as it stands, is nothing, or an instance that is read by the `now` that it has loaded
abbrev pub LeftIsRead : Constants → ℕ → Standing → EdgeNo → SlotNo → Type 0
LeftIsRead k i at e slot = (l : ℕ) → last_tag (run_of k) i slot.0 at.ended at.place ≡ l + 1 → IsReadBy k.plan e.0 l at.now

-- after a store of a half, which replaces what its task left there
pub record WriteTold (k : Constants) (i place : ℕ) (before after : View) : Type 0 where
  pub view : after ≡ with_part i (half_stored (run_of k) (values_of k) i (part_at k i place before)) before
  pub replaces : (e : EdgeNo) (m : ℕ) (slot : SlotNo) →
      action_at (run_of k) i (part_at k i place before).stand.ended (part_at k i place before).stand.place ≡ actions.Write e m slot →
      LeftIsRead k i (part_at k i place before).stand e slot

-- after a store of a done word
abbrev pub EndTold : Constants → ℕ → ℕ → View → View → Type 0
EndTold k i place before after = after ≡ with_part i (done_counted (values_of k) i (part_at k i place before)) before

-- after a load of the done word of task i, which found n, by the clock's part r
pub record LookTold (k : Constants) (i : ℕ) (r : ClockPart) (before : View) (n : ℕ) (after : View) : Type 0 where
  pub view : after ≡ with_clock (looked i n r) before
  pub counted : n ≤ (run_of k).jobs i
  -- where the view has the task's part too, it is the number of its ended jobs
  pub own : (p : TaskPart) → get_elem? before.tasks i ≡ some (Some p) → n ≡ p.stand.ended

-- after a store of `now`
abbrev pub TickTold : ClockPart → View → View → Type 0
TickTold r before after = after ≡ with_clock (ticked r) before

-- after a raise
abbrev pub RaiseTold : Constants → ℕ → ℕ → View → View → Type 0
RaiseTold k i place before after = after ≡ with_part i (part_raised (part_at k i place before)) before

-- what a loaded stop word tells: 0 on a gated board, and not where the view has a part that has raised; else it names a task
pub record IsStopFor (k : Constants) (before : View) (n : ℕ) : Type 0 where
  pub gated : k.gate ≡ gates.Gated → n ≡ 0
  pub own : (i : ℕ) (p : TaskPart) → get_elem? before.tasks i ≡ some (Some p) → p.stop.raised ≡ true → n ≢ 0
  pub named : n ≢ 0 → (j : ℕ) × (j < (run_of k).tasks) × (n ≡ j + 1)

-- after a load of the stop word that found n, by a task's seat and by the clock's
pub record StopTold (k : Constants) (i place : ℕ) (before : View) (n : ℕ) (after : View) : Type 0 where
  pub view : after ≡ with_part i (stop_loaded n (part_at k i place before)) before
  pub word : IsStopFor k before n

pub record ClockStopTold (k : Constants) (r : ClockPart) (before : View) (n : ℕ) (after : View) : Type 0 where
  pub view : after ≡ with_clock (clock_stop_loaded n r) before
  pub word : IsStopFor k before n
