-- From the entries of a table to the slots of its frame: cut at the ends of hyperperiods, put in order, and joined.
use Rattle.std.specs.Prelude.{◌≡◌, ◌==◌, ◌+◌, ◌-◌, ◌*◌, ◌/◌, ◌%◌, ◌<◌, ◌^◌, ℕ, List, [], ◌∷◌, Some, length, max, min, nat_le, slice_get, if◌then◌else◌}
use Rattle.std.specs.List.{flat_map}
use Rattle.prl_plan.specs.Plans.{PlanView}
use Rattle.prl_overlaps.specs.declared.entries.Entry.{Entry}
use Rattle.prl_tables.specs.Tables.{classes, is_of}
use Rattle.prl_frames.specs.Frames.{goes_on}
use Rattle.prl_frames.specs.declared.slots.Slot.{Slot}
use Rattle.prl_frames.specs.declared.spans.Span.{Span}

-- of no entry
abbrev pub no_span : Span
no_span = record { begin = 2 ^ 64 - 1; end = 0 }

-- with one entry more
abbrev pub with_entry : Entry → Span → Span
with_entry entry span = record { begin = min entry.at span.begin; end = max (entry.at + entry.units) span.end }

-- where the first entry of class c of task i begins, and the last one ends
abbrev pub span_of : List Entry → ℕ → ℕ → Span
span_of [] i c = no_span
span_of (entry ∷ entries) i c = if is_of i c entry then with_entry entry (span_of entries i c) else span_of entries i c

-- by class, those of a task
abbrev pub HasSpans : List Entry → ℕ → List Span → Type 0
HasSpans entries i list = (c : ℕ) → c < length list → slice_get list c ≡ Some (span_of entries i c)

pub record AreTaskSpans (plan : PlanView) (entries : List Entry) (i : ℕ) (list : List Span) : Type 0 where
  pub long : length list ≡ classes plan.graph i
  pub each : HasSpans entries i list

-- by task
pub record AreSpans (plan : PlanView) (entries : List Entry) (lists : List (List Span)) : Type 0 where
  pub tasks : length lists ≡ length plan.graph.tasks
  pub each : (i : ℕ) (list : List Span) → slice_get lists i ≡ Some list → AreTaskSpans plan entries i list

-- where the hyperperiod of a tick ends
abbrev pub edge_after : ℕ → ℕ → ℕ
edge_after hyper a = (a / hyper + 1) * hyper

-- the slot of an entry's ticks from a up to b, all of one hyperperiod
abbrev pub slot_of : ℕ → Span → Entry → ℕ → ℕ → Slot
slot_of hyper span entry a b = record {
  at = a % hyper;
  units = b - a;
  task = entry.task;
  job = entry.job;
  from = a / hyper;
  first = a == span.begin;
  last = b == span.end;
}

-- the slots of an entry: two where it passes the end of a hyperperiod
abbrev pub cut : ℕ → Span → Entry → List Slot
cut hyper span entry =
    if nat_le (entry.at + entry.units) (edge_after hyper entry.at) then slot_of hyper span entry entry.at (entry.at + entry.units) ∷ []
    else slot_of hyper span entry entry.at (edge_after hyper entry.at) ∷ slot_of hyper span entry (edge_after hyper entry.at) (entry.at + entry.units) ∷ []

-- those of some entries of a table
abbrev pub cut_all : ℕ → List Entry → List Entry → List Slot
cut_all hyper table entries = flat_map (λ entry. cut hyper (span_of table entry.task.0 entry.job) entry) entries

-- two slots as one
abbrev pub joined : Slot → Slot → Slot
joined one next = record {
  at = one.at;
  units = one.units + next.units;
  task = one.task;
  job = one.job;
  from = one.from;
  first = one.first;
  last = next.last;
}

-- a slot and those after it, each joined with those that go on where it ends
abbrev pub join_onto : Slot → List Slot → List Slot
join_onto one [] = one ∷ []
join_onto one (next ∷ slots) = if goes_on one next then join_onto (joined one next) slots else one ∷ join_onto next slots

abbrev pub join : List Slot → List Slot
join [] = []
join (slot ∷ slots) = join_onto slot slots
