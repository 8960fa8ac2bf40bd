-- A text is whole, or has one first fault.
use Rattle.std.proofs.Common.{◌≡◌, ◌⊎◌, ◌+◌, ◌∙◌, ℕ, suc, List, [], ◌∷◌, Option, Some, None, Result, Ok, Err, inl, inr, refl, ap, subst, arith}
use Rattle.prl_base.specs.Vocabulary.{lines_of, ◌>>=◌}
use Rattle.prl_base.specs.declared.numbers.TaskNo.{TaskNo}
use Rattle.prl_plan.specs.Vocabulary.{RunConstants, ExecState, after_event, IsLegal, KeepsLegal, IsComplete, FirstBroken, IsFirstUnfinished}
use Rattle.prl_plan.specs.declared.events.Event.{Event}
use Rattle.prl_plan.specs.declared.events.Rule.{Rule}
use Rattle.prl_core.specs.Cores.{CoreView, constants}
use Rattle.prl_schedules.specs.Vocabulary.{event_of, without_return, or_line, events_from, schedule_of, task_names}
use Rattle.prl_schedules.specs.declared.schedules.ScheduleFault.{ScheduleFault}
use Rattle.prl_schedules.specs.declared.schedules.ScheduleFault.TheVariants as lines
use Rattle.prl_replay.specs.Vocabulary.{ReplayFault, after_all, IsRunFault, IsReplayFault, IsWholeText}
use Rattle.prl_replay.specs.declared.faults.ReplayFault.TheVariants as faults
use Rattle.prl_replay.proofs.Legality.{BreaksAt, legal_none_broken, one_break, complete_finished, one_unfinished}

-- a text is never no schedule for want of memory
last_no_memory : (k : ℕ) (event : Option Event) → (or_line k event >>= λ e. Ok (e ∷ [])) ≡ Err lines.Memory → ⊥
last_no_memory k None h = cc
last_no_memory k (Some event) h = cc

rest_no_memory : (event : Event) (rest : Result (List Event) ScheduleFault) → (rest ≡ Err lines.Memory → ⊥) → (rest >>= λ events. Ok (event ∷ events)) ≡ Err lines.Memory → ⊥
rest_no_memory event (Ok events) never h = cc
rest_no_memory event (Err fault) never h = never (let same : fault ≡ lines.Memory = cc in ap Err same)

first_no_memory : (k : ℕ) (event : Option Event) (rest : Result (List Event) ScheduleFault) → (rest ≡ Err lines.Memory → ⊥) →
    (or_line k event >>= λ e. (rest >>= λ events. Ok (e ∷ events))) ≡ Err lines.Memory → ⊥
first_no_memory k None rest never h = cc
first_no_memory k (Some event) rest never h = rest_no_memory event rest never h

no_memory : (names : List (List ℕ)) (k : ℕ) (text : List (List ℕ)) → events_from names k text ≡ Err lines.Memory → ⊥
no_memory names k [] h = cc
no_memory names k ([] ∷ []) h = cc
no_memory names k ((b ∷ bs) ∷ []) h = last_no_memory k (event_of names (b ∷ bs)) h
no_memory names k (line ∷ next ∷ text) h =
    first_no_memory k (event_of names (without_return line)) (events_from names (k + 1) (next ∷ text)) (no_memory names (k + 1) (next ∷ text)) h

-- the laws of events
pub record Decided : Type 0 where
  pub rules : (c : RunConstants) (s : ExecState) (event : Event) → KeepsLegal c s event ⊎ ((rule : Rule) × FirstBroken c s event rule)
  pub complete : (c : RunConstants) (s : ExecState) → IsComplete c s ⊎ ((i : ℕ) × (n : ℕ) × IsFirstUnfinished c s i n)

abbrev LegalOrBroken : RunConstants → ExecState → List Event → Type 0
LegalOrBroken c s list = IsLegal c s list ⊎ ((i : ℕ) × (rule : Rule) × BreaksAt c s list i rule)

legal_or_broken : Decided → (c : RunConstants) (s : ExecState) (list : List Event) → LegalOrBroken c s list
legal_or_broken law c s [] = inl tt
legal_or_broken law c s (event ∷ list) = elim (law.rules c s event) [
  | inr broken ↦ inr (0, broken.0, record { event = event; at = refl; legal = tt; broken = broken.1 })
  | inl keeps ↦ elim (legal_or_broken law c (after_event c s event) list) [
    | inl legal ↦ inl (keeps, legal)
    | inr later ↦ inr (
      suc later.0,
      later.1,
      record {
        event = later.2.event;
        at = later.2.at;
        legal = (keeps, later.2.legal);
        broken = later.2.broken;
      },
    )
  ]
]

-- the events are legal and complete
abbrev pub IsWhole : CoreView → List Event → Type 0
IsWhole core list = IsLegal (constants core) core.state list × IsComplete (constants core) (after_all core list).state

list_ends : Decided → (core : CoreView) (list : List Event) → IsWhole core list ⊎ ((fault : ReplayFault) × IsRunFault core list fault)
list_ends law core list = elim (legal_or_broken law (constants core) core.state list) [
  | inr h ↦ inr (faults.Illegal (h.0 + 1) h.1, (h.0, h.2.event, refl, h.2.at, h.2.legal, h.2.broken))
  | inl legal ↦ elim (law.complete (constants core) (after_all core list).state) [
    | inl complete ↦ inl (legal, complete)
    | inr left ↦ inr (faults.Unfinished (record { 0 = left.0 }) left.1, (legal, left.2))
  ]
]

-- a first fault, as a break of a rule
breaks : (core : CoreView) (list : List Event) (line : ℕ) (rule : Rule) (h : IsRunFault core list (faults.Illegal line rule)) →
    BreaksAt (constants core) core.state list h.0 rule
breaks core list line rule h = record { event = h.1; at = h.3; legal = h.4; broken = h.5 }

pub whole_unbroken : (core : CoreView) (list : List Event) (fault : ReplayFault) → IsWhole core list → IsRunFault core list fault → ⊥
whole_unbroken core list (faults.Syntax line) whole h = h
whole_unbroken core list (faults.Illegal line rule) whole h =
    legal_none_broken (constants core) core.state list h.0 rule whole.0 (breaks core list line rule h)
whole_unbroken core list (faults.Unfinished task job) whole h =
    complete_finished (constants core) (after_all core list).state task.0 job whole.1 h.1
whole_unbroken core list faults.Memory whole h = h

one_run_fault : (core : CoreView) (list : List Event) (a b : ReplayFault) → IsRunFault core list a → IsRunFault core list b → a ≡ b
one_run_fault core list (faults.Syntax line) b h k = absurd h
one_run_fault core list (faults.Illegal line rule) (faults.Syntax other) h k = absurd k
one_run_fault core list (faults.Illegal line rule) (faults.Illegal other broken) h k =
    let same = one_break (constants core) core.state list h.0 k.0 rule broken (breaks core list line rule h) (breaks core list other broken k) in
    let here = h.2 in
    let there = k.2 in
    let place = same.0 in
    let numbers : line ≡ other = omega (arith, here, there, place) in
    ap (λ n. faults.Illegal n rule) numbers ∙ ap (faults.Illegal other) same.1
one_run_fault core list (faults.Illegal line rule) (faults.Unfinished task job) h k =
    absurd (legal_none_broken (constants core) core.state list h.0 rule k.0 (breaks core list line rule h))
one_run_fault core list (faults.Illegal line rule) faults.Memory h k = absurd k
one_run_fault core list (faults.Unfinished task job) (faults.Syntax other) h k = absurd k
one_run_fault core list (faults.Unfinished task job) (faults.Illegal line rule) h k =
    absurd (legal_none_broken (constants core) core.state list k.0 rule h.0 (breaks core list line rule k))
one_run_fault core list (faults.Unfinished task job) (faults.Unfinished other left) h k =
    let same = one_unfinished (constants core) (after_all core list).state task.0 job other.0 left h.1 k.1 in
    let tasks : task ≡ other = ap (λ (n : ℕ). record { 0 = n }) same.0 in
    ap (λ (t : TaskNo). faults.Unfinished t job) tasks ∙ ap (faults.Unfinished other) same.1
one_run_fault core list (faults.Unfinished task job) faults.Memory h k = absurd k
one_run_fault core list faults.Memory b h k = absurd h

same_events : (written : Result (List Event) ScheduleFault) (a b : List Event) → written ≡ Ok a → written ≡ Ok b → a ≡ b
same_events written a b h k = cc

apart : (written : Result (List Event) ScheduleFault) (a : List Event) (fault : ScheduleFault) → written ≡ Ok a → written ≡ Err fault → ⊥
apart written a fault h k = cc

same_line : (written : Result (List Event) ScheduleFault) (a b : ℕ) → written ≡ Err (lines.Syntax a) → written ≡ Err (lines.Syntax b) → a ≡ b
same_line written a b h k = cc

-- a fault of events is none of lines
abbrev IsOfEvents : CoreView → List ℕ → ReplayFault → Type 0
IsOfEvents core text fault = (events : List Event) × (schedule_of (task_names core.plan) text ≡ Ok events) × IsRunFault core events fault

module _ (law : Decided) (core : CoreView) (text : List ℕ) where
  listed : (fault : ReplayFault) → IsOfEvents core text fault → IsReplayFault core text fault
  listed (faults.Syntax line) is = absurd is.2
  listed (faults.Illegal line rule) is = is
  listed (faults.Unfinished task job) is = is
  listed faults.Memory is = is

  from_written : (written : Result (List Event) ScheduleFault) → schedule_of (task_names core.plan) text ≡ written →
      IsWholeText core text ⊎ ((fault : ReplayFault) × IsReplayFault core text fault)
  from_written (Ok events) is = elim (list_ends law core events) [
    | inl whole ↦ inl (events, is, whole.0, whole.1)
    | inr broken ↦ inr (broken.0, listed broken.0 (events, is, broken.1))
  ]
  from_written (Err (lines.Syntax line)) is = inr (faults.Syntax line, is)
  from_written (Err lines.Memory) is = absurd (no_memory (task_names core.plan) 1 (lines_of text) is)

  pub whole_or_fault : IsWholeText core text ⊎ ((fault : ReplayFault) × IsReplayFault core text fault)
  whole_or_fault = from_written (schedule_of (task_names core.plan) text) refl

module _ (core : CoreView) (text : List ℕ) where
  whole_against : (fault : ReplayFault) → IsWholeText core text → IsOfEvents core text fault → ⊥
  whole_against fault whole is =
      whole_unbroken core whole.0 fault (whole.2, whole.3)
      (subst (λ (events : List Event). IsRunFault core events fault) (same_events (schedule_of (task_names core.plan) text) is.0 whole.0 is.1 whole.1) is.2)

  pub whole_has_no_fault : (fault : ReplayFault) → IsWholeText core text → IsReplayFault core text fault → ⊥
  whole_has_no_fault (faults.Syntax line) whole is = apart (schedule_of (task_names core.plan) text) whole.0 (lines.Syntax line) whole.1 is
  whole_has_no_fault (faults.Illegal line rule) whole is = whole_against (faults.Illegal line rule) whole is
  whole_has_no_fault (faults.Unfinished task job) whole is = whole_against (faults.Unfinished task job) whole is
  whole_has_no_fault faults.Memory whole is = whole_against faults.Memory whole is

  both_of_events : (a b : ReplayFault) → IsOfEvents core text a → IsOfEvents core text b → a ≡ b
  both_of_events a b is other =
      one_run_fault core other.0 a b
      (subst (λ (events : List Event). IsRunFault core events a) (same_events (schedule_of (task_names core.plan) text) is.0 other.0 is.1 other.1) is.2) other.2

  line_or_events : (a : ℕ) (b : ReplayFault) → schedule_of (task_names core.plan) text ≡ Err (lines.Syntax a) → IsOfEvents core text b → ⊥
  line_or_events a b is other = apart (schedule_of (task_names core.plan) text) other.0 (lines.Syntax a) other.1 is

  pub one_fault : (a b : ReplayFault) → IsReplayFault core text a → IsReplayFault core text b → a ≡ b
  one_fault (faults.Syntax a) (faults.Syntax b) is other = ap faults.Syntax (same_line (schedule_of (task_names core.plan) text) a b is other)
  one_fault (faults.Syntax a) (faults.Illegal line rule) is other = absurd (line_or_events a (faults.Illegal line rule) is other)
  one_fault (faults.Syntax a) (faults.Unfinished task job) is other = absurd (line_or_events a (faults.Unfinished task job) is other)
  one_fault (faults.Syntax a) faults.Memory is other = absurd (line_or_events a faults.Memory is other)
  one_fault (faults.Illegal line rule) (faults.Syntax b) is other = absurd (line_or_events b (faults.Illegal line rule) other is)
  one_fault (faults.Illegal line rule) (faults.Illegal a broken) is other = both_of_events (faults.Illegal line rule) (faults.Illegal a broken) is other
  one_fault (faults.Illegal line rule) (faults.Unfinished task job) is other = both_of_events (faults.Illegal line rule) (faults.Unfinished task job) is other
  one_fault (faults.Illegal line rule) faults.Memory is other = both_of_events (faults.Illegal line rule) faults.Memory is other
  one_fault (faults.Unfinished task job) (faults.Syntax b) is other = absurd (line_or_events b (faults.Unfinished task job) other is)
  one_fault (faults.Unfinished task job) (faults.Illegal line rule) is other = both_of_events (faults.Unfinished task job) (faults.Illegal line rule) is other
  one_fault (faults.Unfinished task job) (faults.Unfinished a left) is other = both_of_events (faults.Unfinished task job) (faults.Unfinished a left) is other
  one_fault (faults.Unfinished task job) faults.Memory is other = both_of_events (faults.Unfinished task job) faults.Memory is other
  one_fault faults.Memory b is other = absurd is.2
