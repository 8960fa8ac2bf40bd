-- What is known of a seat whose job stands at an action, and what the word of a half is that it loads.
use Rattle.std.proofs.Common.{◌≡◌, ◌+◌, ◌/◌, ◌%◌, ◌^◌, ℕ, Some, ap, sym, ◌∙◌}
use Rattle.prl_base.specs.Values.{FitsValue, type_of}
use Rattle.prl_base.specs.declared.numbers.EdgeNo.{EdgeNo}
use Rattle.prl_base.specs.declared.values.Value.{Value}
use Rattle.prl_plan.specs.Facts.{IsJob}
use Rattle.prl_plan.specs.declared.events.Action.{Action}
use Rattle.prl_plan.specs.declared.events.SlotNo.{SlotNo}
use Rattle.prl_plan.specs.declared.events.Action.TheVariants as actions
use Rattle.prl_values.specs.declared.workers.Worker.{Worker}
use Rattle.prl_rule.specs.Vocabulary.{run_of, values_of, AreHalves, high_half, low_half, value_of_halves, HasValueFacts, half_of}
use Rattle.prl_rule.specs.declared.views.Constants.{Constants}
use Rattle.prl_seats.specs.Vocabulary.{BoardView, Follows, GoesOn, HasPartOf, IsSeatOf, JobSeatView, LoadsHalf}
use Rattle.prl_seats.specs.declared.jobs.Stage.TheVariants as stages
use Rattle.prl_seats.proofs.Following.{stands_so}
use Rattle.prl_board.proofs.Lows.{cell_of_high, value_of_both}
use Rattle.prl_board.proofs.SeatReads.{Keeps}

-- the seat's open job stands at the action
pub record StandsAt (k : Constants) (s : JobSeatView) (low : ℕ) (worker : Worker) (action : Action) : Type 0 where
  pub kept : Keeps k s low worker
  pub stage : s.stage ≡ stages.At action
  pub reads : Follows k s.view s.task.0 s.job s.place (stages.At action)
  pub job : IsJob (run_of k) s.task.0 s.job

pub stands_at : {b : BoardView} {s seen : JobSeatView} {low : ℕ} {worker : Worker} {action : Action} → s ≡ seen → IsSeatOf b seen → seen.stage ≡ stages.At action →
    ((k : Constants) → s.view.constants ≡ Some k → Keeps k s low worker) →
    ((k : Constants) → s.view.constants ≡ Some k → HasPartOf s.task.0 s.view → Follows k s.view s.task.0 s.job s.place s.stage) → StandsAt b.known s low worker action
stands_at {b = b} same seat at keeps stands =
    let here = stands_so same seat stands at in
    record { kept = keeps b.known here.known; stage = here.stage; reads = here.follows; job = record { task = here.follows.task; job = here.follows.shown.1 } }

-- what the seat keeps, wherever its job stands
pub keeps_here : {b : BoardView} {s seen : JobSeatView} {low : ℕ} {worker : Worker} → s ≡ seen → IsSeatOf b seen → ((k : Constants) → s.view.constants ≡ Some k → Keeps k s low worker) →
    Keeps b.known s low worker
keeps_here {b = b} same seat keeps = keeps b.known (ap (λ (v : JobSeatView). v.view.constants) same ∙ seat.known)

-- the loaded word has the wanted tag
pub record FindsHalf (k : Constants) (m : ℕ) (slot : SlotNo) (before after : JobSeatView) (word loaded : ℕ) : Type 0 where
  pub tag : word / 2 ^ 32 ≡ m + 1
  pub goes : GoesOn k before after
  pub half : loaded ≡ half_of (values_of k) slot.0 m

pub finds_half : {k : Constants} {e : EdgeNo} {m : ℕ} {slot : SlotNo} {before after : JobSeatView} {word wanted found half : ℕ} → LoadsHalf k e m slot before after word →
    wanted ≡ m + 1 → found ≡ word / 2 ^ 32 → half ≡ word % 2 ^ 32 → found ≡ wanted → FindsHalf k m slot before after word half
finds_half told is its low same =
    let tag = sym its ∙ same ∙ is in
    record { tag = tag; goes = told.found tag; half = low ∙ (told.told.half tag).0 }

-- with the low half that the seat keeps, a high half makes the value
pub value_here : {k : Constants} {s : JobSeatView} {kept : ℕ} {worker : Worker} {port : ℕ} {e : EdgeNo} {m : ℕ} {slot : SlotNo} {found : ℕ} →
    ((value : Value) → FitsValue value → AreHalves (type_of value) (low_half value) (high_half value)) →
    ((value : Value) → FitsValue value → value_of_halves (type_of value) (low_half value) (high_half value) ≡ value) → HasValueFacts (run_of k) (values_of k) →
    StandsAt k s kept worker (actions.Read port e m slot) → slot.0 % 2 ≡ 1 → found ≡ half_of (values_of k) slot.0 m → FitsValue ((values_of k).stored (slot.0 / 2) m) →
    AreHalves ((values_of k).types e.0) kept found × (value_of_halves ((values_of k).types e.0) kept found ≡ (values_of k).stored (slot.0 / 2) m)
value_here {k = k} {s = s} {kept = kept} {port = port} {e = e} {m = m} {slot = slot} {found = found} are made facts at odd half fits =
    value_of_both (run_of k) (values_of k) are made facts s.task.0 s.job s.place port e m slot at.job at.reads.shown.2 odd kept found
    (at.kept.0 port e m (slot.0 / 2) (at.stage ∙ ap (λ (x : ℕ). stages.At (actions.Read port e m (record { 0 = x }))) (cell_of_high (run_of k) (values_of k) slot.0 odd))) half fits
