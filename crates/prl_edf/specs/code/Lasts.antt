-- Which pieces are the last of their jobs.
use Rattle.std.specs.Prelude.{◌≡◌, ◌-◌, ◌<◌, ◌≤◌, ◌++◌, ◌⊎◌, ◌==◌, ℕ, zero, suc, Bool, true, false, List, [], ◌∷◌, Option, Some, None, replicate, if◌then◌else◌}
use Rattle.prl_plan.specs.declared.events.Event.{Event}
use Rattle.prl_plan.specs.declared.events.Event.TheVariants as kinds
use Rattle.prl_plan.specs.Runs.{RunConstants}
use Rattle.prl_edf.specs.declared.pieces.Piece.{Piece}
use Rattle.prl_edf.specs.Pieces.{run_of}
use Rattle.prl_edf.specs.TimedRuns.{totals}
use Rattle.prl_edf.specs.Unrolled.{acts_in, events_to}

-- the job of the first of these pieces that is of task i
abbrev pub next_job : List Piece → ℕ → Option ℕ
next_job [] i = None
next_job (piece ∷ pieces) i = if piece.task.0 == i then Some piece.job else next_job pieces i

-- whether no piece of this job comes among these pieces, which come after it
abbrev pub is_other : Option ℕ → ℕ → Bool
is_other None n = true
is_other (Some m) n = if m == n then false else true

abbrev pub lasts_in : List Piece → List Bool
lasts_in [] = []
lasts_in (piece ∷ pieces) = is_other (next_job pieces piece.task.0) piece.job ∷ lasts_in pieces

-- the events before what is done at tick t
abbrev pub before : RunConstants → (ℕ → Option (ℕ × ℕ)) → ℕ → List Event
before c run zero = []
before c run (suc t) = events_to c (totals c run) run t ++ (kinds.Tick ∷ [])

-- the events so far, up to `now`, where the pieces are told up to `done`
pub record IsUnrolling (c : RunConstants) (run : ℕ → Option (ℕ × ℕ)) (rest : List Piece) (now : ℕ) (list : List Event) : Type 0 where
  pub done : ℕ
  pub within : now ≤ done
  pub begins : (piece : Piece) (pieces : List Piece) → rest ≡ piece ∷ pieces → done ≤ piece.from
  pub goes_on : (t : ℕ) → done ≤ t → run t ≡ run_of rest t
  pub listed : (t : ℕ) → done ≤ t → ((s : ℕ) → done ≤ s → s < t → acts_in c (totals c run) run s (run s) ≡ []) → before c run t ≡ list ++ replicate (t - now) kinds.Tick
  pub told : (((t : ℕ) → t < done → run t ≡ None) × (list ≡ [])) ⊎
      (rest ≡ [] → (list ≡ events_to c (totals c run) run now) × (run now ≡ None → ⊥) × (done ≡ suc now))
