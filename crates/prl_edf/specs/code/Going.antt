-- A run by earliest deadline first while it is made.
use Rattle.std.specs.Prelude.{◌≡◌, ◌+◌, ◌-◌, ◌<◌, ◌≤◌, ◌⊎◌, ℕ, List, length, Option, Some, None, slice_index_or, MatchOption}
use Rattle.prl_plan.specs.Facts.{IsJob}
use Rattle.prl_plan.specs.Runs.{RunConstants}
use Rattle.prl_edf.specs.Pieces.{run_of, AreLongest}
use Rattle.prl_edf.specs.code.Extended.{EndBy}
use Rattle.prl_edf.specs.TimedRuns.{units_before, IsReady}
use Rattle.prl_edf.specs.MetWindows.{MeetsWindow}
use Rattle.prl_edf.specs.declared.pieces.Piece.{Piece}
use Rattle.prl_edf.specs.declared.rests.Rest.{Rest}
use Rattle.prl_edf.specs.declared.rests.Ready.{Ready}
use Rattle.prl_edf.specs.declared.rests.Choice.{Choice}

abbrev pub rest_of : List (Option Rest) → ℕ → Option Rest
rest_of rests j = slice_index_or rests j None

-- of the tasks below a bound this one is released, due first, and the lowest of those
pub record IsFirstReady (rests : List (Option Rest)) (now bound : ℕ) (ready : Ready) : Type 0 where
  pub below : ready.task.0 < bound
  pub is : rest_of rests ready.task.0 ≡ Some ready.rest
  pub released : ready.rest.release ≤ now
  pub earliest : (j : ℕ) (q : Rest) → j < bound → rest_of rests j ≡ Some q → q.release ≤ now → ready.rest.deadline ≤ q.deadline
  pub lowest : (j : ℕ) (q : Rest) → j < bound → rest_of rests j ≡ Some q → q.release ≤ now → ready.rest.deadline ≡ q.deadline → ready.task.0 ≤ j

abbrev pub NoneReady : List (Option Rest) → ℕ → ℕ → Type 0
NoneReady rests now bound = (j : ℕ) (q : Rest) → j < bound → rest_of rests j ≡ Some q → now < q.release

-- the first ready task among those below a bound, and the least release after now, or else the end
pub record IsChoice (rests : List (Option Rest)) (now end bound : ℕ) (choice : Choice) : Type 0 where
  pub ready : MatchOption choice.ready (NoneReady rests now bound) (IsFirstReady rests now bound)
  pub next : (j : ℕ) (q : Rest) → j < bound → rest_of rests j ≡ Some q → now < q.release → choice.next ≤ q.release
  pub within : choice.next ≤ end
  pub later : (choice.next ≡ end) ⊎ (now < choice.next)

-- what is kept of task i: its first job with units left, of which it has had the units of the earlier ones and none of the later ones
pub record IsRestOf (c : RunConstants) (units : ℕ → ℕ → ℕ) (run : ℕ → Option (ℕ × ℕ)) (now i : ℕ) (rest : Rest) : Type 0 where
  pub inside : rest.job < c.jobs i
  pub release : rest.release ≡ c.release i rest.job
  pub deadline : rest.deadline ≡ c.deadline i rest.job
  pub some : 1 ≤ rest.units
  pub units_left : units_before run now i rest.job + rest.units ≡ units i rest.job
  pub earlier : (n : ℕ) → n < rest.job → units_before run now i n ≡ units i n
  pub later : (n : ℕ) → rest.job < n → units_before run now i n ≡ 0

-- job n of task i, which has all its units left
pub record IsFresh (c : RunConstants) (units : ℕ → ℕ → ℕ) (i n : ℕ) (rest : Rest) : Type 0 where
  pub job : rest.job ≡ n
  pub inside : n < c.jobs i
  pub release : rest.release ≡ c.release i rest.job
  pub deadline : rest.deadline ≡ c.deadline i rest.job
  pub some : 1 ≤ rest.units
  pub units_all : rest.units ≡ units i rest.job

-- what is left of a task after its first job has had some units: its next job, if that was all, or the rest of this one
pub record IsRestAfter (c : RunConstants) (units : ℕ → ℕ → ℕ) (ready : Ready) (had : ℕ) (left : Option Rest) : Type 0 where
  pub all : had ≡ ready.rest.units → MatchOption left (c.jobs ready.task.0 ≤ ready.rest.job + 1) (IsFresh c units ready.task.0 (ready.rest.job + 1))
  pub some : had < ready.rest.units → left ≡ Some (record ready.rest { units = ready.rest.units - had })

abbrev pub IsDoneTask : RunConstants → (ℕ → ℕ → ℕ) → (ℕ → Option (ℕ × ℕ)) → ℕ → ℕ → Type 0
IsDoneTask c units run now i = (n : ℕ) → n < c.jobs i → units_before run now i n ≡ units i n

pub record AreRests (c : RunConstants) (units : ℕ → ℕ → ℕ) (run : ℕ → Option (ℕ × ℕ)) (now : ℕ) (rests : List (Option Rest)) : Type 0 where
  pub tasks : length rests ≡ c.tasks
  pub each : (i : ℕ) → i < c.tasks → MatchOption (rest_of rests i) (IsDoneTask c units run now i) (IsRestOf c units run now i)

-- the ticks before now go as in a plain run, and those from then on to none
pub record IsPlainTo (c : RunConstants) (units : ℕ → ℕ → ℕ) (run : ℕ → Option (ℕ × ℕ)) (now : ℕ) : Type 0 where
  pub ready : (t i n : ℕ) → t < now → run t ≡ Some (i, n) → IsReady c units run t i n
  pub earliest : (t i n j k : ℕ) → t < now → run t ≡ Some (i, n) → IsReady c units run t j k → c.deadline i n ≤ c.deadline j k
  pub lowest : (t i n j k : ℕ) → t < now → run t ≡ Some (i, n) → IsReady c units run t j k → c.deadline i n ≡ c.deadline j k → i ≤ j
  pub busy : (t j k : ℕ) → t < now → run t ≡ None → IsReady c units run t j k → ⊥
  pub rest : (t : ℕ) → now ≤ t → run t ≡ None

pub record IsGoing (c : RunConstants) (units : ℕ → ℕ → ℕ) (run : ℕ → Option (ℕ × ℕ)) (now : ℕ) (rests : List (Option Rest)) : Type 0 where
  pub kept_rests : AreRests c units run now rests
  pub plain : IsPlainTo c units run now
  pub within : now ≤ c.end
  -- no job with units left is due before now, and those without have met their windows
  pub kept : (i n : ℕ) → IsJob c i n → units_before run now i n < units i n → now ≤ c.deadline i n
  pub met : (i n : ℕ) → IsJob c i n → units i n ≤ units_before run now i n → MeetsWindow c units run i n

-- the pieces so far are such a run
pub record IsMaking (c : RunConstants) (units : ℕ → ℕ → ℕ) (pieces : List Piece) (now : ℕ) (rests : List (Option Rest)) : Type 0 where
  pub going : IsGoing c units (run_of pieces) now rests
  pub longest : AreLongest pieces
  pub ended : EndBy pieces now
