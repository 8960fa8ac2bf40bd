-- How one thread stands that does the unrolled list of a table.
use Rattle.std.specs.Prelude.{◌≡◌, ◌≢◌, ◌+◌, ◌<◌, ℕ, List, Option, Some, None, length, nat_lt, slice_get, slice_index, if◌then◌else◌}
use Rattle.prl_edf.specs.Unrolled.{HaveOneEnd}
use Rattle.prl_plan.specs.declared.events.Event.{Event}
use Rattle.prl_plan.specs.Facts.{IsJob}
use Rattle.prl_plan.specs.Runs.{RunConstants, ExecState}
use Rattle.prl_rule.specs.declared.views.ClockPart.{ClockPart}
use Rattle.prl_rule.specs.declared.views.Constants.{Constants}
use Rattle.prl_rule.specs.Known.{run_of}
use Rattle.prl_rule.specs.Rule.{reached}
use Rattle.prl_seats.specs.JobSeats.{JobSeatView}
use Rattle.prl_board.specs.Lones.{LoneView}
use Rattle.prl_exec.specs.Standing.{StandsIn}
use Rattle.prl_tables.specs.CheckedTables.{CheckedView}
use Rattle.prl_tables.specs.Tables.{last_unit}
use Rattle.prl_tables.specs.Unrolled.{Placing, HaveActed, IsPlacing}

-- when each job acts
abbrev pub acts_at : Constants → CheckedView → Placing
acts_at k table = last_unit k.plan.graph table.entries

-- when job n of task i acts, if it is one of the horizon
abbrev pub next_act : RunConstants → Placing → ℕ → ℕ → Option ℕ
next_act c at i n = if nat_lt n (c.jobs i) then Some (at i n) else None

-- by task, when its first job acts
pub record AreFirst (c : RunConstants) (at : Placing) (noted : List (Option ℕ)) : Type 0 where
  pub tasks : length noted ≡ c.tasks
  pub each : (i : ℕ) (first : Option ℕ) → slice_get noted i ≡ Some first → first ≡ next_act c at i 0

-- the table is one of the board's plan, and places its jobs
pub record IsBoardOf (k : Constants) (table : CheckedView) : Type 0 where
  pub plan : table.plan ≡ k.plan
  pub placing : IsPlacing (run_of k) (acts_at k table)
  pub ends : HaveOneEnd (run_of k)

-- the clock has seen how many jobs of task j have ended, and its next job acts when the list tells
pub record IsAhead (c : RunConstants) (at : Placing) (part : ClockPart) (noted : List (Option ℕ)) (s : ExecState) (j : ℕ) : Type 0 where
  pub seen : slice_index part.looks j ≡ slice_index s.ended j
  pub next : slice_get noted j ≡ Some (next_act c at j (slice_index s.ended j))

-- what acts before tick t and, at tick t, of the tasks before task i has been done
pub record IsDriven (k : Constants) (table : CheckedView) (l : LoneView) (noted : List (Option ℕ)) (t i : ℕ) : Type 0 where
  pub part : ClockPart
  pub list : List Event
  pub stands : StandsIn (run_of k) l part list
  pub acted : HaveActed (run_of k) (acts_at k table) t i 0 (reached (run_of k) list)
  pub ahead : (j : ℕ) → j < (run_of k).tasks → IsAhead (run_of k) (acts_at k table) part noted (reached (run_of k) list) j

-- and of task i, of which the clock has seen one job less
pub record IsJobDone (k : Constants) (table : CheckedView) (l : LoneView) (noted : List (Option ℕ)) (t i : ℕ) : Type 0 where
  pub part : ClockPart
  pub list : List Event
  pub stands : StandsIn (run_of k) l part list
  pub acted : HaveActed (run_of k) (acts_at k table) t (i + 1) 0 (reached (run_of k) list)
  pub others : (j : ℕ) → j < (run_of k).tasks → j ≢ i → IsAhead (run_of k) (acts_at k table) part noted (reached (run_of k) list) j

-- job n of task i comes next, and acts at tick t
pub record IsNextJob (k : Constants) (table : CheckedView) (l : LoneView) (t i n : ℕ) : Type 0 where
  pub job : IsJob (run_of k) i n
  pub acts : acts_at k table i n ≡ t
  pub next : (seat : JobSeatView) → slice_get l.seats i ≡ Some seat → seat.job ≡ n
