-- Jobs with their dates, and which of them are pending.
use Rattle.std.specs.Prelude.{◌≡◌, ◌+◌, ◌*◌, ◌<◌, ◌≤◌, ◌⊎◌, ◌^◌, ℕ, List, Option, Some, None, length, slice_index}
use Rattle.prl_plan.specs.Jobs.{job_count, task_at}
use Rattle.prl_plan.specs.Plans.{PlanView, deadline_at, release_at}
use Rattle.prl_schedules.specs.declared.dates.Next.{Next}

-- when job n of task i is released by its task's clock
abbrev pub own_date : PlanView → ℕ → ℕ → ℕ
own_date plan i n = (task_at plan.graph i).clock.start + n * (task_at plan.graph i).clock.period

-- some run has the job
abbrev pub IsEarly : PlanView → ℕ → ℕ → Type 0
IsEarly plan i n = own_date plan i n + 1 < 2 ^ 32

-- no run has it
pub record IsLate (plan : PlanView) (i n : ℕ) : Type 0 where
  pub none : (until : ℕ) → until < 2 ^ 32 → job_count (task_at plan.graph i) until ≤ n
  pub past : IsEarly plan i n → ⊥

-- job n of task i with its dates
pub record IsNext (plan : PlanView) (i n : ℕ) (next : Next) : Type 0 where
  pub task : next.job.task.0 ≡ i
  pub number : next.job.number ≡ n
  pub release : next.job.release ≡ release_at plan i n
  pub deadline : next.job.deadline ≡ deadline_at plan i n
  pub own : next.own ≡ own_date plan i n
  pub early : IsEarly plan i n
  pub few : n < 2 ^ 32
  pub small : release_at plan i n < 2 ^ 33

-- the first unfinished job of task j is released at this tick, and due before this bound
pub record IsPending (plan : PlanView) (tick : ℕ) (ended : List ℕ) (bound j : ℕ) : Type 0 where
  pub early : IsEarly plan j (slice_index ended j)
  pub released : release_at plan j (slice_index ended j) ≤ tick
  pub due : deadline_at plan j (slice_index ended j) < bound

-- this one is
pub record IsPendingJob (plan : PlanView) (tick : ℕ) (ended : List ℕ) (bound j : ℕ) (next : Next) : Type 0 where
  pub is_next : IsNext plan j (slice_index ended j) next
  pub released : next.job.release ≤ tick
  pub due : next.job.deadline < bound

-- of the tasks below k, it is the one that is released first by its task's clock
pub record IsLeast (plan : PlanView) (tick : ℕ) (ended : List ℕ) (bound k : ℕ) (next : Next) : Type 0 where
  pub below : next.job.task.0 < k
  pub pending : IsPendingJob plan tick ended bound next.job.task.0 next
  pub least : (j : ℕ) → j < k → IsPending plan tick ended bound j → next.own ≤ own_date plan j (slice_index ended j)

abbrev pub IsLeastBelow : PlanView → ℕ → List ℕ → ℕ → ℕ → Option Next → Type 0
IsLeastBelow plan tick ended bound k None = (j : ℕ) → j < k → IsPending plan tick ended bound j → ⊥
IsLeastBelow plan tick ended bound k (Some next) = IsLeast plan tick ended bound k next

-- the greatest encoded deadline of an ended job of a task below k; 0 where there is none
pub record IsLatest (plan : PlanView) (ended : List ℕ) (k latest : ℕ) : Type 0 where
  pub above : (j m : ℕ) → j < k → slice_index ended j ≡ m + 1 → IsEarly plan j m → deadline_at plan j m ≤ latest
  pub attained : (latest ≡ 0) ⊎ ((j : ℕ) × (m : ℕ) × (j < k) × (slice_index ended j ≡ m + 1) × (latest ≡ deadline_at plan j m))

-- the encoded deadline of the last ended job of task j, 0 where there is none
abbrev pub IsLastDeadline : PlanView → List ℕ → ℕ → ℕ → Type 0
IsLastDeadline plan ended j date =
    ((m : ℕ) → slice_index ended j ≡ m + 1 → IsEarly plan j m → deadline_at plan j m ≤ date)
    × ((date ≡ 0) ⊎ ((m : ℕ) × (slice_index ended j ≡ m + 1) × (date ≡ deadline_at plan j m)))
