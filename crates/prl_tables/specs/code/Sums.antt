-- What the entries of a class come to.
use Rattle.std.specs.Prelude.{◌≡◌, ◌+◌, ◌-◌, ◌*◌, ◌/◌, ◌%◌, ◌<◌, ◌≤◌, ◌^◌, ℕ, List, [], ◌∷◌, Some, length, max, min, slice_get, if◌then◌else◌}
use Rattle.prl_plan.specs.Plans.{PlanView, edge_at}
use Rattle.prl_tables.specs.declared.sums.Sums.{Sums}
use Rattle.prl_overlaps.specs.declared.entries.Entry.{Entry}
use Rattle.prl_tables.specs.Tables.{classes, is_of, IsWhole, KeepsOrder}

-- no units, and the first tick past every other
abbrev pub no_sums : Sums
no_sums = record { units = 0; first = 2 ^ 64 - 1; end = 0 }

-- with one entry more; units count up to 2^64 - 1
abbrev pub with_entry : Entry → Sums → Sums
with_entry entry sums = record {
  units = min (sums.units + entry.units) (2 ^ 64 - 1);
  first = min entry.at sums.first;
  end = max (entry.at + entry.units) sums.end;
}

-- the sums of class c of task i
abbrev pub sums_of : List Entry → ℕ → ℕ → Sums
sums_of [] i c = no_sums
sums_of (entry ∷ entries) i c = if is_of i c entry then with_entry entry (sums_of entries i c) else sums_of entries i c

-- by class, those of a task
abbrev pub HasSums : List Entry → ℕ → List Sums → Type 0
HasSums entries i list = (c : ℕ) → c < length list → slice_get list c ≡ Some (sums_of entries i c)

pub record AreTaskSums (plan : PlanView) (entries : List Entry) (i : ℕ) (list : List Sums) : Type 0 where
  pub long : length list ≡ classes plan.graph i
  pub each : HasSums entries i list

-- by task
pub record AreSums (plan : PlanView) (entries : List Entry) (lists : List (List Sums)) : Type 0 where
  pub tasks : length lists ≡ length plan.graph.tasks
  pub each : (i : ℕ) (list : List Sums) → slice_get lists i ≡ Some list → AreTaskSums plan entries i list

-- of the classes of a task, this one is the first that is not whole
pub record IsFirstNotWholeOf (plan : PlanView) (entries : List Entry) (i c : ℕ) : Type 0 where
  pub class : c < classes plan.graph i
  pub not_whole : IsWhole plan entries i c → ⊥
  pub before : (d : ℕ) → d < c → IsWhole plan entries i d

-- of the consumer's classes on an edge, this one is the first that does not keep the order
pub record IsFirstDisorderOn (plan : PlanView) (entries : List Entry) (e c : ℕ) : Type 0 where
  pub class : c < classes plan.graph (edge_at plan.graph e).to.0
  pub disorder : KeepsOrder plan entries e c → ⊥
  pub before : (d : ℕ) → d < c → KeepsOrder plan entries e d

-- the job m of task i ends before the class c of the consumer of edge e begins, k hyperperiods later
abbrev pub IsBefore : PlanView → List Entry → ℕ → ℕ → ℕ → ℕ → ℕ → Type 0
IsBefore plan entries e i c k m =
    (sums_of entries i (m % classes plan.graph i)).end + m / classes plan.graph i * plan.graph.hyper
    ≤ (sums_of entries (edge_at plan.graph e).to.0 c).first + k * plan.graph.hyper
