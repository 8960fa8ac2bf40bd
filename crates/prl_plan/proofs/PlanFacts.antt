-- The facts of every plan, from what a plan is.
use Rattle.prl_base.proofs.Standard.{◌≡◌, ◌+◌, ◌*◌, ◌/◌, ◌%◌, ◌<◌, ◌≤◌, ℕ, Bool, true, false, length, take, sum, Option, Some, None, inl, inr, refl, sym, ◌∙◌, ap, subst, arith, pos, ◌≤ℤ◌, is_some}
use Rattle.prl_base.proofs.Standard.{IsSome, unwrap_or, slice_get, slice_index, slice_index_or, div-add-mod, mod-lt, mul-le-mul_left, mul-le-mul_right, cases_lt, ints, slice_get-get_or}
use Rattle.prl_base.specs.declared.numbers.EdgeNo.{EdgeNo}
use Rattle.prl_plan.specs.Vocabulary.{Action, Edge, TaskGraph, Producer, Horizon, Used, task_at, no_task, deadline_of, job_count, IsHorizonJob, walk, operand_of, ComesFrom, Precedes, IsWellFormed}
use Rattle.prl_plan.specs.Vocabulary.{IsTask, IsEdge, encoded_release, encoded_deadline, EnumeratesUsed, IsLeastCount, used_at, no_used, PlanView, IsPlan, edge_at, no_edge, release_at, deadline_at}
use Rattle.prl_plan.specs.Vocabulary.{place_on, cell_of, IsHalfOf, actions_of, IsActionOf, ReadsAt, WritesAt, Provides, HasPlanFacts, IsHorizon, constants_of, ExecState, next_action, HasJob, IsTagged}
use Rattle.prl_plan.specs.declared.events.Action.TheVariants as actions
use Rattle.prl_plan.specs.declared.graphs.Producer.TheVariants as producers
use Rattle.prl_plan.specs.declared.walks.Operand.TheVariants as operands
use Rattle.prl_plan.proofs.Actions.{actions_fit}
use Rattle.prl_plan.proofs.Halves.{actions_paired}
use Rattle.prl_plan.proofs.ActionPlaces.{WritesTo, Stands, once_on, ends_last, write_stands, half_stands, length_actions}
use Rattle.prl_plan.proofs.Counts.{count_below, below_count, IsHorizonJob_count, job_count_horizon}
use Rattle.prl_plan.proofs.PlanParts.{cells_from}
use Rattle.prl_plan.proofs.RoundLaws.{source_inside}
use Rattle.prl_plan.proofs.UsedLaws.{sum_up_to, sum_all, rising_to, place_found, place_stands}
use Rattle.prl_plan.proofs.WalkLaws.{walk_preceding, operand_walks, edge_back}

-- an operand of a horizon job is of a horizon job
pub operand_job : (graph : TaskGraph) → IsWellFormed graph → (until e i n m : ℕ) → e < length graph.edges → ComesFrom (edge_at graph e).from i →
    n < job_count (task_at graph (edge_at graph e).to.0) until → walk (edge_at graph e).ops n ≡ operands.From m →
    (i < length graph.tasks) × (m < job_count (task_at graph i) until)
operand_job graph good until e i n m inside comes job walks =
    let edge : Edge = edge_at graph e in
    let fact : IsEdge graph edge = good.edges e edge (slice_get-get_or graph.edges e no_edge inside) in
    let task : i < length graph.tasks = source_inside graph edge fact edge.from refl i comes in
    let here : IsTask graph.hyper (task_at graph i) = good.tasks i (task_at graph i) (slice_get-get_or graph.tasks i no_task task) in
    let there : IsTask graph.hyper (task_at graph edge.to.0) =
    good.tasks edge.to.0 (task_at graph edge.to.0) (slice_get-get_or graph.tasks edge.to.0 no_task fact.to) in
    let late = count_below (task_at graph edge.to.0).clock.start (task_at graph edge.to.0).clock.period until n there.period.0 job in
    (task, below_count (task_at graph i).clock.start (task_at graph i).clock.period until m here.period.0 (omega (arith, late, edge_back graph edge fact i comes n m walks)))

pub operand_horizon : (graph : TaskGraph) → IsWellFormed graph → (until e i n m : ℕ) → e < length graph.edges → ComesFrom (edge_at graph e).from i →
    IsHorizonJob graph until (edge_at graph e).to.0 n → operand_of (edge_at graph e) n ≡ operands.From m → IsHorizonJob graph until i m
operand_horizon graph good until e i n m inside comes job reads =
    let w = operand_walks (edge_at graph e) n m reads in
    let to : IsTask graph.hyper (task_at graph (edge_at graph e).to.0) =
    good.tasks (edge_at graph e).to.0 (task_at graph (edge_at graph e).to.0) (slice_get-get_or graph.tasks (edge_at graph e).to.0 no_task job.task) in
    let made = operand_job graph good until e i n m inside comes (job_count_horizon graph until (edge_at graph e).to.0 n to.period.0 job) w.2 in
    IsHorizonJob_count graph until i m made.0 (good.tasks i (task_at graph i) (slice_get-get_or graph.tasks i no_task made.0)).period.0 made.1

comes_one : (from : Producer) (i j : ℕ) → ComesFrom from i → ComesFrom from j → i ≡ j
comes_one (producers.Constant value) i j a b = absurd a
comes_one (producers.Port task out) i j a b = sym a ∙ b

-- places in one cell are at least as far apart as there are cells
mod_apart : (a b k : ℕ) → a < b → a % k ≡ b % k → a + k ≤ b
mod_apart a b k before same =
    let x : k * (a / k) + a % k ≡ a = div-add-mod a k in
    let y : k * (b / k) + b % k ≡ b = div-add-mod b k in
    elim (cases_lt (a / k) (b / k)) [
      | inl below ↦
          (let e : k * (a / k + 1) ≡ k * (a / k) + k = omega arith in
          omega (arith, mul-le-mul_left k (let g : a / k + 1 ≤ b / k = omega arith in g), e, x, y, same))
      | inr above ↦ absurd
          omega (arith, mul-le-mul_left k above, x, y, same, before)
    ]

-- a half of a cell below a number is below its double; the cell is known by its half
half_below : (cell slot n : ℕ) → IsHalfOf cell slot → cell < n → slot < 2 * n
half_below cell slot n (inl is) below = omega (arith, is, below)
half_below cell slot n (inr is) below = omega (arith, is, below)

half_cell : (a b slot : ℕ) → IsHalfOf a slot → IsHalfOf b slot → a ≡ b
half_cell a b slot (inl x) (inl y) = omega (arith, x, y)
half_cell a b slot (inl x) (inr y) = omega (arith, x, y)
half_cell a b slot (inr x) (inl y) = omega (arith, x, y)
half_cell a b slot (inr x) (inr y) = omega (arith, x, y)

module _ (plan : PlanView) (is : IsPlan plan) where
  pub task_fact : (i : ℕ) → i < length plan.graph.tasks → IsTask plan.graph.hyper (task_at plan.graph i)
  task_fact i inside = is.graph.tasks i (task_at plan.graph i) (slice_get-get_or plan.graph.tasks i no_task inside)

  edge_stands : (e : ℕ) → e < length plan.graph.edges → slice_get plan.graph.edges e ≡ Some (edge_at plan.graph e)
  edge_stands e inside = slice_get-get_or plan.graph.edges e no_edge inside

  pub room_at : (i n : ℕ) → i < length plan.graph.tasks → release_at plan i n + (task_at plan.graph i).wcet ≤ deadline_at plan i n
  room_at i n inside = omega (arith, ints, is.room.room i (pos n) inside)

  pub apart_at : (i m n : ℕ) → i < length plan.graph.tasks → m < n → deadline_at plan i m ≤ release_at plan i n
  apart_at i m n inside before =
      let t = task_at plan.graph i in
      let up : (m + 1) * t.clock.period ≤ n * t.clock.period = mul-le-mul_right t.clock.period (let g : m + 1 ≤ n = omega arith in g) in
      let e : (m + 1) * t.clock.period ≡ m * t.clock.period + t.clock.period = omega arith in
      omega (arith, ints, is.dates.deadlines.deadlines.below i (pos m) inside, (task_fact i inside).due.1, up, e)

  -- a later job is not released earlier
  pub later_at : (i m n : ℕ) → i < length plan.graph.tasks → m ≤ n → release_at plan i m ≤ release_at plan i n
  later_at i m n inside after =
      elim (cases_lt m n) [
        | inl before ↦ omega (arith, apart_at i m n inside before, room_at i m inside)
        | inr above ↦ subst (λ (x : ℕ). release_at plan i m ≤ release_at plan i x) (let e : m ≡ n = omega arith in e) (omega arith)
      ]

  -- both dates of what is read are earlier than those of its reader
  pub along_at : (e i n m : ℕ) → e < length plan.graph.edges → ComesFrom (edge_at plan.graph e).from i → walk (edge_at plan.graph e).ops n ≡ operands.From m →
      (release_at plan i m < release_at plan (edge_at plan.graph e).to.0 n) × (deadline_at plan i m < deadline_at plan (edge_at plan.graph e).to.0 n)
  along_at e i n m inside comes walks =
      let edge : Edge = edge_at plan.graph e in
      let fact : IsEdge plan.graph edge = is.graph.edges e edge (edge_stands e inside) in
      let task : i < length plan.graph.tasks = source_inside plan.graph edge fact edge.from refl i comes in
      let precedes : Precedes plan.graph (record { task = i; number = pos m }) (record { task = edge.to.0; number = pos n }) =
      (e, edge, edge_stands e inside, record { from = comes; to = refl; number = sym (walk_preceding edge.ops n m walks) }) in
      let first : 1 ≤ (task_at plan.graph i).wcet = (task_fact i task).wcet.0 in
      let second : 1 ≤ (task_at plan.graph edge.to.0).wcet = (task_fact edge.to.0 fact.to).wcet.0 in
      let d = is.dates.deadlines.deadlines.along (record { task = i; number = pos m }) (record { task = edge.to.0; number = pos n }) precedes in
      (omega (arith, ints, first, is.dates.releases.releases.along (record { task = i; number = pos m }) (record { task = edge.to.0; number = pos n }) precedes), omega (arith, ints, second, d))

  -- what is known of the cells of an edge from a task
  cells_of_edge : (e i : ℕ) → e < length plan.graph.edges → ComesFrom (edge_at plan.graph e).from i →
      (slice_index plan.bases e ≡ sum (take e plan.counts)) × EnumeratesUsed (edge_at plan.graph e) (slice_index_or plan.used e no_used)
      × IsLeastCount (edge_at plan.graph e) i (encoded_release plan.graph plan.windows) (encoded_deadline plan.graph plan.windows)
      (slice_index_or plan.used e no_used) (slice_index plan.counts e)
  cells_of_edge e i inside comes = go (edge_at plan.graph e).from refl
    where
      go : (from : Producer) → (edge_at plan.graph e).from ≡ from →
          (slice_index plan.bases e ≡ sum (take e plan.counts)) × EnumeratesUsed (edge_at plan.graph e) (slice_index_or plan.used e no_used)
          × IsLeastCount (edge_at plan.graph e) i (encoded_release plan.graph plan.windows) (encoded_deadline plan.graph plan.windows)
          (slice_index_or plan.used e no_used) (slice_index plan.counts e)
      go (producers.Constant value) from = absurd (subst (λ (f : Producer). ComesFrom f i) from comes)
      go (producers.Port task out) from =
          let has = cells_from plan is e inside (producers.Port task out) from in (
            has.0,
            has.1,
            subst (λ (x : ℕ). IsLeastCount (edge_at plan.graph e) x (encoded_release plan.graph plan.windows) (encoded_deadline plan.graph plan.windows)
                (slice_index_or plan.used e no_used) (slice_index plan.counts e)) (subst (λ (f : Producer). ComesFrom f i) from comes) has.2,
          )

  -- the cell of an instance that has a place
  cell_at : (e m k : ℕ) → place_on plan e m ≡ Some k → cell_of plan e m ≡ slice_index plan.bases e + k % slice_index plan.counts e
  cell_at e m k at = ap (λ (o : Option ℕ). slice_index plan.bases e + unwrap_or o 0 % slice_index plan.counts e) at

  cell_range : (e i m : ℕ) → e < length plan.graph.edges → ComesFrom (edge_at plan.graph e).from i →
      (sum (take e plan.counts) ≤ cell_of plan e m) × (cell_of plan e m < sum (take e plan.counts) + slice_index plan.counts e)
  cell_range e i m inside comes =
      let c = cells_of_edge e i inside comes in
      let base : slice_index plan.bases e ≡ sum (take e plan.counts) = c.0 in
      let small : unwrap_or (place_on plan e m) 0 % slice_index plan.counts e < slice_index plan.counts e =
      mod-lt (unwrap_or (place_on plan e m) 0) (omega (arith, c.2.some)) in
      (omega (arith, base), omega (arith, base, small))

  within_cells : (e i m : ℕ) → e < length plan.graph.edges → ComesFrom (edge_at plan.graph e).from i → cell_of plan e m < sum plan.counts
  within_cells e i m inside comes =
      omega (arith, (cell_range e i m inside comes).1, sum_all plan.counts e (omega (arith, is.cells.lengths.1, inside)))

  -- the cells of two edges are apart
  before_edge : (e f i j m l : ℕ) → e < length plan.graph.edges → f < length plan.graph.edges → ComesFrom (edge_at plan.graph e).from i →
      ComesFrom (edge_at plan.graph f).from j → e < f → cell_of plan e m < cell_of plan f l
  before_edge e f i j m l in_e in_f from_e from_f before =
      omega (arith, (cell_range e i m in_e from_e).1, (cell_range f j l in_f from_f).0, sum_up_to plan.counts e f before (omega (arith, is.cells.lengths.1, in_e)))

  same_edge : (e f i j m l : ℕ) → e < length plan.graph.edges → f < length plan.graph.edges → ComesFrom (edge_at plan.graph e).from i →
      ComesFrom (edge_at plan.graph f).from j → cell_of plan e m ≡ cell_of plan f l → e ≡ f
  same_edge e f i j m l in_e in_f from_e from_f same =
      elim (cases_lt e f) [
        | inl below ↦ absurd (omega (arith, before_edge e f i j m l in_e in_f from_e from_f below, same))
        | inr above ↦
            elim (cases_lt f e) [
              | inl below ↦ absurd (omega (arith, before_edge f e j i l m in_f in_e from_f from_e below, same))
              | inr under ↦ omega (arith, above, under)
            ]
      ]

  -- the life of a used instance is over before a later one takes its cell
  over_at : (e i k m l : ℕ) → e < length plan.graph.edges → ComesFrom (edge_at plan.graph e).from i → operand_of (edge_at plan.graph e) k ≡ operands.From m →
      (a b : ℕ) → used_at (slice_index_or plan.used e no_used) a ≡ m → used_at (slice_index_or plan.used e no_used) b ≡ l → a % slice_index plan.counts e ≡ b % slice_index plan.counts e → m < l →
      deadline_at plan (edge_at plan.graph e).to.0 k ≤ release_at plan i l
  over_at e i k m l inside comes reads a b at_a at_b same before =
      let u : Used = slice_index_or plan.used e no_used in
      let count : ℕ = slice_index plan.counts e in
      let c = cells_of_edge e i inside comes in
      let edge : Edge = edge_at plan.graph e in
      let task : i < length plan.graph.tasks = source_inside plan.graph edge (is.graph.edges e edge (edge_stands e inside)) edge.from refl i comes in
      let order : a < b =
      elim (cases_lt a b) [
        | inl below ↦ below
        | inr above ↦ absurd
            (elim (cases_lt b a) [
              | inl below ↦ omega (arith, rising_to edge u c.1 a b below, at_a, at_b, before)
              | inr under ↦
                  (let one : a ≡ b = omega (arith, above, under) in
                  omega (arith, sym at_a ∙ ap (λ (x : ℕ). used_at u x) one ∙ at_b, before))
            ])
      ] in
      let next : used_at u (a + count) ≤ l =
      elim (cases_lt (a + count) b) [
        | inl below ↦ omega (arith, rising_to edge u c.1 b (a + count) below, at_b)
        | inr above ↦
            (let one : a + count ≡ b = omega (arith, mod_apart a b count order same, above) in
            omega (arith, ap (λ (x : ℕ). used_at u x) one ∙ at_b))
      ] in
      let fits = c.2.fits a k (subst (λ (x : ℕ). operand_of (edge_at plan.graph e) k ≡ operands.From x) (sym at_a) reads) in
      omega (arith, ints, fits, later_at i (used_at u (a + count)) l task next)

  -- instances in one cell take turns
  pub turns_are_taken : (e i l m k : ℕ) → e < length plan.graph.edges → ComesFrom (edge_at plan.graph e).from i →
      IsSome (place_on plan e l) → IsSome (place_on plan e m) → cell_of plan e l ≡ cell_of plan e m → l < m →
      operand_of (edge_at plan.graph e) k ≡ operands.From l → deadline_at plan (edge_at plan.graph e).to.0 k ≤ release_at plan i m
  turns_are_taken e i l m k inside comes first second same before operand = turns (place_on plan e l) (place_on plan e m) refl refl
    where
      turns : (o p : Option ℕ) → place_on plan e l ≡ o → place_on plan e m ≡ p → deadline_at plan (edge_at plan.graph e).to.0 k ≤ release_at plan i m
      turns (Some a) (Some b) at_l at_m =
          over_at e i k l m inside comes operand a b (place_stands (slice_index_or plan.used e no_used) l a at_l) (place_stands (slice_index_or plan.used e no_used) m b at_m)
          (omega (arith, cell_at e l a at_l, cell_at e m b at_m, same)) before
      turns None p at_l at_m = absurd (let z : ◌≡◌ {A = Bool} false true = subst (λ (o : Option ℕ). IsSome o) at_l first in cc)
      turns (Some a) None at_l at_m = absurd (let z : ◌≡◌ {A = Bool} false true = subst (λ (o : Option ℕ). IsSome o) at_m second in cc)

module _ (plan : PlanView) (is : IsPlan plan) (h : Horizon) (horizon : IsHorizon plan h) where
  read_fits : (i n place m cell : ℕ) (reads : ReadsAt (constants_of plan h) i n place m cell) →
      IsActionOf plan i n (actions.Read reads.action.0 reads.action.1 m (record { 0 = cell }))
  read_fits i n place m cell reads = subst (λ (a : Action). IsActionOf plan i n a) reads.action.2 (actions_fit plan i n place)

  write_fits : (i n place m cell : ℕ) (writes : WritesAt (constants_of plan h) i n place m cell) →
      IsActionOf plan i n (actions.Write writes.action.0 m (record { 0 = cell }))
  write_fits i n place m cell writes = subst (λ (a : Action). IsActionOf plan i n a) writes.action.1 (actions_fit plan i n place)

  read_in : (i n place m cell : ℕ) → ReadsAt (constants_of plan h) i n place m cell → cell < 2 * sum plan.counts
  read_in i n place m cell reads =
      let r = read_fits i n place m cell reads in
      let w = operand_walks (edge_at plan.graph reads.action.1.0) n m r.3 in
      half_below (cell_of plan reads.action.1.0 m) cell (sum plan.counts) r.4 (within_cells plan is reads.action.1.0 w.0 m r.0 w.1)

  write_in : (i n place m cell : ℕ) → WritesAt (constants_of plan h) i n place m cell → cell < 2 * sum plan.counts
  write_in i n place m cell writes =
      let w = write_fits i n place m cell writes in
      half_below (cell_of plan writes.action.0.0 n) cell (sum plan.counts) w.4 (within_cells plan is writes.action.0.0 i n w.0 w.1)

  one_edge : (i n place m j k other l cell : ℕ) (first : WritesAt (constants_of plan h) i n place m cell) (second : WritesAt (constants_of plan h) j k other l cell) →
      first.action.0.0 ≡ second.action.0.0
  one_edge i n place m j k other l cell first second =
      let a = write_fits i n place m cell first in
      let b = write_fits j k other l cell second in
      same_edge plan is first.action.0.0 second.action.0.0 i j n k a.0 b.0 a.1 b.1 (half_cell (cell_of plan first.action.0.0 n) (cell_of plan second.action.0.0 k) cell a.4 b.4)

  read_edge : (j k place m i n written l cell : ℕ) (reads : ReadsAt (constants_of plan h) j k place m cell) (writes : WritesAt (constants_of plan h) i n written l cell) →
      reads.action.1.0 ≡ writes.action.0.0
  read_edge j k place m i n written l cell reads writes =
      let a = read_fits j k place m cell reads in
      let b = write_fits i n written l cell writes in
      let w = operand_walks (edge_at plan.graph reads.action.1.0) k m a.3 in
      same_edge plan is reads.action.1.0 writes.action.0.0 w.0 i m n a.0 b.0 w.1 b.1 (half_cell (cell_of plan reads.action.1.0 m) (cell_of plan writes.action.0.0 n) cell a.4 b.4)

  one_writer : (i n place m j k other l cell : ℕ) → WritesAt (constants_of plan h) i n place m cell → WritesAt (constants_of plan h) j k other l cell → i ≡ j
  one_writer i n place m j k other l cell first second =
      let b = write_fits j k other l cell second in
      let e = one_edge i n place m j k other l cell first second in
      comes_one (edge_at plan.graph second.action.0.0).from i j (subst (λ (x : ℕ). ComesFrom (edge_at plan.graph x).from i) e (write_fits i n place m cell first).1) b.1

  one_place : (i n place m other l cell : ℕ) → WritesAt (constants_of plan h) i n place m cell → WritesAt (constants_of plan h) i n other l cell → place ≡ other
  one_place i n place m other l cell first second =
      once_on plan i n second.action.0.0 cell place other
      (subst (λ (a : Action). WritesTo second.action.0.0 cell a) (sym first.action.1) (one_edge i n place m i n other l cell first second, refl))
      (subst (λ (a : Action). WritesTo second.action.0.0 cell a) (sym second.action.1) (refl, refl))

  provider : (j k place m cell : ℕ) → ReadsAt (constants_of plan h) j k place m cell →
      (i : ℕ) × (n : ℕ) × (written : ℕ) × Provides (constants_of plan h) m cell j k i n written
  provider j k place m cell reads =
      let r = read_fits j k place m cell reads in
      let e : ℕ = reads.action.1.0 in
      let edge : Edge = edge_at plan.graph e in
      let w = operand_walks (edge_at plan.graph reads.action.1.0) k m r.3 in
      let i : ℕ = w.0 in
      let job = operand_job plan.graph is.graph h.until e i k m r.0 w.1
      (subst (λ (x : ℕ). k < job_count (task_at plan.graph x) h.until) (sym r.1) reads.job.job) w.2 in
      let c = cells_of_edge plan is e i r.0 w.1 in
      let used = c.1.all m (k, r.3) in
      let at : place_on plan e m ≡ Some used.0 = place_found edge (slice_index_or plan.used e no_used) c.1 m used.0 used.1 in
      let stands : Stands (actions_of plan i m) (actions.Write (record { 0 = e }) m (record { 0 = cell })) =
      write_stands plan i m e edge (edge_stands plan is e r.0) w.1 (ap (λ (o : Option ℕ). is_some o) at)
      (actions.Write (record { 0 = e }) m (record { 0 = cell })) (half_stands plan i m e cell r.4) in
      let dates = along_at plan is e i k m r.0 w.1 w.2 in (
        i,
        m,
        stands.place,
        record {
          writes = record {
            job = record { task = job.0; job = job.1 };
            action = (record { 0 = e }, stands.is);
          };
          release = subst (λ (x : ℕ). release_at plan i m < release_at plan x k) r.1 dates.0;
          deadline = subst (λ (x : ℕ). deadline_at plan i m < deadline_at plan x k) r.1 dates.1;
        },
      )

  is_over : (j k place m i n written l cell : ℕ) → ReadsAt (constants_of plan h) j k place m cell → WritesAt (constants_of plan h) i n written l cell → m < l →
      deadline_at plan j k ≤ release_at plan i n
  is_over j k place m i n written l cell reads writes before =
      let r = read_fits j k place m cell reads in
      let w = write_fits i n written l cell writes in
      let e : ℕ = writes.action.0.0 in
      let same : reads.action.1.0 ≡ e = read_edge j k place m i n written l cell reads writes in
      let operand : operand_of (edge_at plan.graph e) k ≡ operands.From m =
      subst (λ (x : ℕ). operand_of (edge_at plan.graph x) k ≡ operands.From m) same r.3 in
      let read_cell : cell_of plan e m ≡ cell_of plan e n =
      half_cell (cell_of plan e m) (cell_of plan e n) cell (subst (λ (x : ℕ). IsHalfOf (cell_of plan x m) cell) same r.4) w.4 in
      let c = cells_of_edge plan is e i w.0 w.1 in
      let a = c.1.all m (k, operand) in
      let at : place_on plan e m ≡ Some a.0 = place_found (edge_at plan.graph e) (slice_index_or plan.used e no_used) c.1 m a.0 a.1 in
      some_place (place_on plan e n) refl w.3 (λ b at_b.
      let equal : a.0 % slice_index plan.counts e ≡ b % slice_index plan.counts e = omega (arith, cell_at plan is e m a.0 at, cell_at plan is e n b at_b, read_cell) in
      let over = over_at plan is e i k m n w.0 w.1 operand a.0 b a.1 (place_stands (slice_index_or plan.used e no_used) n b at_b) equal
      (omega (arith, w.2, before)) in
      subst (λ (x : ℕ). deadline_at plan x k ≤ release_at plan i n) (subst (λ (x : ℕ). (edge_at plan.graph x).to.0 ≡ j) same r.1) over)
    where
      some_place : (o : Option ℕ) → place_on plan writes.action.0.0 n ≡ o → IsSome (place_on plan writes.action.0.0 n) →
          ((b : ℕ) → place_on plan writes.action.0.0 n ≡ Some b → deadline_at plan j k ≤ release_at plan i n) → deadline_at plan j k ≤ release_at plan i n
      some_place (Some b) at some then = then b at
      some_place None at some then = absurd (let e : ◌≡◌ {A = Bool} false true = subst (λ (o : Option ℕ). IsSome o) at some in cc)

  window_of_job : (i n : ℕ) → i < length plan.graph.tasks → release_at plan i n < deadline_at plan i n
  window_of_job i n inside =
      omega (arith, room_at plan is i n inside, (task_fact plan is i inside).wcet.0)

  positive_at : (i n : ℕ) → i < length plan.graph.tasks → 1 ≤ deadline_at plan i n
  positive_at i n inside = omega (arith, window_of_job i n inside)

  edge_no : (a b : EdgeNo) → a.0 ≡ b.0 → a ≡ b
  edge_no a b same = ap (λ (x : ℕ). (let e : EdgeNo = record { 0 = x } in e)) same

  pub plan_has_facts : HasPlanFacts (constants_of plan h)
  plan_has_facts = record {
    few = omega (arith, is.graph.few_tasks);
    positive = λ i n job. positive_at i n job.task;
    within = λ i n job. horizon.end.above i n (IsHorizonJob_count plan.graph h.until i n job.task (task_fact plan is i job.task).period.0 job.job);
    window = λ i n job. window_of_job i n job.task;
    apart = λ i m n job before. apart_at plan is i m n job.task before;
    short = λ i n job. omega (arith, length_actions plan i n, is.graph.few_edges);
    last = λ i n place later job ends before. ends_last plan i n place later ends before;
    read_cell = read_in;
    write_cell = write_in;
    own = λ i n place m cell writes. (write_fits i n place m cell writes).2;
    writer = one_writer;
    once = one_place;
    paired = λ i n place job is. actions_paired plan i n place is;
    edge = λ j k place m i n written l cell reads writes.
        edge_no reads.action.1 writes.action.0 (read_edge j k place m i n written l cell reads writes);
    provided = provider;
    across = λ j k place m i n written cell reads writes. inl refl;
    over = is_over;
  }

  -- What a write replaces is over: no reader, of the horizon or not, is due after the writer's release.
  pub replaced_over : (s : ExecState) → IsTagged (constants_of plan h) s → (i e n slot l k : ℕ) → HasJob (constants_of plan h) s i →
      next_action (constants_of plan h) s i ≡ actions.Write (record { 0 = e }) n (record { 0 = slot }) → slice_index s.tags slot ≡ l + 1 →
      operand_of (edge_at plan.graph e) k ≡ operands.From l → deadline_at plan (edge_at plan.graph e).to.0 k ≤ release_at plan i n
  replaced_over s tagged i e n slot l k has acts holds operand =
      let here : WritesAt (constants_of plan h) i (slice_index s.ended i) (slice_index s.places i) n slot = record { job = record { task = has.task; job = has.job }; action = (record { 0 = e }, acts) } in
      let w = write_fits i (slice_index s.ended i) (slice_index s.places i) n slot here in
      let own : n ≡ slice_index s.ended i = w.2 in
      let below : slice_index s.tags slot ≤ n = tagged.ahead i (slice_index s.ended i) (slice_index s.places i) n slot here (inr (refl, (let z : slice_index s.places i ≤ slice_index s.places i = omega arith in z))) in
      let before : l < n = omega (arith, below, holds) in
      elim (tagged.origin slot) [
        | inl none ↦ absurd (omega (arith, none, holds))
        | inr from ↦
            (let from_holds : slice_index s.tags slot ≡ from.instance + 1 = from.holds in
            let same : from.instance ≡ l = omega (arith, from_holds, holds) in
            let v = write_fits from.task from.job from.place from.instance slot from.writes in
            let edge : from.writes.action.0.0 ≡ e = one_edge from.task from.job from.place from.instance i (slice_index s.ended i) (slice_index s.places i) n slot from.writes here in
            let was : from.job ≡ l = sym v.2 ∙ same in
            let first : IsSome (place_on plan e l) = subst (λ (x : ℕ). IsSome (place_on plan e x)) was (subst (λ (x : ℕ). IsSome (place_on plan x from.job)) edge v.3) in
            let half : IsHalfOf (cell_of plan e l) slot = subst (λ (x : ℕ). IsHalfOf (cell_of plan e x) slot) was (subst (λ (x : ℕ). IsHalfOf (cell_of plan x from.job) slot) edge v.4) in
            let second : IsSome (place_on plan e n) = subst (λ (x : ℕ). IsSome (place_on plan e x)) (sym own) w.3 in
            let mine : IsHalfOf (cell_of plan e n) slot = subst (λ (x : ℕ). IsHalfOf (cell_of plan e x) slot) (sym own) w.4 in
            turns_are_taken plan is e i l n k w.0 w.1 first second (half_cell (cell_of plan e l) (cell_of plan e n) slot half mine) before operand)
      ]
