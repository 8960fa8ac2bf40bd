-- Counts of instances in a hyperperiod from clocks, and how many constants there can be at most.
use Rattle.prl_base.proofs.Standard.{◌≡◌, ◌+◌, ◌*◌, ◌/◌, ◌<◌, ◌≤◌, ◌^◌, ℕ, zero, suc, List, [], ◌∷◌, Some, refl, sym, ◌∙◌, ap, subst, arith, length, drop, get_or, map, sum, slice_get, sum_by, sum-map}
use Rattle.prl_base.proofs.Standard.{get_or-le-sum_by, slice_get_read, div_ceil, mul-le-mul_left, eq_of_mul-eq-mul_right, div-eq_of_eq-mul_left}
use Rattle.prl_base.specs.Operators.{IsResultClock}
use Rattle.prl_base.specs.declared.operators.Clock.{Clock}
use Rattle.prl_base.specs.declared.operators.Op.{Op}
use Rattle.prl_base.specs.declared.operators.Op.TheVariants as operators
use Rattle.prl_plan.proofs.Ceilings.{ceil_most}
use Rattle.prl_plan.specs.Vocabulary.{reader_before, first_reader, TakeClock, Divides, IsEdge, IsWellFormed, jobs_in_hyperperiod, task_at, no_task, HasFactor}
use Rattle.prl_plan.specs.declared.graphs.Edge.{Edge}
use Rattle.prl_plan.specs.declared.graphs.Task.{Task}
use Rattle.prl_plan.specs.declared.graphs.TaskGraph.{TaskGraph}
use Rattle.prl_words.specs.Counts.{IsCountBefore, IsCount, HaveCounts}
use Rattle.prl_words.proofs.Turns.{first_some}

-- the operators after the first ones have counts too
pub counts_after : (n : ℕ) (ops : List Op) (jobs : ℕ) → HaveCounts ops jobs → n ≤ length ops → (count : ℕ) × HaveCounts (drop n ops) count
counts_after zero ops jobs counts within = (jobs, counts)
counts_after (suc n) [] jobs counts within = absurd (omega (arith, within))
counts_after (suc n) (op ∷ ops) jobs counts within = counts_after n ops counts.1.0 counts.1.2 (omega (arith, within))

pub factor_here : (op : Op) (count before : ℕ) → IsCountBefore op count before → 1 ≤ count → 1 ≤ before → HasFactor op
factor_here (operators.Up k) count before is some before_some = first_some k before count is some
factor_here (operators.Down k) count before is some before_some = first_some k count before is before_some
factor_here (operators.Shift q) count before is some before_some = tt
factor_here operators.Tail count before is some before_some = tt
factor_here (operators.Cons c) count before is some before_some = tt
factor_here (operators.Fby c) count before is some before_some = tt

pub counts_start : (ops : List Op) (count : ℕ) → HaveCounts ops count → IsCount count
counts_start [] count counts = counts
counts_start (op ∷ ops) count counts = counts.0

bound_before : (op : Op) (p n count before : ℕ) → IsCountBefore op count before → 1 ≤ count → 1 ≤ before → p ≤ n * before → reader_before op p ≤ suc n * count
bound_before (operators.Up k) p n count before is some before_some h =
    let up : k * p ≤ k * (n * before) = mul-le-mul_left k h in
    let turned : k * (n * before) ≡ n * (k * before) = omega arith in
    let same : n * (k * before) ≡ n * count = ap (λ (x : ℕ). n * x) (sym is) in
    let more : suc n * count ≡ n * count + count = omega arith in
    omega (arith, up, turned, same, more)
bound_before (operators.Down k) p n count before is some before_some h =
    let k_some : 1 ≤ k = first_some k count before is before_some in
    let same : n * before ≡ n * (k * count) = ap (λ (x : ℕ). n * x) is in
    let turned : n * (k * count) ≡ k * (n * count) = omega arith in
    let low : div_ceil p k ≤ n * count = ceil_most p (n * count) k k_some (omega (arith, h, same, turned)) in
    let more : suc n * count ≡ n * count + count = omega arith in
    let chain : n * count ≤ suc n * count = omega (arith, more) in
    le_both (div_ceil p k) (n * count) (suc n * count) low chain
  where
    le_both : (a b c : ℕ) → a ≤ b → b ≤ c → a ≤ c
    le_both a b c x y = omega (arith, x, y)
bound_before (operators.Shift q) p n count before is some before_some h =
    let same : n * before ≡ n * count = ap (λ (x : ℕ). n * x) is in
    let more : suc n * count ≡ n * count + count = omega arith in
    omega (arith, h, same, more)
bound_before operators.Tail p n count before is some before_some h =
    let same : n * before ≡ n * count = ap (λ (x : ℕ). n * x) is in
    let more : suc n * count ≡ n * count + count = omega arith in
    omega (arith, h, same, more)
bound_before (operators.Cons c) p n count before is some before_some h =
    let same : n * before ≡ n * count = ap (λ (x : ℕ). n * x) is in
    let more : suc n * count ≡ n * count + count = omega arith in
    omega (arith, h, same, more, some)
bound_before (operators.Fby c) p n count before is some before_some h =
    let same : n * before ≡ n * count = ap (λ (x : ℕ). n * x) is in
    let more : suc n * count ≡ n * count + count = omega arith in
    omega (arith, h, same, more, some)

-- each operator brings at most one hyperperiod of constants
pub first_reader_bound : (ops : List Op) (count : ℕ) → HaveCounts ops count → first_reader ops ≤ length ops * count
first_reader_bound [] count counts = omega arith
first_reader_bound (op ∷ ops) count counts =
    bound_before op (first_reader ops) (length ops) count counts.1.0 counts.1.1 counts.0.0 (counts_start ops counts.1.0 counts.1.2).0
    (first_reader_bound ops counts.1.0 counts.1.2)

pub first_reader_fits : (ops : List Op) (count : ℕ) → HaveCounts ops count → length ops < 2 ^ 32 → first_reader ops < 2 ^ 64
first_reader_fits ops count counts few =
    let up = first_reader_bound ops count counts in
    let most : length ops * count ≤ length ops * 10000000 = mul-le-mul_left (length ops) (counts_start ops count counts).1 in
    omega (arith, up, most, few)

-- how often two clocks come in a hyperperiod
count_before : (op : Op) (x y : Clock) (hyper slow fast : ℕ) → IsResultClock op x y → 1 ≤ x.period → 1 ≤ y.period → hyper ≡ slow * y.period → hyper ≡ fast * x.period →
    IsCountBefore op slow fast
count_before (operators.Up k) x y hyper slow fast is x_some y_some slow_is fast_is =
    eq_of_mul-eq-mul_right y.period y_some slow (k * fast)
    (sym slow_is ∙ fast_is ∙ ap (λ (p : ℕ). fast * p) (sym is.0) ∙ (let e : fast * (k * y.period) ≡ k * fast * y.period = omega arith in e))
count_before (operators.Down k) x y hyper slow fast is x_some y_some slow_is fast_is =
    eq_of_mul-eq-mul_right x.period x_some fast (k * slow)
    (sym fast_is ∙ slow_is ∙ ap (λ (p : ℕ). slow * p) is.0 ∙ (let e : slow * (k * x.period) ≡ k * slow * x.period = omega arith in e))
count_before (operators.Shift q) x y hyper slow fast is x_some y_some slow_is fast_is =
    eq_of_mul-eq-mul_right x.period x_some fast slow (sym fast_is ∙ slow_is ∙ ap (λ (p : ℕ). slow * p) is.0)
count_before operators.Tail x y hyper slow fast is x_some y_some slow_is fast_is =
    eq_of_mul-eq-mul_right x.period x_some fast slow (sym fast_is ∙ slow_is ∙ ap (λ (p : ℕ). slow * p) is.0)
count_before (operators.Cons c) x y hyper slow fast is x_some y_some slow_is fast_is =
    eq_of_mul-eq-mul_right x.period x_some fast slow (sym fast_is ∙ slow_is ∙ ap (λ (p : ℕ). slow * p) is.0)
count_before (operators.Fby c) x y hyper slow fast is x_some y_some slow_is fast_is =
    eq_of_mul-eq-mul_right x.period x_some fast slow (sym fast_is ∙ slow_is ∙ ap (λ (p : ℕ). slow * p) is.0)

clock_start : (hyper : ℕ) (ops : List Op) (producer consumer : Clock) → TakeClock hyper ops producer consumer → (1 ≤ consumer.period) × Divides consumer.period hyper
clock_start hyper [] producer consumer takes = (takes.0, takes.1)
clock_start hyper (op ∷ ops) producer consumer takes = (takes.0, takes.1)

count_is : (hyper times period : ℕ) → 1 ≤ hyper → hyper ≤ 10000000 → 1 ≤ period → hyper ≡ times * period → IsCount times
count_is hyper times period some few period_some is = (
  first_some times period hyper is some,
  (let up : times * 1 ≤ times * period = mul-le-mul_left times period_some in omega (arith, up, is, few)),
)

pub counts_of_clocks : (hyper : ℕ) (ops : List Op) (producer consumer : Clock) → 1 ≤ hyper → hyper ≤ 10000000 → TakeClock hyper ops producer consumer →
    (times : ℕ) → hyper ≡ times * consumer.period → HaveCounts ops times
counts_of_clocks hyper [] producer consumer some few takes times is = count_is hyper times consumer.period some few takes.0 is
counts_of_clocks hyper (op ∷ ops) producer consumer some few takes times is =
    let x : Clock = takes.2.0 in
    let start = clock_start hyper ops producer x takes.2.2 in (
      count_is hyper times consumer.period some few takes.0 is,
      (
        start.1.0,
        count_before op x consumer hyper times start.1.0 takes.2.1 start.0 takes.0 is start.1.1,
        counts_of_clocks hyper ops producer x some few takes.2.2 start.1.0 start.1.1,
      ),
    )

le_sum : (f : Task → ℕ) (tasks : List Task) (i : ℕ) (d : Task) → i < length tasks → f (get_or tasks i d) ≤ sum (map f tasks)
le_sum f tasks i d h =
    let whole : sum (map f tasks) ≡ sum_by f tasks = sum-map f tasks in
    let part : f (get_or tasks i d) ≤ sum_by f tasks = get_or-le-sum_by f tasks i d h in
    omega (arith, whole, part)

-- the counts along an edge, and that the consumer's is small
pub record HasJobs (ops : List Op) : Type 0 where
  pub jobs : ℕ
  pub counts : HaveCounts ops jobs
  pub few : jobs ≤ 20000

pub edge_counts : (graph : TaskGraph) → IsWellFormed graph → (e : ℕ) (edge : Edge) → slice_get graph.edges e ≡ Some edge → HasJobs edge.ops
edge_counts graph well e edge found =
    let is : IsEdge graph edge = well.edges e edge found in
    let consumer : Clock = (task_at graph edge.to.0).clock in
    let takes = is.clocks.3 in
    let start = clock_start graph.hyper edge.ops is.clocks.0 consumer takes in
    let times = start.1.0 in
    let quotient : graph.hyper / consumer.period ≡ times = div-eq_of_eq-mul_left start.0 start.1.1 in
    let low : graph.hyper / consumer.period ≤ jobs_in_hyperperiod graph =
    le_sum (λ (t : Task). graph.hyper / t.clock.period) graph.tasks edge.to.0 no_task is.to in
    record {
      jobs = times;
      counts = counts_of_clocks graph.hyper edge.ops is.clocks.0 consumer well.hyper well.few_ticks takes times start.1.1;
      few = omega (arith, quotient, low, well.few_jobs);
    }

-- the constants of one edge
pub edge_bound : (graph : TaskGraph) → IsWellFormed graph → (e : ℕ) (edge : Edge) → slice_get graph.edges e ≡ Some edge →
    first_reader edge.ops ≤ 100000000000000
edge_bound graph well e edge found =
    let has = edge_counts graph well e edge found in
    let up = first_reader_bound edge.ops has.jobs has.counts in
    let most : length edge.ops * has.jobs ≤ length edge.ops * 20000 = mul-le-mul_left (length edge.ops) has.few in
    omega (arith, up, most, (well.edges e edge found).few)

-- an edge that was read from the list
pub edge_read : (xs edges : List Edge) (i : ℕ) (edge : Edge) → xs ≡ edges → i < length xs → edge ≡ get_or xs i edge → slice_get edges i ≡ Some edge
edge_read xs edges i edge same below is =
    subst (λ (ys : List Edge). slice_get ys i ≡ Some edge) same (slice_get_read xs (length xs) i edge refl below is)

-- what is known of its operators
pub edge_jobs : (graph : TaskGraph) → IsWellFormed graph → (xs : List Edge) (i : ℕ) (edge : Edge) → xs ≡ graph.edges → i < length xs → edge ≡ get_or xs i edge → (ops : List Op) → ops ≡ edge.ops →
    (jobs : ℕ) × HaveCounts ops jobs
edge_jobs graph well xs i edge same below is ops of_edge =
    let has = edge_counts graph well i edge (edge_read xs graph.edges i edge same below is) in
    (has.jobs, subst (λ (os : List Op). HaveCounts os has.jobs) (sym of_edge) has.counts)

pub edge_few : (graph : TaskGraph) → IsWellFormed graph → (xs : List Edge) (i : ℕ) (edge : Edge) → xs ≡ graph.edges → i < length xs → edge ≡ get_or xs i edge → (ops : List Op) → ops ≡ edge.ops →
    length ops < 2 ^ 32
edge_few graph well xs i edge same below is ops of_edge = omega (arith, ap length of_edge, (well.edges i edge (edge_read xs graph.edges i edge same below is)).few)
