-- After how many hyperperiods each job of a task depends on another.
use Rattle.prl_base.proofs.Standard.{Bool, true, false, OnTrue, OnFalse, ◌||◌, below_more, ◌≡◌, ◌≢◌, ◌+◌, ◌-◌, ◌*◌, ◌/◌, ◌%◌, ◌<◌, ◌≤◌, ◌⊎◌, inl, inr, ℕ, zero, suc, List, length, set, get_or, refl, sym, ◌∙◌, ap, subst, arith, Option, Some, None, sum_by, sum_by-set, sum_by-replicate, replicate, get_or-set_same, get_or-set_other, cases_eq, cases_lt, length-set, length-replicate, same_Some, slice_get_within, mul-le-mul_right, mul-le-mul_left, div-add-mod, mod_below, div-le_self, get_or_from_slice_get, get_or_default}
use Rattle.prl_base.specs.declared.numbers.TaskNo.{TaskNo}
use Rattle.prl_base.specs.declared.values.Value.{Value}
use Rattle.prl_plan.specs.declared.graphs.Edge.{Edge}
use Rattle.prl_plan.specs.declared.graphs.Producer.{Producer}
use Rattle.prl_plan.specs.declared.graphs.Producer.TheVariants as producers
use Rattle.prl_plan.specs.declared.graphs.TaskGraph.{TaskGraph}
use Rattle.prl_plan.specs.declared.limits.TheConstants.{MAX_PREFIX}
use Rattle.prl_plan.specs.declared.walks.Operand.TheVariants as operands
use Rattle.prl_plan.specs.Vocabulary.{task_at, edge_at, IsWellFormed, IsEdge, ComesFrom, operand_of, walk, PlanView, IsPlan, IsFirstReader}
use Rattle.prl_plan.proofs.DatePeriods.{jobs_are}
use Rattle.prl_plan.proofs.ReaderLaws.{reads_is, never_before}
use Rattle.prl_plan.proofs.RoundLaws.{source_inside}
use Rattle.prl_plan.proofs.WalkLaws.{walk_preceding}
use Rattle.prl_plan.proofs.WordNumbers.{first_after_prefix}
use Rattle.prl_plan.specs.declared.words.Word.{Word}
use Rattle.prl_ages.specs.Chains.{is_along}
use Rattle.prl_ages.specs.Reaching.{Takes, Reaches, jobs_of}
use Rattle.prl_ages.specs.Reaching as reaching
use Rattle.prl_ages.specs.code.Lags.{AreLags, AreAllLags, CoversConstants, HasLag, IsKnownOn, IsLag, IsSpreading, lag_at, missing, missing_in}
use Rattle.prl_ages.proofs.Counted.{edge_found, one_giver}
use Rattle.prl_ages.proofs.Operands.{operand_rises, operand_repeats}
use Rattle.prl_ages.proofs.Reaching.{reaches_on}

module _ (graph : TaskGraph) (good : IsWellFormed graph) (edge : Edge) (is : IsEdge graph edge) (i : ℕ) (comes : ComesFrom edge.from i) where
  -- so many hyperperiods later a job reads the instance as many hyperperiods later
  pub operand_often : (x n j : ℕ) → operand_of edge n ≡ operands.From j → operand_of edge (n + x * jobs_of graph edge.to.0) ≡ operands.From (j + x * jobs_of graph i)
  operand_often zero n j reads =
      let e : n + 0 * jobs_of graph edge.to.0 ≡ n = omega arith in
      let f : j ≡ j + 0 * jobs_of graph i = omega arith in
      ap (λ (y : ℕ). operand_of edge y) e ∙ reads ∙ ap (λ (y : ℕ). operands.From y) f
  operand_often (suc x) n j reads =
      let e : n + suc x * jobs_of graph edge.to.0 ≡ n + x * jobs_of graph edge.to.0 + jobs_of graph edge.to.0 = omega arith in
      let f : j + x * jobs_of graph i + jobs_of graph i ≡ j + suc x * jobs_of graph i = omega arith in
      ap (λ (y : ℕ). operand_of edge y) e
      ∙ operand_repeats graph good edge is i comes (n + x * jobs_of graph edge.to.0) (j + x * jobs_of graph i) (operand_often x n j reads)
      ∙ ap (λ (y : ℕ). operands.From y) f

  -- a walk that gives an instance is the operand
  pub walk_reads : (n m : ℕ) → walk edge.ops n ≡ operands.From m → operand_of edge n ≡ operands.From m
  walk_reads n m walks = (reads_is edge i comes is.operators n m).1 (never_before edge.ty edge.ops is.operators n m walks, walk_preceding edge.ops n m walks)

-- what is taken reaches
taken_reaches : (graph : TaskGraph) (chain : List TaskNo) (t n i j : ℕ) → Takes graph chain t n i j → Reaches graph chain i j t n
taken_reaches graph chain t n i j takes = reaching.through t n i j takes (reaching.itself i j refl refl)

-- a lag goes on over an edge
pub lag_through : (graph : TaskGraph) (chain : List TaskNo) → IsWellFormed graph → (a e i lag turns : ℕ) → e < length graph.edges → ComesFrom (edge_at graph e).from i →
    is_along chain i (edge_at graph e).to.0 ≡ true → IsLag graph chain a (edge_at graph e).to.0 lag → CoversConstants graph e turns → IsLag graph chain a i (lag + turns)
lag_through graph chain good a e i lag turns inside comes along is covers = record { reaches = go }
  where
    edge : Edge
    edge = edge_at graph e

    is_edge : IsEdge graph (edge_at graph e)
    is_edge = good.edges e (edge_at graph e) (edge_found graph e inside)

    go : (x n : ℕ) → (lag + turns + x) * jobs_of graph a ≤ n → (j : ℕ) × (x * jobs_of graph i ≤ j) × Reaches graph chain i j a n
    go x n past =
        let same : lag + turns + x ≡ lag + (turns + x) = omega arith in
        let up = is.reaches (turns + x) n (subst (λ (y : ℕ). y * jobs_of graph a ≤ n) same past) in
        let first = covers.reader.reads covers.first (omega arith) in
        let reads = walk_reads graph good (edge_at graph e) is_edge i comes covers.first first.0 first.1 in
        let later = operand_often graph good (edge_at graph e) is_edge i comes x covers.first first.0 reads in
        let split : (turns + x) * jobs_of graph (edge_at graph e).to.0 ≡ turns * jobs_of graph (edge_at graph e).to.0 + x * jobs_of graph (edge_at graph e).to.0 = omega arith in
        let rise = operand_rises graph good (edge_at graph e) is_edge i comes (covers.first + x * jobs_of graph (edge_at graph e).to.0) (first.0 + x * jobs_of graph i) up.0 later
        (omega (arith, covers.within, split, up.1)) in
        let takes : Takes graph chain (edge_at graph e).to.0 up.0 i rise.0 =
        record { number = e; edge = edge_at graph e; at = edge_found graph e inside; to = refl; from = comes; along = along; reads = rise.2 } in (
          rise.0,
          omega (arith, rise.1),
          reaches_on graph chain i rise.0 (edge_at graph e).to.0 up.0 a n
              (taken_reaches graph chain (edge_at graph e).to.0 up.0 i rise.0 takes) up.2,
        )

own_lag : (graph : TaskGraph) (chain : List TaskNo) (a : ℕ) → IsLag graph chain a a 0
own_lag graph chain a = record { reaches = λ x n past. (n, (let e : 0 + x ≡ x = omega arith in subst (λ (y : ℕ). y * jobs_of graph a ≤ n) e past), reaching.itself a n refl refl) }

same_lag : (a b : ℕ) → Some a ≡ Some b → a ≡ b
same_lag a b is = same_Some a b is

no_lag : (lag : ℕ) → None ≡ Some lag → ⊥
no_lag lag is = cc

-- the lags with one more
pub filled_lags : (graph : TaskGraph) (chain : List TaskNo) → IsWellFormed graph → (a e i lag turns : ℕ) (lags : List (Option ℕ)) → e < length graph.edges → i < length lags → ComesFrom (edge_at graph e).from i →
    is_along chain i (edge_at graph e).to.0 ≡ true → AreLags graph chain a lags → lag_at lags (edge_at graph e).to.0 ≡ Some lag → CoversConstants graph e turns → turns ≤ MAX_PREFIX → lag_at lags i ≡ None →
    AreLags graph chain a (set lags i (Some (lag + turns))) × (missing_in (set lags i (Some (lag + turns))) < missing_in lags)
filled_lags graph chain good a e i lag turns lags inside in_lags comes along are at covers few none = (
  record {
    long = length-set lags i (Some (lag + turns)) ∙ are.long;
    own = own_now (cases_eq a i);
    each = λ t q is. each_now t q is (cases_eq t i);
    few = λ t q is. few_now t q is (cases_eq t i);
  },
  omega (arith, fewer),
)
  where
    fewer : missing_in (set lags i (Some (lag + turns))) + 1 ≡ missing_in lags
    fewer =
        let e : sum_by missing (set lags i (Some (lag + turns))) + missing (get_or lags i None) ≡ sum_by missing lags + 0 = sum_by-set missing lags i (Some (lag + turns)) None in_lags in
        let f : missing (get_or lags i None) ≡ 1 = ap missing none in
        omega (arith, e, f)

    here : lag_at (set lags i (Some (lag + turns))) i ≡ Some (lag + turns)
    here = get_or-set_same lags i (Some (lag + turns)) None in_lags

    own_now : (a ≡ i) ⊎ (a ≢ i) → HasLag (set lags i (Some (lag + turns))) a
    own_now (inl same) = (lag + turns, ap (λ (x : ℕ). lag_at (set lags i (Some (lag + turns))) x) same ∙ here)
    own_now (inr other) = (are.own.0, get_or-set_other lags i a (Some (lag + turns)) None other ∙ are.own.1)

    each_now : (t q : ℕ) → lag_at (set lags i (Some (lag + turns))) t ≡ Some q → (t ≡ i) ⊎ (t ≢ i) → IsLag graph chain a t q
    each_now t q is (inl same) =
        let number : lag + turns ≡ q = same_lag (lag + turns) q (sym here ∙ ap (λ (x : ℕ). lag_at (set lags i (Some (lag + turns))) x) (sym same) ∙ is) in
        subst (λ (x : ℕ). IsLag graph chain a x q) (sym same) (subst (λ (x : ℕ). IsLag graph chain a i x) number
        (lag_through graph chain good a e i lag turns inside comes along (are.each (edge_at graph e).to.0 lag at) covers))
    each_now t q is (inr other) = are.each t q (sym (get_or-set_other lags i t (Some (lag + turns)) None other) ∙ is)

    few_now : (t q : ℕ) → lag_at (set lags i (Some (lag + turns))) t ≡ Some q → (t ≡ i) ⊎ (t ≢ i) →
        q + missing_in (set lags i (Some (lag + turns))) * MAX_PREFIX ≤ length graph.tasks * MAX_PREFIX
    few_now t q is (inl same) =
        let number : lag + turns ≡ q = same_lag (lag + turns) q (sym here ∙ ap (λ (x : ℕ). lag_at (set lags i (Some (lag + turns))) x) (sym same) ∙ is) in
        omega (arith, number, fewer, are.few (edge_at graph e).to.0 lag at, few)
    few_now t q is (inr other) =
        omega (arith, fewer, are.few t q (sym (get_or-set_other lags i t (Some (lag + turns)) None other) ∙ is))

-- no task has a lag yet
abbrev pub none_known : ℕ → List (Option ℕ)
none_known tasks = replicate tasks None

none_known_at : (n t : ℕ) → lag_at (none_known n) t ≡ None
none_known_at zero t = refl
none_known_at (suc n) zero = refl
none_known_at (suc n) (suc t) = none_known_at n t

missing_all : (n : ℕ) → missing_in (none_known n) ≡ n
missing_all n = sum_by-replicate missing n None ∙ (let e : n * 1 ≡ n = omega arith in e)

pub first_known : (graph : TaskGraph) (chain : List TaskNo) (a : ℕ) → a < length graph.tasks → AreLags graph chain a (set (none_known (length graph.tasks)) a (Some 0))
first_known graph chain a inside = record {
  long = length-set (none_known (length graph.tasks)) a (Some 0) ∙ in_all;
  own = (0, here);
  each = λ t q is. each_now t q is (cases_eq t a);
  few = λ t q is. few_now t q is (cases_eq t a);
}
  where
    in_all : length (none_known (length graph.tasks)) ≡ length graph.tasks
    in_all = length-replicate (length graph.tasks) None

    here : lag_at (set (none_known (length graph.tasks)) a (Some 0)) a ≡ Some 0
    here = get_or-set_same (none_known (length graph.tasks)) a (Some 0) None (omega (arith, in_all, inside))

    zero_at : (t q : ℕ) → lag_at (set (none_known (length graph.tasks)) a (Some 0)) t ≡ Some q → t ≡ a → 0 ≡ q
    zero_at t q is same = same_lag 0 q (sym here ∙ ap (λ (x : ℕ). lag_at (set (none_known (length graph.tasks)) a (Some 0)) x) (sym same) ∙ is)

    other_at : (t q : ℕ) → lag_at (set (none_known (length graph.tasks)) a (Some 0)) t ≡ Some q → t ≢ a → ⊥
    other_at t q is other = no_lag q (sym (none_known_at (length graph.tasks) t) ∙ sym (get_or-set_other (none_known (length graph.tasks)) a t (Some 0) None other) ∙ is)

    each_now : (t q : ℕ) → lag_at (set (none_known (length graph.tasks)) a (Some 0)) t ≡ Some q → (t ≡ a) ⊎ (t ≢ a) → IsLag graph chain a t q
    each_now t q is (inl same) =
        subst (λ (x : ℕ). IsLag graph chain a x q) (sym same) (subst (λ (x : ℕ). IsLag graph chain a a x) (zero_at t q is same) (own_lag graph chain a))
    each_now t q is (inr other) = absurd (other_at t q is other)

    few_now : (t q : ℕ) → lag_at (set (none_known (length graph.tasks)) a (Some 0)) t ≡ Some q → (t ≡ a) ⊎ (t ≢ a) →
        q + missing_in (set (none_known (length graph.tasks)) a (Some 0)) * MAX_PREFIX ≤ length graph.tasks * MAX_PREFIX
    few_now t q is (inl same) =
        let e : sum_by missing (set (none_known (length graph.tasks)) a (Some 0)) + missing (get_or (none_known (length graph.tasks)) a None) ≡ sum_by missing (none_known (length graph.tasks)) + 0 =
        sum_by-set missing (none_known (length graph.tasks)) a (Some 0) None (omega (arith, in_all, inside)) in
        omega (arith, e, missing_all (length graph.tasks), zero_at t q is same)
    few_now t q is (inr other) = absurd (other_at t q is other)

-- what an edge does to lags
module _ (graph : TaskGraph) (chain : List TaskNo) (good : IsWellFormed graph) (a e : ℕ) (lags : List (Option ℕ)) (inside : e < length graph.edges) (are : AreLags graph chain a lags) where
  pub lag_small : (t lag : ℕ) → lag_at lags t ≡ Some lag → lag ≤ length graph.tasks * MAX_PREFIX
  lag_small t lag is = omega (arith, are.few t lag is)

  pub unknown_known : lag_at lags (edge_at graph e).to.0 ≡ None → IsKnownOn graph chain lags e
  unknown_known none i comes along has = absurd (no_lag has.0 (sym none ∙ has.1))

  pub no_giver_known : ((i : ℕ) → ComesFrom (edge_at graph e).from i → is_along chain i (edge_at graph e).to.0 ≡ true → ⊥) → IsKnownOn graph chain lags e
  no_giver_known none i comes along has = absurd (none i comes along)

  pub giver_in : (task : TaskNo) → ComesFrom (edge_at graph e).from task.0 → task.0 < length lags
  giver_in task comes =
      let is_edge : IsEdge graph (edge_at graph e) = good.edges e (edge_at graph e) (edge_found graph e inside) in
      omega (arith, are.long, source_inside graph (edge_at graph e) is_edge (edge_at graph e).from refl task.0 comes)

  module _ (task : TaskNo) (comes : ComesFrom (edge_at graph e).from task.0) (along : is_along chain task.0 (edge_at graph e).to.0 ≡ true) (lag turns : ℕ)
      (at : lag_at lags (edge_at graph e).to.0 ≡ Some lag) (covers : CoversConstants graph e turns) (few : turns ≤ MAX_PREFIX) (new : List (Option ℕ)) where
    filled : lag_at lags task.0 ≡ None → AreLags graph chain a (set lags task.0 (Some (lag + turns))) × (missing_in (set lags task.0 (Some (lag + turns))) < missing_in lags)
    filled none = filled_lags graph chain good a e task.0 lag turns lags inside (giver_in task comes) comes along are at covers few none

    pub passed_lags : (b : Bool) → OnTrue b ((new ≡ set lags task.0 (Some (lag + turns))) × (lag_at lags task.0 ≡ None)) → OnFalse b ((new ≡ lags) × HasLag lags task.0) → AreLags graph chain a new
    passed_lags true up kept = subst (λ (x : List (Option ℕ)). AreLags graph chain a x) (sym up.0) (filled up.1).0
    passed_lags false up kept = subst (λ (x : List (Option ℕ)). AreLags graph chain a x) (sym kept.0) are

    pub passed_falls : (b : Bool) → OnTrue b ((new ≡ set lags task.0 (Some (lag + turns))) × (lag_at lags task.0 ≡ None)) → OnTrue b (missing_in new < missing_in lags)
    passed_falls true up = subst (λ (x : List (Option ℕ)). missing_in x < missing_in lags) (sym up.0) (filled up.1).1
    passed_falls false up = tt

    pub passed_same : (b : Bool) → OnFalse b ((new ≡ lags) × HasLag lags task.0) → OnFalse b (new ≡ lags)
    passed_same true kept = tt
    passed_same false kept = kept.0

    pub passed_known : (b : Bool) → OnFalse b ((new ≡ lags) × HasLag lags task.0) → OnFalse b (IsKnownOn graph chain lags e)
    passed_known true kept = tt
    passed_known false kept = λ i other_comes other_along has.
        (let source : task.0 ≡ i = one_giver (edge_at graph e).from task.0 i comes other_comes in
        subst (λ (x : ℕ). HasLag lags x) source kept.1)

-- the lag of the consumer
pub passed_at : (graph : TaskGraph) (e : ℕ) (lags : List (Option ℕ)) (to : TaskNo) (lag : ℕ) → to ≡ (edge_at graph e).to → lag_at lags to.0 ≡ Some lag →
    lag_at lags (edge_at graph e).to.0 ≡ Some lag
passed_at graph e lags to lag same is = subst (λ (x : TaskNo). lag_at lags x.0 ≡ Some lag) same is

-- a round goes on by an edge
pub spreads_on : (graph : TaskGraph) (chain : List TaskNo) (a : ℕ) (old : List (Option ℕ)) (e : ℕ) (lags new : List (Option ℕ)) (came passed : Bool) → IsSpreading graph chain a old e lags came →
    AreLags graph chain a new → OnTrue passed (missing_in new < missing_in lags) → OnFalse passed (new ≡ lags) → OnFalse passed (IsKnownOn graph chain lags e) →
    IsSpreading graph chain a old (e + 1) new (came || passed)
spreads_on graph chain a old e lags new true true way are falls same known =
    record { are = are; falls = omega (arith, way.falls, falls); same = tt; known = tt }
spreads_on graph chain a old e lags new true false way are falls same known =
    let stays : missing_in new ≡ missing_in lags = ap missing_in same in
    record { are = are; falls = omega (arith, way.falls, stays); same = tt; known = tt }
spreads_on graph chain a old e lags new false true way are falls same known =
    let stays : missing_in lags ≡ missing_in old = ap missing_in way.same in
    record { are = are; falls = omega (arith, falls, stays); same = tt; known = tt }
spreads_on graph chain a old e lags new false false way are falls same known = record {
  are = are;
  falls = tt;
  same = same ∙ way.same;
  known = below_more (IsKnownOn graph chain old) e way.known (subst (λ (x : List (Option ℕ)). IsKnownOn graph chain x e) way.same known);
}

pub spread_known : (graph : TaskGraph) (chain : List TaskNo) (a : ℕ) (old : List (Option ℕ)) (e : ℕ) (lags : List (Option ℕ)) (came : Bool) → e ≡ length graph.edges → IsSpreading graph chain a old e lags came →
    OnFalse came ((before : ℕ) → before < length graph.edges → IsKnownOn graph chain lags before)
spread_known graph chain a old e lags true all way = tt
spread_known graph chain a old e lags false all way = λ before below.
    subst (λ (x : List (Option ℕ)). IsKnownOn graph chain x before) (sym way.same) (way.known before (omega (arith, all, below)))

-- where no lag comes, what reaches a job has one
pub known_all : (graph : TaskGraph) (chain : List TaskNo) (a : ℕ) (lags : List (Option ℕ)) → AreLags graph chain a lags → ((e : ℕ) → e < length graph.edges → IsKnownOn graph chain lags e) → AreAllLags graph chain a lags
known_all graph chain a lags are known = record {
  long = are.long;
  each = are.each;
  few = λ t lag is. omega (arith, are.few t lag is);
  never = λ t none m k reaches. (let has = go t m a k reaches are.own in no_lag has.0 (sym none ∙ has.1));
}
  where
    back : (t n i j : ℕ) → Takes graph chain t n i j → HasLag lags t → HasLag lags i
    back t n i j takes has =
        let inside : takes.number < length graph.edges = slice_get_within graph.edges takes.number takes.edge takes.at in
        let same : takes.edge ≡ edge_at graph takes.number = same_Some takes.edge (edge_at graph takes.number) (sym takes.at ∙ edge_found graph takes.number inside) in
        known takes.number inside i (subst (λ (x : Edge). ComesFrom x.from i) same takes.from)
        (subst (λ (x : Edge). is_along chain i x.to.0 ≡ true) same (subst (λ (x : ℕ). is_along chain i x ≡ true) (sym takes.to) takes.along))
        (subst (λ (x : Edge). HasLag lags x.to.0) same (subst (λ (x : ℕ). HasLag lags x) (sym takes.to) has))

    go : (s m t n : ℕ) → Reaches graph chain s m t n → HasLag lags t → HasLag lags s
    go s m t n (reaching.itself b c task number) has = subst (λ (x : ℕ). HasLag lags x) task has
    go s m t n (reaching.through b c i j takes rest) has = go s m i j rest (back b c i j takes has)

-- numbers of jobs
module _ (graph : TaskGraph) (good : IsWellFormed graph) (i : ℕ) (inside : i < length graph.tasks) where
  pub jobs_few : jobs_of graph i ≤ 10000000
  jobs_few = omega (arith, div-le_self graph.hyper (task_at graph i).clock.period, good.few_ticks)

  pub jobs_some : 1 ≤ jobs_of graph i
  jobs_some = go (jobs_of graph i) refl
    where
      go : (n : ℕ) → jobs_of graph i ≡ n → 1 ≤ jobs_of graph i
      go zero is =
          let h : graph.hyper ≡ jobs_of graph i * (task_at graph i).clock.period = jobs_are graph good i inside in
          let z : jobs_of graph i * (task_at graph i).clock.period ≡ 0 * (task_at graph i).clock.period = ap (λ (x : ℕ). x * (task_at graph i).clock.period) is in
          absurd (let y : 0 * (task_at graph i).clock.period ≡ 0 = omega arith in omega (arith, h, z, y, good.hyper))
      go (suc n) is = omega (arith, is)

-- division that rounds up
pub turns_cover : (first jobs : ℕ) → 1 ≤ jobs → first ≤ (first + (jobs - 1)) / jobs * jobs
turns_cover first jobs some =
    let x : ℕ = first + (jobs - 1) in
    let whole : jobs * ((first + (jobs - 1)) / jobs) + (first + (jobs - 1)) % jobs ≡ first + (jobs - 1) = div-add-mod (first + (jobs - 1)) jobs in
    let turn : (first + (jobs - 1)) / jobs * jobs ≡ jobs * ((first + (jobs - 1)) / jobs) = omega arith in
    omega (arith, whole, turn, mod_below (first + (jobs - 1)) jobs some, some)

pub turns_few : (first jobs : ℕ) → 1 ≤ jobs → (first + (jobs - 1)) / jobs ≤ first
turns_few first jobs some =
    let q : ℕ = (first + (jobs - 1)) / jobs in
    let whole : jobs * ((first + (jobs - 1)) / jobs) + (first + (jobs - 1)) % jobs ≡ first + (jobs - 1) = div-add-mod (first + (jobs - 1)) jobs in
    elim (cases_lt first ((first + (jobs - 1)) / jobs)) [
      | inl more ↦ absurd
          (let a : jobs * (first + 1) ≤ jobs * ((first + (jobs - 1)) / jobs) = mul-le-mul_left jobs (let g : first + 1 ≤ (first + (jobs - 1)) / jobs = omega (arith, more) in g) in
          let b : jobs * (first + 1) ≡ jobs * first + jobs = omega arith in
          let d : first ≤ jobs * first = (let k : 1 * first ≤ jobs * first = mul-le-mul_right first some in omega (arith, k)) in
          omega (arith, whole, a, b, d, some))
      | inr less ↦ less
    ]

-- a word begins with the constants that its edge's consumer reads at first
pub prefix_first : (plan : PlanView) → IsPlan plan → (e : ℕ) → e < length plan.graph.edges → (w d : Word) → w ≡ get_or plan.words e d →
    IsFirstReader (edge_at plan.graph e).ops (length w.prefix)
prefix_first plan is e inside w d at =
    let each = is.words.each e (edge_at plan.graph e) (edge_found plan.graph e inside) in
    let same : w ≡ each.0 = at ∙ get_or_from_slice_get plan.words e each.0 d each.1 in
    subst (λ (x : Word). IsFirstReader (edge_at plan.graph e).ops (length x.prefix)) (sym same)
    (first_after_prefix (edge_at plan.graph e).ops each.0 each.2)

-- what is read of lags
pub lag_read : (graph : TaskGraph) (chain : List TaskNo) (a s lag : ℕ) (lags : List (Option ℕ)) (x : Option ℕ) → AreAllLags graph chain a lags → s < length graph.tasks →
    x ≡ get_or lags s x → x ≡ Some lag → lag_at lags s ≡ Some lag
lag_read graph chain a s lag lags x all inside is at = get_or_default lags s None x (omega (arith, all.long, inside)) ∙ sym is ∙ at

pub lags_small : (graph : TaskGraph) (chain : List TaskNo) → IsWellFormed graph → (a s lag : ℕ) (lags : List (Option ℕ)) → AreAllLags graph chain a lags → lag_at lags s ≡ Some lag → lag ≤ 64 * 1000000
lags_small graph chain good a s lag lags all at = omega (arith, all.few s lag at, mul-le-mul_right MAX_PREFIX good.few_tasks)
