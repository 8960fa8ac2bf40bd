-- Counts of jobs that rise until they are those that a job needs.
use Rattle.prl_base.proofs.Standard.{Bool, true, false, OnTrue, OnFalse, ◌||◌, below_more, ◌≡◌, ◌≢◌, ◌+◌, ◌-◌, ◌<◌, ◌≤◌, ◌^◌, ◌⊎◌, inl, inr, ℕ, zero, suc, List, length, set, slice_index, refl, sym, ◌∙◌, ap, subst, arith, Option, Some, None, MatchOption, slice_get, sum_by-set, replicate, get_or-set_same, get_or-set_other, cases_eq, length-set, length-replicate, slice_get-get_or, slice_get_within, same_Some, mul-le-mul_left}
use Rattle.prl_base.specs.declared.numbers.TaskNo.{TaskNo}
use Rattle.prl_base.specs.declared.values.Value.{Value}
use Rattle.prl_plan.specs.declared.graphs.Edge.{Edge}
use Rattle.prl_plan.specs.declared.graphs.Producer.{Producer}
use Rattle.prl_plan.specs.declared.graphs.Producer.TheVariants as producers
use Rattle.prl_plan.specs.declared.graphs.TaskGraph.{TaskGraph}
use Rattle.prl_plan.specs.declared.walks.Operand.{Operand}
use Rattle.prl_plan.specs.declared.walks.Operand.TheVariants as operands
use Rattle.prl_plan.specs.Vocabulary.{edge_at, no_edge, IsWellFormed, IsEdge, ComesFrom, operand_of, IsSmallOperand}
use Rattle.prl_plan.proofs.RoundLaws.{source_inside}
use Rattle.prl_plan.proofs.RoundPeriods.{task_is}
use Rattle.prl_plan.proofs.WalkLaws.{operand_walks}
use Rattle.prl_ages.specs.Chains.{is_along}
use Rattle.prl_ages.specs.Reaching.{Takes, Reaches}
use Rattle.prl_ages.specs.Reaching as reaching
use Rattle.prl_ages.specs.Ages.{released}
use Rattle.prl_ages.specs.Needs.{AreNeeded}
use Rattle.prl_ages.specs.code.Rising.{AreFound, LastReads, IsSettledOn, IsUnderWay, room}
use Rattle.prl_ages.proofs.Operands.{operand_rises, operand_not_later}
use Rattle.prl_ages.proofs.Reaching.{reaches_on, not_later}

-- the edge of a number that is in range
pub edge_found : (graph : TaskGraph) (e : ℕ) → e < length graph.edges → slice_get graph.edges e ≡ Some (edge_at graph e)
edge_found graph e inside = slice_get-get_or graph.edges e no_edge inside

pub consumer_inside : (graph : TaskGraph) → IsWellFormed graph → (e : ℕ) → e < length graph.edges → (edge_at graph e).to.0 < length graph.tasks
consumer_inside graph good e inside = (good.edges e (edge_at graph e) (edge_found graph e inside)).to

-- the one that reads takes what it reads
last_takes : (graph : TaskGraph) (chain : List TaskNo) (counts : List ℕ) (e i j : ℕ) → e < length graph.edges → ComesFrom (edge_at graph e).from i →
    is_along chain i (edge_at graph e).to.0 ≡ true →
    (reads : LastReads graph counts e j) → Takes graph chain (edge_at graph e).to.0 reads.last i j
last_takes graph chain counts e i j inside comes along reads =
    record { number = e; edge = edge_at graph e; at = edge_found graph e inside; to = refl; from = comes; along = along; reads = reads.reads }

-- a job's number is no higher than its release
pub number_small : (graph : TaskGraph) → IsWellFormed graph → (i n : ℕ) → i < length graph.tasks → n ≤ released graph i n
number_small graph good i n inside = omega (arith, mul-le-mul_left n (task_is graph good i inside).period.0)

-- what is read has a small number
pub last_small : (graph : TaskGraph) (chain : List TaskNo) → IsWellFormed graph → (a k e : ℕ) (counts : List ℕ) → e < length graph.edges → AreFound graph chain a k counts →
    released graph a k < 2 ^ 62 → (n j : ℕ) → slice_index counts (edge_at graph e).to.0 ≡ n + 1 → operand_of (edge_at graph e) n ≡ operands.From j → j < 2 ^ 62
last_small graph chain good a k e counts inside found small n j count reads =
    let is : IsEdge graph (edge_at graph e) = good.edges e (edge_at graph e) (edge_found graph e inside) in
    let w = operand_walks (edge_at graph e) n j reads in
    let early : released graph w.0 j ≤ released graph (edge_at graph e).to.0 n = operand_not_later graph good (edge_at graph e) is w.0 w.1 n j reads in
    let before = not_later graph chain good (edge_at graph e).to.0 n a k (found.reached (edge_at graph e).to.0 n count) in
    omega (arith, number_small graph good w.0 j (source_inside graph (edge_at graph e) is (edge_at graph e).from refl w.0 w.1), early, before, small)

small_operand : (o : Operand) → ((j : ℕ) → o ≡ operands.From j → j < 2 ^ 62) → IsSmallOperand o
small_operand (operands.Const c) small = tt
small_operand (operands.From j) small = omega (arith, small j refl)

pub operand_small : (graph : TaskGraph) (chain : List TaskNo) → IsWellFormed graph → (a k e : ℕ) (counts : List ℕ) → e < length graph.edges → AreFound graph chain a k counts →
    released graph a k < 2 ^ 62 → (n : ℕ) → slice_index counts (edge_at graph e).to.0 ≡ n + 1 → IsSmallOperand (operand_of (edge_at graph e) n)
operand_small graph chain good a k e counts inside found small n count =
    small_operand (operand_of (edge_at graph e) n) (λ j reads. last_small graph chain good a k e counts inside found small n j count reads)

-- the counts with one raised
pub raised_found : (graph : TaskGraph) (chain : List TaskNo) (a k e i j : ℕ) (counts : List ℕ) → e < length graph.edges → i < length graph.tasks → ComesFrom (edge_at graph e).from i →
    is_along chain i (edge_at graph e).to.0 ≡ true → AreFound graph chain a k counts → LastReads graph counts e j → slice_index counts i ≤ j → AreFound graph chain a k (set counts i (j + 1))
raised_found graph chain a k e i j counts inside in_i comes along found reads below = record {
  long = length-set counts i (j + 1) ∙ found.long;
  own = own_now (cases_eq a i);
  reached = λ t m is. reached_now t m is (cases_eq t i);
}
  where
    in_counts : i < length counts
    in_counts = omega (arith, found.long, in_i)

    own_now : (a ≡ i) ⊎ (a ≢ i) → k < slice_index (set counts i (j + 1)) a
    own_now (inl same) =
        let at : slice_index (set counts i (j + 1)) a ≡ j + 1 = ap (λ (x : ℕ). slice_index (set counts i (j + 1)) x) same ∙ get_or-set_same counts i (j + 1) 0 in_counts in
        let old : slice_index counts a ≡ slice_index counts i = ap (λ (x : ℕ). slice_index counts x) same in
        omega (arith, at, old, below, found.own)
    own_now (inr other) =
        let at : slice_index (set counts i (j + 1)) a ≡ slice_index counts a = get_or-set_other counts i a (j + 1) 0 other in
        omega (arith, at, found.own)

    reached_now : (t m : ℕ) → slice_index (set counts i (j + 1)) t ≡ m + 1 → (t ≡ i) ⊎ (t ≢ i) → Reaches graph chain t m a k
    reached_now t m is (inl same) =
        let at : slice_index (set counts i (j + 1)) t ≡ j + 1 = ap (λ (x : ℕ). slice_index (set counts i (j + 1)) x) same ∙ get_or-set_same counts i (j + 1) 0 in_counts in
        let number : j ≡ m = omega (arith, at, is) in
        let takes = last_takes graph chain counts e i j inside comes along reads in
        let reached : Reaches graph chain i j a k = reaches_on graph chain i j (edge_at graph e).to.0 reads.last a k
        (reaching.through (edge_at graph e).to.0 reads.last i j takes (reaching.itself i j refl refl)) (found.reached (edge_at graph e).to.0 reads.last reads.count) in
        subst (λ (x : ℕ). Reaches graph chain x m a k) (sym same) (subst (λ (x : ℕ). Reaches graph chain i x a k) number reached)
    reached_now t m is (inr other) = found.reached t m (sym (get_or-set_other counts i t (j + 1) 0 other) ∙ is)

pub raised_room : (counts : List ℕ) (i j : ℕ) → i < length counts → slice_index counts i ≤ j → j < 2 ^ 63 → room (set counts i (j + 1)) < room counts
raised_room counts i j inside below small =
    omega (arith, sum_by-set (λ (c : ℕ). 2 ^ 64 - c) counts i (j + 1) 0 inside, below, small)

-- a port is of its task
pub port_comes : (from : Producer) (task : TaskNo) (out : ℕ) → from ≡ producers.Port task out → ComesFrom from task.0
port_comes from task out is = subst (λ (p : Producer). ComesFrom p task.0) (sym is) refl

pub constant_comes : (from : Producer) (value : Value) (i : ℕ) → from ≡ producers.Constant value → ComesFrom from i → ⊥
constant_comes from value i is comes = subst (λ (p : Producer). ComesFrom p i) is comes

pub same_source : (from : Producer) (task : TaskNo) (out i : ℕ) → from ≡ producers.Port task out → ComesFrom from i → task.0 ≡ i
same_source from task out i is comes = subst (λ (p : Producer). ComesFrom p i) is comes

same_instance : (a b : ℕ) → operands.From a ≡ operands.From b → a ≡ b
same_instance a b e = cc

-- one job is read
same_read : (graph : TaskGraph) (counts : List ℕ) (e i j : ℕ) → LastReads graph counts e i → LastReads graph counts e j → i ≡ j
same_read graph counts e i j one other =
    let last : one.last ≡ other.last = omega (arith, one.count, other.count) in
    same_instance i j (sym one.reads ∙ ap (λ (x : ℕ). operand_of (edge_at graph e) x) last ∙ other.reads)

-- an edge whose consumer's last job reads none is settled, and one that does not count is
pub none_settled : (graph : TaskGraph) (chain : List TaskNo) (counts : List ℕ) (e : ℕ) → ((j : ℕ) → LastReads graph counts e j → ⊥) → IsSettledOn graph chain counts e
none_settled graph chain counts e none i j comes along reads = absurd (none j reads)

pub no_giver_settled : (graph : TaskGraph) (chain : List TaskNo) (counts : List ℕ) (e : ℕ) →
    ((i : ℕ) → ComesFrom (edge_at graph e).from i → is_along chain i (edge_at graph e).to.0 ≡ true → ⊥) → IsSettledOn graph chain counts e
no_giver_settled graph chain counts e none i j comes along reads = absurd (none i comes along)

-- an edge has one giver
pub one_giver : (from : Producer) (i j : ℕ) → ComesFrom from i → ComesFrom from j → i ≡ j
one_giver (producers.Port task out) i j comes other = sym comes ∙ other
one_giver (producers.Constant value) i j comes other = absurd comes

module _ (graph : TaskGraph) (chain : List TaskNo) (good : IsWellFormed graph) (a k e : ℕ) (counts : List ℕ) (inside : e < length graph.edges) (found : AreFound graph chain a k counts)
    (small : released graph a k < 2 ^ 62) where
  pub read_small : (j : ℕ) → LastReads graph counts e j → j < 2 ^ 62
  read_small j reads = last_small graph chain good a k e counts inside found small reads.last j reads.count reads.reads

  pub giver_inside : (task : TaskNo) → ComesFrom (edge_at graph e).from task.0 → task.0 < length counts
  giver_inside task comes =
      let is_edge : IsEdge graph (edge_at graph e) = good.edges e (edge_at graph e) (edge_found graph e inside) in
      omega (arith, found.long, source_inside graph (edge_at graph e) is_edge (edge_at graph e).from refl task.0 comes)

  module _ (task : TaskNo) (comes : ComesFrom (edge_at graph e).from task.0) (along : is_along chain task.0 (edge_at graph e).to.0 ≡ true) (j : ℕ) (reads : LastReads graph counts e j)
      (new : List ℕ) where
    pub taken_found : (b : Bool) → OnTrue b ((new ≡ set counts task.0 (j + 1)) × (slice_index counts task.0 ≤ j))
        → OnFalse b ((new ≡ counts) × (j < slice_index counts task.0)) → AreFound graph chain a k new
    taken_found true up kept =
        let in_tasks : task.0 < length graph.tasks = omega (arith, giver_inside task comes, found.long) in
        subst (λ (x : List ℕ). AreFound graph chain a k x) (sym up.0) (raised_found graph chain a k e task.0 j counts inside in_tasks comes along found reads up.1)
    taken_found false up kept = subst (λ (x : List ℕ). AreFound graph chain a k x) (sym kept.0) found

    pub taken_room : (b : Bool) → OnTrue b ((new ≡ set counts task.0 (j + 1)) × (slice_index counts task.0 ≤ j)) → OnTrue b (room new < room counts)
    taken_room true up =
        subst (λ (x : List ℕ). room x < room counts) (sym up.0)
        (raised_room counts task.0 j (giver_inside task comes) up.1 (omega (arith, read_small j reads)))
    taken_room false up = tt

    pub taken_same : (b : Bool) → OnFalse b ((new ≡ counts) × (j < slice_index counts task.0)) → OnFalse b (new ≡ counts)
    taken_same true kept = tt
    taken_same false kept = kept.0

    pub taken_settled : (b : Bool) → OnFalse b ((new ≡ counts) × (j < slice_index counts task.0)) → OnFalse b (IsSettledOn graph chain counts e)
    taken_settled true kept = tt
    taken_settled false kept = λ i l other_comes other_along other.
        (let source : task.0 ≡ i = one_giver (edge_at graph e).from task.0 i comes other_comes in
        let number : j ≡ l = same_read graph counts e j l reads other in
        let count : slice_index counts task.0 ≡ slice_index counts i = ap (λ (x : ℕ). slice_index counts x) source in
        omega (arith, number, count, kept.1))

-- a round goes on by an edge
pub round_goes_on : (graph : TaskGraph) (chain : List TaskNo) (a k : ℕ) (old : List ℕ) (e : ℕ) (counts new : List ℕ) (rose took : Bool) → IsUnderWay graph chain a k old e counts rose →
    AreFound graph chain a k new → OnTrue took (room new < room counts) → OnFalse took (new ≡ counts) → OnFalse took (IsSettledOn graph chain counts e) →
    IsUnderWay graph chain a k old (e + 1) new (rose || took)
round_goes_on graph chain a k old e counts new true true way found rises same settled =
    record { found = found; rises = omega (arith, way.rises, rises); same = tt; settled = tt }
round_goes_on graph chain a k old e counts new true false way found rises same settled =
    let stays : room new ≡ room counts = ap room same in
    record { found = found; rises = omega (arith, way.rises, stays); same = tt; settled = tt }
round_goes_on graph chain a k old e counts new false true way found rises same settled =
    let stays : room counts ≡ room old = ap room way.same in
    record { found = found; rises = omega (arith, rises, stays); same = tt; settled = tt }
round_goes_on graph chain a k old e counts new false false way found rises same settled = record {
  found = found;
  rises = tt;
  same = same ∙ way.same;
  settled = below_more (IsSettledOn graph chain old) e way.settled (subst (λ (x : List ℕ). IsSettledOn graph chain x e) way.same settled);
}

pub round_settled : (graph : TaskGraph) (chain : List TaskNo) (a k : ℕ) (old : List ℕ) (e : ℕ) (counts : List ℕ) (rose : Bool) → e ≡ length graph.edges → IsUnderWay graph chain a k old e counts rose →
    OnFalse rose ((before : ℕ) → before < length graph.edges → IsSettledOn graph chain counts before)
round_settled graph chain a k old e counts true all way = tt
round_settled graph chain a k old e counts false all way = λ before below.
    subst (λ (x : List ℕ). IsSettledOn graph chain x before) (sym way.same) (way.settled before (omega (arith, all, below)))

pub job_small : (graph : TaskGraph) → IsWellFormed graph → (a k : ℕ) → a < length graph.tasks → released graph a k < 2 ^ 62 → k < 2 ^ 62
job_small graph good a k inside small = omega (arith, number_small graph good a k inside, small)

-- no job of so many tasks
abbrev pub none_counted : ℕ → List ℕ
none_counted tasks = replicate tasks 0

pub none_at : (n t : ℕ) → slice_index (none_counted n) t ≡ 0
none_at zero t = refl
none_at (suc n) zero = refl
none_at (suc n) (suc t) = none_at n t

-- the counts to begin with
pub first_found : (graph : TaskGraph) (chain : List TaskNo) (a k : ℕ) → a < length graph.tasks → AreFound graph chain a k (set (none_counted (length graph.tasks)) a (k + 1))
first_found graph chain a k inside = record {
  long = length-set (none_counted (length graph.tasks)) a (k + 1) ∙ in_all;
  own = omega (arith, at_a);
  reached = λ t m is. now t m is (cases_eq t a);
}
  where
    in_all : length (none_counted (length graph.tasks)) ≡ length graph.tasks
    in_all = length-replicate (length graph.tasks) 0

    at_a : slice_index (set (none_counted (length graph.tasks)) a (k + 1)) a ≡ k + 1
    at_a = get_or-set_same (none_counted (length graph.tasks)) a (k + 1) 0 (omega (arith, in_all, inside))

    now : (t m : ℕ) → slice_index (set (none_counted (length graph.tasks)) a (k + 1)) t ≡ m + 1 → (t ≡ a) ⊎ (t ≢ a) → Reaches graph chain t m a k
    now t m is (inl same) =
        let number : k ≡ m = omega (arith, at_a, ap (λ (x : ℕ). slice_index (set (none_counted (length graph.tasks)) a (k + 1)) x) same, is) in
        reaching.itself a k (sym same) number
    now t m is (inr other) =
        absurd (omega (arith, get_or-set_other (none_counted (length graph.tasks)) a t (k + 1) 0 other, none_at (length graph.tasks) t, is))

-- where no count rises, what reaches a job counted is counted
module _ (graph : TaskGraph) (chain : List TaskNo) (good : IsWellFormed graph) (counts : List ℕ) (settled : (e : ℕ) → e < length graph.edges → IsSettledOn graph chain counts e) where
  takes_counted : (t n i j : ℕ) → Takes graph chain t n i j → n < slice_index counts t → j < slice_index counts i
  takes_counted t n i j takes below =
      let is = good.edges takes.number takes.edge takes.at in
      let last : ℕ = slice_index counts t - 1 in
      let up = operand_rises graph good takes.edge is i takes.from n j last takes.reads (omega (arith, below)) in
      let inside : takes.number < length graph.edges = slice_get_within graph.edges takes.number takes.edge takes.at in
      let same : takes.edge ≡ edge_at graph takes.number = same_Some takes.edge (edge_at graph takes.number) (sym takes.at ∙ edge_found graph takes.number inside) in
      let count : slice_index counts takes.edge.to.0 ≡ last + 1 = omega (arith, ap (λ (x : ℕ). slice_index counts x) takes.to, below) in
      let reads : LastReads graph counts takes.number up.0 = record {
        last = last;
        count = subst (λ (x : Edge). slice_index counts x.to.0 ≡ last + 1) same count;
        reads = subst (λ (x : Edge). operand_of x last ≡ operands.From up.0) same up.2;
      } in
      let counted : up.0 < slice_index counts i = settled takes.number inside i up.0 (subst (λ (x : Edge). ComesFrom x.from i) same takes.from)
      (subst (λ (x : Edge). is_along chain i x.to.0 ≡ true) same (subst (λ (x : ℕ). is_along chain i x ≡ true) (sym takes.to) takes.along)) reads in
      omega (arith, up.1, counted)

  pub reaches_counted : (s m t n : ℕ) → Reaches graph chain s m t n → n < slice_index counts t → m < slice_index counts s
  reaches_counted s m t n (reaching.itself b c task number) below =
      let e : slice_index counts t ≡ slice_index counts s = ap (λ (x : ℕ). slice_index counts x) task in
      omega (arith, e, number, below)
  reaches_counted s m t n (reaching.through b c i j takes rest) below = reaches_counted s m i j rest (takes_counted b c i j takes below)

pub settled_needed : (graph : TaskGraph) (chain : List TaskNo) → IsWellFormed graph → (a k : ℕ) (counts : List ℕ) → AreFound graph chain a k counts →
    ((e : ℕ) → e < length graph.edges → IsSettledOn graph chain counts e) → AreNeeded graph chain a k counts
settled_needed graph chain good a k counts found settled = record {
  long = found.long;
  reached = found.reached;
  within = λ t m reaches. reaches_counted graph chain good counts settled t m a k reaches found.own;
}

-- what an edge's giver, if it has one, says of a task
pub given_by : (graph : TaskGraph) (chain : List TaskNo) (e : ℕ) (giver : Option TaskNo) (task : TaskNo) → giver ≡ Some task →
    MatchOption giver ((i : ℕ) → ComesFrom (edge_at graph e).from i → is_along chain i (edge_at graph e).to.0 ≡ true → ⊥)
    (λ t. ComesFrom (edge_at graph e).from t.0 × (is_along chain t.0 (edge_at graph e).to.0 ≡ true)) →
    ComesFrom (edge_at graph e).from task.0 × (is_along chain task.0 (edge_at graph e).to.0 ≡ true)
given_by graph chain e (Some t) task is given =
    let same : t ≡ task = same_Some t task is in
    subst (λ (x : TaskNo). ComesFrom (edge_at graph e).from x.0 × (is_along chain x.0 (edge_at graph e).to.0 ≡ true)) same given
given_by graph chain e None task is given = cc
