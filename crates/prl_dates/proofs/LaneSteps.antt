-- Lanes, one after the other, and the numbers of their links.
use Rattle.prl_base.proofs.Standard.{◌≡◌, ◌+◌, ◌-◌, ◌*◌, ◌<◌, ◌≤◌, ◌^◌, ◌++◌, ◌⊎◌, ℕ, zero, suc, Bool, true, false, List, [], ◌∷◌, length, get_or, Some, None, inl, inr, refl, sym, ◌∙◌, ap, subst}
use Rattle.prl_base.proofs.Standard.{arith, cond, ℤ, pos, negsuc, ◌+ℤ◌, ◌-ℤ◌, ◌*ℤ◌, ◌≤ℤ◌, unsigned_abs, int_lt, slice_get, slice_index_or, int_max, *ℤ_comm, mul-le-mul_left, mul-le-mul_right}
use Rattle.prl_base.proofs.Standard.{cases_lt, ints, clamps, slice_get_within, slice_get-get_or}
use Rattle.prl_base.specs.Operators.{preceding_number}
use Rattle.prl_base.specs.declared.operators.Clock.{Clock}
use Rattle.prl_base.specs.declared.operators.Op.{Op}
use Rattle.prl_base.specs.declared.operators.Op.TheVariants as operators
use Rattle.prl_plan.specs.Vocabulary.{task_at, release_of, place_in, preceding, ComesFrom, no_edge, IsWellFormed, IsEdge, TakeClock, Fits64, PrecedingFits}
use Rattle.prl_plan.specs.declared.graphs.Edge.{Edge}
use Rattle.prl_plan.specs.declared.graphs.TaskGraph.{TaskGraph}
use Rattle.prl_plan.proofs.NotLater.{released_first}
use Rattle.prl_plan.proofs.RoundLaws.{source_inside}
use Rattle.prl_plan.proofs.RoundPeriods.{edge_takes, task_is}
use Rattle.prl_plan.proofs.WalkNumbers.{preceding_fits, number_within}
use Rattle.prl_dates.specs.Vocabulary.{Lane, Link, jobs_of, jobs_before, Joins, IsGreatestBefore, no_link, link_at, IsLinkOf, IsLane, IsJoined, JoinsAt, AreGreatest, AreLanesOf, AreLanes}
use Rattle.prl_dates.proofs.Indices.{jobs_are, place_self}
use Rattle.prl_dates.proofs.Readings.{fits_rest, item_stands}

-- items of a list that got one more
pub got_pushed : {A : Type 0} (xs : List A) (x y : A) (k : ℕ) → slice_get (xs ++ x ∷ []) k ≡ Some y → (slice_get xs k ≡ Some y) ⊎ ((k ≡ length xs) × (x ≡ y))
got_pushed [] x y zero is = inr (refl, (cc))
got_pushed [] x y (suc k) is = absurd (let e : Some y ≡ None = sym is in cc)
got_pushed (z ∷ xs) x y zero is = inl is
got_pushed (z ∷ xs) x y (suc k) is =
    elim (got_pushed xs x y k is) [
      | inl old ↦ inl old
      | inr new ↦ inr (omega (arith, new.0), new.1)
    ]

pub got_kept : {A : Type 0} (xs : List A) (x y : A) (k : ℕ) → slice_get xs k ≡ Some y → slice_get (xs ++ x ∷ []) k ≡ Some y
got_kept [] x y k is = absurd (let e : Some y ≡ None = sym is in cc)
got_kept (z ∷ xs) x y zero is = is
got_kept (z ∷ xs) x y (suc k) is = got_kept xs x y k is

pub got_last : {A : Type 0} (xs : List A) (x : A) → slice_get (xs ++ x ∷ []) (length xs) ≡ Some x
got_last [] x = refl
got_last (z ∷ xs) x = got_last xs x

-- what fits lies between two bounds
pub fits_low : (z : ℤ) → Fits64 z → negsuc (2 ^ 63 - 1) ≤ℤ z
fits_low (pos n) fits = omega (arith, ints)
fits_low (negsuc n) fits = omega (arith, ints, fits.sfits)

pub fits_between : (z : ℤ) → negsuc (2 ^ 63 - 1) ≤ℤ z → z ≤ℤ pos (2 ^ 63 - 1) → Fits64 z
fits_between (pos n) low high = record { sfits = omega (arith, ints, high) }
fits_between (negsuc n) low high = record { sfits = omega (arith, ints, low) }

pub fits_high : (z : ℤ) → Fits64 z → z ≤ℤ pos (2 ^ 63 - 1)
fits_high (pos n) fits = omega (arith, ints, fits.sfits)
fits_high (negsuc n) fits = omega (arith, ints)

-- a factor of what fits
number_fits : (m : ℤ) (t : ℕ) → 1 ≤ t → Fits64 (m *ℤ pos t) → Fits64 m
number_fits (pos n) t some fits =
    fits_between (pos n) (omega (arith, ints)) (omega (arith, ints, fits_high (pos n *ℤ pos t) fits, mul-le-mul_left n some))
number_fits (negsuc n) t some fits =
    fits_between (negsuc n) (omega (arith, ints, fits_low (negsuc n *ℤ pos t) fits, mul-le-mul_left (suc n) some)) (omega (arith, ints))

-- the clock of an edge's producer, as one of each tick so often taken
takes_unit : (hyper : ℕ) (ops : List Op) (producer consumer : Clock) → TakeClock hyper ops producer consumer →
    TakeClock hyper (ops ++ operators.Down producer.period ∷ []) (record { period = 1; start = producer.start }) consumer
takes_unit hyper [] producer consumer takes =
    let one : consumer.period ≡ producer.period * 1 = ap (λ (c : Clock). c.period) takes.2 ∙ (let e : producer.period ≡ producer.period * 1 = omega arith in e) in
    let some : 1 ≤ 1 = omega arith in
    let div : hyper ≡ hyper * 1 = omega arith in
    (takes.0, takes.1, (record { period = 1; start = producer.start }, (one, ap (λ (c : Clock). c.start) takes.2), (some, (hyper, div), refl)))
takes_unit hyper (op ∷ ops) producer consumer takes = (takes.0, takes.1, (takes.2.0, takes.2.1, takes_unit hyper ops producer takes.2.0 takes.2.2))

fits_last : (ops : List Op) (k : ℕ) (n : ℤ) → PrecedingFits (ops ++ operators.Down k ∷ []) n → Fits64 (pos k *ℤ preceding ops n)
fits_last [] k n fits = fits.1
fits_last (op ∷ ops) k n fits = fits_last ops k (preceding_number op n) (fits_rest op (ops ++ operators.Down k ∷ []) n fits)

more_ops : (ops : List Op) (op : Op) → length (ops ++ op ∷ []) ≡ length ops + 1
more_ops [] op = refl
more_ops (x ∷ ops) op = omega (arith, more_ops ops op)

module _ (graph : TaskGraph) (good : IsWellFormed graph) where
  ops_small : (edge : Edge) → IsEdge graph edge → (length edge.ops + 1) * graph.hyper ≤ 2 ^ 32 * 10000000
  ops_small edge is =
      let a : (length edge.ops + 1) * graph.hyper ≤ 2 ^ 32 * graph.hyper = mul-le-mul_right graph.hyper (omega (arith, is.few)) in
      omega (arith, a, mul-le-mul_left (2 ^ 32) good.few_ticks)

  -- the date of a job in a hyperperiod
  pub date_small : (j n : ℕ) → j < length graph.tasks → n < jobs_of graph j → n * (task_at graph j).clock.period ≤ 10000000
  date_small j n inside below =
      let a : n * (task_at graph j).clock.period ≤ jobs_of graph j * (task_at graph j).clock.period = mul-le-mul_right (task_at graph j).clock.period (omega (arith, below)) in
      omega (arith, a, jobs_are graph good j inside, good.few_ticks)

  pub few_jobs : (j n : ℕ) → j < length graph.tasks → n < jobs_of graph j → n ≤ 10000000
  few_jobs j n inside below = number_within n (task_at graph j).clock.period 10000000 (task_is graph good j inside).period.0 (date_small j n inside below)

  module _ (i j : ℕ) (edge : Edge) (joins : Joins graph i j edge) (n : ℕ) (below : n < jobs_of graph j) where
    is : IsEdge graph edge
    is = good.edges joins.stands.0 edge joins.stands.1

    at_consumer : n * (task_at graph edge.to.0).clock.period ≤ 10000000
    at_consumer =
        date_small edge.to.0 n (good.edges joins.stands.0 edge joins.stands.1).to (subst (λ (k : ℕ). n < jobs_of graph k) (sym joins.to) below)

    takes : TakeClock graph.hyper edge.ops (task_at graph i).clock (task_at graph edge.to.0).clock
    takes = edge_takes graph edge (good.edges joins.stands.0 edge joins.stands.1) i joins.from

    pub joined_fits : PrecedingFits edge.ops (pos n)
    joined_fits =
        let e : (length edge.ops + 1) * graph.hyper ≡ length edge.ops * graph.hyper + graph.hyper = omega arith in
        preceding_fits graph.hyper edge.ops (task_at graph i).clock (task_at graph edge.to.0).clock good.hyper takes (pos n) 10000000 at_consumer
        (omega (arith, ops_small edge (good.edges joins.stands.0 edge joins.stands.1), e))

    pub joined_product : Fits64 (preceding edge.ops (pos n) *ℤ pos (task_at graph i).clock.period)
    joined_product =
        let period : ℕ = (task_at graph i).clock.period in
        let longer : length (edge.ops ++ operators.Down (task_at graph i).clock.period ∷ []) * graph.hyper ≡ (length edge.ops + 1) * graph.hyper =
        ap (λ (x : ℕ). x * graph.hyper) (more_ops edge.ops (operators.Down (task_at graph i).clock.period)) in
        let whole = preceding_fits graph.hyper (edge.ops ++ operators.Down (task_at graph i).clock.period ∷ [])
        (record { period = 1; start = (task_at graph i).clock.start }) (task_at graph edge.to.0).clock good.hyper
        (takes_unit graph.hyper edge.ops (task_at graph i).clock (task_at graph edge.to.0).clock takes) (pos n) 10000000 at_consumer
        (omega (arith, ops_small edge (good.edges joins.stands.0 edge joins.stands.1), longer)) in
        subst (λ (z : ℤ). Fits64 z) (*ℤ_comm (pos (task_at graph i).clock.period) (preceding edge.ops (pos n)))
        (fits_last edge.ops (task_at graph i).clock.period (pos n) whole)

  pub joins_edge : (i j e : ℕ) → JoinsAt graph i j e → (edge : Edge) → edge ≡ get_or graph.edges e edge → Joins graph i j edge
  joins_edge i j e at edge is =
      let stands : slice_get graph.edges e ≡ Some edge = item_stands graph.edges e edge at.inside is in
      let both = at.joins edge stands in
      record { stands = (e, stands); from = both.0; to = both.1 }

  pub joins_inside : (i j e : ℕ) → JoinsAt graph i j e → (i < length graph.tasks) × (j < length graph.tasks)
  joins_inside i j e at =
      let stands : slice_get graph.edges e ≡ Some (get_or graph.edges e no_edge) = slice_get-get_or graph.edges e no_edge at.inside in
      let both = at.joins (get_or graph.edges e no_edge) stands in
      let is : IsEdge graph (get_or graph.edges e no_edge) = good.edges e (get_or graph.edges e no_edge) stands in
      (source_inside graph (get_or graph.edges e no_edge) is (get_or graph.edges e no_edge).from refl i both.0, subst (λ (k : ℕ). k < length graph.tasks) both.1 is.to)

  -- the releases of two linked jobs
  pub record AreNear (i j n : ℕ) (m : ℤ) : Type 0 where
    pub product : Fits64 (m *ℤ pos (task_at graph i).clock.period)
    pub earlier : Fits64 (release_of (task_at graph i) m)
    pub later : Fits64 (release_of (task_at graph j) (pos n))
    pub later_product : Fits64 (pos n *ℤ pos (task_at graph j).clock.period)
    pub order : release_of (task_at graph i) m ≤ℤ release_of (task_at graph j) (pos n)
    pub close : release_of (task_at graph j) (pos n) ≤ℤ (release_of (task_at graph i) m +ℤ pos (2 ^ 63 + 2 ^ 62 - 1))

  pub are_near : (i j n : ℕ) (m : ℤ) → i < length graph.tasks → j < length graph.tasks → n < jobs_of graph j → IsGreatestBefore graph i j (pos n) m → AreNear i j n m
  are_near i j n m first second below greatest =
      let joins : Joins graph i j greatest.attained.0 = greatest.attained.1 in
      let product : Fits64 (m *ℤ pos (task_at graph i).clock.period) =
      subst (λ (z : ℤ). Fits64 (z *ℤ pos (task_at graph i).clock.period)) greatest.attained.2 (joined_product i j greatest.attained.0 joins n below) in
      let order = released_first graph good (record { task = i; number = m }) (record { task = j; number = pos n })
      (joins.stands.0, greatest.attained.0, joins.stands.1, record { from = joins.from; to = joins.to; number = sym greatest.attained.2 }) in
      let d = date_small j n second below in
      let later : release_of (task_at graph j) (pos n) ≤ℤ pos (2 ^ 31 + 10000000) = omega (arith, ints, d, (task_is graph good j second).start) in
      let some : pos 0 ≤ℤ release_of (task_at graph j) (pos n) = omega (arith, ints) in
      let low = fits_low (m *ℤ pos (task_at graph i).clock.period) product in
      record {
        product = product;
        earlier = fits_between (release_of (task_at graph i) m) (omega (arith, ints, low)) (omega (arith, ints, order, later));
        later = fits_between (release_of (task_at graph j) (pos n)) (omega (arith, ints, some)) (omega (arith, ints, later));
        later_product = fits_between (pos n *ℤ pos (task_at graph j).clock.period) (omega (arith, ints)) (omega (arith, ints, d));
        order = order;
        close = omega (arith, ints, low, later);
      }

  pub near_fits : (i j n : ℕ) (m : ℤ) → i < length graph.tasks → AreNear i j n m → Fits64 m
  near_fits i j n m inside near = number_fits m (task_at graph i).clock.period (task_is graph good i inside).period.0 near.product

  -- the difference of two releases
  apart : (a b : ℤ) (gap : ℕ) → b ≤ℤ a → gap ≡ unsigned_abs (a -ℤ b) → a ≡ b +ℤ pos gap
  apart a b gap order is = go (a -ℤ b) refl is
    where
      go : (d : ℤ) → a -ℤ b ≡ d → gap ≡ unsigned_abs d → a ≡ b +ℤ pos gap
      go (pos n) at same = omega (arith, ints, at, same)
      go (negsuc n) at same = absurd (omega (arith, ints, at, order))

  pub link_made : (i j n : ℕ) (m : ℤ) → AreNear i j n m → (link : Link) → link.from ≡ jobs_before graph i + place_in m (jobs_of graph i) →
      link.gap ≡ unsigned_abs (release_of (task_at graph j) (pos n) -ℤ release_of (task_at graph i) m) → IsLinkOf graph i j (pos n) m link
  link_made i j n m near link from gap =
      let a = apart (release_of (task_at graph j) (pos n)) (release_of (task_at graph i) m) link.gap near.order gap in
      record { index = sym from; gap = a; small = omega (arith, ints, a, near.close) }

  -- the first edge's numbers
  pub greatest_first : (i j e : ℕ) (edge : Edge) → slice_get graph.edges e ≡ Some edge → ComesFrom edge.from i → edge.to.0 ≡ j → (numbers : List ℤ) →
      length numbers ≡ jobs_of graph j → ((n : ℕ) → n < jobs_of graph j → slice_index_or numbers n (pos 0) ≡ preceding edge.ops (pos n)) → AreGreatest graph i j 0 numbers
  greatest_first i j e edge stands from to numbers long each = record {
    long = long;
    attained = λ n below. (edge, record { stands = (e, stands); from = from; to = to }, sym (each n below));
    above = λ n below e' edge' less. absurd (omega (arith, less));
  }

  same_edge : (edges : List Edge) (e : ℕ) (a b : Edge) → slice_get edges e ≡ Some a → slice_get edges e ≡ Some b → a ≡ b
  same_edge edges e a b x y = cc

  max_either : (a b : ℤ) → (int_max a b ≡ a) ⊎ (int_max a b ≡ b)
  max_either a b = go (int_lt b a)
    where
      go : (t : Bool) → (cond t a b ≡ a) ⊎ (cond t a b ≡ b)
      go true = inl refl
      go false = inr refl

  pub greatest_more : (i j e : ℕ) (edge : Edge) → slice_get graph.edges e ≡ Some edge → ComesFrom edge.from i → edge.to.0 ≡ j → (numbers later : List ℤ) →
      AreGreatest graph i j e numbers → length later ≡ length numbers →
      ((n : ℕ) → n < length numbers → slice_index_or later n (pos 0) ≡ int_max (slice_index_or numbers n (pos 0)) (preceding edge.ops (pos n))) →
      AreGreatest graph i j (e + 1) later
  greatest_more i j e edge stands from to numbers later are long each = record {
    long = long ∙ are.long;
    attained = λ n below.
        (let at = each n (omega (arith, are.long, below)) in
        elim (max_either (slice_index_or numbers n (pos 0)) (preceding edge.ops (pos n))) [
          | inl old ↦ (let a = are.attained n below in (a.0, a.1, a.2 ∙ sym old ∙ sym at))
          | inr new ↦ (edge, record { stands = (e, stands); from = from; to = to }, sym new ∙ sym at)
        ]);
    above = λ n below e' edge' less stands' from' to'.
        (let at = each n (omega (arith, are.long, below)) in
        elim (cases_lt e' e) [
          | inl before ↦ omega (arith, ints, clamps, are.above n below e' edge' before stands' from' to', at)
          | inr last ↦
              (let s : e' ≡ e = omega (arith, last, less) in
              let o : edge ≡ edge' = same_edge graph.edges e edge edge' stands (subst (λ (x : ℕ). slice_get graph.edges x ≡ Some edge') s stands') in
              subst (λ (x : Edge). preceding x.ops (pos n) ≤ℤ slice_index_or later n (pos 0)) o (omega (arith, ints, clamps, at)))
        ]);
  }

  pub greatest_same : (i j e : ℕ) (edge : Edge) → slice_get graph.edges e ≡ Some edge → (ComesFrom edge.from i → edge.to.0 ≡ j → ⊥) → (numbers : List ℤ) →
      AreGreatest graph i j e numbers → AreGreatest graph i j (e + 1) numbers
  greatest_same i j e edge stands other numbers are = record {
    long = are.long;
    attained = are.attained;
    above = λ n below e' edge' less stands' from' to'.
        elim (cases_lt e' e) [
          | inl before ↦ are.above n below e' edge' before stands' from' to'
          | inr last ↦ absurd
              (let s : e' ≡ e = omega (arith, last, less) in
              let o : edge' ≡ edge = same_edge graph.edges e edge' edge (subst (λ (x : ℕ). slice_get graph.edges x ≡ Some edge') s stands') stands in
              other (subst (λ (x : Edge). ComesFrom x.from i) o from') (subst (λ (x : Edge). x.to.0 ≡ j) o to'))
        ];
  }

  pub greatest_all : (i j : ℕ) (numbers : List ℤ) → AreGreatest graph i j (length graph.edges) numbers → (n : ℕ) → n < jobs_of graph j →
      IsGreatestBefore graph i j (pos n) (slice_index_or numbers n (pos 0))
  greatest_all i j numbers are n below = record {
    attained = are.attained n below;
    above = λ edge joins.
        are.above n below joins.stands.0 edge (slice_get_within graph.edges joins.stands.0 edge joins.stands.1) joins.stands.1 joins.from joins.to;
  }

  pub lane_made : (lane : Lane) → lane.from.0 < length graph.tasks → lane.to.0 < length graph.tasks → lane.first ≡ jobs_before graph lane.to.0 →
      length lane.links ≡ jobs_of graph lane.to.0 → (numbers : List ℤ) → AreGreatest graph lane.from.0 lane.to.0 (length graph.edges) numbers →
      ((n : ℕ) (link : Link) → slice_get lane.links n ≡ Some link → IsLinkOf graph lane.from.0 lane.to.0 (pos n) (slice_index_or numbers n (pos 0)) link) →
      IsLane graph lane
  lane_made lane from to first long numbers are each = record {
    from = from;
    to = to;
    first = first;
    long = long;
    links = λ k below.
        (let l : IsLinkOf graph lane.from.0 lane.to.0 (pos k) (slice_index_or numbers k (pos 0)) (link_at lane k) =
        each k (link_at lane k) (slice_get-get_or lane.links k no_link (omega (arith, long, below))) in (
          slice_index_or numbers k (pos 0),
          record {
            place = place_self (jobs_of graph lane.to.0) k below;
            greatest = greatest_all lane.from.0 lane.to.0 numbers are k below;
            index = l.index;
            gap = l.gap;
          },
        ));
    small = λ k.
        elim (cases_lt k (length lane.links)) [
          | inl inside ↦ (each k (link_at lane k) (slice_get-get_or lane.links k no_link inside)).small
          | inr past ↦
              omega (arith, ap (λ (x : Link). x.gap) (get_or_past lane.links k no_link past))
        ];
  }
    where
      get_or_past : {A : Type 0} (xs : List A) (k : ℕ) (d : A) → length xs ≤ k → get_or xs k d ≡ d
      get_or_past [] k d past = refl
      get_or_past (x ∷ xs) zero d past = absurd (omega arith)
      get_or_past (x ∷ xs) (suc k) d past = get_or_past xs k d (omega (arith, past))

  -- one edge more
  module _ (e : ℕ) (edge : Edge) (stands : slice_get graph.edges e ≡ Some edge) (lanes : List Lane) (are : AreLanesOf graph e lanes) where
    -- an edge between tasks that have a lane
    pub lanes_same : ((i : ℕ) → ComesFrom edge.from i → IsJoined lanes i edge.to.0) → AreLanesOf graph (e + 1) lanes
    lanes_same joined = record {
      each = are.each;
      all = λ i j e' edge' less stands' from' to'.
          elim (cases_lt e' e) [
            | inl before ↦ are.all i j e' edge' before stands' from' to'
            | inr last ↦
                (let s : e' ≡ e = omega (arith, last, less) in
                let o : edge ≡ edge' = same_edge graph.edges e edge edge' stands (subst (λ (x : ℕ). slice_get graph.edges x ≡ Some edge') s stands') in
                subst (λ (k : ℕ). IsJoined lanes i k) to' (subst (λ (x : Edge). ComesFrom x.from i → IsJoined lanes i x.to.0) o (joined i) from'))
          ];
    }

    joined_still : (lane : Lane) (i j : ℕ) → IsJoined lanes i j → IsJoined (lanes ++ lane ∷ []) i j
    joined_still lane i j at = (at.0, at.1, got_kept lanes lane at.1 at.0 at.2, at.3, at.4)

    pub lanes_more : (lane : Lane) → IsLane graph lane → ((i : ℕ) → ComesFrom edge.from i → (lane.from.0 ≡ i) × (lane.to.0 ≡ edge.to.0)) →
        AreLanesOf graph (e + 1) (lanes ++ lane ∷ [])
    lanes_more lane is ends = record {
      each = λ l other at.
          elim (got_pushed lanes lane other l at) [
            | inl old ↦ are.each l other old
            | inr new ↦ subst (λ (x : Lane). IsLane graph x) new.1 is
          ];
      all = λ i j e' edge' less stands' from' to'.
          elim (cases_lt e' e) [
            | inl before ↦ joined_still lane i j (are.all i j e' edge' before stands' from' to')
            | inr last ↦
                (let s : e' ≡ e = omega (arith, last, less) in
                let o : edge' ≡ edge = same_edge graph.edges e edge' edge (subst (λ (x : ℕ). slice_get graph.edges x ≡ Some edge') s stands') stands in
                let at = ends i (subst (λ (x : Edge). ComesFrom x.from i) o from') in
                (length lanes, lane, got_last lanes lane, at.0, at.1 ∙ sym (ap (λ (x : Edge). x.to.0) o) ∙ to'))
          ];
    }

  pub lanes_begin : AreLanesOf graph 0 []
  lanes_begin = record {
    each = λ l lane at. absurd (let e : Some lane ≡ None = sym at in cc);
    all = λ i j e edge less. absurd (omega (arith, less));
  }

  pub lanes_all : (lanes : List Lane) → AreLanesOf graph (length graph.edges) lanes → AreLanes graph lanes
  lanes_all lanes are = record {
    each = are.each;
    all = λ i j edge joins. are.all i j joins.stands.0 edge (slice_get_within graph.edges joins.stands.0 edge joins.stands.1) joins.stands.1 joins.from joins.to;
  }
