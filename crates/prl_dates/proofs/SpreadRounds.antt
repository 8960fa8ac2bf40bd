-- Ends raised across lanes, and rounds along them up to the least ends that keep them.
use Rattle.prl_base.proofs.Standard.{◌≡◌, ◌+◌, ◌-◌, ◌*◌, ◌<◌, ◌^◌, ℕ, List, length, Some, inl, inr, refl, sym, ◌∙◌, ap, arith, ℤ, pos, ◌+ℤ◌, ◌≤ℤ◌, sum, slice_get, slice_index, cases_lt, ints}
use Rattle.prl_plan.specs.Vocabulary.{Family, IsWellFormed, jobs_in_hyperperiod, task_at, deadline_of, AreTogether}
use Rattle.prl_plan.specs.declared.graphs.TaskGraph.{TaskGraph}
use Rattle.prl_plan.proofs.RoundPeriods.{task_is}
use Rattle.prl_dates.specs.Vocabulary.{Lane, jobs_before, index_of, dates_of, IsLink, AreEachLane, AreRaisedAcross, IsBelow, KeepsLanes, HasCeiling, IsRising, IsLeastAbove, Leaves, AreRaised}
use Rattle.prl_dates.specs.Vocabulary.{AreRound, AreWithin}
use Rattle.prl_dates.proofs.FirstTables.{get_past, index_found}
use Rattle.prl_dates.proofs.Indices.{before_all}
use Rattle.prl_dates.proofs.RoundSteps.{lane_more, still_meets}
use Rattle.prl_dates.proofs.Settles.{date_here}
use Rattle.prl_dates.proofs.SpreadSteps.{sum_rises, sum_bound}
use Rattle.prl_dates.proofs.TableRounds.{Met, met}

pub across_begins : (graph : TaskGraph) (lanes : List Lane) (processors : List ℕ) (now ends : List ℕ) → AreRaisedAcross graph lanes processors 0 now ends ends
across_begins graph lanes processors now ends = record {
  long = refl;
  up = λ q. omega arith;
  asks = λ l lane below. absurd (omega (arith, below));
  only = λ q. inl refl;
}

-- one lane more
module _ (graph : TaskGraph) (lanes : List Lane) (processors : List ℕ) (l : ℕ) (lane : Lane) (stands : slice_get lanes l ≡ Some lane) (now old next : List ℕ)
    (raised : AreRaisedAcross graph lanes processors l now old next) where
  pub across_more : (AreTogether processors lane.from.0 lane.to.0 → ⊥) → (later : List ℕ) → AreRaised lane (task_at graph lane.to.0).wcet (length lane.links) now next later →
      AreRaisedAcross graph lanes processors (l + 1) now old later
  across_more apart later one = record {
    long = one.long ∙ raised.long;
    up = λ q. (let a = raised.up q in let b = one.up q in omega (arith, a, b));
    asks = lane_more (λ (x : Lane). (AreTogether processors x.from.0 x.to.0 → ⊥) → (k : ℕ) → k < length x.links → Leaves x (task_at graph x.to.0).wcet now later k) lanes l lane stands
        (λ j other less at far k inside. let a : Leaves other (task_at graph other.to.0).wcet now next k = raised.asks j other less at far k inside in let b = one.up (other.first + k) in omega (arith, a, b))
        (λ far. one.asks);
    only = λ q.
        elim (one.only q) [
          | inl same ↦
              elim (raised.only q) [
                | inl still ↦ inl (same ∙ still)
                | inr by ↦ inr (by.0, by.1, by.2, by.3, by.4, by.5, by.6, still_meets by.1 (task_at graph by.1.to.0).wcet now next later by.4 q by.6 same by.7)
              ]
          | inr by ↦ inr (l, lane, stands, apart, by.0, by.1, by.2, by.3)
        ];
  }

  -- a lane within a processor
  pub across_same : AreTogether processors lane.from.0 lane.to.0 → AreRaisedAcross graph lanes processors (l + 1) now old next
  across_same together = record {
    long = raised.long;
    up = raised.up;
    asks = lane_more (λ (x : Lane). (AreTogether processors x.from.0 x.to.0 → ⊥) → (k : ℕ) → k < length x.links → Leaves x (task_at graph x.to.0).wcet now next k) lanes l lane stands raised.asks
        (λ far. absurd (far together));
    only = raised.only;
  }

module _ (graph : TaskGraph) (good : IsWellFormed graph) where
  -- ends below the deadlines are small
  pub due_small : (table : List ℕ) → length table ≡ jobs_in_hyperperiod graph → IsBelow graph (dates_of graph table) (λ i m. deadline_of (task_at graph i) m) → AreWithin table (2 ^ 31)
  due_small table long below q =
      elim (cases_lt q (length table)) [
        | inl inside ↦
            (let s = index_found graph (length graph.tasks) q (omega (arith, before_all graph, long, inside)) in
            let v : slice_index table q ≡ slice_index table (jobs_before graph s.0 + s.1) = ap (λ (x : ℕ). slice_index table x) s.4 in
            let t = task_is graph good s.0 s.2 in
            omega (arith, ints, below s.0 (pos s.1) s.2, date_here graph table s.0 s.1 s.3, v, t.due.1, t.period.1))
        | inr past ↦ (let z = get_past table q 0 past in omega (arith, z))
      ]

module _ (graph : TaskGraph) (good : IsWellFormed graph) (lanes : List Lane) (are : AreEachLane graph lanes) where
  -- what is raised across is raised no further than each family that is not below what is asked for
  pub across_least : (processors : List ℕ) (now old new : List ℕ) → AreRaisedAcross graph lanes processors (length lanes) now old new → (date : Family) →
      ((l : ℕ) (lane : Lane) → slice_get lanes l ≡ Some lane → (AreTogether processors lane.from.0 lane.to.0 → ⊥) → (k : ℕ) (n m : ℤ) → IsLink graph lane k n m →
      (dates_of graph now lane.from.0 m +ℤ pos (task_at graph lane.to.0).wcet) ≤ℤ date lane.to.0 n) →
      IsBelow graph (dates_of graph old) date → IsBelow graph (dates_of graph new) date
  across_least processors now old new raised date keeps below i m inside =
      elim (raised.only (index_of graph i m)) [
        | inl same ↦ omega (arith, ints, below i m inside, same)
        | inr by ↦
            (let at : Met graph by.1 now new i m by.4 = met graph good by.1 (are by.0 by.1 by.2) now new i m by.4 inside by.5 by.6 by.7 in
            let c : (task_at graph by.1.to.0).wcet ≡ (task_at graph i).wcet = ap (λ (j : ℕ). (task_at graph j).wcet) (sym at.task) in
            omega (arith, ints, keeps by.0 by.1 by.2 by.3 by.4 m at.before at.link, at.date, ap (λ (j : ℕ). date j m) (sym at.task), c))
      ]

  -- nor does a round raise past a family that keeps the lanes
  pub round_least : (now new : List ℕ) → AreRound graph lanes (length lanes) now new → (date : Family) → KeepsLanes graph lanes date →
      IsBelow graph (dates_of graph now) date → IsBelow graph (dates_of graph new) date
  round_least now new round date keeps below i m inside =
      elim (round.only (index_of graph i m)) [
        | inl same ↦ omega (arith, ints, below i m inside, same)
        | inr by ↦
            (let at : Met graph by.1 now new i m by.3 = met graph good by.1 (are by.0 by.1 by.2) now new i m by.3 inside by.4 by.5 by.6 in
            let o : date by.1.to.0 m ≡ date i m = ap (λ (j : ℕ). date j m) (sym at.task) in
            let c : (task_at graph by.1.to.0).wcet ≡ (task_at graph i).wcet = ap (λ (j : ℕ). (task_at graph j).wcet) (sym at.task) in
            omega (arith, ints, below by.1.from.0 at.before (are by.0 by.1 by.2).from, keeps by.0 by.1 by.2 by.3 m at.before at.link, at.date, o, c))
      ]

  pub ceiling_within : (table : List ℕ) → length table ≡ jobs_in_hyperperiod graph → HasCeiling graph lanes table → AreWithin table (2 ^ 31)
  ceiling_within table long has = due_small graph good table long (λ i m inside. omega (arith, ints, has.above i m inside, has.within i m inside))

  pub ceiling_kept : (now new : List ℕ) → AreRound graph lanes (length lanes) now new → HasCeiling graph lanes now → HasCeiling graph lanes new
  ceiling_kept now new round has = record {
    ceiling = has.ceiling;
    keeps = has.keeps;
    above = round_least now new round has.ceiling has.keeps has.above;
    within = has.within;
  }

  pub rising_begins : (old : List ℕ) → HasCeiling graph lanes old → IsRising graph lanes old old
  rising_begins old has = record { long = refl; up = λ q. omega arith; ceiling = has; least = λ date keeps below. below }

  pub rising_more : (old now new : List ℕ) → IsRising graph lanes old now → AreRound graph lanes (length lanes) now new → IsRising graph lanes old new
  rising_more old now new so_far round = record {
    long = round.long ∙ so_far.long;
    up = λ q. omega (arith, so_far.up q, round.up q);
    ceiling = ceiling_kept now new round so_far.ceiling;
    least = λ date keeps below. round_least now new round date keeps (so_far.least date keeps below);
  }

  pub rising_ends : (old now : List ℕ) → IsRising graph lanes old now → AreRound graph lanes (length lanes) now now → IsLeastAbove graph lanes old now
  rising_ends old now so_far still = record {
    long = so_far.long;
    up = so_far.up;
    leaves = λ l lane below stands k inside. still.asks l lane below stands k inside;
    least = so_far.least;
  }

  -- what may still be added falls
  pub rising_less : (now new : List ℕ) → length now ≡ jobs_in_hyperperiod graph → HasCeiling graph lanes now → AreRound graph lanes (length lanes) now new → (now ≡ new → ⊥) →
      length new * 2 ^ 31 - sum new < length now * 2 ^ 31 - sum now
  rising_less now new long has round other =
      let same : length new * 2 ^ 31 ≡ length now * 2 ^ 31 = ap (λ (n : ℕ). n * 2 ^ 31) round.long in
      omega (arith, sum_rises now new round.long round.up other, sum_bound new (2 ^ 31) (ceiling_within new (round.long ∙ long) (ceiling_kept now new round has)), same)
