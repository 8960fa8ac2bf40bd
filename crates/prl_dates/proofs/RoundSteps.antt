-- One lane more of a round, and what holds when all have asked.
use Rattle.prl_base.proofs.Standard.{◌≡◌, ◌+◌, ◌<◌, ◌≤◌, ◌^◌, ℕ, List, length, Some, inl, inr, refl, ◌∙◌, ap, subst, arith, slice_get, slice_index, cases_lt}
use Rattle.prl_plan.specs.Vocabulary.{place_in, task_at, IsWellFormed, jobs_in_hyperperiod}
use Rattle.prl_plan.specs.declared.graphs.TaskGraph.{TaskGraph}
use Rattle.prl_plan.proofs.RoundPeriods.{task_is}
use Rattle.prl_dates.specs.Vocabulary.{Lane, jobs_of, link_at, IsLane, AreEachLane, Leaves, Meets, AreRaised, AreRound, AreWithin}
use Rattle.prl_dates.proofs.Indices.{before_rises, before_all, index_below, place_below, some_jobs}

same_lane : (lanes : List Lane) (l : ℕ) (a b : Lane) → slice_get lanes l ≡ Some a → slice_get lanes l ≡ Some b → a ≡ b
same_lane lanes l a b x y = cc

-- what holds of the first lanes and of the next one holds of one lane more
pub lane_more : (P : Lane → Type 0) (lanes : List Lane) (l : ℕ) (lane : Lane) → slice_get lanes l ≡ Some lane → ((j : ℕ) (other : Lane) → j < l → slice_get lanes j ≡ Some other → P other) → P lane →
    (j : ℕ) (other : Lane) → j < l + 1 → slice_get lanes j ≡ Some other → P other
lane_more P lanes l lane stands before here j other below at =
    elim (cases_lt j l) [
      | inl less ↦ before j other less at
      | inr above ↦ (let e : j ≡ l = omega (arith, above, below) in subst P (same_lane lanes l lane other stands (subst (λ (x : ℕ). slice_get lanes x ≡ Some other) e at)) here)
    ]

-- what is met stays so where a later table has the same date
pub still_meets : (lane : Lane) (wcet : ℕ) (now next later : List ℕ) (k q : ℕ) → q ≡ lane.first + k → slice_index later q ≡ slice_index next q → Meets lane wcet now next k →
    Meets lane wcet now later k
still_meets lane wcet now next later k q at same meets = ap (λ (x : ℕ). x + (link_at lane k).gap) (subst (λ (x : ℕ). slice_index later x ≡ slice_index next x) at same) ∙ meets

module _ (graph : TaskGraph) (lanes : List Lane) (l : ℕ) (lane : Lane) (stands : slice_get lanes l ≡ Some lane) (now next : List ℕ)
    (round : AreRound graph lanes l now next) where
  pub round_more : (later : List ℕ) → AreRaised lane (task_at graph lane.to.0).wcet (length lane.links) now next later → AreRound graph lanes (l + 1) now later
  round_more later raised = record {
    long = raised.long ∙ round.long;
    up = λ q. (let a = round.up q in let b = raised.up q in omega (arith, a, b));
    asks = lane_more (λ (x : Lane). (k : ℕ) → k < length x.links → Leaves x (task_at graph x.to.0).wcet now later k) lanes l lane stands
        (λ j other less at k inside. let a : Leaves other (task_at graph other.to.0).wcet now next k = round.asks j other less at k inside in let b = raised.up (other.first + k) in omega (arith, a, b))
        raised.asks;
    only = λ q.
        elim (raised.only q) [
          | inl same ↦
              elim (round.only q) [
                | inl still ↦ inl (same ∙ still)
                | inr by ↦ inr (by.0, by.1, by.2, by.3, by.4, by.5, still_meets by.1 (task_at graph by.1.to.0).wcet now next later by.3 q by.5 same by.6)
              ]
          | inr by ↦ inr (l, lane, stands, by.0, by.1, by.2, by.3)
        ];
  }

pub round_begins : (graph : TaskGraph) (lanes : List Lane) (now : List ℕ) → AreRound graph lanes 0 now now
round_begins graph lanes now = record {
  long = refl;
  up = λ q. omega arith;
  asks = λ l lane below. absurd (omega (arith, below));
  only = λ q. inl refl;
}

module _ (graph : TaskGraph) (good : IsWellFormed graph) where
  -- the indices of a lane's links are in the tables
  pub links_from : (lane : Lane) → IsLane graph lane → (k : ℕ) → k < length lane.links → (link_at lane k).from < jobs_in_hyperperiod graph
  links_from lane is k inside =
      let link = is.links k (omega (arith, is.long, inside)) in
      let below = index_below graph lane.from.0 (place_in link.0 (jobs_of graph lane.from.0)) is.from
      (place_below (jobs_of graph lane.from.0) (some_jobs graph good lane.from.0 is.from) link.0) in
      omega (arith, below, link.1.index)

  pub links_to : (lane : Lane) → IsLane graph lane → lane.first + length lane.links ≤ jobs_in_hyperperiod graph
  links_to lane is =
      omega (arith, before_rises graph lane.to.0 (length graph.tasks) is.to, before_all graph, is.first, is.long)

  module _ (lanes : List Lane) (are : AreEachLane graph lanes) (now next : List ℕ) (round : AreRound graph lanes (length lanes) now next) where
    pub next_within : (bound : ℕ) → AreWithin now bound → AreWithin next (bound + 2 ^ 31)
    next_within bound within q =
        elim (round.only q) [
          | inl same ↦ omega (arith, same, within q)
          | inr by ↦
              (let e : slice_index next q ≡ slice_index next (by.1.first + by.3) = ap (λ (x : ℕ). slice_index next x) by.5 in
              omega (arith, within (link_at by.1 by.3).from, (task_is graph good by.1.to.0 (are by.0 by.1 by.2).to).wcet.1, by.6, e))
        ]
