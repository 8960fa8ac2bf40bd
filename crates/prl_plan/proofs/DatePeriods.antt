-- The least releases and the greatest deadlines repeat with the hyperperiod: moved by one, they keep the same rules.
use Rattle.prl_base.proofs.Standard.{◌≡◌, ◌*◌, ◌/◌, ◌<◌, ◌≤◌, ℕ, zero, suc, length, refl, sym, ◌∙◌, ap, subst, arith, ℤ, pos, ◌+ℤ◌, ◌-ℤ◌, ◌≤ℤ◌, neg_ℤ, mul-div_cancel, ints}
use Rattle.prl_plan.specs.Vocabulary.{Edge, TaskGraph, Job, task_at, release_of, preceding, ComesFrom, Precedes, PrecedesAlong, IsWellFormed, IsEdge, Family, AreReleases, AreDeadlines}
use Rattle.prl_plan.specs.Vocabulary.{AreLeastReleases, AreGreatestDeadlines, RepeatsByHyper}
use Rattle.prl_plan.proofs.Periods.{everywhere}
use Rattle.prl_plan.proofs.RoundLaws.{source_inside}
use Rattle.prl_plan.proofs.RoundPeriods.{task_is, edge_precedes, release_shift}

module _ (graph : TaskGraph) (good : IsWellFormed graph) where
  -- how many jobs a task has in a hyperperiod
  abbrev pub jobs_of : ℕ → ℕ
  jobs_of i = graph.hyper / (task_at graph i).clock.period

  pub jobs_are : (i : ℕ) → i < length graph.tasks → graph.hyper ≡ jobs_of i * (task_at graph i).clock.period
  jobs_are i inside =
      let is = task_is graph good i inside in
      let times : graph.hyper / (task_at graph i).clock.period ≡ is.divides.0 =
      ap (λ (x : ℕ). x / (task_at graph i).clock.period) is.divides.1 ∙ mul-div_cancel is.divides.0 is.period.0 in
      is.divides.1 ∙ ap (λ (x : ℕ). x * (task_at graph i).clock.period) (sym times)

  jobs_one : (i c : ℕ) → i < length graph.tasks → graph.hyper ≡ c * (task_at graph i).clock.period → jobs_of i ≡ c
  jobs_one i c inside is =
      ap (λ (x : ℕ). x / (task_at graph i).clock.period) is ∙ mul-div_cancel c (task_is graph good i inside).period.0

  -- a job moved by so many of its task
  abbrev moved_job : (ℕ → ℤ) → Job → Job
  moved_job by job = record { task = job.task; number = job.number +ℤ by job.task }

  -- jobs so moved are released later by so many ticks, and precede one another as before
  record Moves (by : ℕ → ℤ) (ticks : ℤ) : Type 0 where
    release : (i : ℕ) (m : ℤ) → i < length graph.tasks → release_of (task_at graph i) (m +ℤ by i) ≡ release_of (task_at graph i) m +ℤ ticks
    precede : (before after : Job) → Precedes graph before after → Precedes graph (moved_job by before) (moved_job by after)

  abbrev moved : (ℕ → ℤ) → ℤ → Family → Family
  moved by ticks date i m = date i (m +ℤ by i) -ℤ ticks

  moved_releases : {by : ℕ → ℤ} {ticks : ℤ} → Moves by ticks → (date : Family) → AreReleases graph date → AreReleases graph (moved by ticks date)
  moved_releases {by} moves date is = record {
    above = λ i m inside. omega (arith, ints, is.above i (m +ℤ by i) inside, moves.release i m inside);
    along = λ before after precedes. omega (arith, ints, is.along (moved_job by before) (moved_job by after) (moves.precede before after precedes));
  }

  moved_deadlines : {by : ℕ → ℤ} {ticks : ℤ} → Moves by ticks → (date : Family) → AreDeadlines graph date → AreDeadlines graph (moved by ticks date)
  moved_deadlines {by} moves date is = record {
    below = λ i m inside. omega (arith, ints, is.below i (m +ℤ by i) inside, moves.release i m inside);
    along = λ before after precedes. omega (arith, ints, is.along (moved_job by before) (moved_job by after) (moves.precede before after precedes));
  }

  -- the edge's jobs a hyperperiod later
  later_along : (edge : Edge) → IsEdge graph edge → (i : ℕ) → ComesFrom edge.from i → (n : ℤ) →
      preceding edge.ops (n +ℤ pos (jobs_of edge.to.0)) ≡ preceding edge.ops n +ℤ pos (jobs_of i)
  later_along edge is i comes n =
      edge_precedes graph good edge is i (jobs_of edge.to.0) (jobs_of i) comes (jobs_are edge.to.0 is.to)
      (jobs_are i (source_inside graph edge is edge.from refl i comes)) n

  moves_up : Moves (λ i. pos (jobs_of i)) (pos graph.hyper)
  moves_up = record {
    release = λ i m inside. release_shift graph good i (jobs_of i) (jobs_are i inside) m;
    precede = λ before after h.
        (let edge : Edge = h.1 in
        let along : PrecedesAlong graph edge before after = h.3 in
        let step : preceding edge.ops (after.number +ℤ pos (jobs_of after.task)) ≡ preceding edge.ops after.number +ℤ pos (jobs_of before.task) =
        subst (λ (k : ℕ). preceding edge.ops (after.number +ℤ pos (jobs_of k)) ≡ preceding edge.ops after.number +ℤ pos (jobs_of before.task)) along.to
        (later_along edge (good.edges h.0 edge h.2) before.task along.from after.number) in
        (h.0, edge, h.2, record { from = along.from; to = along.to; number = ap (λ (z : ℤ). z +ℤ pos (jobs_of before.task)) along.number ∙ sym step }));
  }

  moves_down : Moves (λ i. neg_ℤ (pos (jobs_of i))) (neg_ℤ (pos graph.hyper))
  moves_down = record {
    release = λ i m inside.
        (let back : (m +ℤ neg_ℤ (pos (jobs_of i))) +ℤ pos (jobs_of i) ≡ m = omega (arith, ints) in
        let s = ap (λ (z : ℤ). release_of (task_at graph i) z) back in
        omega (arith, ints, release_shift graph good i (jobs_of i) (jobs_are i inside) (m +ℤ neg_ℤ (pos (jobs_of i))), s));
    precede = λ before after h.
        (let edge : Edge = h.1 in
        let along : PrecedesAlong graph edge before after = h.3 in
        let early : ℤ = after.number +ℤ neg_ℤ (pos (jobs_of after.task)) in
        let back : early +ℤ pos (jobs_of after.task) ≡ after.number = omega (arith, ints) in
        let step : preceding edge.ops (early +ℤ pos (jobs_of after.task)) ≡ preceding edge.ops early +ℤ pos (jobs_of before.task) =
        subst (λ (k : ℕ). preceding edge.ops (early +ℤ pos (jobs_of k)) ≡ preceding edge.ops early +ℤ pos (jobs_of before.task)) along.to
        (later_along edge (good.edges h.0 edge h.2) before.task along.from early) in
        let here : preceding edge.ops after.number ≡ preceding edge.ops early +ℤ pos (jobs_of before.task) =
        ap (λ (z : ℤ). preceding edge.ops z) (sym back) ∙ step in
        (h.0, edge, h.2, record { from = along.from; to = along.to; number = omega (arith, ints, here, along.number) }));
  }

  -- dates that are a hyperperiod later as many jobs later repeat
  repeat_each : (date : Family) → ((i : ℕ) (m : ℤ) → i < length graph.tasks → date i ((m +ℤ pos (jobs_of i)) +ℤ neg_ℤ (pos (jobs_of i))) ≡ date i m →
      date i (m +ℤ pos (jobs_of i)) ≡ date i m +ℤ pos graph.hyper) → RepeatsByHyper graph date
  repeat_each date each = record {
    again = λ i c inside repeats m.
        (let back : (m +ℤ pos (jobs_of i)) +ℤ neg_ℤ (pos (jobs_of i)) ≡ m = omega (arith, ints) in
        subst (λ (k : ℕ). date i (m +ℤ pos k) ≡ date i m +ℤ pos graph.hyper) (jobs_one i c inside repeats) (each i m inside (ap (λ (z : ℤ). date i z) back)));
  }

  pub least_repeat : (date : Family) → AreLeastReleases graph date → RepeatsByHyper graph date
  least_repeat date is = repeat_each date (λ i m inside back.
      (let up = is.least _ (moved_releases moves_up date is.releases) i m inside in
      let down = is.least _ (moved_releases moves_down date is.releases) i (m +ℤ pos (jobs_of i)) inside in
      omega (arith, ints, up, down, back)))

  pub greatest_repeat : (date : Family) → AreGreatestDeadlines graph date → RepeatsByHyper graph date
  greatest_repeat date is = repeat_each date (λ i m inside back.
      (let up = is.greatest _ (moved_deadlines moves_up date is.deadlines) i m inside in
      let down = is.greatest _ (moved_deadlines moves_down date is.deadlines) i (m +ℤ pos (jobs_of i)) inside in
      omega (arith, ints, up, down, back)))

  some_jobs : (jobs period : ℕ) → graph.hyper ≡ jobs * period → 1 ≤ jobs
  some_jobs zero period is = absurd (let z : 0 * period ≡ 0 = omega arith in omega (arith, z, is, good.hyper))
  some_jobs (suc jobs) period is = omega arith

  -- two families that repeat and agree over a hyperperiod agree
  pub families_agree : (one other : Family) → RepeatsByHyper graph one → RepeatsByHyper graph other → (i jobs : ℕ) → i < length graph.tasks →
      graph.hyper ≡ jobs * (task_at graph i).clock.period → ((n : ℕ) → n < jobs → one i (pos n) ≡ other i (pos n)) → (m : ℤ) → one i m ≡ other i m
  families_agree one other first second i jobs inside times base =
      everywhere (λ (m : ℤ). one i m ≡ other i m) jobs (some_jobs jobs (task_at graph i).clock.period times) base
      (λ m same. first.again i jobs inside times m ∙ ap (λ (z : ℤ). z +ℤ pos graph.hyper) same ∙ sym (second.again i jobs inside times m))
      (λ m same. omega (arith, ints, first.again i jobs inside times m, second.again i jobs inside times m, same))

  -- and so with their order
  pub family_below : (one other : Family) → RepeatsByHyper graph one → RepeatsByHyper graph other → (i jobs : ℕ) → i < length graph.tasks →
      graph.hyper ≡ jobs * (task_at graph i).clock.period → ((n : ℕ) → n < jobs → one i (pos n) ≤ℤ other i (pos n)) → (m : ℤ) → one i m ≤ℤ other i m
  family_below one other first second i jobs inside times base =
      everywhere (λ (m : ℤ). one i m ≤ℤ other i m) jobs (some_jobs jobs (task_at graph i).clock.period times) base
      (λ m below. omega (arith, ints, first.again i jobs inside times m, second.again i jobs inside times m, below))
      (λ m below. omega (arith, ints, first.again i jobs inside times m, second.again i jobs inside times m, below))
