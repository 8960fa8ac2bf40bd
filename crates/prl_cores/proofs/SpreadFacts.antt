-- What the jobs of a plan keep with spread releases.
use Rattle.prl_base.proofs.Standard.{◌≡◌, ◌<◌, ◌≤◌, ℕ, List, length, inl, inr, sym, ap, subst, arith, pos, slice_index, cases_eq, ints, slice_get-get_or}
use Rattle.prl_base.specs.declared.numbers.EdgeNo.{EdgeNo}
use Rattle.prl_plan.specs.Vocabulary.{Family, encoded_release, IsJob, ReadsAt, WritesAt, HasPlanFacts, IsHorizon, Placement, constants_of, constants_on, PlanView, IsPlan, edge_at, no_edge, IsActionOf}
use Rattle.prl_plan.specs.Vocabulary.{release_at, deadline_at, Precedes, ComesFrom, AreLeastSpreadReleases, IsSpread}
use Rattle.prl_plan.specs.declared.events.Action.{Action}
use Rattle.prl_plan.specs.declared.horizons.Horizon.{Horizon}
use Rattle.prl_plan.specs.declared.events.Action.TheVariants as actions
use Rattle.prl_plan.proofs.RoundPeriods.{task_is}
use Rattle.prl_plan.proofs.StateLaws.{action_is_as_defined}
use Rattle.prl_plan.proofs.WalkLaws.{walk_preceding, operand_walks}
use Rattle.prl_cores.proofs.SpreadDates.{spread_room}

module _ (plan : PlanView) (is : IsPlan plan) (h : Horizon) (horizon : IsHorizon plan h) (facts : HasPlanFacts (constants_of plan h))
    (placement : Placement) (is_spread : IsSpread plan placement) where
  abbrev processors : List ℕ
  processors = placement.processors

  abbrev date : Family
  date = encoded_release plan.graph placement.windows

  spread : AreLeastSpreadReleases plan.graph plan.windows placement.processors (encoded_release plan.graph placement.windows)
  spread = is_spread.releases

  -- a job read from is one that precedes
  reads_precede : (j k place m slot i n written : ℕ) → ReadsAt (constants_of plan h) j k place m slot → WritesAt (constants_of plan h) i n written m slot →
      Precedes plan.graph (record { task = i; number = pos n }) (record { task = j; number = pos k })
  reads_precede j k place m slot i n written reads writes =
      let r : IsActionOf plan j k (actions.Read reads.action.0 reads.action.1 m (record { 0 = slot })) =
      subst (λ (a : Action). IsActionOf plan j k a) reads.action.2 (action_is_as_defined plan j k place) in
      let w : IsActionOf plan i n (actions.Write writes.action.0 m (record { 0 = slot })) =
      subst (λ (a : Action). IsActionOf plan i n a) writes.action.1 (action_is_as_defined plan i n written) in
      let same : reads.action.1 ≡ writes.action.0 = facts.edge j k place m i n written m slot reads writes in
      let comes : ComesFrom (edge_at plan.graph reads.action.1.0).from i = subst (λ (e : EdgeNo). ComesFrom (edge_at plan.graph e.0).from i) (sym same) w.1 in
      let own : m ≡ n = w.2 in
      let walks = operand_walks (edge_at plan.graph reads.action.1.0) k m r.3 in (
        reads.action.1.0,
        edge_at plan.graph reads.action.1.0,
        slice_get-get_or plan.graph.edges reads.action.1.0 no_edge r.0,
        record {
          from = comes;
          to = r.1;
          number = (let p = walk_preceding (edge_at plan.graph reads.action.1.0).ops k m walks.2 in let e = ap (λ (x : ℕ). pos x) own in omega (arith, ints, p, e));
        },
      )

  -- a spread release is no earlier than the encoded one, and leaves room
  pub no_earlier : (i n : ℕ) → i < length plan.graph.tasks → release_at plan i n ≤ (constants_on plan placement h).release i n
  no_earlier i n inside = (let a = spread.releases.above i (pos n) inside in omega (arith, ints, a))

  has_room : (i n : ℕ) → i < length plan.graph.tasks → (constants_on plan placement h).release i n < deadline_at plan i n
  has_room i n inside =
      let r = spread_room plan is placement.processors (encoded_release plan.graph placement.windows) spread i (pos n) inside in
      let a = spread.releases.above i (pos n) inside in
      let w = (task_is plan.graph is.graph i inside).wcet.0 in
      omega (arith, ints, r, a, w)

  -- what is read is released before its reader
  provided_earlier : (j k place m slot i n written : ℕ) → ReadsAt (constants_of plan h) j k place m slot → WritesAt (constants_of plan h) i n written m slot →
      (constants_on plan placement h).release i n < (constants_on plan placement h).release j k
  provided_earlier j k place m slot i n written reads writes =
      let precedes = reads_precede j k place m slot i n written reads writes in
      let w = (task_is plan.graph is.graph i writes.job.task).wcet.0 in
      let room = spread_room plan is placement.processors (encoded_release plan.graph placement.windows) spread i (pos n) writes.job.task in
      let above = spread.releases.above i (pos n) writes.job.task in
      elim (cases_eq (slice_index placement.processors i) (slice_index placement.processors j)) [
        | inl together ↦ (let a = spread.releases.within (record { task = i; number = pos n }) (record { task = j; number = pos k }) precedes together in omega (arith, ints, a, w, above))
        | inr apart ↦ (let a = spread.releases.across (record { task = i; number = pos n }) (record { task = j; number = pos k }) precedes apart in omega (arith, ints, a, w, room, above))
      ]

  pub spread_has_facts : HasPlanFacts (constants_on plan placement h)
  spread_has_facts = record {
    few = facts.few;
    positive = λ i n job. facts.positive i n (old_job i n job);
    within = λ i n job. facts.within i n (old_job i n job);
    window = λ i n job. has_room i n job.task;
    apart = λ i m n job before. (let a = facts.apart i m n (old_job i n job) before in let b = no_earlier i n job.task in omega (arith, a, b));
    short = λ i n job. facts.short i n (old_job i n job);
    last = λ i n place later job ends before. facts.last i n place later (old_job i n job) ends before;
    read_cell = λ i n place m slot reads. facts.read_cell i n place m slot (old_read i n place m slot reads);
    write_cell = λ i n place m slot writes. facts.write_cell i n place m slot (old_write i n place m slot writes);
    own = λ i n place m slot writes. facts.own i n place m slot (old_write i n place m slot writes);
    writer = λ i n place m j k other l slot one two. facts.writer i n place m j k other l slot (old_write i n place m slot one) (old_write j k other l slot two);
    once = λ i n place m other l slot one two. facts.once i n place m other l slot (old_write i n place m slot one) (old_write i n other l slot two);
    edge = λ j k place m i n written l slot reads writes. facts.edge j k place m i n written l slot (old_read j k place m slot reads) (old_write i n written l slot writes);
    paired = λ i n place job high. facts.paired i n place (old_job i n job) high;
    provided = λ j k place m slot reads.
        (let before = facts.provided j k place m slot (old_read j k place m slot reads) in (
          before.0,
          before.1,
          before.2,
          record {
            writes = record { job = record { task = before.3.writes.job.task; job = before.3.writes.job.job }; action = before.3.writes.action };
            release = provided_earlier j k place m slot before.0 before.1 before.2 (old_read j k place m slot reads) before.3.writes;
            deadline = before.3.deadline;
          },
        ));
    across = λ j k place m i n written slot reads writes.
        (let precedes = reads_precede j k place m slot i n written (old_read j k place m slot reads) (old_write i n written m slot writes) in
        elim (cases_eq (slice_index placement.processors i) (slice_index placement.processors j)) [
          | inl together ↦ inl together
          | inr apart ↦ inr (let a = spread.releases.across (record { task = i; number = pos n }) (record { task = j; number = pos k }) precedes apart in omega (arith, ints, a))
        ]);
    over = λ j k place m i n written l slot reads writes before.
        (let o = facts.over j k place m i n written l slot (old_read j k place m slot reads) (old_write i n written l slot writes) before in
        let b = no_earlier i n writes.job.task in omega (arith, o, b));
  }
    where
      old_job : (i n : ℕ) → IsJob (constants_on plan placement h) i n → IsJob (constants_of plan h) i n
      old_job i n job = record { task = job.task; job = job.job }

      old_read : (i n place m slot : ℕ) → ReadsAt (constants_on plan placement h) i n place m slot → ReadsAt (constants_of plan h) i n place m slot
      old_read i n place m slot reads = record { job = old_job i n reads.job; action = reads.action }

      old_write : (i n place m slot : ℕ) → WritesAt (constants_on plan placement h) i n place m slot → WritesAt (constants_of plan h) i n place m slot
      old_write i n place m slot writes = record { job = old_job i n writes.job; action = writes.action }
