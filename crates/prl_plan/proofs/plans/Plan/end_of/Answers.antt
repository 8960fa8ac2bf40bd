use Rattle.prl_base.proofs.Standard.{rules, ◌≡◌, ◌+◌, ◌-◌, ◌<◌, ◌≤◌, ◌^◌, ◌⊎◌, ℕ, length, inl, inr, sym, ◌∙◌, ap, subst, arith, cases_lt}
use Rattle.prl_plan.specs.Vocabulary.{task_at, job_count, IsHorizonJob, PlanView, IsPlan, deadline_at}
use Rattle.prl_plan.proofs.Counts.{IsHorizonJob_count, job_count_horizon}
use Rattle.prl_plan.proofs.PlanFacts.{task_fact, room_at, apart_at}
use Rattle.prl_plan.proofs.PlanNumbers.{horizon_dates}
use Rattle.prl_plan.proofs.plans.Plan.end_of.Goals.{then-jobs-gt0+then-end-last, then-jobs-gt0+else-end-last, else-jobs-gt0}
use Rattle.prl_plan.proofs.plans.Plan.end_of.Goals as goal

-- what is kept over the first tasks
record Kept (plan : PlanView) (until i end : ℕ) : Type 0 where
  above : (j n : ℕ) → j < i → IsHorizonJob plan.graph until j n → deadline_at plan j n ≤ end
  attained : (end ≡ 0) ⊎ ((j : ℕ) × (n : ℕ) × IsHorizonJob plan.graph until j n × (end ≡ deadline_at plan j n))
  small : end < 2 ^ 33

module _ (plan : PlanView) (is : IsPlan plan) (until i jobs : ℕ) (early : until < 2 ^ 32) (inside : i < length plan.graph.tasks)
    (count : jobs ≡ job_count (task_at plan.graph i) until) where
  last_job : 0 < jobs → IsHorizonJob plan.graph until i (jobs - 1)
  last_job some = IsHorizonJob_count plan.graph until i (jobs - 1) inside (task_fact plan is i inside).period.0 (omega (arith, some, count))

  last_small : 0 < jobs → deadline_at plan i (jobs - 1) < 2 ^ 33
  last_small some = (horizon_dates plan is until i (jobs - 1) early (last_job some)).1

  below_last : (n : ℕ) → IsHorizonJob plan.graph until i n → (0 < jobs) × (deadline_at plan i n ≤ deadline_at plan i (jobs - 1))
  below_last n job =
      let small = job_count_horizon plan.graph until i n (task_fact plan is i inside).period.0 job in
      let some : 0 < jobs = omega (arith, small, count) in (
        some,
        elim (cases_lt n (jobs - 1)) [
          | inl less ↦ omega (arith, apart_at plan is i n (jobs - 1) inside less, room_at plan is i (jobs - 1) inside)
          | inr last ↦ (let e : n ≡ jobs - 1 = omega (arith, small, count, last) in omega (arith, ap (λ (k : ℕ). deadline_at plan i k) e))
        ],
      )

  -- the last job is due later than all before
  module _ (end : ℕ) (kept : Kept plan until i end) where
    later : (last next : ℕ) → 0 < jobs → last ≡ deadline_at plan i (jobs - 1) → end < last → next ≡ last → Kept plan until (i + 1) next
    later last next some at less same = record {
      above = λ j n below job. elim (cases_lt j i) [
        | inl before ↦ omega (arith, kept.above j n before job, less, same)
        | inr here ↦
            (let e : j ≡ i = omega (arith, below, here) in
            omega (arith, (below_last n (subst (λ (k : ℕ). IsHorizonJob plan.graph until k n) e job)).1, ap (λ (k : ℕ). deadline_at plan k n) e, at, same))
      ];
      attained = inr (i, jobs - 1, last_job some, same ∙ at);
      small = omega (arith, last_small some, at, same);
    }

    earlier : (last next : ℕ) → 0 < jobs → last ≡ deadline_at plan i (jobs - 1) → last ≤ end → next ≡ end → Kept plan until (i + 1) next
    earlier last next some at less same = record {
      above = λ j n below job. elim (cases_lt j i) [
        | inl before ↦ omega (arith, kept.above j n before job, same)
        | inr here ↦
            (let e : j ≡ i = omega (arith, below, here) in
            omega (arith, (below_last n (subst (λ (k : ℕ). IsHorizonJob plan.graph until k n) e job)).1, ap (λ (k : ℕ). deadline_at plan k n) e, at, less, same))
      ];
      attained = subst (λ (x : ℕ). (x ≡ 0) ⊎ ((j : ℕ) × (n : ℕ) × IsHorizonJob plan.graph until j n × (x ≡ deadline_at plan j n))) (sym same) kept.attained;
      small = omega (arith, kept.small, same);
    }

    without : (next : ℕ) → jobs ≤ 0 → next ≡ end → Kept plan until (i + 1) next
    without next none same = record {
      above = λ j n below job. elim (cases_lt j i) [
        | inl before ↦ omega (arith, kept.above j n before job, same)
        | inr here ↦
            absurd (let e : j ≡ i = omega (arith, below, here) in
            omega (arith, (below_last n (subst (λ (k : ℕ). IsHorizonJob plan.graph until k n) e job)).0, none))
      ];
      attained = subst (λ (x : ℕ). (x ≡ 0) ⊎ ((j : ℕ) × (n : ℕ) × IsHorizonJob plan.graph until j n × (x ≡ deadline_at plan j n))) (sym same) kept.attained;
      small = omega (arith, kept.small, same);
    }

pub deadline-last-requires-clause-small : goal.deadline-last-requires-clause-small
deadline-last-requires-clause-small c =
    let inside : c.loop-i.i < length c.args.self.now.graph.tasks = search rules in
    omega (arith, last_small c.args.self.now c.graph.ensures.plan c.args.until c.loop-i.i c.jobs_before-jobs.result c.requires inside c.jobs_before-jobs.ensures c.if-jobs-gt0.true)

pub loop-i-preserved : goal.loop-i-preserved
loop-i-preserved c =
    let inside : c.loop-i.i < length c.args.self.now.graph.tasks = search rules in
    let old = c.loop-i.invariant in
    let kept : Kept c.args.self.now c.args.until c.loop-i.i c.loop-i.end = record { above = old.above; attained = old.attained; small = old.small } in
    let next : Kept c.args.self.now c.args.until (c.loop-i.i + 1) c.if-jobs-gt0.end =
    elim c.if-jobs-gt0.branch [
      | then-jobs-gt0+then-end-last w ↦
          later c.args.self.now c.graph.ensures.plan c.args.until c.loop-i.i c.jobs_before-jobs.result c.requires inside c.jobs_before-jobs.ensures c.loop-i.end kept
          w.deadline-last.result c.if-jobs-gt0.end w.if-jobs-gt0.true w.deadline-last.ensures.at w.if-end-last.true w.end-is
      | then-jobs-gt0+else-end-last w ↦
          earlier c.args.self.now c.graph.ensures.plan c.args.until c.loop-i.i c.jobs_before-jobs.result c.requires inside c.jobs_before-jobs.ensures c.loop-i.end kept
          w.deadline-last.result c.if-jobs-gt0.end w.if-jobs-gt0.true w.deadline-last.ensures.at w.if-end-last.false w.end-is
      | else-jobs-gt0 w ↦
          without c.args.self.now c.graph.ensures.plan c.args.until c.loop-i.i c.jobs_before-jobs.result c.requires inside c.jobs_before-jobs.ensures c.loop-i.end kept
          c.if-jobs-gt0.end w.if-jobs-gt0.false w.end-is
    ] in
    record { above = next.above; attained = next.attained; small = next.small }
