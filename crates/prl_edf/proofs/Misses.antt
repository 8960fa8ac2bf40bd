-- What a miss of the plain run shows in which each job has all that it costs.
use Rattle.std.proofs.Common.{◌≡◌, ◌<◌, ◌≤◌, ◌^◌, ℕ, Option, sym, subst, arith}
use Rattle.prl_plan.specs.Vocabulary.{IsJob, HasPlanFacts, IsHorizon, constants_of, PlanView, IsPlan, RunConstants}
use Rattle.prl_plan.specs.declared.horizons.Horizon.{Horizon}
use Rattle.prl_edf.specs.Vocabulary.{cost_within, demand, IsOverloaded, IsFirstOverload, AreUnits, IsPlainRun, IsFirstMiss, wcets_of, IsGreatest}
use Rattle.prl_overlaps.proofs.Starts.{tasks_bound, wcet_bounds, within_small}
use Rattle.prl_edf.proofs.Feasible.{missed_overloads}
use Rattle.prl_edf.proofs.FirstOverload.{begins_with_a_job, greatest_is_first}
use Rattle.prl_edf.proofs.SomeRun.{some_plain}

module _ (plan : PlanView) (horizon : Horizon) (is : IsPlan plan) (within : IsHorizon plan horizon) (facts : HasPlanFacts (constants_of plan horizon)) (task job : ℕ)
    (missed : (run : ℕ → Option (ℕ × ℕ)) → IsPlainRun (constants_of plan horizon) (wcets_of plan) run → IsFirstMiss (constants_of plan horizon) (wcets_of plan) run task job) where
  abbrev c : RunConstants
  c = constants_of plan horizon

  abbrev cost : ℕ → ℕ → ℕ
  cost = wcets_of plan

  some_run : (run : ℕ → Option (ℕ × ℕ)) × IsPlainRun c cost run
  some_run = some_plain c facts cost

  miss : IsFirstMiss c cost some_run.0 task job
  miss = missed some_run.0 some_run.1

  costs : AreUnits c cost cost
  costs i n at = ((wcet_bounds plan is i at.task).0, omega arith)

  pub missed_job : IsJob c task job
  missed_job = miss.job

  pub due_by_end : c.deadline task job ≤ c.end
  due_by_end = facts.within task job miss.job

  pub few_ticks : c.end ≤ 1000000
  few_ticks = (let e = within.events in let few = within.few_events in omega (arith, e, few))

  module _ (to : ℕ) (at : to ≡ c.deadline task job) where
    pub some_over : (a : ℕ) × (a ≤ to) × IsOverloaded c cost a to
    some_over =
        let over = missed_overloads c cost cost some_run.0 costs some_run.1.edf task job miss.job due_by_end miss.misses in
        let first = begins_with_a_job c cost over.0 to (subst (λ (b : ℕ). IsOverloaded c cost over.0 b) (sym at) over.1) in
        (c.release first.0 first.1, (let due = first.5 in let w = facts.window first.0 first.1 first.2 in omega (arith, due, w)), first.4)

    pub small_demand : demand c cost 0 to < 2 ^ 62
    small_demand =
        let most = tasks_bound c (cost_within c cost 0 to) 2147483648 c.tasks (λ i n inside _. within_small c cost to 2147483648 0 i n
        (let h = (wcet_bounds plan is i inside).1 in omega (arith, h))) in
        omega (arith, most, within.jobs, within.few_jobs)

    pub told : (from asked : ℕ) → IsGreatest c cost to from asked → IsFirstOverload c cost from to × (asked ≡ demand c cost from to)
    told from asked greatest = (greatest_is_first c cost to facts some_run.0 costs some_run.1.edf task job miss at from asked greatest, greatest.asked_is)
