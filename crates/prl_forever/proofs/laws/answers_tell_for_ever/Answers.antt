use Rattle.prl_base.proofs.Standard.{◌≡◌, ◌≢◌, ◌+◌, ◌*◌, ◌<◌, ◌≤◌, ◌^◌, ◌⊎◌, ℕ, length, inl, inr, refl, arith, cases_lt}
use Rattle.prl_base.specs.declared.limits.Limit.{Limit}
use Rattle.prl_plan.specs.Vocabulary.{constants_of, IsHorizon, PlanView, IsPlan}
use Rattle.prl_plan.specs.declared.horizons.Horizon.{Horizon}
use Rattle.prl_plan.proofs.RoundPeriods.{task_is}
use Rattle.prl_overlaps.specs.Demand.{wcets_of}
use Rattle.prl_edf.specs.declared.analysis.Verdict.{Verdict}
use Rattle.prl_edf.specs.declared.analysis.Verdict.TheVariants as verdicts
use Rattle.prl_edf.specs.Verdicts.{IsVerdict}
use Rattle.prl_forever.specs.Answers.{IsAnswer, IsAnswerFault}
use Rattle.prl_forever.specs.declared.deciding.ForEver.{ForEver}
use Rattle.prl_forever.specs.declared.deciding.ForEver.TheVariants as answers
use Rattle.prl_forever.specs.declared.deciding.ForEverFault.{ForEverFault}
use Rattle.prl_forever.specs.declared.deciding.ForEverFault.TheVariants as no_answers
use Rattle.prl_forever.specs.Forever.{load_of, IsLatestStart, ServesForEver}
use Rattle.prl_forever.proofs.Loads.{latest_to}
use Rattle.prl_forever.proofs.laws.answers_tell_for_ever.Goals as goal

pub returns-clause-no : goal.returns-clause-no
returns-clause-no c = go
  where
    go : (plan : PlanView) → IsPlan plan → (answer : ForEver) → IsAnswer plan answer → answer ≢ answers.Served → ServesForEver plan → ⊥
    go plan is answers.Served found other serves = other refl
    go plan is (answers.Heavy load) found other serves = (let e = found.0 in let heavy = found.1 in let light = c.served_for_ever.ensures.only plan is serves in omega (arith, e, heavy, light))
    go plan is (answers.Overload from to demand) found other serves = serves found.3 from to found.6.0.overloaded

pub returns-clause-some : goal.returns-clause-some
returns-clause-some c = go
  where
    go : (plan : PlanView) → IsPlan plan → ((answer : ForEver) × IsAnswer plan answer) ⊎ ((fault : ForEverFault) × (fault ≢ no_answers.Memory) × IsAnswerFault plan fault)
    go plan is =
        elim (cases_lt plan.graph.hyper (load_of plan)) [
          | inl heavy ↦ inl (answers.Heavy (load_of plan), (refl, heavy))
          | inr light ↦
              (let to = latest_to plan (length plan.graph.tasks) in
              let latest : IsLatestStart plan to.0 = record { by = to.1.by; attained = to.1.attained } in
              let few = is.graph.few_ticks in
              let small : to.0 + 2 * plan.graph.hyper < 2 ^ 32 = elim to.1.attained [
                | inl none ↦ omega (arith, none, few)
                | inr some ↦ (let e = some.2 in let s = (task_is plan.graph is.graph some.0 some.1).start in omega (arith, e, s, few))
              ] in
              elim (c.horizons_end_one_way.ensures.end plan is (to.0 + 2 * plan.graph.hyper) small) [
                | inr past ↦ inr (no_answers.Limit past.0, (λ e. no_limit past.0 e), (light, to.0, latest, past.1))
                | inl has ↦ inl
                    (let verdict = c.verdicts_exist.ensures (constants_of plan has.0) (c.plans_keep_facts.ensures plan has.0 is has.1) (wcets_of plan)
                    (λ i n job. (let w = (task_is plan.graph is.graph i job.task).wcet.0 in (w, omega arith))) in
                    told plan is light to.0 latest has.0 has.1 has.2 verdict.0 verdict.1)
              ])
        ]
      where
        no_limit : (limit : Limit) → no_answers.Limit limit ≡ no_answers.Memory → ⊥
        no_limit limit e = cc

        told : (plan : PlanView) → IsPlan plan → load_of plan ≤ plan.graph.hyper → (start : ℕ) → IsLatestStart plan start → (horizon : Horizon) → IsHorizon plan horizon →
            horizon.until ≡ start + 2 * plan.graph.hyper → (verdict : Verdict) → IsVerdict (constants_of plan horizon) (wcets_of plan) verdict → (answer : ForEver) × IsAnswer plan answer
        told plan is light start latest horizon of until (verdicts.Run timed) found =
            (answers.Served, c.served_for_ever.ensures.enough plan is light start latest.by horizon (omega (arith, until)) found.0)
        told plan is light start latest horizon of until (verdicts.Overload from to demand) found =
            (answers.Overload from to demand, (light, start, latest, horizon, of, until, found))
