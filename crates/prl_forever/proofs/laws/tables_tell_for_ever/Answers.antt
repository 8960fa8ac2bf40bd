use Rattle.prl_base.proofs.Standard.{◌≡◌, ◌≢◌, ◌≤◌, inl, inr, refl, arith, cases_lt}
use Rattle.prl_plan.specs.Vocabulary.{IsHorizon, PlanView, IsPlan}
use Rattle.prl_plan.specs.declared.horizons.Horizon.{Horizon}
use Rattle.prl_edf.specs.Pieces.{run_of}
use Rattle.prl_table.specs.Made.{run_until}
use Rattle.prl_table.specs.MakeFaults.{IsLongRun, IsMakeFault}
use Rattle.prl_table.specs.declared.making.MakeFault.{MakeFault}
use Rattle.prl_table.specs.declared.making.MakeFault.TheVariants as faults
use Rattle.prl_forever.specs.Forever.{load_of, ServesForEver}
use Rattle.prl_forever.proofs.laws.tables_tell_for_ever.Goals as goal

pub returns-clause-made : goal.returns-clause-made
returns-clause-made c = λ plan is entries made.
    c.good_table_serves_for_ever.ensures.serves plan is entries
    (c.made_table_is_good.ensures plan made.within is made.run.until (run_of made.timed.pieces) made.run.run.plain.edf made.run.run.met made.steady entries made.cut)

pub returns-clause-overload : goal.returns-clause-overload
returns-clause-overload c = λ plan is from to demand fault. (
  λ serves. serves fault.1 from to fault.4.0.overloaded,
  λ entries good. c.good_table_serves_for_ever.ensures.serves plan is entries good fault.1 from to fault.4.0.overloaded,
)

pub returns-clause-unsteady : goal.returns-clause-unsteady
returns-clause-unsteady c = λ plan is at first second fault. elim (cases_lt plan.graph.hyper (load_of plan)) [
  | inl heavy ↦ (heavy, λ entries good. (let light = c.good_table_serves_for_ever.ensures.load plan is entries good in omega (arith, light, heavy)))
  | inr light ↦ absurd
      (let long : IsLongRun plan fault.0 fault.1 = fault.2 in
      let tick = fault.3.tick in
      tick.differ (c.light_runs_are_steady.ensures plan is light fault.0 long.is_horizon long.until (run_of fault.1.pieces) long.run.plain long.run.met at tick.from tick.to))
]

pub returns-clause-some : goal.returns-clause-some
returns-clause-some c = λ plan is serves near h of far. elim (c.makes_or_faults_exist.ensures plan is) [
  | inl made ↦ made
  | inr fault ↦ absurd (go plan is serves near h of far fault.0 fault.1 fault.2)
]
  where
    go : (plan : PlanView) → IsPlan plan → ServesForEver plan → run_until plan ≤ 2147483647 → (h : Horizon) → IsHorizon plan h → h.until ≡ run_until plan →
        (fault : MakeFault) → fault ≢ faults.Memory → IsMakeFault plan fault → ⊥
    go plan is serves near h of far (faults.TooFar tick) some fault = (let e = fault.0 in let past = fault.1 in omega (arith, e, past, near))
    go plan is serves near h of far (faults.Limit limit) some fault = c.horizons_end_one_way.ensures.not_both plan (run_until plan) h limit of far fault.1
    go plan is serves near h of far (faults.Overload from to demand) some fault = serves fault.1 from to fault.4.0.overloaded
    go plan is serves near h of far (faults.Unsteady at first second) some fault =
        let long : IsLongRun plan fault.0 fault.1 = fault.2 in
        let tick = fault.3.tick in
        tick.differ (c.light_runs_are_steady.ensures plan is (c.served_for_ever.ensures.only plan is serves) fault.0 long.is_horizon long.until (run_of fault.1.pieces) long.run.plain long.run.met at tick.from tick.to)
    go plan is serves near h of far faults.Memory some fault = some refl
