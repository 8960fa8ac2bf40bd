use Rattle.prl_base.proofs.Standard.{◌≡◌, ℕ, List, Option, Some, sym, ◌∙◌, ap, subst, arith}
use Rattle.prl_base.specs.declared.numbers.TaskNo.{TaskNo}
use Rattle.prl_plan.specs.Horizons.{constants_of}
use Rattle.prl_plan.specs.Plans.{PlanView}
use Rattle.prl_overlaps.specs.Demand.{wcets_of}
use Rattle.prl_edf.specs.declared.analysis.Verdict.{Verdict}
use Rattle.prl_edf.specs.declared.analysis.Verdict.TheVariants as verdicts
use Rattle.prl_edf.specs.Verdicts.{IsVerdict}
use Rattle.prl_overlaps.specs.declared.entries.Entry.{Entry}
use Rattle.prl_tables.specs.Tables.{IsGood}
use Rattle.prl_table.specs.MakeFaults.{IsMakeFault}
use Rattle.prl_table.specs.declared.making.MakeFault.{MakeFault}
use Rattle.prl_table.specs.declared.making.MakeFault.TheVariants as making
use Rattle.prl_stages.specs.declared.faults.Fault.{Fault}
use Rattle.prl_stages.specs.declared.faults.Fault.TheVariants as faults
use Rattle.prl_stages.specs.declared.faults.MakeRefusal.{MakeRefusal}
use Rattle.prl_stages.specs.declared.faults.MakeRefusal.TheVariants as bad_making
use Rattle.prl_stages.specs.Tabled.{make_refusal}
use Rattle.prl_forever.specs.Forever.{ServesForEver}
use Rattle.prl_lasting.proofs.laws.texts_tell_for_ever.Goals as goal

pub returns-clause-table : goal.returns-clause-table
returns-clause-table c = λ g text is. (is.plan, is.made.has_plan, c.good_table_serves_for_ever.ensures.serves is.plan is.made.has_plan.is_plan is.entries is.good)

-- what is told for the faults of making that do not leave it open
abbrev Never : PlanView → Type 0
Never plan = (ServesForEver plan → ⊥) × ((entries : List Entry) → IsGood plan entries → ⊥)

abbrev AreFatal : PlanView → Type 0
AreFatal plan = ((from to demand : ℕ) → IsMakeFault plan (making.Overload from to demand) → Never plan)
    × ((at : ℕ) (first second : Option (TaskNo × ℕ)) → IsMakeFault plan (making.Unsteady at first second) → Never plan)

abbrev made_of : Fault → MakeRefusal → MakeRefusal
made_of (faults.Made refusal) other = refusal
made_of _ other = other

overload : (plan : PlanView) → AreFatal plan → (cause : MakeFault) → IsMakeFault plan cause → (from to demand : ℕ) →
    make_refusal cause ≡ Some (bad_making.Overload from to demand) → Never plan
overload plan fatal (making.TooFar tick) is from to demand e = cc
overload plan fatal (making.Limit limit) is from to demand e = cc
overload plan fatal (making.Overload a b d) is from to demand e = fatal.0 a b d is
overload plan fatal (making.Unsteady at first second) is from to demand e = cc
overload plan fatal making.Memory is from to demand e = cc

unsteady : (plan : PlanView) → AreFatal plan → (cause : MakeFault) → IsMakeFault plan cause → (at : ℕ) →
    make_refusal cause ≡ Some (bad_making.Unsteady at) → Never plan
unsteady plan fatal (making.TooFar tick) is at e = cc
unsteady plan fatal (making.Limit limit) is at e = cc
unsteady plan fatal (making.Overload a b d) is at e = cc
unsteady plan fatal (making.Unsteady tick first second) is at e = fatal.1 tick first second is
unsteady plan fatal making.Memory is at e = cc

pub returns-clause-overload : goal.returns-clause-overload
returns-clause-overload c = λ g from to demand r.
    (let same : bad_making.Overload from to demand ≡ r.4 = ap (λ (f : Fault). made_of f r.4) r.6 in
    let told = overload r.0 (
      (λ a b d fault. c.tables_tell_for_ever.ensures.overload r.0 r.1.is_plan a b d fault),
      (λ at first second fault. (let both = c.tables_tell_for_ever.ensures.unsteady r.0 r.1.is_plan at first second fault in
          ((λ serves. (let light = c.served_for_ever.ensures.only r.0 r.1.is_plan serves in let heavy = both.0 in omega (arith, light, heavy))), both.1))),
    )
    r.2 r.3 from to demand (r.5 ∙ ap (λ (x : MakeRefusal). Some x) (sym same)) in
    (r.0, r.1, told.0, told.1))

pub returns-clause-unsteady : goal.returns-clause-unsteady
returns-clause-unsteady c = λ g at r.
    (let same : bad_making.Unsteady at ≡ r.4 = ap (λ (f : Fault). made_of f r.4) r.6 in
    let told = unsteady r.0 (
      (λ a b d fault. c.tables_tell_for_ever.ensures.overload r.0 r.1.is_plan a b d fault),
      (λ at first second fault. (let both = c.tables_tell_for_ever.ensures.unsteady r.0 r.1.is_plan at first second fault in
          ((λ serves. (let light = c.served_for_ever.ensures.only r.0 r.1.is_plan serves in let heavy = both.0 in omega (arith, light, heavy))), both.1))),
    )
    r.2 r.3 at (r.5 ∙ ap (λ (x : MakeRefusal). Some x) (sym same)) in
    (r.0, r.1, told.0, told.1))

pub returns-clause-edf : goal.returns-clause-edf
returns-clause-edf c = λ g text is timed run light start started long.
    (let verdict : IsVerdict (constants_of is.plan is.horizon) (wcets_of is.plan) (verdicts.Run timed) =
    subst (λ (v : Verdict). IsVerdict (constants_of is.plan is.horizon) (wcets_of is.plan) v) run is.is_verdict in
    c.served_for_ever.ensures.enough is.plan is.has_horizon.has_plan.is_plan light start started is.horizon
    (let e = is.has_horizon.until in omega (arith, e, long)) verdict.0)
