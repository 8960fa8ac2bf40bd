-- The machine before the first event.
use Rattle.prl_base.proofs.Standard.{◌≡◌, ◌*◌, ℕ, zero, suc, List, length, replicate, get_or, refl, sym, subst, arith, sum}
use Rattle.prl_base.specs.declared.values.Value.{Value}
use Rattle.prl_body.specs.declared.bodies.CheckedBody.{CheckedBody}
use Rattle.prl_flow.specs.Rows.{Rows}
use Rattle.prl_plan.specs.Vocabulary.{HasPlanFacts, IsHorizon, Placement, constants_on, PlanView, IsPlan}
use Rattle.prl_plan.specs.declared.horizons.Horizon.{Horizon}
use Rattle.prl_plan.proofs.StateLaws.{opening_is_sound}
use Rattle.prl_values.specs.Fitting.{HaveTaskBodies, HaveTypedRows}
use Rattle.prl_values.specs.Workers.{IsWorker}
use Rattle.prl_values.specs.declared.workers.Worker.{Worker}
use Rattle.prl_values.proofs.Working.{new_worker}
use Rattle.prl_core.specs.Vocabulary.{opened_on, values_of, AreNewWorkers, IsKept}

zeros : (n j : ℕ) → ◌≡◌ {A = ℕ} (get_or (replicate n 0) j 0) 0
zeros zero zero = refl
zeros zero (suc j) = refl
zeros (suc n) zero = refl
zeros (suc n) (suc j) = zeros n j

pub opened_kept : (plan : PlanView) (placement : Placement) (bodies : List CheckedBody) (rows : Rows) (horizon : Horizon) → IsPlan plan → HasPlanFacts (constants_on plan placement horizon) →
    IsHorizon plan horizon → HaveTaskBodies plan.graph bodies → HaveTypedRows plan.graph horizon.until rows → (halves : List Value) (workers : List Worker) →
    length halves ≡ 2 * sum plan.counts → AreNewWorkers plan bodies horizon.until workers → IsKept (opened_on plan placement bodies rows horizon) halves workers
opened_kept plan placement bodies rows horizon is_plan facts is have_bodies have_rows halves workers long new = record {
  plan = is_plan;
  horizon = is;
  facts = facts;
  bodies = have_bodies;
  rows = have_rows;
  sound = opening_is_sound (constants_on plan placement horizon) facts;
  cells = record {
    slots = long;
    stored = λ i n place m slot writes holds. absurd (let z = zeros (constants_on plan placement horizon).slots slot in omega (arith, z, holds));
  };
  tasks = record {
    tasks = new.tasks;
    each = λ i worker at.
        subst (λ (k : ℕ). IsWorker plan bodies horizon.until (values_of (opened_on plan placement bodies rows horizon)) i k (get_or (replicate (constants_on plan placement horizon).tasks 0) i 0) worker)
        (sym (zeros (constants_on plan placement horizon).tasks i))
        (subst (λ (k : ℕ). IsWorker plan bodies horizon.until (values_of (opened_on plan placement bodies rows horizon)) i 0 k worker) (sym (zeros (constants_on plan placement horizon).tasks i))
        (new_worker plan bodies horizon.until (values_of (opened_on plan placement bodies rows horizon)) i worker (new.each i worker at)));
  };
}
