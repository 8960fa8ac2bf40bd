use Rattle.std.proofs.Common.{ℕ, List, [], Option, Ok, IfOk, false, subst}
use Rattle.prl_stages.specs.Given.{Given}
use Rattle.prl_stages.specs.Vocabulary.{IsPlanOrNone}
use Rattle.prl_calls.proofs.plans.plan_of.Goals as goal

-- a program with the texts of five files
abbrev beside : List ℕ → Option (List ℕ) → List ℕ → List ℕ → List ℕ → List ℕ → List ℕ → Given
beside program node bodies sensors schedule table cores = record {
  program = Ok program;
  bodies = Ok bodies;
  sensors = Ok sensors;
  schedule = Ok schedule;
  table = Ok table;
  cores = Ok cores;
  listed = false;
  node = node;
  until = 0;
}

pub returns : goal.returns
returns c =
    let text = c.args.program.items in
    let node = c.args.node in
    let r = c.plan_for-plan.result in
    subst (λ (x : List ℕ). IfOk r (IsPlanOrNone (beside text node [] [] [] [] x))) c.new-5.ensures.items
    (subst (λ (x : List ℕ). IfOk r (IsPlanOrNone (beside text node [] [] [] x c.new-5.result.items))) c.new-4.ensures.items
    (subst (λ (x : List ℕ). IfOk r (IsPlanOrNone (beside text node [] [] x c.new-4.result.items c.new-5.result.items))) c.new-3.ensures.items
    (subst (λ (x : List ℕ). IfOk r (IsPlanOrNone (beside text node [] x c.new-3.result.items c.new-4.result.items c.new-5.result.items))) c.new-2.ensures.items
    (subst (λ (x : List ℕ). IfOk r (IsPlanOrNone (beside text node x c.new-2.result.items c.new-3.result.items c.new-4.result.items c.new-5.result.items)))
    c.new.ensures.items c.plan_for-plan.ensures))))
