-- Jobs end with their last action.
use Rattle.std.proofs.Common.{◌≡◌, ◌≢◌, ◌+◌, ◌<◌, ◌≤◌, ℕ, length, ◌∙◌, ap, arith}
use Rattle.prl_plan.specs.declared.events.Action.TheVariants as actions
use Rattle.prl_plan.specs.Vocabulary.{IsJob, RunConstants, action_at}
use Rattle.prl_edf.specs.Unrolled.{HaveOneEnd}

-- a job has an action, ends with its last one, and does not end before
pub record HasEnds (c : RunConstants) : Type 0 where
  pub some : (i n : ℕ) → IsJob c i n → 1 ≤ length (c.actions i n)
  pub end : (i n place : ℕ) → IsJob c i n → place + 1 ≡ length (c.actions i n) → action_at c i n place ≡ actions.End
  pub before : (i n place : ℕ) → IsJob c i n → place + 1 < length (c.actions i n) → action_at c i n place ≢ actions.End

pub has_ends : (c : RunConstants) → HaveOneEnd c → HasEnds c
has_ends c one = record {
  some = λ i n job. (let l = (one.last i n job).1 in omega (arith, l));
  end = λ i n place job at.
      (let last = one.last i n job in
      let same : place ≡ last.0 = omega (arith, last.1, at) in
      ap (λ (p : ℕ). action_at c i n p) same ∙ last.2);
  before = λ i n place job more is. (let e = one.only i n place job is in omega (arith, e, more));
}
