-- What stands before the read of a high half, and that actions of one kind are none of another.
use Rattle.std.proofs.Common.{◌≡◌, ℕ, ◌+◌, ◌-◌, sym, ap, ◌∙◌, subst, arith, Bool, true, false}
use Rattle.prl_base.specs.declared.numbers.EdgeNo.{EdgeNo}
use Rattle.prl_base.specs.declared.values.Value.{Value}
use Rattle.prl_plan.specs.Vocabulary.{low, high, IsHigh, low_of, RunConstants, action_at, HasPlanFacts, IsJob}
use Rattle.prl_plan.specs.declared.events.Action.{Action}
use Rattle.prl_plan.specs.declared.events.SlotNo.{SlotNo}
use Rattle.prl_plan.specs.declared.events.Action.TheVariants as actions

pub write_no_read : (e : EdgeNo) (m : ℕ) (h : SlotNo) (port : ℕ) (e' : EdgeNo) (m' : ℕ) (h' : SlotNo) → actions.Write e m h ≡ actions.Read port e' m' h' → ⊥
write_no_read e m h port e' m' h' is = cc

pub const_no_read : (port : ℕ) (value : Value) (port' : ℕ) (e : EdgeNo) (m : ℕ) (h : SlotNo) → actions.ReadConst port value ≡ actions.Read port' e m h → ⊥
const_no_read port value port' e m h is = cc

pub end_no_read : (port : ℕ) (e : EdgeNo) (m : ℕ) (h : SlotNo) → actions.End ≡ actions.Read port e m h → ⊥
end_no_read port e m h is = cc

-- the end of a job is none of the others
pub const_no_end : (port : ℕ) (value : Value) → actions.ReadConst port value ≡ actions.End → ⊥
const_no_end port value is = cc

pub read_no_end : (port : ℕ) (e : EdgeNo) (m : ℕ) (h : SlotNo) → actions.Read port e m h ≡ actions.End → ⊥
read_no_end port e m h is = cc

-- one read is of one instance, and of one half
pub same_read : (port : ℕ) (e : EdgeNo) (m h port' : ℕ) (e' : EdgeNo) (m' h' : ℕ) →
    actions.Read port e m (record { 0 = h }) ≡ actions.Read port' e' m' (record { 0 = h' }) → (m ≡ m') × (h ≡ h')
same_read port e m h port' e' m' h' is =
    let here : SlotNo = record { 0 = h } in
    let there : SlotNo = record { 0 = h' } in
    let same : here ≡ there = cc in
    (cc, ap (λ (x : SlotNo). x.0) same)

pub whole_read : (port : ℕ) (e : EdgeNo) (m h port' : ℕ) (e' : EdgeNo) (m' h' : ℕ) →
    actions.Read port e m (record { 0 = h }) ≡ actions.Read port' e' m' (record { 0 = h' }) → (e ≡ e') × (m ≡ m') × (h ≡ h')
whole_read port e m h port' e' m' h' is =
    let both = same_read port e m h port' e' m' h' is in (cc, both.0, both.1)

-- a part that cannot have raised has not
pub not_raised : (b : Bool) → (b ≡ true → ⊥) → b ≡ false
not_raised true never = absurd (never refl_true)
  where
    refl_true : true ≡ true
    refl_true = λ i. true
not_raised false never = λ i. false

module _ (c : RunConstants) (facts : HasPlanFacts c) (i n : ℕ) (job : IsJob c i n) where
  pub before_high : (place port : ℕ) (e : EdgeNo) (m cell : ℕ) → action_at c i n (place + 1) ≡ actions.Read port e m (record { 0 = high cell }) →
      action_at c i n place ≡ actions.Read port e m (record { 0 = low cell })
  before_high place port e m cell is =
      let pair = facts.paired i n (place + 1) job (subst (λ (a : Action). IsHigh a) (sym is) (cell, λ j. high cell)) in
      let same : place ≡ pair.0 = omega (arith, pair.1) in
      ap (λ (x : ℕ). action_at c i n x) same ∙ pair.2 ∙ ap (λ (a : Action). low_of a) is
      ∙ ap (λ (x : ℕ). actions.Read port e m (record { 0 = x })) (let z : high cell - 1 ≡ low cell = omega arith in z)

  -- no job begins with a high half
  pub no_high_first : (port : ℕ) (e : EdgeNo) (m cell : ℕ) → action_at c i n 0 ≡ actions.Read port e m (record { 0 = high cell }) → ⊥
  no_high_first port e m cell is =
      let pair = facts.paired i n 0 job (subst (λ (a : Action). IsHigh a) (sym is) (cell, λ j. high cell)) in
      let at : 0 ≡ pair.0 + 1 = pair.1 in omega (arith, at)

  pub write_no_high : (place : ℕ) (e : EdgeNo) (m : ℕ) (h : SlotNo) → action_at c i n place ≡ actions.Write e m h →
      (port : ℕ) (e' : EdgeNo) (m' cell : ℕ) → action_at c i n (place + 1) ≡ actions.Read port e' m' (record { 0 = high cell }) → ⊥
  write_no_high place e m h is port e' m' cell reads =
      write_no_read e m h port e' m' (record { 0 = low cell }) (sym is ∙ before_high place port e' m' cell reads)

  pub const_no_high : (place port : ℕ) (value : Value) → action_at c i n place ≡ actions.ReadConst port value →
      (port' : ℕ) (e : EdgeNo) (m cell : ℕ) → action_at c i n (place + 1) ≡ actions.Read port' e m (record { 0 = high cell }) → ⊥
  const_no_high place port value is port' e m cell reads =
      const_no_read port value port' e m (record { 0 = low cell }) (sym is ∙ before_high place port' e m cell reads)
