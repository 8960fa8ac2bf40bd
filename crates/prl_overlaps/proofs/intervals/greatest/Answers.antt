use Rattle.prl_base.proofs.Standard.{◌≡◌, ◌+◌, ◌-◌, ◌≤◌, ℕ, suc, inl, inr, ap, sym, ◌∙◌, arith, cases_lt}
use Rattle.prl_plan.specs.Vocabulary.{constants_of, RunConstants}
use Rattle.prl_overlaps.specs.Vocabulary.{demand, wcets_of}
use Rattle.prl_overlaps.proofs.Starts.{nothing_past, demand_falls, one_earlier}
use Rattle.prl_overlaps.proofs.intervals.greatest.Goals as goal

pub loop-back-init : goal.loop-back-init
loop-back-init c =
    let k : RunConstants = constants_of c.args.plan.now c.args.horizon in
    let cost : ℕ → ℕ → ℕ = wcets_of c.args.plan.now in
    record {
      asked = (let none = nothing_past k cost c.args.to c.plan_facts.ensures in
          let e : demand k cost (c.args.to + 1 - 0) c.args.to ≡ demand k cost (suc c.args.to) c.args.to = ap (λ (x : ℕ). demand k cost x c.args.to) (omega arith) in
          sym (e ∙ none));
      none = λ x past within. absurd (omega (arith, past, within));
    }

pub overflow_add-demand : goal.overflow_add-demand
overflow_add-demand c =
    let k : RunConstants = constants_of c.args.plan.now c.args.horizon in
    let cost : ℕ → ℕ → ℕ = wcets_of c.args.plan.now in
    let within : c.loop-back.back ≤ c.args.to = omega (arith, c.requires.length, c.loop-back-test.true) in
    let e = one_earlier k cost c.args.to c.loop-back.back c.loop-back.demand _ within c.loop-back.invariant.asked (c.requires.starts (c.args.to - c.loop-back.back) (omega arith)) in
    omega (arith, e, demand_falls k cost c.args.to (c.args.to - c.loop-back.back), c.requires.small)

pub returns-then-demand-back : goal.returns-then-demand-back
returns-then-demand-back c =
    let k : RunConstants = constants_of c.args.plan.now c.args.horizon in
    let cost : ℕ → ℕ → ℕ = wcets_of c.args.plan.now in
    let within : c.loop-back.back ≤ c.args.to = omega (arith, c.requires.length, c.loop-back-test.true) in
    record {
      asked_is = one_earlier k cost c.args.to c.loop-back.back c.loop-back.demand _ within c.loop-back.invariant.asked (c.requires.starts (c.args.to - c.loop-back.back) (omega arith));
      over = omega (arith, c.if-demand-back.true, within);
      before = omega arith;
      greatest = λ x later inside. c.loop-back.invariant.none x (omega (arith, later, within)) inside;
    }

pub loop-back-preserved : goal.loop-back-preserved
loop-back-preserved c =
    let k : RunConstants = constants_of c.args.plan.now c.args.horizon in
    let cost : ℕ → ℕ → ℕ = wcets_of c.args.plan.now in
    let within : c.loop-back.back ≤ c.args.to = omega (arith, c.requires.length, c.loop-back-test.true) in
    let is = one_earlier k cost c.args.to c.loop-back.back c.loop-back.demand _ within c.loop-back.invariant.asked (c.requires.starts (c.args.to - c.loop-back.back) (omega arith)) in
    record {
      asked = is ∙ ap (λ (x : ℕ). demand k cost x c.args.to) (omega (arith, within));
      none = λ x past inside. elim (cases_lt c.args.to (x + c.loop-back.back)) [
        | inl before ↦ c.loop-back.invariant.none x before inside
        | inr here ↦ (let e : c.args.to - c.loop-back.back ≡ x = omega (arith, here, past, within) in
            let d : demand k cost (c.args.to - c.loop-back.back) c.args.to ≡ demand k cost x c.args.to = ap (λ (y : ℕ). demand k cost y c.args.to) e in
            omega (arith, e, d, is, c.if-demand-back.false, within))
      ];
    }
