-- A timed run by earliest deadlines that meets all windows is such a run as tables are cut from.
use Rattle.prl_base.proofs.Standard.{◌≡◌, ◌+◌, ◌-◌, ◌<◌, ◌≤◌, ℕ, suc, Bool, true, false, refl, ap, arith, cond, inl, inr, cases_lt}
use Rattle.prl_plan.specs.Vocabulary.{task_at, PlanView, deadline_at}
use Rattle.prl_table.specs.Made.{Run, units_in, IsRun, IsTimed, IsEdf}
use Rattle.prl_table.proofs.Units.{units_none, units_join}

module _ (plan : PlanView) (until : ℕ) (run : Run) (timed : IsTimed plan until run) (edf : IsEdf plan until run) where
  -- more ticks have no fewer units
  more : (s t i m : ℕ) → s ≤ t → units_in run 0 s i m ≤ units_in run 0 t i m
  more s t i m less =
      (let join = units_join run 0 s (t - s) i m in
      let e : t - s + s ≡ t = omega (arith, less) in
      let at = ap (λ (x : ℕ). units_in run 0 x i m) e in
      omega (arith, join, at))

  -- and one more where the next tick is the job's
  one_more : (t i m : ℕ) → run t i m ≡ true → units_in run 0 (suc t) i m ≡ units_in run 0 t i m + 1
  one_more t i m runs =
      (let e : 0 + t ≡ t = omega arith in
      let at = ap (λ (x : ℕ). run x i m) e in
      let b = ap {B = ℕ} (λ (x : Bool). cond x 1 0) at in
      let c = ap {B = ℕ} (λ (x : Bool). cond x 1 0) runs in
      let s : units_in run 0 (suc t) i m ≡ units_in run 0 t i m + cond (run (0 + t) i m) 1 0 = refl in
      omega (arith, b, c, s))

  not_true : (b : Bool) → (b ≡ true → Unit {0} → ⊥) → b ≡ false
  not_true true never = absurd (never refl tt)
  not_true false never = refl

  in_time : (t i m : ℕ) → run t i m ≡ true → t < deadline_at plan i m
  in_time t i m runs =
      elim (cases_lt t (deadline_at plan i m)) [
        | inl before ↦ before
        | inr past ↦ absurd
            (let job = timed.job t i m runs in
            let all = timed.all i m job in
            let up = more (deadline_at plan i m) t i m past in
            let next = one_more t i m runs in
            let most = timed.most i m (suc t) job in
            omega (arith, all, up, next, most))
      ]

  pub edf_is_run : IsRun plan until run
  edf_is_run = record {
    one = timed.one;
    job = timed.job;
    window = λ t i m runs. (timed.released t i m runs, in_time t i m runs);
    whole = λ i m from n job low high.
        (let none = units_none run 0 from i m (λ t t_low t_high runs. (let r = timed.released t i m runs in omega (arith, r, t_high, low))) in
        let join = units_join run 0 from n i m in
        let zero_from : 0 + from ≡ from = omega arith in
        let at = ap (λ (x : ℕ). units_in run x n i m) zero_from in
        let all = timed.all i m job in
        let up = more (deadline_at plan i m) (n + from) i m (omega (arith, high)) in
        let most = timed.most i m (n + from) job in
        omega (arith, none, join, at, all, up, most));
    first = λ t j k i n later runs job released due after.
        not_true (run later i n) (λ goes _.
        (elim (cases_lt (units_in run 0 t i n) (task_at plan.graph i).wcet) [
          | inl left ↦ (let d = edf t j k i n runs job released left in omega (arith, d, due))
          | inr used ↦
              (let up = more t later i n after in
              let next = one_more later i n goes in
              let most = timed.most i n (suc later) job in
              omega (arith, used, up, next, most))
        ]));
  }
