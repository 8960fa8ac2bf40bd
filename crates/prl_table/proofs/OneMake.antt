-- A plan has one made table or one fault of making.
use Rattle.prl_base.proofs.Standard.{◌≡◌, ◌≢◌, ◌+◌, ◌<◌, ◌≤◌, ℕ, List, Option, Some, None, refl, sym, ap, ◌∙◌, inl, inr, subst, arith, cases_order}
use Rattle.prl_base.specs.declared.limits.Limit.{Limit}
use Rattle.prl_base.specs.declared.numbers.TaskNo.{TaskNo}
use Rattle.prl_edf.specs.Vocabulary.{run_of, wcets_of, IsVerdict}
use Rattle.prl_edf.specs.declared.analysis.Verdict.{Verdict}
use Rattle.prl_edf.specs.declared.runs.Timed.{Timed}
use Rattle.prl_edf.specs.declared.analysis.Verdict.TheVariants as verdicts
use Rattle.prl_plan.specs.Vocabulary.{IsHorizon, constants_of, PlanView, IsPlan}
use Rattle.prl_plan.specs.declared.horizons.Horizon.{Horizon}
use Rattle.prl_overlaps.specs.declared.entries.Entry.{Entry}
use Rattle.prl_table.specs.Vocabulary.{MakeFault, run_until, IsFirstUnsteady, IsLongRun, IsMade, IsMakeFault, IsUnsteadyAt, job_in}
use Rattle.prl_table.specs.code.MakeLaws.{MakeLaws}
use Rattle.prl_table.specs.declared.making.MakeFault.TheVariants as faults

same_run : (s t : Timed) → verdicts.Run s ≡ verdicts.Run t → s ≡ t
same_run s t e = cc

run_apart : (s : Timed) (from to demand : ℕ) → verdicts.Run s ≡ verdicts.Overload from to demand → ⊥
run_apart s from to demand e = cc

same_overload : (a b c d e f : ℕ) → verdicts.Overload a b c ≡ verdicts.Overload d e f → faults.Overload a b c ≡ faults.Overload d e f
same_overload a b c d e f is = cc

-- a tick that is told is one tick
one_pair : (p q : ℕ × ℕ) → Some p ≡ Some q → p ≡ q
one_pair p q e = cc

none_some : (p : ℕ × ℕ) → None ≡ Some p → ⊥
none_some p e = cc

abbrev told_job : TaskNo → ℕ → Option (TaskNo × ℕ)
told_job task n = Some (task, n)

one_job : (a b : Option (TaskNo × ℕ)) → job_in a ≡ job_in b → a ≡ b
one_job None None e = refl
one_job None (Some job) e = absurd (none_some (job.0.0, job.1) e)
one_job (Some job) None e = absurd (none_some (job.0.0, job.1) (sym e))
one_job (Some job) (Some other) e =
    let same = one_pair (job.0.0, job.1) (other.0.0, other.1) e in
    let tasks : job.0 ≡ other.0 = ap (λ (p : ℕ × ℕ). record { 0 = p.0 }) same in
    ap (λ (t : TaskNo). told_job t job.1) tasks ∙ ap (λ (p : ℕ × ℕ). told_job other.0 p.1) same

two_unsteady : (a b : ℕ) (f s g t : Option (TaskNo × ℕ)) → a ≡ b → f ≡ g → s ≡ t → faults.Unsteady a f s ≡ faults.Unsteady b g t
two_unsteady a b f s g t e h k =
    ap (λ (x : ℕ). faults.Unsteady x f s) e ∙ ap (λ (x : Option (TaskNo × ℕ)). faults.Unsteady b x s) h ∙ ap (faults.Unsteady b g) k

one_tick : (plan : PlanView) (run : ℕ → Option (ℕ × ℕ)) (a b : ℕ) → IsUnsteadyAt plan run a → IsUnsteadyAt plan run b → a ≡ b
one_tick plan run a b h k = elim (cases_order a b) [
  | inl same ↦ same
  | inr apart ↦ elim apart [ inl less ↦ absurd (h.differ (k.before a h.from less)) | inr greater ↦ absurd (k.differ (h.before b k.from greater)) ]
]

one_unsteady : (plan : PlanView) (run : ℕ → Option (ℕ × ℕ)) (a b : ℕ) (f s g t : Option (TaskNo × ℕ)) → IsFirstUnsteady plan run a f s → IsFirstUnsteady plan run b g t
    → faults.Unsteady a f s ≡ faults.Unsteady b g t
one_unsteady plan run a b f s g t h k =
    let at = one_tick plan run a b h.tick k.tick in
    two_unsteady a b f s g t at (one_job f g (h.first_is ∙ ap run at ∙ sym k.first_is))
    (one_job s t (h.second_is ∙ ap (λ (x : ℕ). run (x + plan.graph.hyper)) at ∙ sym k.second_is))

too_far : (plan : PlanView) (tick : ℕ) → tick ≡ run_until plan → 2147483647 < tick → run_until plan ≤ 2147483647 → ⊥
too_far plan tick is far near = omega (arith, is, far, near)

module _ (law : MakeLaws) (plan : PlanView) (is_plan : IsPlan plan) where
  -- the run of a long horizon is its verdict
  verdict : (horizon : Horizon) (timed : Timed) → IsLongRun plan horizon timed → IsVerdict (constants_of plan horizon) (wcets_of plan) (verdicts.Run timed)
  verdict horizon timed h =
      ((λ a b over. law.overloaded (constants_of plan horizon) (wcets_of plan) (run_of timed.pieces) a b over h.run.plain.edf.timed h.run.met), h.run)

  -- a verdict of one long horizon is one of another
  moved : (a b : Horizon) (v : Verdict) → IsHorizon plan a → a.until ≡ run_until plan → IsHorizon plan b → b.until ≡ run_until plan
      → IsVerdict (constants_of plan a) (wcets_of plan) v → IsVerdict (constants_of plan b) (wcets_of plan) v
  moved a b v h i k j is = subst (λ (x : Horizon). IsVerdict (constants_of plan x) (wcets_of plan) v) (law.one_horizon plan (run_until plan) a b h k i j) is

  pub one_run : (a b : Horizon) (s t : Timed) → IsLongRun plan a s → IsLongRun plan b t → s ≡ t
  one_run a b s t h k =
      let there = moved b a (verdicts.Run t) k.is_horizon k.until h.is_horizon h.until (verdict b t k) in
      same_run s t (law.one_verdict (constants_of plan a) (law.facts plan a is_plan h.is_horizon) (wcets_of plan) (verdicts.Run s) (verdicts.Run t) (verdict a s h) there)

  run_or_overload : (a b : Horizon) (s : Timed) (from to demand : ℕ) → IsLongRun plan a s → IsHorizon plan b → b.until ≡ run_until plan
      → IsVerdict (constants_of plan b) (wcets_of plan) (verdicts.Overload from to demand) → ⊥
  run_or_overload a b s from to demand h k until is =
      let there = moved b a (verdicts.Overload from to demand) k until h.is_horizon h.until is in
      run_apart s from to demand
      (law.one_verdict (constants_of plan a) (law.facts plan a is_plan h.is_horizon) (wcets_of plan) (verdicts.Run s) (verdicts.Overload from to demand) (verdict a s h) there)

  -- a made table leaves no fault
  pub made_or_fault : (entries : List Entry) → IsMade plan entries → (fault : MakeFault) → fault ≢ faults.Memory → IsMakeFault plan fault → ⊥
  made_or_fault entries h (faults.TooFar tick) told k = too_far plan tick k.0 k.1 h.run.near
  made_or_fault entries h (faults.Limit limit) told k = law.not_both plan (run_until plan) h.within limit h.run.is_horizon h.run.until k.1
  made_or_fault entries h (faults.Overload from to demand) told k = run_or_overload h.within k.1 h.timed from to demand h.run k.2 k.3 k.4
  made_or_fault entries h (faults.Unsteady at first second) told k =
      let same = one_run k.0 h.within k.1 h.timed k.2 h.run in
      let tick = subst (λ (t : Timed). IsFirstUnsteady plan (run_of t.pieces) at first second) same k.3 in
      tick.tick.differ (h.steady at tick.tick.from tick.tick.to)
  made_or_fault entries h faults.Memory told k = told refl

  -- and there is one
  pub one_make_fault : (a b : MakeFault) → a ≢ faults.Memory → b ≢ faults.Memory → IsMakeFault plan a → IsMakeFault plan b → a ≡ b
  one_make_fault faults.Memory b told known h k = absurd (told refl)
  one_make_fault a faults.Memory told known h k = absurd (known refl)
  one_make_fault (faults.TooFar a) (faults.TooFar b) told known h k = ap faults.TooFar (h.0 ∙ sym k.0)
  one_make_fault (faults.TooFar a) (faults.Limit limit) told known h k = absurd (too_far plan a h.0 h.1 k.0)
  one_make_fault (faults.TooFar a) (faults.Overload from to demand) told known h k = absurd (too_far plan a h.0 h.1 k.0)
  one_make_fault (faults.TooFar a) (faults.Unsteady at first second) told known h k = absurd (too_far plan a h.0 h.1 k.2.near)
  one_make_fault (faults.Limit limit) (faults.TooFar b) told known h k = absurd (too_far plan b k.0 k.1 h.0)
  one_make_fault (faults.Limit limit) (faults.Limit other) told known h k = ap faults.Limit (law.one_limit plan (run_until plan) limit other h.1 k.1)
  one_make_fault (faults.Limit limit) (faults.Overload from to demand) told known h k = absurd (law.not_both plan (run_until plan) k.1 limit k.2 k.3 h.1)
  one_make_fault (faults.Limit limit) (faults.Unsteady at first second) told known h k =
      absurd (law.not_both plan (run_until plan) k.0 limit k.2.is_horizon k.2.until h.1)
  one_make_fault (faults.Overload from to demand) (faults.TooFar b) told known h k = absurd (too_far plan b k.0 k.1 h.0)
  one_make_fault (faults.Overload from to demand) (faults.Limit limit) told known h k = absurd (law.not_both plan (run_until plan) h.1 limit h.2 h.3 k.1)
  one_make_fault (faults.Overload from to demand) (faults.Overload start end asked) told known h k =
      let there = moved k.1 h.1 (verdicts.Overload start end asked) k.2 k.3 h.2 h.3 k.4 in
      same_overload from to demand start end asked
      (law.one_verdict (constants_of plan h.1) (law.facts plan h.1 is_plan h.2) (wcets_of plan) (verdicts.Overload from to demand) (verdicts.Overload start end asked) h.4 there)
  one_make_fault (faults.Overload from to demand) (faults.Unsteady at first second) told known h k = absurd (run_or_overload k.0 h.1 k.1 from to demand k.2 h.2 h.3 h.4)
  one_make_fault (faults.Unsteady at first second) (faults.TooFar b) told known h k = absurd (too_far plan b k.0 k.1 h.2.near)
  one_make_fault (faults.Unsteady at first second) (faults.Limit limit) told known h k =
      absurd (law.not_both plan (run_until plan) h.0 limit h.2.is_horizon h.2.until k.1)
  one_make_fault (faults.Unsteady at first second) (faults.Overload from to demand) told known h k = absurd (run_or_overload h.0 k.1 h.1 from to demand h.2 k.2 k.3 k.4)
  one_make_fault (faults.Unsteady at first second) (faults.Unsteady b f s) told known h k =
      let there = subst (λ (t : Timed). IsFirstUnsteady plan (run_of t.pieces) b f s) (one_run k.0 h.0 k.1 h.1 k.2 h.2) k.3 in
      one_unsteady plan (run_of h.1.pieces) at b first second f s h.3 there
