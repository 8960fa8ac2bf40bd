-- The spans of a run by earliest deadline first.
use Rattle.prl_base.proofs.Standard.{◌≡◌, ◌<◌, ◌≤◌, ℕ, Option, Some, sym, ◌∙◌, subst, inl, inr, arith, cases_lt}
use Rattle.prl_plan.specs.Vocabulary.{RunConstants, Provides, HasPlanFacts}
use Rattle.prl_edf.specs.TimedRuns.{IsReady}
use Rattle.prl_edf.specs.EdfRuns.{IsEdfRun}
use Rattle.prl_edf.specs.MetWindows.{MeetsAllWindows}
use Rattle.prl_tables.specs.Unrolled.{Placing}
use Rattle.prl_spans.specs.RunSpans.{AreSpansIn}
use Rattle.prl_spans.specs.Spans.{AreSpans}
use Rattle.prl_spans.proofs.Ticks.{rise}

module _ (c : RunConstants) (facts : HasPlanFacts c) (units : ℕ → ℕ → ℕ) (run : ℕ → Option (ℕ × ℕ)) (edf : IsEdfRun c units run) (met : MeetsAllWindows c units run) where
  -- a tick that goes to a job lies in its window
  in_window : (t i n : ℕ) → run t ≡ Some (i, n) → (c.release i n ≤ t) × (t < c.deadline i n)
  in_window t i n goes =
      let ready = edf.timed.ready t i n goes in (
        ready.released,
        elim (cases_lt t (c.deadline i n)) [
          | inl before ↦ before
          | inr past ↦ absurd (let more = rise run i n (c.deadline i n) t past in omega (arith, more, met i n ready.job, ready.left))
        ],
      )

  -- a job that is released and due before another one has no tick from the other's first tick on
  earlier : (t u i n j k : ℕ) → run t ≡ Some (i, n) → run u ≡ Some (j, k) → c.release i n < c.release j k → c.deadline i n < c.deadline j k → t < u
  earlier t u i n j k one other released due = elim (cases_lt t u) [
    | inl before ↦ before
    | inr from ↦ absurd
        (let ready = edf.timed.ready t i n one in
        let late = edf.timed.ready u j k other in
        let more = rise run i n u t from in
        let is : IsReady c units run u i n = record {
          job = ready.job;
          released = (let r = late.released in omega (arith, released, r));
          left = (let l = ready.left in omega (arith, l, more));
        } in
        let first = edf.earliest u j k i n other is in
        omega (arith, first, due))
  ]

  pub spans_are : (begin end : Placing) → AreSpansIn c run begin end → AreSpans c begin end
  spans_are begin end spans = record {
    some = λ i n job.
        (let span = spans i n job in let b = span.before span.last.0 span.last.1 in let e = span.last.2 in omega (arith, b, e));
    released = λ i n job. (in_window (begin i n) i n (spans i n job).first).0;
    due = λ i n job.
        (let span = spans i n job in let d = (in_window span.last.0 i n span.last.1).1 in let e = span.last.2 in omega (arith, d, e));
    after = λ j k place m cell i n written reads writes.
        (let before = facts.provided j k place m cell reads in
        let provides : Provides c m cell j k before.0 before.1 before.2 = before.3 in
        let task : before.0 ≡ i = facts.writer before.0 before.1 before.2 m i n written m cell provides.writes writes in
        let number : before.1 ≡ n = sym (facts.own before.0 before.1 before.2 m cell provides.writes) ∙ facts.own i n written m cell writes in
        let release : c.release i n < c.release j k =
        subst (λ (x : ℕ). c.release x n < c.release j k) task (subst (λ (x : ℕ). c.release before.0 x < c.release j k) number provides.release) in
        let deadline : c.deadline i n < c.deadline j k =
        subst (λ (x : ℕ). c.deadline x n < c.deadline j k) task (subst (λ (x : ℕ). c.deadline before.0 x < c.deadline j k) number provides.deadline) in
        let one = spans i n writes.job in
        let other = spans j k reads.job in
        let past = earlier one.last.0 (begin j k) i n j k one.last.1 other.first release deadline in
        let e = one.last.2 in
        omega (arith, past, e));
  }
