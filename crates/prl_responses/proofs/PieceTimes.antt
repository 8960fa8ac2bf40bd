-- How soon the jobs of a task end in a run, piece by piece.
use Rattle.prl_base.proofs.Standard.{Bool, true, false, ◌≡◌, ◌≢◌, ◌+◌, ◌-◌, ◌<◌, ◌≤◌, ◌⊎◌, inl, inr, List, ℕ, zero, suc, length, set, slice_get, slice_get_within, get_or-set_same, get_or-set_other, length-set, replicate, length-replicate, refl, sym, ◌∙◌, ap, subst, arith, Option, Some, None, cases_eq, cases_lt, nat_lt, if◌then◌else◌, ltb-true, ltb-false, same_Some}
use Rattle.prl_edf.specs.declared.pieces.Piece.{Piece}
use Rattle.prl_edf.specs.Vocabulary.{AreLongest, run_of}
use Rattle.prl_plan.specs.declared.graphs.TaskGraph.{TaskGraph}
use Rattle.prl_ages.specs.Ages.{released, due_by}
use Rattle.prl_responses.specs.Responses.{IsTimesOf, times_at}
use Rattle.prl_responses.specs.code.PieceTimes.{slower, tighter, with_job, AreAllTimes, FitsOwn, IsPieceOf, IsTimesOver}
use Rattle.prl_responses.specs.declared.responses.Times.{Times}
use Rattle.prl_responses.proofs.Pieces.{last_goes, tick_of}

-- what slower and tighter give
record IsSlower (times : Times) (response job : ℕ) (new : Times) : Type 0 where
  above : response ≤ new.response
  rises : times.response ≤ new.response
  one : ((new.response ≡ response) × (new.slowest ≡ job)) ⊎ ((new.response ≡ times.response) × (new.slowest ≡ times.slowest))
  slack : new.slack ≡ times.slack
  tightest : new.tightest ≡ times.tightest

is_slower : (times : Times) (response job : ℕ) → IsSlower times response job (slower times response job)
is_slower times response job = go (nat_lt times.response response) refl
  where
    go : (b : Bool) → nat_lt times.response response ≡ b → IsSlower times response job (if b then record times { response = response; slowest = job } else times)
    go true e = (let h = ltb-true times.response response e in record { above = omega arith; rises = omega (arith, h); one = inl (refl, refl); slack = refl; tightest = refl })
    go false e = (let h = ltb-false times.response response e in record { above = h; rises = omega arith; one = inr (refl, refl); slack = refl; tightest = refl })

record IsTighter (times : Times) (slack job : ℕ) (new : Times) : Type 0 where
  below : new.slack ≤ slack
  falls : new.slack ≤ times.slack
  one : ((new.slack ≡ slack) × (new.tightest ≡ job)) ⊎ ((new.slack ≡ times.slack) × (new.tightest ≡ times.tightest))
  response : new.response ≡ times.response
  slowest : new.slowest ≡ times.slowest

is_tighter : (times : Times) (slack job : ℕ) → IsTighter times slack job (tighter times slack job)
is_tighter times slack job = go (nat_lt slack times.slack) refl
  where
    go : (b : Bool) → nat_lt slack times.slack ≡ b → IsTighter times slack job (if b then record times { slack = slack; tightest = job } else times)
    go true e = (let h = ltb-true slack times.slack e in record { below = omega arith; falls = omega (arith, h); one = inl (refl, refl); response = refl; slowest = refl })
    go false e = (let h = ltb-false slack times.slack e in record { below = h; falls = omega arith; one = inr (refl, refl); response = refl; slowest = refl })

module _ (graph : TaskGraph) (pieces : List Piece) (k : ℕ) (piece : Piece) (at : slice_get pieces k ≡ Some piece) where
  -- of the pieces so far and this one
  older_or_here : (i : ℕ) (p : Piece) → IsPieceOf pieces (k + 1) i p → IsPieceOf pieces k i p ⊎ (piece ≡ p)
  older_or_here i p is = go (cases_lt is.number k)
    where
      go : (is.number < k) ⊎ (k ≤ is.number) → IsPieceOf pieces k i p ⊎ (piece ≡ p)
      go (inl less) = inl (record { number = is.number; below = less; at = is.at; task = is.task })
      go (inr more) =
          let same : is.number ≡ k = omega (arith, more, is.below) in
          inr (same_Some piece p (sym at ∙ ap (λ (x : ℕ). slice_get pieces x) (sym same) ∙ is.at))

  one_more : (i : ℕ) (p : Piece) → IsPieceOf pieces k i p → IsPieceOf pieces (k + 1) i p
  one_more i p is = record { number = is.number; below = omega (arith, is.below); at = is.at; task = is.task }

  here : (i : ℕ) → piece.task.0 ≡ i → IsPieceOf pieces (k + 1) i piece
  here i task = record { number = k; below = omega arith; at = at; task = task }

  -- a piece of another task changes nothing
  other_task : (i : ℕ) (times : Option Times) → i ≢ piece.task.0 → IsTimesOver graph pieces k i times → IsTimesOver graph pieces (k + 1) i times
  other_task i None other is = λ p of. go p of (older_or_here i p of)
    where
      go : (p : Piece) → IsPieceOf pieces (k + 1) i p → IsPieceOf pieces k i p ⊎ (piece ≡ p) → ⊥
      go p of (inl old) = is p old
      go p of (inr now) = other (sym (ap (λ (x : Piece). x.task.0) now ∙ of.task))
  other_task i (Some times) other is = record {
    response = λ p of. up p of (older_or_here i p of);
    slowest = (is.slowest.0, one_more i is.slowest.0 is.slowest.1, is.slowest.2, is.slowest.3);
    slack = λ p of. down p of (older_or_here i p of);
    tightest = (is.tightest.0, one_more i is.tightest.0 is.tightest.1, is.tightest.2, is.tightest.3);
  }
    where
      up : (p : Piece) → IsPieceOf pieces (k + 1) i p → IsPieceOf pieces k i p ⊎ (piece ≡ p) → p.to ≤ released graph i p.job + times.response
      up p of (inl old) = is.response p old
      up p of (inr now) = absurd (other (sym (ap (λ (x : Piece). x.task.0) now ∙ of.task)))

      down : (p : Piece) → IsPieceOf pieces (k + 1) i p → IsPieceOf pieces k i p ⊎ (piece ≡ p) → p.to + times.slack ≤ due_by graph i p.job
      down p of (inl old) = is.slack p old
      down p of (inr now) = absurd (other (sym (ap (λ (x : Piece). x.task.0) now ∙ of.task)))

  module _ (fits : FitsOwn graph piece) where
    -- how late it ends, and how early
    abbrev late : ℕ
    late = piece.to - released graph piece.task.0 piece.job

    abbrev early : ℕ
    early = due_by graph piece.task.0 piece.job - piece.to

    late_is : piece.to ≡ released graph piece.task.0 piece.job + late
    late_is = omega (arith, fits.begins)

    early_is : piece.to + early ≡ due_by graph piece.task.0 piece.job
    early_is = omega (arith, fits.ends)

    pub own_task : (times : Option Times) → IsTimesOver graph pieces k piece.task.0 times →
        IsTimesOver graph pieces (k + 1) piece.task.0 (with_job times (piece.to - released graph piece.task.0 piece.job) (due_by graph piece.task.0 piece.job - piece.to) piece.job)
    own_task None is = record {
      response = λ p of. up p (older_or_here piece.task.0 p of);
      slowest = (piece, here piece.task.0 refl, refl, late_is);
      slack = λ p of. down p (older_or_here piece.task.0 p of);
      tightest = (piece, here piece.task.0 refl, refl, early_is);
    }
      where
        up : (p : Piece) → IsPieceOf pieces k piece.task.0 p ⊎ (piece ≡ p) → p.to ≤ released graph piece.task.0 p.job + (piece.to - released graph piece.task.0 piece.job)
        up p (inl old) = absurd (is p old)
        up p (inr now) = subst (λ (x : Piece). x.to ≤ released graph piece.task.0 x.job + (piece.to - released graph piece.task.0 piece.job)) now (omega arith)

        down : (p : Piece) → IsPieceOf pieces k piece.task.0 p ⊎ (piece ≡ p) → p.to + (due_by graph piece.task.0 piece.job - piece.to) ≤ due_by graph piece.task.0 p.job
        down p (inl old) = absurd (is p old)
        down p (inr now) = subst (λ (x : Piece). x.to + (due_by graph piece.task.0 piece.job - piece.to) ≤ due_by graph piece.task.0 x.job) now (omega (arith, fits.ends))
    own_task (Some times) is = record {
      response = λ p of. up p (older_or_here piece.task.0 p of);
      slowest = slowest_now slow.one;
      slack = λ p of. down p (older_or_here piece.task.0 p of);
      tightest = tightest_now tight.one;
    }
      where
        slow : IsSlower times late piece.job (slower times late piece.job)
        slow = is_slower times late piece.job

        tight : IsTighter (slower times late piece.job) early piece.job (tighter (slower times late piece.job) early piece.job)
        tight = is_tighter (slower times late piece.job) early piece.job

        up : (p : Piece) → IsPieceOf pieces k piece.task.0 p ⊎ (piece ≡ p) → p.to ≤ released graph piece.task.0 p.job + (tighter (slower times late piece.job) early piece.job).response
        up p (inl old) = omega (arith, is.response p old, slow.rises, tight.response)
        up p (inr now) =
            subst (λ (x : Piece). x.to ≤ released graph piece.task.0 x.job + (tighter (slower times late piece.job) early piece.job).response) now
            (omega (arith, late_is, slow.above, tight.response))

        down : (p : Piece) → IsPieceOf pieces k piece.task.0 p ⊎ (piece ≡ p) → p.to + (tighter (slower times late piece.job) early piece.job).slack ≤ due_by graph piece.task.0 p.job
        down p (inl old) = omega (arith, is.slack p old, tight.falls, slow.slack)
        down p (inr now) =
            subst (λ (x : Piece). x.to + (tighter (slower times late piece.job) early piece.job).slack ≤ due_by graph piece.task.0 x.job) now
            (omega (arith, early_is, tight.below))

        slowest_now : (((slower times late piece.job).response ≡ late) × ((slower times late piece.job).slowest ≡ piece.job)) ⊎
            (((slower times late piece.job).response ≡ times.response) × ((slower times late piece.job).slowest ≡ times.slowest)) →
            (p : Piece) × IsPieceOf pieces (k + 1) piece.task.0 p × (p.job ≡ (tighter (slower times late piece.job) early piece.job).slowest)
            × (p.to ≡ released graph piece.task.0 (tighter (slower times late piece.job) early piece.job).slowest + (tighter (slower times late piece.job) early piece.job).response)
        slowest_now (inl now) =
            let job : piece.job ≡ (tighter (slower times late piece.job) early piece.job).slowest = sym (tight.slowest ∙ now.1) in (
              piece,
              here piece.task.0 refl,
              job,
              omega (arith, late_is, now.0, tight.response, ap (λ (x : ℕ). released graph piece.task.0 x) job),
            )
        slowest_now (inr old) =
            let job : times.slowest ≡ (tighter (slower times late piece.job) early piece.job).slowest = sym (tight.slowest ∙ old.1) in (
              is.slowest.0,
              one_more piece.task.0 is.slowest.0 is.slowest.1,
              is.slowest.2 ∙ job,
              omega (arith, is.slowest.3, old.0, tight.response, ap (λ (x : ℕ). released graph piece.task.0 x) job),
            )

        tightest_now : (((tighter (slower times late piece.job) early piece.job).slack ≡ early) × ((tighter (slower times late piece.job) early piece.job).tightest ≡ piece.job)) ⊎
            (((tighter (slower times late piece.job) early piece.job).slack ≡ (slower times late piece.job).slack) × ((tighter (slower times late piece.job) early piece.job).tightest ≡ (slower times late piece.job).tightest)) →
            (p : Piece) × IsPieceOf pieces (k + 1) piece.task.0 p × (p.job ≡ (tighter (slower times late piece.job) early piece.job).tightest)
            × (p.to + (tighter (slower times late piece.job) early piece.job).slack ≡ due_by graph piece.task.0 (tighter (slower times late piece.job) early piece.job).tightest)
        tightest_now (inl now) = (
          piece,
          here piece.task.0 refl,
          sym now.1,
          omega (arith, early_is, now.0, ap (λ (x : ℕ). due_by graph piece.task.0 x) now.1),
        )
        tightest_now (inr old) =
            let job : times.tightest ≡ (tighter (slower times late piece.job) early piece.job).tightest = sym (old.1 ∙ slow.tightest) in (
              is.tightest.0,
              one_more piece.task.0 is.tightest.0 is.tightest.1,
              is.tightest.2 ∙ job,
              omega (arith, is.tightest.3, old.0, slow.slack, ap (λ (x : ℕ). due_by graph piece.task.0 x) job),
            )

    -- task by task
    pub all_more : (list : List (Option Times)) → AreAllTimes graph pieces k list → AreAllTimes graph pieces (k + 1)
        (set list piece.task.0 (with_job (times_at list piece.task.0) (piece.to - released graph piece.task.0 piece.job) (due_by graph piece.task.0 piece.job - piece.to) piece.job))
    all_more list are = record {
      long = length-set list piece.task.0 new ∙ are.long;
      each = λ i inside. each_now i inside (cases_eq i piece.task.0);
    }
      where
        new : Option Times
        new = with_job (times_at list piece.task.0) (piece.to - released graph piece.task.0 piece.job) (due_by graph piece.task.0 piece.job - piece.to) piece.job

        each_now : (i : ℕ) → i < length graph.tasks → (i ≡ piece.task.0) ⊎ (i ≢ piece.task.0) → IsTimesOver graph pieces (k + 1) i (times_at (set list piece.task.0
            (with_job (times_at list piece.task.0) (piece.to - released graph piece.task.0 piece.job) (due_by graph piece.task.0 piece.job - piece.to) piece.job)) i)
        each_now i inside (inl same) =
            let value = get_or-set_same list piece.task.0 (with_job (times_at list piece.task.0) (piece.to - released graph piece.task.0 piece.job) (due_by graph piece.task.0 piece.job - piece.to) piece.job) None
            (omega (arith, are.long, fits.task)) in
            subst (λ (x : ℕ). IsTimesOver graph pieces (k + 1) x (times_at (set list piece.task.0
            (with_job (times_at list piece.task.0) (piece.to - released graph piece.task.0 piece.job) (due_by graph piece.task.0 piece.job - piece.to) piece.job)) x)) (sym same)
            (subst (λ (x : Option Times). IsTimesOver graph pieces (k + 1) piece.task.0 x) (sym value) (own_task (times_at list piece.task.0) (are.each piece.task.0 fits.task)))
        each_now i inside (inr other) =
            subst (λ (x : Option Times). IsTimesOver graph pieces (k + 1) i x)
            (sym (get_or-set_other list piece.task.0 i (with_job (times_at list piece.task.0) (piece.to - released graph piece.task.0 piece.job) (due_by graph piece.task.0 piece.job - piece.to) piece.job) None other))
            (other_task i (times_at list i) other (are.each i inside))

-- the times to begin with
abbrev pub no_times : ℕ → List (Option Times)
no_times tasks = replicate tasks None

none_at : (n i : ℕ) → times_at (no_times n) i ≡ None
none_at zero i = refl
none_at (suc n) zero = refl
none_at (suc n) (suc i) = none_at n i

pub none_over : (graph : TaskGraph) (pieces : List Piece) → AreAllTimes graph pieces 0 (no_times (length graph.tasks))
none_over graph pieces = record {
  long = length-replicate (length graph.tasks) None;
  each = λ i inside. subst (λ (x : Option Times). IsTimesOver graph pieces 0 i x) (sym (none_at (length graph.tasks) i)) (λ p of. absurd (omega (arith, of.below)));
}

-- the times over all pieces are those of the run
module _ (graph : TaskGraph) (pieces : List Piece) (longest : AreLongest pieces) where
  piece_at : (i n t : ℕ) → run_of pieces t ≡ Some (i, n) → (p : Piece) × IsPieceOf pieces (length pieces) i p × (p.job ≡ n) × (t + 1 ≤ p.to)
  piece_at i n t goes =
      let tick = tick_of pieces t i n goes in (
        tick.piece,
        record { number = tick.number; below = slice_get_within pieces tick.number tick.piece tick.at; at = tick.at; task = tick.task },
        tick.job,
        omega (arith, tick.below),
      )

  goes_to : (i : ℕ) (p : Piece) (job : ℕ) → IsPieceOf pieces (length pieces) i p → p.job ≡ job → (p.to - 1 + 1 ≡ p.to) × (run_of pieces (p.to - 1) ≡ Some (i, job))
  goes_to i p job of same =
      let last = last_goes pieces longest of.number p of.at in
      (omega (arith, last.0), last.1 ∙ ap (λ (x : ℕ). Some (x, p.job)) of.task ∙ ap (λ (x : ℕ). Some (i, x)) same)

  pub over_all : (i : ℕ) (times : Option Times) → IsTimesOver graph pieces (length pieces) i times → IsTimesOf graph (run_of pieces) i times
  over_all i None is = λ n t goes. (let p = piece_at i n t goes in is p.0 p.1)
  over_all i (Some times) is = record {
    response = λ n t last. (let p = piece_at i n t last.goes in omega (arith, p.3, is.response p.0 p.1, ap (λ (x : ℕ). released graph i x) p.2));
    slowest = (
      is.slowest.0.to - 1,
      record {
        goes = slow.1;
        last = λ u goes. (let p = piece_at i times.slowest u goes in omega (arith, p.3, is.response p.0 p.1, ap (λ (x : ℕ). released graph i x) p.2, is.slowest.3));
      },
      omega (arith, slow.0, is.slowest.3),
    );
    slack = λ n t last. (let p = piece_at i n t last.goes in omega (arith, p.3, is.slack p.0 p.1, ap (λ (x : ℕ). due_by graph i x) p.2));
    tightest = (
      is.tightest.0.to - 1,
      record {
        goes = tight.1;
        last = λ u goes. (let p = piece_at i times.tightest u goes in omega (arith, p.3, is.slack p.0 p.1, ap (λ (x : ℕ). due_by graph i x) p.2, is.tightest.3));
      },
      omega (arith, tight.0, is.tightest.3),
    );
  }
    where
      slow : (is.slowest.0.to - 1 + 1 ≡ is.slowest.0.to) × (run_of pieces (is.slowest.0.to - 1) ≡ Some (i, times.slowest))
      slow = goes_to i is.slowest.0 times.slowest is.slowest.1 is.slowest.2

      tight : (is.tightest.0.to - 1 + 1 ≡ is.tightest.0.to) × (run_of pieces (is.tightest.0.to - 1) ≡ Some (i, times.tightest))
      tight = goes_to i is.tightest.0 times.tightest is.tightest.1 is.tightest.2
