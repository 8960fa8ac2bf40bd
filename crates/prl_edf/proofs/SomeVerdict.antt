-- The jobs of each horizon have a verdict.
use Rattle.prl_base.proofs.Standard.{◌≡◌, ◌+◌, ◌*◌, ◌<◌, ◌⊎◌, ◌++◌, ℕ, zero, suc, List, [], ◌∷◌, Option, Some, None, inl, inr, refl, sym, ap, subst, ◌∙◌, arith, fun_ext, cases_eq, cases_lt}
use Rattle.prl_plan.specs.Runs.{RunConstants}
use Rattle.prl_edf.specs.Vocabulary.{Verdict, Piece, demand, IsFirstOverload, IsOverloaded, IsPlainRun, MissesWindow, MeetsAllWindows, IsFirstMiss, run_of, AreLongest, units_before, IsVerdict}
use Rattle.prl_edf.specs.Vocabulary.{IsExtended, EndBy}
use Rattle.prl_edf.specs.declared.analysis.Verdict.TheVariants as verdicts
use Rattle.prl_edf.proofs.Best.{none_or_least}
use Rattle.prl_edf.proofs.PieceLists.{IsGiven, end_later, given_longer, given_more, none_after, one_more}
use Rattle.prl_edf.proofs.SomeRun.{earliest_of, lowest_of}

-- all windows are met, or there is a first miss
module _ (c : RunConstants) (units : ℕ → ℕ → ℕ) (run : ℕ → Option (ℕ × ℕ)) where
  misses_or_not : (i n : ℕ) → MissesWindow c units run i n ⊎ (MissesWindow c units run i n → ⊥)
  misses_or_not i n = elim (cases_lt (units_before run (c.deadline i n) i n) (units i n)) [
    | inl misses ↦ inl misses
    | inr met ↦ inr (λ misses. omega (arith, met, misses))
  ]

  met_or_missed : MeetsAllWindows c units run ⊎ ((i : ℕ) × (n : ℕ) × IsFirstMiss c units run i n)
  met_or_missed = elim (none_or_least c (MissesWindow c units run) (λ i n. c.deadline i n * c.tasks + i) misses_or_not) [
    | inl none ↦ inl (λ i n job. elim (cases_lt (units_before run (c.deadline i n) i n) (units i n)) [
      | inl misses ↦ absurd (none i n (job, misses))
      | inr met ↦ met
    ])
    | inr best ↦ inr (
      best.0,
      best.1,
      record {
        job = best.2.is.0;
        misses = best.2.is.1;
        earliest = λ j k job misses. earliest_of (c.deadline best.0 best.1) (c.deadline j k) best.0 j c.tasks best.2.is.0.task job.task (best.2.least j k (job, misses));
        lowest = λ j k job misses same. lowest_of (c.deadline best.0 best.1) (c.deadline j k) best.0 j c.tasks same (best.2.least j k (job, misses));
      },
    )
  ]

-- a list is empty, or has a last element
last_or_none : (xs : List Piece) → (xs ≡ []) ⊎ ((front : List Piece) × (last : Piece) × (xs ≡ front ++ last ∷ []))
last_or_none [] = inl refl
last_or_none (x ∷ xs) = elim (last_or_none xs) [
  | inl none ↦ inr ([], x, ap (λ (ys : List Piece). x ∷ ys) none)
  | inr some ↦ inr (x ∷ some.0, some.1, ap (λ (ys : List Piece). x ∷ ys) some.2)
]

-- the pieces with one more of one tick
some_given : (old : List Piece) (q : Piece) → AreLongest old → EndBy old q.from → q.from < q.to → (new : List Piece) × IsGiven old new q
some_given old q longest ended some = elim (last_or_none old) [
  | inl none ↦ (
    q ∷ [],
    record {
      run = subst (λ (xs : List Piece). IsExtended (run_of xs) (run_of (q ∷ [])) q) (sym none) (one_more [] q some tt);
      longest = (some, tt, tt);
      after = (omega arith, tt);
    },
  )
  | inr end ↦
      (let p : Piece = end.1 in
      let more : (p.to ≡ q.from → p.task.0 ≡ q.task.0 → p.job ≡ q.job → ⊥) → (new : List Piece) × IsGiven old new q =
      λ other. ((end.0 ++ p ∷ []) ++ q ∷ [], given_more old ((end.0 ++ p ∷ []) ++ q ∷ []) end.0 p q end.2 longest ended some (end.0 ++ p ∷ []) refl refl other) in
      elim (cases_eq p.to q.from) [
        | inr apart ↦ more (λ at _ _. apart at)
        | inl at ↦ elim (cases_eq p.task.0 q.task.0) [
          | inr apart ↦ more (λ _ task _. apart task)
          | inl task ↦ elim (cases_eq p.job q.job) [
            | inr apart ↦ more (λ _ _ job. apart job)
            | inl job ↦ (
              end.0 ++ record p { to = q.to } ∷ [],
              given_longer old (end.0 ++ record p { to = q.to } ∷ []) end.0 p q end.2 longest ended some refl (at, task, job),
            )
          ]
        ]
      ])
]

-- the pieces of the ticks before t
record HasPieces (run : ℕ → Option (ℕ × ℕ)) (t : ℕ) : Type 0 where
  pieces : List Piece
  longest : AreLongest pieces
  ended : EndBy pieces t
  same : (x : ℕ) → x < t → run_of pieces x ≡ run x

some_pieces : (run : ℕ → Option (ℕ × ℕ)) (t : ℕ) → HasPieces run t
some_pieces run zero = record { pieces = []; longest = tt; ended = tt; same = λ x below. absurd (omega (arith, below)) }
some_pieces run (suc t) = more t (some_pieces run t) (run t) refl
  where
    more : (t : ℕ) → HasPieces run t → (here : Option (ℕ × ℕ)) → run t ≡ here → HasPieces run (suc t)
    more t before None at = record {
      pieces = before.pieces;
      longest = before.longest;
      ended = end_later before.pieces t (suc t) (omega arith) before.ended;
      same = λ x below. elim (cases_lt x t) [
        | inl early ↦ before.same x early
        | inr late ↦
            (let e : t ≡ x = omega (arith, late, below) in
            subst (λ (y : ℕ). run_of before.pieces y ≡ run y) e (none_after before.pieces t before.ended ∙ sym at))
      ];
    }
    more t before (Some (i, n)) at =
        let q : Piece = record { task = record { 0 = i }; job = n; from = t; to = suc t } in
        let given = some_given before.pieces q before.longest before.ended (omega arith) in
        record {
          pieces = given.0;
          longest = given.1.longest;
          ended = given.1.after;
          same = λ x below. elim (cases_lt x t) [
            | inl early ↦ given.1.run.before x early ∙ before.same x early
            | inr late ↦
                (let e : t ≡ x = omega (arith, late, below) in
                subst (λ (y : ℕ). run_of given.0 y ≡ run y) e (given.1.run.here t (omega arith) (omega arith) ∙ sym at))
          ];
        }

-- what the laws of one processor say
pub record Laws (c : RunConstants) (cost : ℕ → ℕ → ℕ) : Type 0 where
  pub some : (run : ℕ → Option (ℕ × ℕ)) × IsPlainRun c cost run
  pub first : (run : ℕ → Option (ℕ × ℕ)) → IsPlainRun c cost run → (i n : ℕ) → IsFirstMiss c cost run i n → (from : ℕ) × IsFirstOverload c cost from (c.deadline i n)
  pub fits : (run : ℕ → Option (ℕ × ℕ)) → IsPlainRun c cost run → MeetsAllWindows c cost run → (a b : ℕ) → IsOverloaded c cost a b → ⊥

pub some_verdict : (c : RunConstants) (cost : ℕ → ℕ → ℕ) → Laws c cost → (verdict : Verdict) × IsVerdict c cost verdict
some_verdict c cost laws =
    let plain : IsPlainRun c cost laws.some.0 = laws.some.1 in
    elim (met_or_missed c cost laws.some.0) [
      | inr missed ↦
          (let over = laws.first laws.some.0 laws.some.1 missed.0 missed.1 missed.2 in
          (verdicts.Overload over.0 (c.deadline missed.0 missed.1) (demand c cost over.0 (c.deadline missed.0 missed.1)), (over.1, refl)))
      | inl met ↦
          (let made = some_pieces laws.some.0 c.end in
          let same : laws.some.0 ≡ run_of made.pieces =
          fun_ext (λ t. elim (cases_lt t c.end) [
            | inl early ↦ sym (made.same t early)
            | inr late ↦ laws.some.1.edf.timed.ends t late ∙ sym (none_after made.pieces t (end_later made.pieces c.end t late made.ended))
          ]) in (
            verdicts.Run (record { pieces = made.pieces }),
            (
              laws.fits laws.some.0 laws.some.1 met,
              record {
                longest = made.longest;
                plain = subst (λ (r : ℕ → Option (ℕ × ℕ)). IsPlainRun c cost r) same laws.some.1;
                met = subst (λ (r : ℕ → Option (ℕ × ℕ)). MeetsAllWindows c cost r) same met;
              },
            ),
          ))
    ]
