-- A run has one list of pieces that are as long as possible, and a plan one verdict.
use Rattle.prl_base.proofs.Standard.{◌≡◌, ◌≤◌, ℕ, List, [], ◌∷◌, Some, None, inl, inr, refl, sym, ap, ◌∙◌, arith, cases_lt}
use Rattle.prl_plan.specs.Vocabulary.{HasPlanFacts, RunConstants}
use Rattle.prl_edf.specs.Vocabulary.{Verdict, Piece, demand, run_of, AreLongest, IsVerdict}
use Rattle.prl_edf.specs.declared.analysis.Verdict.TheVariants as verdicts
use Rattle.prl_edf.proofs.FirstOverload.{one_first_overload}
use Rattle.prl_edf.proofs.Going.{none_is_some, some_is_some}
use Rattle.prl_edf.proofs.OneRun.{plain_is_one}
use Rattle.prl_edf.proofs.Skips.{run_in, run_out, none_before, none_between}

abbrev AreSame : List Piece → List Piece → Type 0
AreSame ps qs = (t : ℕ) → run_of ps t ≡ run_of qs t

-- a first piece goes to its job at its first tick, and no tick goes to one before
busy_first : (p : Piece) (ps : List Piece) → AreLongest (p ∷ ps) → run_of (p ∷ ps) p.from ≡ Some (p.task.0, p.job)
busy_first p ps longest = run_in p ps p.from (omega arith) longest.0

not_earlier : (p q : Piece) (ps qs : List Piece) → AreLongest (p ∷ ps) → AreLongest (q ∷ qs) → AreSame (p ∷ ps) (q ∷ qs) → q.from ≤ p.from
not_earlier p q ps qs first second same = elim (cases_lt p.from q.from) [
  | inr past ↦ past
  | inl early ↦ absurd (none_is_some (run_of (q ∷ qs) p.from) p.task.0 p.job (none_before q qs second p.from early) (sym (same p.from) ∙ busy_first p ps first))
]

-- the tick after a piece does not go to its job
ends_there : (p : Piece) (ps : List Piece) → AreLongest (p ∷ ps) → run_of (p ∷ ps) p.to ≡ Some (p.task.0, p.job) → ⊥
ends_there p [] longest is = none_is_some None p.task.0 p.job refl (sym (run_out p [] p.to (inr (omega arith))) ∙ is)
ends_there p (r ∷ ps) longest is =
    let there : run_of (r ∷ ps) p.to ≡ Some (p.task.0, p.job) = sym (run_out p (r ∷ ps) p.to (inr (omega arith))) ∙ is in
    elim longest.1 [
      | inl later ↦ none_is_some (run_of (r ∷ ps) p.to) p.task.0 p.job (none_before r ps longest.2 p.to later) there
      | inr meets ↦
          (let here : run_of (r ∷ ps) p.to ≡ Some (r.task.0, r.job) = ap (run_of (r ∷ ps)) meets.0 ∙ busy_first r ps longest.2 in
          let e = some_is_some (run_of (r ∷ ps) p.to) p.task.0 p.job r.task.0 r.job there here in
          meets.1 e.0 e.1)
    ]

not_shorter : (p q : Piece) (ps qs : List Piece) → AreLongest (p ∷ ps) → AreSame (p ∷ ps) (q ∷ qs) → p.from ≡ q.from → (p.task.0 ≡ q.task.0) × (p.job ≡ q.job) → q.to ≤ p.to
not_shorter p q ps qs longest same from job = elim (cases_lt p.to q.to) [
  | inr past ↦ past
  | inl early ↦ absurd
      (let there : run_of (q ∷ qs) p.to ≡ Some (q.task.0, q.job) = run_in q qs p.to (omega (arith, longest.0, from)) early in
      ends_there p ps longest (same p.to ∙ there ∙ ap (λ (i : ℕ). Some (i, q.job)) (sym job.0) ∙ ap (λ (n : ℕ). Some (p.task.0, n)) (sym job.1)))
]

same_piece : (p q : Piece) → p.task.0 ≡ q.task.0 → p.job ≡ q.job → p.from ≡ q.from → p.to ≡ q.to → p ≡ q
same_piece p q task job from to =
    ap (λ (i : ℕ). record { task = record { 0 = i }; job = p.job; from = p.from; to = p.to }) task
    ∙ ap (λ (n : ℕ). record { task = q.task; job = n; from = p.from; to = p.to }) job
    ∙ ap (λ (t : ℕ). record { task = q.task; job = q.job; from = t; to = p.to }) from
    ∙ ap (λ (t : ℕ). record { task = q.task; job = q.job; from = q.from; to = t }) to

pub one_list : (ps qs : List Piece) → AreLongest ps → AreLongest qs → AreSame ps qs → ps ≡ qs
one_list [] [] first second same = refl
one_list [] (q ∷ qs) first second same = absurd (none_is_some None q.task.0 q.job refl (same q.from ∙ busy_first q qs second))
one_list (p ∷ ps) [] first second same = absurd (none_is_some None p.task.0 p.job refl (sym (same p.from) ∙ busy_first p ps first))
one_list (p ∷ ps) (q ∷ qs) first second same =
    let up = not_earlier q p qs ps second first (λ t. sym (same t)) in
    let from : p.from ≡ q.from = omega (arith, not_earlier p q ps qs first second same, up) in
    let job = some_is_some (run_of (q ∷ qs) p.from) p.task.0 p.job q.task.0 q.job (sym (same p.from) ∙ busy_first p ps first) (ap (run_of (q ∷ qs)) from ∙ busy_first q qs second) in
    let shorter = not_shorter q p qs ps second (λ t. sym (same t)) (sym from) (sym job.0, sym job.1) in
    let to : p.to ≡ q.to = omega (arith, not_shorter p q ps qs first same from job, shorter) in
    let rest : AreSame ps qs = (λ t. elim (cases_lt t p.to) [
      | inl early ↦ none_between p ps first t early ∙ sym (none_between q qs second t (omega (arith, early, to)))
      | inr late ↦ sym (run_out p ps t (inr late)) ∙ same t ∙ run_out q qs t (inr (omega (arith, late, to)))
    ]) in
    ap (λ (x : Piece). x ∷ ps) (same_piece p q job.0 job.1 from to) ∙ ap (λ (l : List Piece). q ∷ l) (one_list ps qs first.2 second.2 rest)

pub one_verdict : (c : RunConstants) → HasPlanFacts c → (cost : ℕ → ℕ → ℕ) (v w : Verdict) → IsVerdict c cost v → IsVerdict c cost w → v ≡ w
one_verdict c facts cost (verdicts.Run timed) (verdicts.Run other) first second =
    ap (λ (l : List Piece). verdicts.Run (record { pieces = l })) (one_list timed.pieces other.pieces first.1.longest second.1.longest
    (plain_is_one c facts cost (run_of timed.pieces) (run_of other.pieces) first.1.plain second.1.plain))
one_verdict c facts cost (verdicts.Run timed) (verdicts.Overload from to asked) first second = absurd (first.0 from to second.0.overloaded)
one_verdict c facts cost (verdicts.Overload from to asked) (verdicts.Run timed) first second = absurd (second.0 from to first.0.overloaded)
one_verdict c facts cost (verdicts.Overload from to asked) (verdicts.Overload start end other) first second =
    let same = one_first_overload c cost from to start end first.0 second.0 in
    let wanted : asked ≡ other = first.1 ∙ ap (λ (a : ℕ). demand c cost a to) same.0 ∙ ap (demand c cost start) same.1 ∙ sym second.1 in
    ap (λ (a : ℕ). verdicts.Overload a to asked) same.0 ∙ ap (λ (b : ℕ). verdicts.Overload start b asked) same.1 ∙ ap (verdicts.Overload start end) wanted
