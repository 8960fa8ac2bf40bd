-- Plain runs are one.
use Rattle.prl_base.proofs.Standard.{◌≡◌, ◌<◌, ◌≤◌, ℕ, zero, suc, Option, Some, inl, inr, sym, ap, subst, ◌∙◌, arith, cases_lt}
use Rattle.prl_plan.specs.Vocabulary.{IsJob, HasPlanFacts, RunConstants}
use Rattle.prl_edf.specs.Vocabulary.{IsPlainRun, IsPlainTo}
use Rattle.prl_edf.proofs.Going.{same_units, ready_same}
use Rattle.prl_edf.proofs.Units.{some_or_none}

module _ (c : RunConstants) (facts : HasPlanFacts c) (units : ℕ → ℕ → ℕ) where
  -- two ready jobs of one task have different deadlines
  one_job : (i m n : ℕ) → IsJob c i m → IsJob c i n → c.deadline i m ≡ c.deadline i n → m ≡ n
  one_job i m n first second tie = elim (cases_lt m n) [
    | inl less ↦ absurd (let a = facts.apart i m n second less in let w = facts.window i n second in omega (arith, a, w, tie))
    | inr past ↦ elim (cases_lt n m) [
      | inl more ↦ absurd (let a = facts.apart i n m first more in let w = facts.window i m first in omega (arith, a, w, tie))
      | inr same ↦ omega (arith, past, same)
    ]
  ]

  -- a plain run agrees with one that is plain up to now, in each tick before now
  module _ (run other : ℕ → Option (ℕ × ℕ)) (now : ℕ) (within : now ≤ c.end) (plain : IsPlainTo c units run now) (whole : IsPlainRun c units other) where
    one_tick : (t : ℕ) → t < now → ((s : ℕ) → s < t → other s ≡ run s) → other t ≡ run t
    one_tick t early same =
        let units_same = same_units run other t same in
        elim (some_or_none (run t)) [
          | inl none ↦ elim (some_or_none (other t)) [
            | inl none_too ↦ none_too ∙ sym none
            | inr some ↦ absurd (plain.busy t some.0 some.1 early none (ready_same c facts units run other t units_same some.0 some.1 (whole.edf.timed.ready t some.0 some.1 some.2)))
          ]
          | inr some ↦
              (let mine = plain.ready t some.0 some.1 early some.2 in
              let there = ready_same c facts units other run t (λ j k. sym (units_same j k)) some.0 some.1 mine in
              elim (some_or_none (other t)) [
                | inl none ↦ absurd (whole.edf.busy t some.0 some.1 (omega (arith, early, within)) none there)
                | inr its ↦
                    (let theirs = whole.edf.timed.ready t its.0 its.1 its.2 in
                    let here = ready_same c facts units run other t units_same its.0 its.1 theirs in
                    let down = whole.edf.earliest t its.0 its.1 some.0 some.1 its.2 there in
                    let tie : c.deadline some.0 some.1 ≡ c.deadline its.0 its.1 = omega (arith, plain.earliest t some.0 some.1 its.0 its.1 early some.2 here, down) in
                    let task : its.0 ≡ some.0 = omega (arith, plain.lowest t some.0 some.1 its.0 its.1 early some.2 here tie, whole.lowest t its.0 its.1 some.0 some.1 its.2 there (sym tie)) in
                    let its_job = subst (λ (x : ℕ). IsJob c x its.1) task theirs.job in
                    let number : its.1 ≡ some.1 = one_job some.0 its.1 some.1 its_job mine.job (ap (λ (x : ℕ). c.deadline x its.1) (sym task) ∙ sym tie) in
                    its.2 ∙ ap (λ (x : ℕ). Some (x, its.1)) task ∙ ap (λ (x : ℕ). Some (some.0, x)) number ∙ sym some.2)
              ])
        ]

    up_to : (t : ℕ) → t ≤ now → (s : ℕ) → s < t → other s ≡ run s
    up_to zero h s less = absurd (omega (arith, less))
    up_to (suc t) h s less = elim (cases_lt s t) [
      | inl before ↦ up_to t (omega (arith, h)) s before
      | inr here ↦ (let e : t ≡ s = omega (arith, here, less) in subst (λ (x : ℕ). other x ≡ run x) e (one_tick t h (λ x early. up_to t (omega (arith, h)) x early)))
    ]

    pub plain_agrees : (t : ℕ) → t < now → other t ≡ run t
    plain_agrees t early = up_to now (omega arith) t early

  pub plain_is_one : (run other : ℕ → Option (ℕ × ℕ)) → IsPlainRun c units run → IsPlainRun c units other → (t : ℕ) → run t ≡ other t
  plain_is_one run other whole too t = elim (cases_lt t c.end) [
    | inr late ↦ whole.edf.timed.ends t late ∙ sym (too.edf.timed.ends t late)
    | inl early ↦ sym (plain_agrees run other c.end (omega arith)
        (record {
          ready = λ t i n _ is. whole.edf.timed.ready t i n is;
          earliest = λ t i n j k _ is ready. whole.edf.earliest t i n j k is ready;
          lowest = λ t i n j k _ is ready tie. whole.lowest t i n j k is ready tie;
          busy = λ t j k early is ready. whole.edf.busy t j k early is ready;
          rest = whole.edf.timed.ends;
        }) too t early)
  ]
