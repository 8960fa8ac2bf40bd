-- Jobs that are due and have not been seen to end.
use Rattle.prl_base.proofs.Standard.{◌≡◌, ℕ, List, ◌+◌, ◌<◌, ◌≤◌, get_or, set, length, inl, inr, arith, ap, cases_eq, cases_order, get_or-set_at, get_or-set_other}
use Rattle.prl_plan.specs.Vocabulary.{RunConstants, HasPlanFacts, IsJob}
use Rattle.prl_rule.specs.Known.{run_of}
use Rattle.prl_rule.specs.declared.views.ClockPart.{ClockPart}
use Rattle.prl_rule.specs.declared.views.Constants.{Constants}
use Rattle.prl_board.specs.ClockSeats.{AreDueBy, IsUnseen}

-- a later job of a task is not due earlier
pub deadlines_rise : (c : RunConstants) → HasPlanFacts c → (i m n : ℕ) → IsJob c i n → m ≤ n → c.deadline i m ≤ c.deadline i n
deadlines_rise c facts i m n job before =
    elim (cases_order m n) [
      | inl same ↦ (let e : c.deadline i m ≡ c.deadline i n = ap (c.deadline i) same in omega (arith, e))
      | inr apart ↦
          (elim apart [
            | inl earlier ↦ (let a = facts.apart i m n job earlier in let w = facts.window i n job in omega (arith, a, w))
            | inr later ↦ absurd (omega (arith, before, later))
          ])
    ]

-- where the first job that has not been seen to end is not due, none is
pub none_due : (k : Constants) → HasPlanFacts (run_of k) → (r : ClockPart) (i look : ℕ) → get_or r.looks i 0 ≡ look → r.now + 1 < (run_of k).deadline i look → (n : ℕ) → IsUnseen k r i n → ⊥
none_due k facts r i look same early n u =
    let seen = u.unseen in let due = u.due in
    let rise = deadlines_rise (run_of k) facts i look n u.job (omega (arith, seen, same)) in omega (arith, rise, due, early)

-- and where all have been seen to end
pub none_left : (k : Constants) (r : ClockPart) (i look : ℕ) → get_or r.looks i 0 ≡ look → (run_of k).jobs i ≤ look → (n : ℕ) → IsUnseen k r i n → ⊥
none_left k r i look same all n u =
    let seen = u.unseen in let job = u.job.job in omega (arith, seen, job, same, all)

-- after a look at task i, where what is known of the next deadline is given up if fewer jobs than before were found
pub still_due : (k : Constants) (looks : List ℕ) (i ended before due next : ℕ) → i < length looks → get_or looks i 0 ≡ before → AreDueBy k looks due → (next ≤ due) × (ended < before → next ≡ 0) →
    AreDueBy k (set looks i ended) next
still_due k looks i ended before due next inside is dues kept j n job seen =
    let less = kept.0 in
    elim (cases_eq j i) [
      | inl here ↦
          (let put = get_or-set_at looks i j ended 0 here inside in
          let at = ap (λ (x : ℕ). get_or looks x 0) here in
          elim (cases_order ended before) [
            | inl same ↦ (let d = dues j n job (omega (arith, seen, put, at, is, same)) in omega (arith, d, less))
            | inr apart ↦
                (elim apart [
                  | inl fewer ↦ (let z = kept.1 fewer in omega (arith, z))
                  | inr more ↦ (let d = dues j n job (omega (arith, seen, put, at, is, more)) in omega (arith, d, less))
                ])
          ])
      | inr other ↦
          (let put = get_or-set_other looks i j ended 0 other in
          let d = dues j n job (omega (arith, seen, put)) in omega (arith, d, less))
    ]
