-- There is a plain run.
use Rattle.prl_base.proofs.Standard.{◌≡◌, ◌+◌, ◌*◌, ◌<◌, ◌≤◌, ◌⊎◌, ◌==◌, ℕ, zero, suc, Option, Some, None, true, false, cond, inl, inr, refl, sym, ap, subst, ◌∙◌, arith, mul-le-mul_right, cases_lt}
use Rattle.prl_base.proofs.Standard.{nat_tests}
use Rattle.prl_plan.specs.Vocabulary.{IsJob, HasPlanFacts, RunConstants}
use Rattle.prl_edf.specs.Vocabulary.{units_before, IsReady, IsPlainRun, IsPlainTo}
use Rattle.prl_edf.proofs.Best.{none_or_least}
use Rattle.prl_edf.proofs.Going.{same_units, ready_same, none_is_some, some_is_some}

-- the run with another tick
put : (ℕ → Option (ℕ × ℕ)) → ℕ → Option (ℕ × ℕ) → ℕ → Option (ℕ × ℕ)
put run t o k = cond (k == t) o (run k)

put_here : (run : ℕ → Option (ℕ × ℕ)) (t : ℕ) (o : Option (ℕ × ℕ)) (k : ℕ) → k ≡ t → put run t o k ≡ o
unfolding put
put_here run t o k same = (let e : (k == t) ≡ true = grind (arith, nat_tests) in ap (λ b. cond b o (run k)) e)

put_other : (run : ℕ → Option (ℕ × ℕ)) (t : ℕ) (o : Option (ℕ × ℕ)) (k : ℕ) → (k ≡ t → ⊥) → put run t o k ≡ run k
unfolding put
put_other run t o k other = (let e : (k == t) ≡ false = grind (arith, nat_tests) in ap (λ b. cond b o (run k)) e)

-- the least of these numbers has the earliest deadline, and of those the lowest task
pub earliest_of : (d e i j tasks : ℕ) → i < tasks → j < tasks → d * tasks + i ≤ e * tasks + j → d ≤ e
earliest_of d e i j tasks first second le = elim (cases_lt e d) [
  | inr past ↦ past
  | inl less ↦ absurd (let up : (e + 1) * tasks ≤ d * tasks = mul-le-mul_right tasks (let h : e + 1 ≤ d = omega (arith, less) in h) in
      let x : (e + 1) * tasks ≡ e * tasks + tasks = omega arith in omega (arith, up, x, le, second))
]

pub lowest_of : (d e i j tasks : ℕ) → d ≡ e → d * tasks + i ≤ e * tasks + j → i ≤ j
lowest_of d e i j tasks same le = (let x : d * tasks ≡ e * tasks = ap (λ (y : ℕ). y * tasks) same in omega (arith, x, le))

module _ (c : RunConstants) (facts : HasPlanFacts c) (units : ℕ → ℕ → ℕ) where
  module _ (run : ℕ → Option (ℕ × ℕ)) (t : ℕ) (plain : IsPlainTo c units run t) where
    abbrev Waits : ℕ → ℕ → Type 0
    Waits i n = (c.release i n ≤ t) × (units_before run t i n < units i n)

    waits_or_not : (i n : ℕ) → Waits i n ⊎ (Waits i n → ⊥)
    waits_or_not i n = grind arith

    is_waiting : (i n : ℕ) → IsReady c units run t i n → IsJob c i n × Waits i n
    is_waiting i n ready = (ready.job, (ready.released, ready.left))

    module _ (o : Option (ℕ × ℕ)) (next : ℕ → Option (ℕ × ℕ)) (here : next t ≡ o) (other : (k : ℕ) → (k ≡ t → ⊥) → next k ≡ run k)
        (good : (i n : ℕ) → o ≡ Some (i, n) → IsReady c units run t i n)
        (first : (i n j k : ℕ) → o ≡ Some (i, n) → IsReady c units run t j k → c.deadline i n ≤ c.deadline j k)
        (low : (i n j k : ℕ) → o ≡ Some (i, n) → IsReady c units run t j k → c.deadline i n ≡ c.deadline j k → i ≤ j)
        (nothing : (j k : ℕ) → o ≡ None → IsReady c units run t j k → ⊥) where
      same_to : (s : ℕ) → s ≤ t → (i n : ℕ) → units_before next s i n ≡ units_before run s i n
      same_to s le = same_units run next s (λ k early. other k (λ same. omega (arith, same, early, le)))

      was : (s : ℕ) → s ≤ t → (i n : ℕ) → IsReady c units next s i n → IsReady c units run s i n
      was s le = ready_same c facts units run next s (same_to s le)

      one_more_tick : IsPlainTo c units next (suc t)
      one_more_tick = record {
        ready = λ s i n early is. elim (cases_lt s t) [
          | inl less ↦ ready_same c facts units next run s (λ j k. sym (same_to s (omega (arith, less)) j k)) i n (plain.ready s i n less (sym (other s (λ same. omega (arith, same, less))) ∙ is))
          | inr past ↦ (let e : t ≡ s = omega (arith, past, early) in subst (λ (x : ℕ). IsReady c units next x i n) e
              (ready_same c facts units next run t (λ j k. sym (same_to t (omega arith) j k)) i n (good i n (sym here ∙ ap next e ∙ is))))
        ];
        earliest = λ s i n j k early is ready. elim (cases_lt s t) [
          | inl less ↦ plain.earliest s i n j k less (sym (other s (λ same. omega (arith, same, less))) ∙ is) (was s (omega (arith, less)) j k ready)
          | inr past ↦ (let e : s ≡ t = omega (arith, past, early) in
              first i n j k (sym here ∙ ap next (sym e) ∙ is) (was t (omega arith) j k (subst (λ (x : ℕ). IsReady c units next x j k) e ready)))
        ];
        lowest = λ s i n j k early is ready tie. elim (cases_lt s t) [
          | inl less ↦ plain.lowest s i n j k less (sym (other s (λ same. omega (arith, same, less))) ∙ is) (was s (omega (arith, less)) j k ready) tie
          | inr past ↦ (let e : s ≡ t = omega (arith, past, early) in
              low i n j k (sym here ∙ ap next (sym e) ∙ is) (was t (omega arith) j k (subst (λ (x : ℕ). IsReady c units next x j k) e ready)) tie)
        ];
        busy = λ s j k early is ready. elim (cases_lt s t) [
          | inl less ↦ plain.busy s j k less (sym (other s (λ same. omega (arith, same, less))) ∙ is) (was s (omega (arith, less)) j k ready)
          | inr past ↦ (let e : s ≡ t = omega (arith, past, early) in
              nothing j k (sym here ∙ ap next (sym e) ∙ is) (was t (omega arith) j k (subst (λ (x : ℕ). IsReady c units next x j k) e ready)))
        ];
        rest = λ s late. other s (λ same. omega (arith, same, late)) ∙ plain.rest s (omega (arith, late));
      }

    goes_further : (next : ℕ → Option (ℕ × ℕ)) × IsPlainTo c units next (suc t)
    goes_further = elim (none_or_least c Waits (λ i n. c.deadline i n * c.tasks + i) waits_or_not) [
      | inl never ↦ (
        run,
        one_more_tick None run (plain.rest t (omega arith)) (λ k _. refl)
            (λ i n is. absurd (none_is_some None i n refl is)) (λ i n j k is. absurd (none_is_some None i n refl is)) (λ i n j k is. absurd (none_is_some None i n refl is))
            (λ j k _ ready. never j k (is_waiting j k ready)),
      )
      | inr best ↦
          (let i : ℕ = best.0 in
          let n : ℕ = best.1 in
          let o : Option (ℕ × ℕ) = Some (i, n) in
          let job = best.2.is.0 in
          let least = best.2.least in (
            put run t o,
            one_more_tick o (put run t o) (put_here run t o t refl) (λ k. put_other run t o k)
                (λ a b is. (let e = some_is_some o i n a b refl is in subst (λ (x : ℕ). IsReady c units run t a x) e.1 (subst (λ (x : ℕ). IsReady c units run t x n) e.0
                (record { job = job; released = best.2.is.1.0; left = best.2.is.1.1 }))))
                (λ a b j k is ready. (let e = some_is_some o i n a b refl is in subst (λ (x : ℕ). c.deadline a x ≤ c.deadline j k) e.1 (subst (λ (x : ℕ). c.deadline x n ≤ c.deadline j k) e.0
                (earliest_of (c.deadline i n) (c.deadline j k) i j c.tasks job.task ready.job.task (least j k (is_waiting j k ready))))))
                (λ a b j k is ready tie. (let e = some_is_some o i n a b refl is in
                let own : c.deadline i n ≡ c.deadline a b = ap (λ (x : ℕ). c.deadline x n) e.0 ∙ ap (c.deadline a) e.1 in
                subst (λ (x : ℕ). x ≤ j) e.0 (lowest_of (c.deadline i n) (c.deadline j k) i j c.tasks (own ∙ tie) (least j k (is_waiting j k ready)))))
                (λ j k none ready. none_is_some o i n none refl),
          ))
    ]

  some_plain_to : (t : ℕ) → (run : ℕ → Option (ℕ × ℕ)) × IsPlainTo c units run t
  some_plain_to zero = (
    (λ _. None),
    record {
      ready = λ t i n early. absurd (omega (arith, early));
      earliest = λ t i n j k early. absurd (omega (arith, early));
      lowest = λ t i n j k early. absurd (omega (arith, early));
      busy = λ t j k early. absurd (omega (arith, early));
      rest = λ t _. refl;
    },
  )
  some_plain_to (suc t) = (let before = some_plain_to t in goes_further before.0 t before.1)

  pub some_plain : (run : ℕ → Option (ℕ × ℕ)) × IsPlainRun c units run
  some_plain =
      let to_end = some_plain_to c.end in
      let run : ℕ → Option (ℕ × ℕ) = to_end.0 in
      let plain : IsPlainTo c units run c.end = to_end.1 in (
        run,
        record {
          edf = record {
            timed = record {
              ready = λ t i n is. elim (cases_lt t c.end) [ inl early ↦ plain.ready t i n early is | inr late ↦ absurd (none_is_some (run t) i n (plain.rest t late) is) ];
              ends = plain.rest;
            };
            earliest = λ t i n j k is ready. elim (cases_lt t c.end) [ inl early ↦ plain.earliest t i n j k early is ready | inr late ↦ absurd (none_is_some (run t) i n (plain.rest t late) is) ];
            busy = plain.busy;
          };
          lowest = λ t i n j k is ready tie. elim (cases_lt t c.end) [ inl early ↦ plain.lowest t i n j k early is ready tie | inr late ↦ absurd (none_is_some (run t) i n (plain.rest t late) is) ];
        },
      )
