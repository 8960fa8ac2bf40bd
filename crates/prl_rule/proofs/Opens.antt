-- The rule holds at the opening.
use Rattle.std.proofs.Common.{◌≡◌, ℕ, zero, suc, ◌+◌, ◌<◌, List, [], ◌∷◌, length, get_or, replicate, refl, sym, ap, ◌∙◌, subst, inl, arith, false, Some}
use mathlib.Core.Option.{some, some-injective, some-ne-none}
use lib.ListN.{get_elem?}
use Rattle.prl_plan.specs.Vocabulary.{RunConstants, opening, HasPlanFacts}
use Rattle.prl_rule.specs.Vocabulary.{Constants, TaskPart, View, RunValues, HasValueFacts, word_of, done_word, slot_word, stop_word, word_count, AgreesTask, AgreesClock, AgreesView, AgreesWith}
use Rattle.prl_rule.specs.Vocabulary.{first_witness, first_part, first_parts, first_view}
use Rattle.prl_rule.proofs.ValueSteps.{first_values}

copies_or : (n i z : ℕ) → get_or (replicate n z) i z ≡ z
copies_or zero i z = refl
copies_or (suc n) zero z = refl
copies_or (suc n) (suc i) z = copies_or n i z

length_copies : {A : Type 0} (n : ℕ) (a : A) → length (replicate n a) ≡ n
length_copies zero a = refl
length_copies (suc n) a = ap suc (length_copies n a)

abbrev zeros_at : (n i : ℕ) → get_or {A = ℕ} (replicate n 0) i 0 ≡ 0
zeros_at n i = copies_or n i 0

-- the first parts are those of the tasks in turn
first_at : (v : RunValues) (from n i : ℕ) (p : TaskPart) → get_elem? (first_parts v from n) i ≡ some (Some p) → (i < n) × (first_part (v.registers (from + i) 0) ≡ p)
first_at v from zero i p e = absurd (some-ne-none (Some p) (sym e))
first_at v from (suc n) zero p e =
    let same : Some (first_part (v.registers from 0)) ≡ Some p = some-injective (Some (first_part (v.registers from 0))) (Some p) e in
    let place : from + 0 ≡ from = omega arith in
    (omega arith, ap (λ (x : ℕ). first_part (v.registers x 0)) place ∙ (let z : first_part (v.registers from 0) ≡ p = cc same in z))
first_at v from (suc n) (suc i) p e =
    let rest = first_at v (suc from) n i p e in
    let place : from + suc i ≡ suc from + i = omega arith in
    ((let h = rest.0 in omega (arith, h)), ap (λ (x : ℕ). first_part (v.registers x 0)) place ∙ rest.1)

module _ (k : Constants) (c : RunConstants) (v : RunValues) where
  first_agrees : HasValueFacts c v → (i : ℕ) → i < c.tasks → AgreesTask c v (λ j. false) (opening c) i (first_part (v.registers i 0))
  first_agrees values i h = record {
    stand = record {
      task = h;
      ended = sym (zeros_at c.tasks i);
      place = sym (zeros_at c.tasks i);
      shut = λ e. refl;
      job = λ e. absurd (cc e);
      released = λ e. absurd (cc e);
      opened = λ n before. absurd (omega (arith, before));
      seen = omega arith;
    };
    kept = record { tag = omega arith; half_read = λ port e m cell o. absurd (cc o) };
    values = first_values c v values i;
    stop = record { same = refl; overrun = λ e. absurd (cc e); told = inl refl };
  }

  view_agrees : HasValueFacts c v → AgreesView k c v first_witness (opening c) 0 (first_view k c v)
  view_agrees values = record {
    known = λ other e. let z : Some k ≡ Some other = e in sym (cc z);
    task = λ i p e. let t = first_at v 0 c.tasks i p e in
        let place : 0 + i ≡ i = omega arith in
        let same : first_part (v.registers i 0) ≡ p = ap (λ (x : ℕ). first_part (v.registers x 0)) (sym place) ∙ t.1 in
        (refl, refl, subst (AgreesTask c v (λ j. false) (opening c) i) same (first_agrees values i t.0));
    clock = λ p e. let same : record { now = 0; looks = replicate c.tasks 0; count = 0; stop = 0 } ≡ p = cc e in (
      refl,
      refl,
      subst (AgreesClock c (λ j. false) (opening c)) same
          (record { now = refl; wide = length_copies c.tasks 0; looks = λ i h. (let z = zeros_at c.tasks i in omega (arith, z)); told = inl refl }),
    );
  }

  pub opens : HasPlanFacts c → HasValueFacts c v → (words : List ℕ) → words ≡ replicate (word_count c) 0 → AgreesWith k c v first_witness [] words (first_view k c v ∷ [])
  opens facts values words e =
      let at : (i : ℕ) → ◌≡◌ {A = ℕ} (get_or words i 0) 0 = λ i. ap (λ (z : List ℕ). get_or z i 0) e ∙ zeros_at (word_count c) i in record {
        facts = facts;
        values = values;
        free = tt;
        gated = λ g. tt;
        calm = λ g j. refl;
        shows = record {
          wide = ap length e ∙ length_copies (word_count c) 0;
          now = at 0;
          done = λ i h. at (done_word i) ∙ sym (zeros_at c.tasks i);
          slot = λ i h. at (slot_word c i) ∙ ap (word_of v i) (sym (zeros_at c.slots i));
          fits = λ h m inside tag. absurd (let z = zeros_at c.slots h in omega (arith, z, tag));
          stop = inl (at (stop_word c), (λ j h. refl));
        };
        each_view = only_first;
      }
    where
      only_first : (id : ℕ) (u : View) → get_elem? (first_view k c v ∷ []) id ≡ some u → AgreesView k c v first_witness (opening c) id u
      only_first zero u e = let same : first_view k c v ≡ u = some-injective (first_view k c v) u e in subst (AgreesView k c v first_witness (opening c) 0) same (view_agrees values)
      only_first (suc i) u e = absurd (some-ne-none u (sym e))
