-- Actuator tasks come last, in the order of their numbers.
use Rattle.prl_base.proofs.Standard.{◌≡◌, ℕ, zero, suc, ◌+◌, ◌<◌, ◌≤◌, ◌⊎◌, inl, inr, ⊎_elim, List, [], ◌∷◌, length, map, get_or, refl, sym, ap, ◌∙◌, arith, Some, slice_get}
use Rattle.prl_plan.specs.Vocabulary.{AreNumbered, no_task, task_at, IsPlan}
use Rattle.prl_plan.specs.declared.graphs.Kind.{Kind}
use Rattle.prl_plan.specs.declared.graphs.Task.{Task}
use Rattle.prl_plan.specs.declared.graphs.Kind.TheVariants as kinds
use Rattle.prl_rule.specs.Known.{run_of}
use Rattle.prl_rule.specs.declared.views.Constants.{Constants}
use Rattle.prl_board.specs.Closings.{Drives, IsNoActuator}

one_way : (m n : ℕ) → (m ≤ n) ⊎ (n < m)
one_way zero n = inl (omega arith)
one_way (suc m) zero = inr (omega arith)
one_way (suc m) (suc n) = ⊎_elim (λ h. inl (omega (arith, h))) (λ h. inr (omega (arith, h))) (one_way m n)

kind_there : (tasks : List Task) (i : ℕ) → i < length tasks → slice_get (map (λ (t : Task). t.kind) tasks) i ≡ Some (get_or tasks i no_task).kind
kind_there [] i below = absurd (omega (arith, below))
kind_there (t ∷ tasks) zero below = refl
kind_there (t ∷ tasks) (suc i) below = kind_there tasks i (omega (arith, below))

-- after an actuator there are actuators alone
next_numbers : (ks : List Kind) (s n a i x : ℕ) → AreNumbered s n (a + 1) ks → slice_get ks i ≡ Some (kinds.Actuator x) → x ≡ a + 1 + i
next_numbers [] s n a i x are has = absurd (cc has)
next_numbers (kinds.Sensor k ∷ ks) s n a i x are has = let none = are.2 in absurd (omega (arith, none))
next_numbers (kinds.Node k ∷ ks) s n a i x are has = let none = are.1 in absurd (omega (arith, none))
next_numbers (kinds.Actuator k ∷ ks) s n a zero x are has = let same : k ≡ x = cc has in let first = are.0 in omega (arith, same, first)
next_numbers (kinds.Actuator k ∷ ks) s n a (suc i) x are has = let rest = next_numbers ks s n (a + 1) i x are.1 has in omega (arith, rest)

later_number : (ks : List Kind) (s n a j i y x : ℕ) → AreNumbered s n a ks → j ≤ i → slice_get ks j ≡ Some (kinds.Actuator y) → slice_get ks i ≡ Some (kinds.Actuator x) → j + x ≡ i + y
later_number [] s n a j i y x are order here there = absurd (cc here)
later_number (kinds.Sensor k ∷ ks) s n a zero i y x are order here there = absurd (cc here)
later_number (kinds.Sensor k ∷ ks) s n a (suc j) zero y x are order here there = absurd (omega (arith, order))
later_number (kinds.Sensor k ∷ ks) s n a (suc j) (suc i) y x are order here there = let rest = later_number ks (s + 1) n a j i y x are.3 (omega (arith, order)) here there in omega (arith, rest)
later_number (kinds.Node k ∷ ks) s n a zero i y x are order here there = absurd (cc here)
later_number (kinds.Node k ∷ ks) s n a (suc j) zero y x are order here there = absurd (omega (arith, order))
later_number (kinds.Node k ∷ ks) s n a (suc j) (suc i) y x are order here there = let rest = later_number ks s (n + 1) a j i y x are.2 (omega (arith, order)) here there in omega (arith, rest)
later_number (kinds.Actuator k ∷ ks) s n a zero zero y x are order here there = let one : k ≡ y = cc here in let two : k ≡ x = cc there in omega (arith, one, two)
later_number (kinds.Actuator k ∷ ks) s n a zero (suc i) y x are order here there =
    let one : k ≡ y = cc here in let first = are.0 in let rest = next_numbers ks s n a i x are.1 there in omega (arith, one, first, rest)
later_number (kinds.Actuator k ∷ ks) s n a (suc j) zero y x are order here there = absurd (omega (arith, order))
later_number (kinds.Actuator k ∷ ks) s n a (suc j) (suc i) y x are order here there = let rest = later_number ks s n (a + 1) j i y x are.1 (omega (arith, order)) here there in omega (arith, rest)

first_number : (ks : List Kind) (s n i x : ℕ) → AreNumbered s n 0 ks → ((j y : ℕ) → j < i → slice_get ks j ≡ Some (kinds.Actuator y) → ⊥) → slice_get ks i ≡ Some (kinds.Actuator x) → x ≡ 0
first_number [] s n i x are none has = absurd (cc has)
first_number (kinds.Sensor k ∷ ks) s n zero x are none has = absurd (cc has)
first_number (kinds.Sensor k ∷ ks) s n (suc i) x are none has = first_number ks (s + 1) n i x are.3 (λ j y below there. none (suc j) y (omega (arith, below)) there) has
first_number (kinds.Node k ∷ ks) s n zero x are none has = absurd (cc has)
first_number (kinds.Node k ∷ ks) s n (suc i) x are none has = first_number ks s (n + 1) i x are.2 (λ j y below there. none (suc j) y (omega (arith, below)) there) has
first_number (kinds.Actuator k ∷ ks) s n zero x are none has = let same : k ≡ x = cc has in let first = are.0 in omega (arith, same, first)
first_number (kinds.Actuator k ∷ ks) s n (suc i) x are none has = absurd (none 0 k (omega arith) refl)

module _ (k : Constants) (plan : IsPlan k.plan) where
  numbered : AreNumbered 0 0 0 (map (λ (t : Task). t.kind) k.plan.graph.tasks)
  numbered = plan.graph.kinds

  at : (i : ℕ) → i < (run_of k).tasks → slice_get (map (λ (t : Task). t.kind) k.plan.graph.tasks) i ≡ Some (task_at k.plan.graph i).kind
  at i below = kind_there k.plan.graph.tasks i below

  -- the first actuator has number 0
  pub first_drives : (i x : ℕ) → i < (run_of k).tasks → ((j : ℕ) → j < i → IsNoActuator k j) → (task_at k.plan.graph i).kind ≡ kinds.Actuator x → Drives k i 0
  first_drives i x below none kind =
      let zero_ : x ≡ 0 = first_number (map (λ (t : Task). t.kind) k.plan.graph.tasks) 0 0 i x numbered
      (λ j y less there. none j less y (cc (sym (at j (omega (arith, less, below))) ∙ there))) (at i below ∙ ap Some kind) in
      record { task = below; kind = kind ∙ ap kinds.Actuator zero_ }

  -- the others follow it
  pub drives_after : (first i x : ℕ) → Drives k first 0 → Drives k i x → first + x ≡ i
  drives_after first i x zeroth other = ⊎_elim
      (λ order. let sum_ = later_number (map (λ (t : Task). t.kind) k.plan.graph.tasks) 0 0 0 first i 0 x numbered order (at first zeroth.task ∙ ap Some zeroth.kind) (at i other.task ∙ ap Some other.kind) in omega (arith, sum_))
      (λ before. let sum_ = later_number (map (λ (t : Task). t.kind) k.plan.graph.tasks) 0 0 0 i first x 0 numbered (omega (arith, before)) (at i other.task ∙ ap Some other.kind) (at first zeroth.task ∙ ap Some zeroth.kind) in absurd (omega (arith, sum_, before)))
      (one_way first i)
