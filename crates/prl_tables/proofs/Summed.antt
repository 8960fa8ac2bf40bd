-- The sums of classes.
use Rattle.prl_base.proofs.Standard.{◌≡◌, ◌≢◌, ◌+◌, ◌-◌, ◌<◌, ◌^◌, ℕ, Bool, true, false, cond, List, [], ◌∷◌, length, get_or, set, replicate, Some, inl, inr, refl, sym, ◌∙◌, ap, subst, arith}
use Rattle.prl_base.proofs.Standard.{slice_get, min, cases_eq, nat_tests, get_or-replicate, length-replicate, get_or_from_slice_get, slice_get-get_or}
use Rattle.std.proofs.lemmas.List.{length-set}
use Rattle.prl_plan.specs.Vocabulary.{task_at, PlanView}
use Rattle.prl_track.proofs.Places.{slice_get_set_same, slice_get_set_other}
use Rattle.prl_tables.specs.Vocabulary.{Sums, Entry, is_of, units_of, IsWhole, no_sums, sums_of, with_entry, HasSums}

pub is_yes : (i c : ℕ) (entry : Entry) → entry.task.0 ≡ i → entry.job ≡ c → is_of i c entry ≡ true
is_yes i c entry task job = grind (arith, nat_tests, task, job)

no_task : (i c : ℕ) (entry : Entry) → entry.task.0 ≢ i → is_of i c entry ≡ false
no_task i c entry other = grind (arith, nat_tests, other)

no_class : (i c : ℕ) (entry : Entry) → entry.job ≢ c → is_of i c entry ≡ false
no_class i c entry other = grind (arith, nat_tests, other)

pub by_yes : (i c : ℕ) (entry : Entry) (entries : List Entry) → is_of i c entry ≡ true → sums_of (entry ∷ entries) i c ≡ with_entry entry (sums_of entries i c)
by_yes i c entry entries is = ap (λ b. cond b (with_entry entry (sums_of entries i c)) (sums_of entries i c)) is

pub by_no : (i c : ℕ) (entry : Entry) (entries : List Entry) → is_of i c entry ≡ false → sums_of (entry ∷ entries) i c ≡ sums_of entries i c
by_no i c entry entries is = ap (λ b. cond b (with_entry entry (sums_of entries i c)) (sums_of entries i c)) is

-- an entry of the task is added at its class
pub added : (i : ℕ) (entry : Entry) (xs : List Sums) (d v : Sums) → entry.task.0 ≡ i → entry.job < length xs → v ≡ with_entry entry (get_or xs entry.job d) →
    (entries : List Entry) → HasSums entries i xs → HasSums (entry ∷ entries) i (set xs entry.job v)
added i entry xs d v task inside is entries has c c_in =
    elim (cases_eq c entry.job) [
      | inl same ↦
          (let here : get_or xs entry.job d ≡ sums_of entries i entry.job = get_or_from_slice_get xs entry.job (sums_of entries i entry.job) d (has entry.job inside) in
          let value : v ≡ sums_of (entry ∷ entries) i entry.job =
          is ∙ ap (with_entry entry) here ∙ sym (by_yes i entry.job entry entries (is_yes i entry.job entry task refl)) in
          subst (λ (k : ℕ). slice_get (set xs entry.job v) k ≡ Some (sums_of (entry ∷ entries) i k)) (sym same)
          (slice_get_set_same xs entry.job v inside ∙ ap Some value))
      | inr other ↦
          slice_get_set_other xs entry.job c v other
          ∙ has c (let l = length-set xs entry.job v in omega (arith, c_in, l))
          ∙ ap Some (sym (by_no i c entry entries (no_class i c entry (λ e. other (sym e)))))
    ]

-- one of another task changes nothing
pub not_added : (i : ℕ) (entry : Entry) (xs : List Sums) → entry.task.0 ≢ i → (entries : List Entry) → HasSums entries i xs → HasSums (entry ∷ entries) i xs
not_added i entry xs other entries has c inside = has c inside ∙ ap Some (sym (by_no i c entry entries (no_task i c entry other)))

-- sums of no entry
pub none_added : (i n : ℕ) (s : Sums) → s ≡ no_sums → HasSums [] i (replicate n s)
none_added i n s is c inside =
    slice_get-get_or (replicate n s) c s inside
    ∙ ap Some (get_or-replicate n c s s (let l = length-replicate n s in omega (arith, inside, l)) ∙ is)

-- the units, which stay exact below 2^64 - 1
pub capped : (entries : List Entry) (i c : ℕ) → (sums_of entries i c).units ≡ min (units_of entries i c) (2 ^ 64 - 1)
capped [] i c = omega arith
capped (entry ∷ entries) i c = go (is_of i c entry) refl (capped entries i c)
  where
    go : (b : Bool) → is_of i c entry ≡ b → (sums_of entries i c).units ≡ min (units_of entries i c) (2 ^ 64 - 1) →
        (sums_of (entry ∷ entries) i c).units ≡ min (units_of (entry ∷ entries) i c) (2 ^ 64 - 1)
    go true is rest =
        let s = ap (λ (x : Sums). x.units) (by_yes i c entry entries is) in
        let u : units_of (entry ∷ entries) i c ≡ entry.units + units_of entries i c = ap (λ b. cond b entry.units 0 + units_of entries i c) is in
        omega (arith, s, u, rest)
    go false is rest =
        let s = ap (λ (x : Sums). x.units) (by_no i c entry entries is) in
        let u : units_of (entry ∷ entries) i c ≡ 0 + units_of entries i c = ap (λ b. cond b entry.units 0 + units_of entries i c) is in
        omega (arith, s, u, rest)

module _ (plan : PlanView) (entries : List Entry) (i : ℕ) (list : List Sums) (has : HasSums entries i list) (wcet : ℕ) (is : wcet ≡ (task_at plan.graph i).wcet)
    (small : wcet < 2 ^ 32) (c : ℕ) (inside : c < length list) (d : Sums) where
  pub whole : (get_or list c d).units ≡ wcet → IsWhole plan entries i c
  whole same =
      (let s = ap (λ (x : Sums). x.units) (get_or_from_slice_get list c (sums_of entries i c) d (has c inside)) in
      let m = capped entries i c in omega (arith, s, m, same, is, small))

  pub not_whole : (get_or list c d).units ≢ wcet → IsWhole plan entries i c → ⊥
  not_whole other yes_it =
      other (let s = ap (λ (x : Sums). x.units) (get_or_from_slice_get list c (sums_of entries i c) d (has c inside)) in
      let m = capped entries i c in omega (arith, s, m, yes_it, is, small))
