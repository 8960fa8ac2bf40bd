-- The numbers of tasks in a list that grows.
use Rattle.prl_base.proofs.Standard.{◌≡◌, ◌<◌, ◌≤◌, ℕ, ◌+◌, suc, refl, true, false, cond, List, [], ◌∷◌, ◌++◌, length, take, get_or, sym, ap, ◌∙◌, Some, arith, Bor, take_more, map-append}
use Rattle.prl_base.proofs.Standard.{length-take-le, length-map, btree_map_updates_str, BTreeMap, UpdatesBy, slice_cmp, nat_cmp, option_map, bytes_eq}
use Rattle.std.specs.Option.{is_some}
use Rattle.prl_names.specs.Lookups.{index_from, index_of}
use Rattle.prl_schedules.specs.Vocabulary.{task_no, task_from, names_of, number_in, AreNumbers}
use Rattle.prl_names.proofs.FirstIndices.{kept, new}
use Rattle.prl_plan.specs.declared.graphs.Task.{Task}

names_with : (tasks : List Task) (k : ℕ) (x : Task) → k < length tasks → x ≡ get_or tasks k x →
    names_of (take (k + 1) tasks) ≡ names_of (take k tasks) ++ x.name ∷ []
names_with tasks k x below item = rw (take_more tasks k x below, ← item) (map-append (λ (t : Task). t.name) (take k tasks) (x ∷ []))

pub number_kept : (table : BTreeMap (Bor (List ℕ)) ℕ) (tasks : List Task) (k : ℕ) (x : Task) (bs : List ℕ) → k < length tasks → x ≡ get_or tasks k x → bs ≡ x.name →
    AreNumbers table (names_of (take k tasks)) → true ≡ is_some (number_in table bs) → AreNumbers table (names_of (take (k + 1) tasks))
number_kept table tasks k x bs below item bytes are was = λ q.
    let there : is_some (index_of (names_of (take k tasks)) x.name) ≡ true = sym (was ∙ ap is_some (are bs) ∙ ap (λ n. is_some (index_of (names_of (take k tasks)) n)) bytes) in
    rw (names_with tasks k x below item) (are q ∙ sym (kept (names_of (take k tasks)) x.name q there))

pub number_new : (table after : BTreeMap (Bor (List ℕ)) ℕ) (tasks : List Task) (k : ℕ) (x : Task) (bs : List ℕ) → k < length tasks → x ≡ get_or tasks k x → bs ≡ x.name →
    AreNumbers table (names_of (take k tasks)) → false ≡ is_some (number_in table bs) →
    UpdatesBy (λ x y. slice_cmp nat_cmp x.now y.now) (λ y. slice_cmp nat_cmp bs y.now) table after (Some k) → AreNumbers after (names_of (take (k + 1) tasks))
number_new table after tasks k x bs below item bytes are absent updates = λ q.
    let none : is_some (index_of (names_of (take k tasks)) x.name) ≡ false = sym (absent ∙ ap is_some (are bs) ∙ ap (λ n. is_some (index_of (names_of (take k tasks)) n)) bytes) in
    let within : k ≤ length tasks = omega arith in
    let count : length (names_of (take k tasks)) ≡ k = length-map (take k tasks) (λ (t : Task). t.name) ∙ length-take-le k tasks within in
    let changed = btree_map_updates_str bs table after (Some k) updates q in
    let old = rw (count, ← bytes) at (new (names_of (take k tasks)) x.name q none) in
    rw (names_with tasks k x below item, ← bytes) (changed ∙ ap (cond (bytes_eq bs q) (Some k)) (are q) ∙ sym old)

-- the task of a name has its index
pub task_is_index : (k : ℕ) (names : List (List ℕ)) (name : List ℕ) → task_from k names name ≡ option_map task_no (index_from k names name)
task_is_index k [] name = refl
task_is_index k (x ∷ xs) name =
    elim (bytes_eq x name) as (λ b. cond b (Some (task_no k)) (task_from (k + 1) xs name) ≡ option_map task_no (cond b (Some k) (index_from (k + 1) xs name))) [
      | true ↦ refl
      | false ↦ task_is_index (k + 1) xs name
    ]

-- and that is below their count
pub index_below : (k : ℕ) (names : List (List ℕ)) (name : List ℕ) (m : ℕ) → index_from k names name ≡ Some m → m < k + length names
index_below k [] name m h = absurd cc
index_below k (x ∷ xs) name m h =
    elim (bytes_eq x name) as (λ b. cond b (Some k) (index_from (k + 1) xs name) ≡ Some m → m < k + suc (length xs)) [
      | true ↦ λ e. (let same : k ≡ m = cc in omega (arith, same))
      | false ↦ λ e. (let b = index_below (k + 1) xs name m e in omega (arith, b))
    ] h
