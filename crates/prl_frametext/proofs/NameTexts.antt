-- The names of tasks are texts.
use Rattle.prl_base.proofs.Standard.{◌≡◌, ◌+◌, ◌++◌, ◌<◌, ◌≤◌, ◌^◌, ◌⊎◌, ◌∙◌, inl, inr, ℕ, zero, suc, List, [], ◌∷◌, All, All-cons, All-nil, Option, Some, Bool, true, arith, nat_tests, and_parts, ap, decimal, length, length-map, map, refl, subst, sym, slice_get, slice_get-map, slice_get_cases, get_or, get_or_from_slice_get, get_or_past, None}
use Rattle.std.specs.List.{list_all}
use Rattle.std.specs.Option.{option_map}
use Rattle.std.specs.Str.{IsAscii, IsUtf8}
use Rattle.std.proofs.lemmas.Fmt.{IsAscii-decimal}
use Rattle.std.proofs.lemmas.Str.{IsAscii-append, IsUtf8-from_ascii}
use Rattle.std.proofs.lemmas.Str.Ascii.{IsAscii-from_all, IsAscii-nil}
use Rattle.prl_base.specs.Names.{IsName, is_word_byte, is_word_start}
use Rattle.prl_plan.specs.declared.graphs.Kind.{Kind}
use Rattle.prl_plan.specs.declared.graphs.Kind.TheVariants as kinds
use Rattle.prl_plan.specs.declared.graphs.Task.{Task}
use Rattle.prl_plan.specs.declared.graphs.TaskGraph.{TaskGraph}
use Rattle.prl_plan.specs.declared.limits.TheConstants.{MAX_TASKS}
use Rattle.prl_plan.specs.Graphs.{AreNumbered, IsTaskName, IsWellFormed}
use Rattle.prl_plan.specs.Vocabulary.{no_task, task_at}

-- the bytes of a name are ASCII
bytes_small : (bs : List ℕ) → list_all is_word_byte bs ≡ true → All (λ b. b < 128) bs
bytes_small [] all = All-nil (λ b. b < 128)
bytes_small (b ∷ bs) all =
    let both = and_parts (is_word_byte b) (list_all is_word_byte bs) all in
    All-cons (λ b. b < 128) b bs (grind (arith, nat_tests, both.0)) (bytes_small bs both.1)

word_ascii : (bs : List ℕ) → IsName bs → IsAscii bs
word_ascii [] is = IsAscii-nil
word_ascii (b ∷ bs) is =
    let both = and_parts (is_word_start b) (list_all is_word_byte bs) is.0 in
    IsAscii-from_all (b ∷ bs) (All-cons (λ b. b < 128) b bs (grind (arith, nat_tests, both.0)) (bytes_small bs both.1))

-- and so are the digits after it, since there are no more nodes than tasks
node_small : (s n a : ℕ) (ks : List Kind) (i k : ℕ) → AreNumbered s n a ks → slice_get ks i ≡ Some (kinds.Node k) → k < n + length ks
node_small s n a [] i k are at = cc
node_small s n a (kinds.Sensor j ∷ ks) zero k are at = cc
node_small s n a (kinds.Sensor j ∷ ks) (suc i) k are at = let h = node_small (s + 1) n a ks i k are.3 at in omega (arith, h)
node_small s n a (kinds.Node j ∷ ks) zero k are at = let e : j ≡ k = cc in omega (arith, e, are.0)
node_small s n a (kinds.Node j ∷ ks) (suc i) k are at = let h = node_small s (n + 1) a ks i k are.2 at in omega (arith, h)
node_small s n a (kinds.Actuator j ∷ ks) zero k are at = cc
node_small s n a (kinds.Actuator j ∷ ks) (suc i) k are at = let h = node_small s n (a + 1) ks i k are.1 at in omega (arith, h)

task_ascii : (kind : Kind) (name : List ℕ) → ((k : ℕ) → kind ≡ kinds.Node k → k < 2 ^ 64) → IsTaskName kind name → IsAscii name
task_ascii (kinds.Sensor k) name small is = word_ascii name is
task_ascii (kinds.Node k) name small is =
    subst IsAscii (sym is.2)
    (IsAscii-append is.0 (64 ∷ decimal k) (word_ascii is.0 is.1)
    (IsAscii-append (64 ∷ []) (decimal k) (IsAscii-from_all (64 ∷ []) (All-cons (λ b. b < 128) 64 [] (omega arith) (All-nil (λ b. b < 128)))) (IsAscii-decimal k (small k refl))))
task_ascii (kinds.Actuator k) name small is = word_ascii name is

pub name_is_text : (graph : TaskGraph) (i : ℕ) → IsWellFormed graph → IsUtf8 (task_at graph i).name
name_is_text graph i well = go (slice_get_cases graph.tasks i).1
  where
    kinds_of : List Kind
    kinds_of = map (λ task. task.kind) graph.tasks

    small : (task : Task) → slice_get graph.tasks i ≡ Some task → (k : ℕ) → task.kind ≡ kinds.Node k → k < 2 ^ 64
    small task at k is =
        let found : slice_get kinds_of i ≡ Some (kinds.Node k) = slice_get-map (λ (t : Task). t.kind) graph.tasks i ∙ ap (λ (o : Option Task). option_map (λ (t : Task). t.kind) o) at ∙ ap (λ (x : Kind). Some x) is in
        let below = node_small 0 0 0 kinds_of i k well.kinds found in
        let long : length kinds_of ≡ length graph.tasks = length-map graph.tasks (λ (t : Task). t.kind) in
        let few = well.few_tasks in
        omega (arith, below, long, few)

    go : ((task : Task) × (i < length graph.tasks) × (slice_get graph.tasks i ≡ Some task) × (get_or graph.tasks i task ≡ task)) ⊎ ((length graph.tasks ≤ i) × (slice_get graph.tasks i ≡ None))
        → IsUtf8 (task_at graph i).name
    go (inl (task, inside, at, same)) =
        let is : task_at graph i ≡ task = get_or_from_slice_get graph.tasks i task no_task at in
        subst (λ (t : Task). IsUtf8 t.name) (sym is)
        (IsUtf8-from_ascii task.name (task_ascii task.kind task.name (small task at) (well.tasks i task at).name))
    go (inr past) = subst (λ (t : Task). IsUtf8 t.name) (sym (get_or_past graph.tasks i no_task past.0)) (IsUtf8-from_ascii [] IsAscii-nil)
