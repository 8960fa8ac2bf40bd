-- The tests of a graph pass exactly where it is well formed: first names, tasks and values.
use Rattle.prl_base.proofs.Standard.{◌≡◌, ◌≢◌, ◌==◌, ◌++◌, ◌*◌, ◌/◌, ◌%◌, ◌<◌, ◌≤◌, ◌^◌, ◌&&◌, ◌||◌, ℕ, zero, suc, Bool, true, false, not, List, [], ◌∷◌, Some, cond, map, length, slice_get, nat_le}
use Rattle.prl_base.proofs.Standard.{nat_lt, refl, ap, sym, ◌∙◌, subst, arith, decimal, slice_index_or, list_all, bytes_eq, and_parts, or_parts, false≢true, true≢false, eqb-true, eq-eqb, leb-true}
use Rattle.prl_base.proofs.Standard.{le-leb, ltb-true, lt-ltb, mod-add-div, mul-mod_left, bytes_eq-Decides}
use Rattle.prl_base.specs.Names.{IsName, is_word}
use Rattle.prl_base.specs.declared.names.TheConstants.{MAX_NAME}
use Rattle.prl_plan.specs.Vocabulary.{AreNumbered, Divides, IsTask, IsTaskName, no_task}
use Rattle.prl_plan.specs.declared.graphs.Kind.{Kind}
use Rattle.prl_plan.specs.declared.graphs.Task.{Task}
use Rattle.prl_plan.specs.declared.graphs.Kind.TheVariants as kinds
use Rattle.prl_plantext.specs.code.Checks.{are_numbered, counted, divides, has_name, have_own_names, is_name, is_positive, is_task, is_task_name, may_follow}
use Rattle.prl_plantext.specs.code.Graphs.{after, before}
use Rattle.prl_plantext.specs.declared.checking.Counts.{Counts}
use Rattle.prl_plantext.proofs.Bytes.{decimal_some}
use Rattle.prl_plantext.proofs.Lists.{passes_at}
use Rattle.prl_plantext.proofs.Cuts.{after_at, before_at}
use Rattle.prl_plantext.proofs.Printed.{name_lacks}

-- truth

pub both : (a b : Bool) → a ≡ true → b ≡ true → (a && b) ≡ true
both a b e f = ap (λ t. t && b) e ∙ f

-- a test that passes exactly where the fact holds
pub record Tells (test : Bool) (P : Type 0) : Type 0 where
  pub so : test ≡ true → P
  pub then : P → test ≡ true

pub bytes_tell : (xs ys : List ℕ) → Tells (bytes_eq xs ys) (xs ≡ ys)
bytes_tell xs ys = record { so = (bytes_eq-Decides xs ys).0; then = (bytes_eq-Decides xs ys).1 }

pub equal_tells : (a b : ℕ) → Tells (a == b) (a ≡ b)
equal_tells a b = record { so = eqb-true a b; then = eq-eqb a b }

pub below_tells : (a b : ℕ) → Tells (nat_lt a b) (a < b)
below_tells a b = record { so = ltb-true a b; then = lt-ltb a b }

pub least_tells : (a b : ℕ) → Tells (nat_le a b) (a ≤ b)
least_tells a b = record { so = leb-true a b; then = le-leb a b }

pub and_tells : {P Q : Type 0} (a b : Bool) → Tells a P → Tells b Q → Tells (a && b) (P × Q)
and_tells a b p q = record {
  so = λ e. let parts = and_parts a b e in (p.so parts.0, q.so parts.1);
  then = λ h. both a b (p.then h.0) (q.then h.1);
}

pub told_by : {P Q : Type 0} {test : Bool} → Tells test P → (P → Q) → (Q → P) → Tells test Q
told_by tells to from = record { so = λ e. to (tells.so e); then = λ q. tells.then (from q) }

pub true_tells : {P : Type 0} → P → Tells true P
true_tells p = record { so = λ e. p; then = λ h. refl }

pub false_tells : {P : Type 0} → (P → ⊥) → Tells false P
false_tells never = record { so = λ e. absurd (false≢true e); then = λ p. absurd (never p) }

-- lists

each_so : {A : Type 0} (test : A → Bool) (P : A → Type 0) (items : List A) → ((item : A) → Tells (test item) (P item)) →
    list_all test items ≡ true → (k : ℕ) (item : A) → slice_get items k ≡ Some item → P item
each_so test P items each e k item at = (each item).so (passes_at test items e k item at)

each_then : {A : Type 0} (test : A → Bool) (P : A → Type 0) (items : List A) → ((item : A) → Tells (test item) (P item)) →
    ((k : ℕ) (item : A) → slice_get items k ≡ Some item → P item) → list_all test items ≡ true
each_then test P [] each h = refl
each_then test P (first ∷ items) each h =
    both (test first) (list_all test items) ((each first).then (h 0 first refl)) (each_then test P items each (λ k item at. h (suc k) item at))

pub each_tells : {A : Type 0} (test : A → Bool) (P : A → Type 0) (items : List A) → ((item : A) → Tells (test item) (P item)) →
    Tells (list_all test items) ((k : ℕ) (item : A) → slice_get items k ≡ Some item → P item)
each_tells test P items each = record { so = each_so test P items each; then = each_then test P items each }

-- names

pub name_tells : (bytes : List ℕ) → Tells (is_name bytes) (IsName bytes)
name_tells bytes = and_tells (is_word bytes) (nat_le (length bytes) MAX_NAME) (record { so = λ e. e; then = λ e. e }) (least_tells (length bytes) MAX_NAME)

rejoin_by : (t : Bool) (end b : ℕ) (bs : List ℕ) → (b == end) ≡ t → 0 < length (cond t bs (after end bs)) →
    (0 < length (after end bs) → bs ≡ before end bs ++ end ∷ after end bs) →
    b ∷ bs ≡ cond t [] (b ∷ before end bs) ++ end ∷ cond t bs (after end bs)
rejoin_by true end b bs e some later = ap (λ c. c ∷ bs) (eqb-true b end e)
rejoin_by false end b bs e some later = ap (λ l. b ∷ l) (later some)

rejoin : (end : ℕ) (text : List ℕ) → 0 < length (after end text) → text ≡ before end text ++ end ∷ after end text
rejoin end [] some = absurd (omega (arith, some))
rejoin end (b ∷ bs) some = rejoin_by (b == end) end b bs refl some (rejoin end bs)

node_so : (k : ℕ) (name : List ℕ) → 0 < length (decimal k) → IsName (before 64 name) → after 64 name ≡ decimal k → IsTaskName (kinds.Node k) name
node_so k name some is same = (
  before 64 name,
  is,
  rejoin 64 name (subst (λ l. 0 < length l) (sym same) some) ∙ ap (λ l. before 64 name ++ 64 ∷ l) same,
)

node_before : (k : ℕ) (name : List ℕ) → IsTaskName (kinds.Node k) name → IsName (before 64 name) × (after 64 name ≡ decimal k)
node_before k name (word, is, same) =
    let lacks = name_lacks 64 word refl refl is in (
      subst IsName (sym (ap (before 64) same ∙ before_at 64 word (decimal k) lacks)) is,
      ap (after 64) same ∙ after_at 64 word (decimal k) lacks,
    )

pub task_name_tells : (kind : Kind) (name : List ℕ) → Tells (is_task_name kind name) (IsTaskName kind name)
task_name_tells (kinds.Sensor k) name = name_tells name
task_name_tells (kinds.Node k) name =
    told_by (and_tells (is_name (before 64 name)) (bytes_eq (after 64 name) (decimal k)) (name_tells (before 64 name)) (bytes_tell (after 64 name) (decimal k)))
    (λ h. node_so k name (decimal_some k) h.0 h.1) (node_before k name)
task_name_tells (kinds.Actuator k) name = name_tells name

-- tasks

divides_so : (k n : ℕ) → 1 ≤ k → n % k ≡ 0 → n ≡ n / k * k
divides_so k n some none = let whole = mod-add-div n k in omega (arith, whole, none)

divides_then : (k n : ℕ) → Divides k n → n % k ≡ 0
divides_then k n (times, is) = ap (λ m. m % k) is ∙ mul-mod_left times k

pub divides_tells : (k n : ℕ) → Tells (divides k n) ((1 ≤ k) × Divides k n)
divides_tells k n =
    told_by (and_tells (nat_le 1 k) (n % k == 0) (least_tells 1 k) (equal_tells (n % k) 0))
    (λ h. (h.0, (n / k, divides_so k n h.0 h.1))) (λ h. (h.0, divides_then k n h.1))

pub positive_tells : (n : ℕ) → Tells (is_positive n) ((1 ≤ n) × (n < 2 ^ 31))
positive_tells n = and_tells (nat_le 1 n) (nat_lt n (2 ^ 31)) (least_tells 1 n) (below_tells n (2 ^ 31))

abbrev TaskParts : ℕ → Task → Type 0
TaskParts hyper task =
    ((((((IsTaskName task.kind task.name × ((1 ≤ task.clock.period) × (task.clock.period < 2 ^ 31))) × (task.clock.start < 2 ^ 31))
    × ((1 ≤ task.wcet) × (task.wcet < 2 ^ 31))) × (1 ≤ task.due)) × (task.due ≤ task.clock.period)) × ((1 ≤ task.clock.period) × Divides task.clock.period hyper))

task_so : (hyper : ℕ) (task : Task) → TaskParts hyper task → IsTask hyper task
task_so hyper task ((((((name, period), start), wcet), some), due), divides) = record {
  name = name;
  period = period;
  start = start;
  wcet = wcet;
  due = (some, due);
  divides = divides.1;
}

task_then : (hyper : ℕ) (task : Task) → IsTask hyper task → TaskParts hyper task
task_then hyper task is =
    ((((((is.name, is.period), is.start), is.wcet), is.due.0), is.due.1), (is.period.0, is.divides))

pub task_tells : (hyper : ℕ) (task : Task) → Tells (is_task hyper task) (IsTask hyper task)
task_tells hyper task =
    told_by
    (and_tells _ (divides task.clock.period hyper)
    (and_tells _ (nat_le task.due task.clock.period)
    (and_tells _ (nat_le 1 task.due)
    (and_tells _ (is_positive task.wcet)
    (and_tells _ (nat_lt task.clock.start (2 ^ 31))
    (and_tells (is_task_name task.kind task.name) (is_positive task.clock.period) (task_name_tells task.kind task.name) (positive_tells task.clock.period))
    (below_tells task.clock.start (2 ^ 31)))
    (positive_tells task.wcet))
    (least_tells 1 task.due))
    (least_tells task.due task.clock.period))
    (divides_tells task.clock.period hyper))
    (task_so hyper task) (task_then hyper task)

-- numbers of kinds

numbered_by : (c : Counts) (kind : Kind) (later : List Kind) → may_follow c kind ≡ true →
    AreNumbered (counted c kind).sensors (counted c kind).nodes (counted c kind).actuators later → AreNumbered c.sensors c.nodes c.actuators (kind ∷ later)
numbered_by c (kinds.Sensor k) later may are =
    let outer = and_parts ((k == c.sensors) && (c.nodes == 0)) (c.actuators == 0) may in
    let inner = and_parts (k == c.sensors) (c.nodes == 0) outer.0 in
    (eqb-true k c.sensors inner.0, eqb-true c.nodes 0 inner.1, eqb-true c.actuators 0 outer.1, are)
numbered_by c (kinds.Node k) later may are =
    let parts = and_parts (k == c.nodes) (c.actuators == 0) may in (eqb-true k c.nodes parts.0, eqb-true c.actuators 0 parts.1, are)
numbered_by c (kinds.Actuator k) later may are = (eqb-true k c.actuators may, are)

numbered_so : (c : Counts) (tasks : List Task) → are_numbered c tasks ≡ true →
    AreNumbered c.sensors c.nodes c.actuators (map (λ (task : Task). task.kind) tasks)
numbered_so c [] e = tt
numbered_so c (task ∷ tasks) e =
    let parts = and_parts (may_follow c task.kind) (are_numbered (counted c task.kind) tasks) e in
    numbered_by c task.kind (map (λ (t : Task). t.kind) tasks) parts.0 (numbered_so (counted c task.kind) tasks parts.1)

may_then : (c : Counts) (kind : Kind) (later : List Kind) → AreNumbered c.sensors c.nodes c.actuators (kind ∷ later) →
    (may_follow c kind ≡ true) × AreNumbered (counted c kind).sensors (counted c kind).nodes (counted c kind).actuators later
may_then c (kinds.Sensor k) later are = (
  both ((k == c.sensors) && (c.nodes == 0)) (c.actuators == 0) (both (k == c.sensors) (c.nodes == 0) (eq-eqb k c.sensors are.0) (eq-eqb c.nodes 0 are.1)) (eq-eqb c.actuators 0 are.2),
  are.3,
)
may_then c (kinds.Node k) later are = (both (k == c.nodes) (c.actuators == 0) (eq-eqb k c.nodes are.0) (eq-eqb c.actuators 0 are.1), are.2)
may_then c (kinds.Actuator k) later are = (eq-eqb k c.actuators are.0, are.1)

numbered_then : (c : Counts) (tasks : List Task) → AreNumbered c.sensors c.nodes c.actuators (map (λ (task : Task). task.kind) tasks) →
    are_numbered c tasks ≡ true
numbered_then c [] are = refl
numbered_then c (task ∷ tasks) are =
    let may = may_then c task.kind (map (λ (t : Task). t.kind) tasks) are in
    both (may_follow c task.kind) (are_numbered (counted c task.kind) tasks) may.0 (numbered_then (counted c task.kind) tasks may.1)

pub numbered_tells : (c : Counts) (tasks : List Task) →
    Tells (are_numbered c tasks) (AreNumbered c.sensors c.nodes c.actuators (map (λ (task : Task). task.kind) tasks))
numbered_tells c tasks = record { so = numbered_so c tasks; then = numbered_then c tasks }

-- names differ

abbrev pub HaveOwnNames : List Task → Type 0
HaveOwnNames tasks =
    (i j : ℕ) → i < j → j < length tasks → (slice_index_or tasks i no_task).name ≢ (slice_index_or tasks j no_task).name

not_true : (t : Bool) → not t ≡ true → t ≡ false
not_true true e = sym e
not_true false e = refl

unnamed_so : (name : List ℕ) (tasks : List Task) → has_name name tasks ≡ false → (j : ℕ) → j < length tasks →
    name ≢ (slice_index_or tasks j no_task).name
unnamed_so name [] none j inside = absurd (omega (arith, inside))
unnamed_so name (task ∷ tasks) none zero inside = λ same.
    let parts = or_parts (bytes_eq task.name name) (has_name name tasks) none in
    true≢false (sym ((bytes_tell task.name name).then (sym same)) ∙ parts.0)
unnamed_so name (task ∷ tasks) none (suc j) inside =
    unnamed_so name tasks (or_parts (bytes_eq task.name name) (has_name name tasks) none).1 j (omega (arith, inside))

own_so : (tasks : List Task) → have_own_names tasks ≡ true → HaveOwnNames tasks
own_so [] e i j order inside = absurd (omega (arith, inside))
own_so (task ∷ tasks) e i zero order inside = absurd (omega (arith, order))
own_so (task ∷ tasks) e zero (suc j) order inside =
    unnamed_so task.name tasks (not_true (has_name task.name tasks) (and_parts (not (has_name task.name tasks)) (have_own_names tasks) e).0) j (omega (arith, inside))
own_so (task ∷ tasks) e (suc i) (suc j) order inside =
    own_so tasks (and_parts (not (has_name task.name tasks)) (have_own_names tasks) e).1 i j (omega (arith, order)) (omega (arith, inside))

or_false : (a b : Bool) → a ≡ false → b ≡ false → (a || b) ≡ false
or_false a b e f = ap (λ t. t || b) e ∙ f

differ : (a b : List ℕ) → (a ≢ b) → bytes_eq a b ≡ false
differ a b never = go (bytes_eq a b) refl
  where
    go : (t : Bool) → bytes_eq a b ≡ t → t ≡ false
    go false e = refl
    go true e = absurd (never ((bytes_tell a b).so e))

unnamed_then : (name : List ℕ) (tasks : List Task) → ((j : ℕ) → j < length tasks → name ≢ (slice_index_or tasks j no_task).name) → has_name name tasks ≡ false
unnamed_then name [] h = refl
unnamed_then name (task ∷ tasks) h =
    or_false (bytes_eq task.name name) (has_name name tasks) (differ task.name name (λ same. h 0 (omega arith) (sym same)))
    (unnamed_then name tasks (λ j inside. h (suc j) (omega (arith, inside))))

own_then : (tasks : List Task) → HaveOwnNames tasks → have_own_names tasks ≡ true
own_then [] h = refl
own_then (task ∷ tasks) h =
    both (not (has_name task.name tasks)) (have_own_names tasks)
    (ap not (unnamed_then task.name tasks (λ j inside. h 0 (suc j) (omega arith) (omega (arith, inside)))))
    (own_then tasks (λ i j order inside. h (suc i) (suc j) (omega (arith, order)) (omega (arith, inside))))

pub own_names_tell : (tasks : List Task) → Tells (have_own_names tasks) (HaveOwnNames tasks)
own_names_tell tasks = record { so = own_so tasks; then = own_then tasks }
