-- The word of a node task's name.
use Rattle.prl_base.proofs.Standard.{◌≡◌, ◌++◌, ◌+◌, ◌<◌, ◌≤◌, get_or, ℕ, suc, Bool, true, false, List, [], ◌∷◌, length, refl, sym, ◌∙◌, arith, ap, subst, cond, eqb, list_all, and_parts, false≢true}
use Rattle.prl_base.proofs.Standard.{eqb-true, get_or_default}
use Rattle.prl_base.specs.Names.{IsName, is_word_byte, is_word_start}
use Rattle.prl_plan.specs.Vocabulary.{no_task, IsTaskName}
use Rattle.prl_plan.specs.declared.graphs.Edge.{Edge}
use Rattle.prl_plan.specs.declared.graphs.Kind.{Kind}
use Rattle.prl_plan.specs.declared.graphs.Task.{Task}
use Rattle.prl_plan.specs.declared.graphs.Kind.TheVariants as kinds
use Rattle.prl_values.specs.Vocabulary.{port_types, word_of}

-- `@` is no byte that passes a test which it does not pass itself
pub apart : (test : ℕ → Bool) → test 64 ≡ false → (b : ℕ) → test b ≡ true → eqb b 64 ≡ false
apart test none b is = go (eqb b 64) refl
  where
    go : (t : Bool) → eqb b 64 ≡ t → eqb b 64 ≡ false
    go false e = e
    go true e = absurd (false≢true (sym none ∙ subst (λ n. test n ≡ true) (eqb-true b 64 e) is))

word_before : (bytes rest : List ℕ) → list_all is_word_byte bytes ≡ true → word_of (bytes ++ 64 ∷ rest) ≡ bytes
word_before [] rest all = refl
word_before (b ∷ bytes) rest all =
    let parts = and_parts (is_word_byte b) (list_all is_word_byte bytes) all in
    ap (λ t. cond t [] (b ∷ word_of (bytes ++ 64 ∷ rest))) (apart is_word_byte refl b parts.0) ∙ ap (λ l. b ∷ l) (word_before bytes rest parts.1)

pub word_of_node : (name rest : List ℕ) → IsName name → word_of (name ++ 64 ∷ rest) ≡ name
word_of_node [] rest is = absurd (false≢true is.0)
word_of_node (b ∷ bytes) rest is =
    let parts = and_parts (is_word_start b) (list_all is_word_byte bytes) is.0 in
    ap (λ t. cond t [] (b ∷ word_of (bytes ++ 64 ∷ rest))) (apart is_word_start refl b parts.0) ∙ ap (λ l. b ∷ l) (word_before bytes rest parts.1)

-- it is a name
pub node_word : (kind : Kind) (k : ℕ) (name : List ℕ) → kind ≡ kinds.Node k → IsTaskName kind name → IsName (word_of name)
node_word kind k name is named =
    let node : IsTaskName (kinds.Node k) name = subst (λ (x : Kind). IsTaskName x name) is named in
    subst IsName (sym (ap word_of node.2 ∙ word_of_node node.0 _ node.1)) node.1

-- the ports of a list with an edge more
pub ports_push : (edges : List Edge) (edge : Edge) (i : ℕ) → length (port_types (edges ++ edge ∷ []) i) ≡ length (port_types edges i) + cond (eqb edge.to.0 i) 1 0
ports_push [] edge i = go (eqb edge.to.0 i)
  where
    go : (b : Bool) → length (cond b (edge.ty ∷ []) []) ≡ length (port_types [] i) + cond b 1 0
    go true = omega arith
    go false = omega arith
ports_push (x ∷ edges) edge i = go (ports_push edges edge i) (eqb x.to.0 i)
  where
    go : length (port_types (edges ++ edge ∷ []) i) ≡ length (port_types edges i) + cond (eqb edge.to.0 i) 1 0 → (b : Bool) →
        length (cond b (x.ty ∷ port_types (edges ++ edge ∷ []) i) (port_types (edges ++ edge ∷ []) i))
        ≡ length (cond b (x.ty ∷ port_types edges i) (port_types edges i)) + cond (eqb edge.to.0 i) 1 0
    go rest true = omega (arith, rest)
    go rest false = rest

-- at most as many ports as edges
pub ports_within : (edges : List Edge) (i : ℕ) → length (port_types edges i) ≤ length edges
ports_within [] i = omega arith
ports_within (x ∷ edges) i = go (ports_within edges i) (eqb x.to.0 i)
  where
    go : length (port_types edges i) ≤ length edges → (b : Bool) → length (cond b (x.ty ∷ port_types edges i) (port_types edges i)) ≤ suc (length edges)
    go rest true = omega (arith, rest)
    go rest false = omega (arith, rest)

-- a task of a graph, as it is read
pub task_read : (items tasks : List Task) (i : ℕ) (task : Task) → items ≡ tasks → i < length tasks → task ≡ get_or items i task → task ≡ get_or tasks i no_task
task_read items tasks i task same inside is = is ∙ ap (λ (xs : List Task). get_or xs i task) same ∙ get_or_default tasks i task no_task inside
