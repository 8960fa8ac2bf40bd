-- A node reaches another exactly where a way through the first `k` nodes leads there, for `k` the number of nodes.
use Rattle.prl_base.proofs.Standard.{◌≡◌, ◌<◌, ◌||◌, ◌&&◌, ◌⊎◌, ℕ, ◌+◌, zero, suc, Bool, true, false, cond, List, [], ◌∷◌, length, refl, sym, ◌∙◌, subst, Some, None, arith, inl, inr, ⊎_elim, cases_lt}
use Rattle.prl_base.proofs.Standard.{false≢true, or_cases, and_parts, eqb-true, slice_get_within}
use Rattle.std.specs.List.{slice_get}
use Rattle.prl_ast.specs.Trees.{Tree, tree, Root, const, var, apply, group, Trees, none, more, EquationTree, NodeTree, ProgramTree}
use Rattle.prl_names.specs.declared.lookups.Callee.TheVariants as callees
use Rattle.prl_names.specs.Applications.{is_node, applied_in, applied_root, applied_trees, applied_equations, applied_by, applies, Reaches, once, then, reaches_by, reaches, recursive_from, recursive_of}
use Rattle.prl_names.specs.Lookups.{callee_of}
use Rattle.prl_names.proofs.Marking.{callee_below}

or_left : (a b : Bool) → a ≡ true → (a || b) ≡ true
or_left a b h = rw h refl

or_right : (a b : Bool) → b ≡ true → (a || b) ≡ true
or_right true b h = refl
or_right false b h = h

both : (a b : Bool) → a ≡ true → b ≡ true → (a && b) ≡ true
both a b h k = rw (h, k) refl

-- a way with none but the first k between is one with none but the first k + 1
wider : (p : ProgramTree) (k i j : ℕ) → reaches_by p k i j ≡ true → reaches_by p (suc k) i j ≡ true
unfolding reaches_by
wider p k i j h = or_left (reaches_by p k i j) (reaches_by p k i k && reaches_by p k k j) h

through : (p : ProgramTree) (k i j : ℕ) → reaches_by p k i k ≡ true → reaches_by p k k j ≡ true → reaches_by p (suc k) i j ≡ true
unfolding reaches_by
through p k i j h g = or_right (reaches_by p k i j) (reaches_by p k i k && reaches_by p k k j) (both (reaches_by p k i k) (reaches_by p k k j) h g)

split : (p : ProgramTree) (k i j : ℕ) → reaches_by p (suc k) i j ≡ true → (reaches_by p k i j ≡ true) ⊎ ((reaches_by p k i k ≡ true) × (reaches_by p k k j ≡ true))
unfolding reaches_by
split p k i j h =
    ⊎_elim (λ a. inl a) (λ b. inr (and_parts (reaches_by p k i k) (reaches_by p k k j) b)) (or_cases (reaches_by p k i j) (reaches_by p k i k && reaches_by p k k j) h)

lower_or_last : (k m : ℕ) → m < suc k → (m < k) ⊎ (m ≡ k)
lower_or_last k m below = ⊎_elim (λ a. inl a) (λ b. inr (omega arith)) (cases_lt m k)

-- two ways that meet at one of the first k nodes are one
joined : (p : ProgramTree) (k i m j : ℕ) → m < k → reaches_by p k i m ≡ true → reaches_by p k m j ≡ true → reaches_by p k i j ≡ true
joined p zero i m j below h g = absurd (omega arith)
joined p (suc k) i m j below h g =
    ⊎_elim
    (λ lower.
    (⊎_elim
    (λ a. ⊎_elim
    (λ b. wider p k i j (joined p k i m j lower a b))
    (λ b. through p k i j (joined p k i m k lower a b.0) b.1)
    (split p k m j g))
    (λ a. ⊎_elim
    (λ b. through p k i j a.0 (joined p k k m j lower a.1 b))
    (λ b. through p k i j a.0 b.1)
    (split p k m j g))
    (split p k i m h)))
    (λ last.
    (let here : reaches_by p k i k ≡ true = ⊎_elim (λ a. subst (λ x. reaches_by p k i x ≡ true) last a) (λ a. a.0) (split p k i m h) in
    let there : reaches_by p k k j ≡ true = ⊎_elim (λ b. subst (λ x. reaches_by p k x j ≡ true) last b) (λ b. b.1) (split p k m j g) in
    through p k i j here there))
    (lower_or_last k m below)

-- an application gives both nodes an index in the list
applies_below : (p : ProgramTree) (i j : ℕ) → applies p i j ≡ true → i < length p.nodes
applies_below p i j h =
    elim (slice_get p.nodes i) as (λ o. slice_get p.nodes i ≡ o → applied_by p j o ≡ true → i < length p.nodes) [
      | Some n ↦ λ e g. slice_get_within p.nodes i n e
      | None ↦ λ e g. absurd (false≢true g)
    ] refl h

node_below : (p : ProgramTree) (j : ℕ) (name : List ℕ) → is_node j (callee_of p name) ≡ true → j < length p.nodes
node_below p j name h =
    elim (callee_of p name) as (λ o. callee_of p name ≡ o → is_node j o ≡ true → j < length p.nodes) [
      | Some callee ↦ λ e.
          elim callee as (λ x. callee_of p name ≡ Some x → is_node j (Some x) ≡ true → j < length p.nodes) [
            | callees.Node k ↦ λ named g. (let below = callee_below p name k named in let same : k ≡ j = eqb-true k j g in omega arith)
            | callees.Import k ↦ λ named g. absurd (false≢true g)
          ] e
      | None ↦ λ e g. absurd (false≢true g)
    ] refl h

mutual
  applied_below : (p : ProgramTree) (j : ℕ) (t : Tree) → applied_in p j t ≡ true → j < length p.nodes
  applied_below p j (tree pre root post at) h = root_below p j root h

  root_below : (p : ProgramTree) (j : ℕ) (r : Root) → applied_root p j r ≡ true → j < length p.nodes
  root_below p j (const v) h = absurd (false≢true h)
  root_below p j (var name) h = absurd (false≢true h)
  root_below p j (apply name at args) h =
      ⊎_elim (λ a. node_below p j name a) (λ b. trees_below p j args b) (or_cases (is_node j (callee_of p name)) (applied_trees p j args) h)
  root_below p j (group parts) h = trees_below p j parts h

  trees_below : (p : ProgramTree) (j : ℕ) (ts : Trees) → applied_trees p j ts ≡ true → j < length p.nodes
  trees_below p j none h = absurd (false≢true h)
  trees_below p j (more t ts) h = ⊎_elim (λ a. applied_below p j t a) (λ b. trees_below p j ts b) (or_cases (applied_in p j t) (applied_trees p j ts) h)

equations_below : (p : ProgramTree) (j : ℕ) (es : List EquationTree) → applied_equations p j es ≡ true → j < length p.nodes
equations_below p j [] h = absurd (false≢true h)
equations_below p j (e ∷ es) h =
    ⊎_elim (λ a. applied_below p j e.right a) (λ b. equations_below p j es b) (or_cases (applied_in p j e.right) (applied_equations p j es) h)

applied_node_below : (p : ProgramTree) (i j : ℕ) → applies p i j ≡ true → j < length p.nodes
applied_node_below p i j h =
    elim (slice_get p.nodes i) as (λ o. applied_by p j o ≡ true → j < length p.nodes) [
      | Some n ↦ λ g. equations_below p j n.eqs g
      | None ↦ λ g. absurd (false≢true g)
    ] h

one_step : (p : ProgramTree) (k i j : ℕ) → applies p i j ≡ true → reaches_by p k i j ≡ true
unfolding reaches_by
one_step p zero i j h = h
one_step p (suc k) i j h = wider p k i j (one_step p k i j h)

pub reached : (p : ProgramTree) (i j : ℕ) → Reaches p i j → (i < length p.nodes) × (reaches p i j ≡ true)
reached p i j (once by node h) = (applies_below p i j h, one_step p (length p.nodes) i j h)
reached p i j (then by m node h r) =
    (applies_below p i m h, joined p (length p.nodes) i m j (applied_node_below p i m h) (one_step p (length p.nodes) i m h) (reached p m j r).1)

onward : (p : ProgramTree) (i m j : ℕ) → Reaches p i m → Reaches p m j → Reaches p i j
onward p i m j (once by node h) second = then i m j h second
onward p i m j (then by n node h r) second = then i n j h (onward p n m j r second)

way : (p : ProgramTree) (k i j : ℕ) → reaches_by p k i j ≡ true → Reaches p i j
unfolding reaches_by
way p zero i j h = once i j h
way p (suc k) i j h = ⊎_elim (λ a. way p k i j a) (λ b. onward p i k j (way p k i k b.0) (way p k k j b.1)) (split p k i j h)

pub reaching : (p : ProgramTree) (i j : ℕ) → reaches p i j ≡ true → Reaches p i j
reaching p i j h = way p (length p.nodes) i j h

not_itself_from : (p : ProgramTree) (k i : ℕ) (ns : List NodeTree) → recursive_from p k ns ≡ None → i < length ns → reaches p (k + i) (k + i) ≡ false
not_itself_from p k i [] nobody below = absurd (omega arith)
not_itself_from p k zero (n ∷ ns) nobody below =
    let same : k ≡ k + 0 = omega arith in
    elim (reaches p k k) as (λ b. reaches p k k ≡ b → cond b (Some n.name) (recursive_from p (k + 1) ns) ≡ None → reaches p (k + 0) (k + 0) ≡ false) [
      | true ↦ λ e is. cc
      | false ↦ λ e is. subst (λ m. reaches p m m ≡ false) same e
    ] refl nobody
not_itself_from p k (suc j) (n ∷ ns) nobody below =
    let same : (k + 1) + j ≡ k + suc j = omega arith in
    elim (reaches p k k) as (λ b. cond b (Some n.name) (recursive_from p (k + 1) ns) ≡ None → reaches p (k + suc j) (k + suc j) ≡ false) [
      | true ↦ λ is. cc
      | false ↦ λ is. subst (λ m. reaches p m m ≡ false) same (not_itself_from p (k + 1) j ns is (omega arith))
    ] nobody

pub acyclic : (p : ProgramTree) → recursive_of p ≡ None → (i : ℕ) → Reaches p i i → ⊥
unfolding recursive_of
acyclic p nobody i itself =
    let found = reached p i i itself in
    let start : 0 + i ≡ i = omega arith in
    false≢true (sym (subst (λ m. reaches p m m ≡ false) start (not_itself_from p 0 i p.nodes nobody found.0)) ∙ found.1)
