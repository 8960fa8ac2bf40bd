-- Parts of what fits, and nodes for which the levels suffice.
use Rattle.prl_base.proofs.Standard.{◌≡◌, ◌+◌, ◌<◌, ◌≤◌, ℕ, zero, suc, Bool, true, false, List, [], ◌∷◌, length, map, slice_get, Option, Some, None, IsSome, refl, sym, ap, ◌∙◌, subst, arith}
use Rattle.prl_base.proofs.Standard.{AllByRecursion, slice_get_within}
use Rattle.prl_base.specs.declared.places.Span.{Span}
use Rattle.prl_ast.specs.Vocabulary.{IsImportInRange, IsNodeInRange, Tree, tree_of, Root, const, var, apply, group, Trees, none, more, equation_tree, NodeTree, ProgramTree}
use Rattle.prl_ast.specs.Trees.{tree}
use Rattle.prl_ast.specs.declared.declarations.Equation.{Equation}
use Rattle.prl_ast.specs.declared.declarations.Import.{Import}
use Rattle.prl_ast.specs.declared.declarations.Param.{Param}
use Rattle.prl_names.specs.Vocabulary.{is_node, applied_in, applied_trees, applied_equations, applied_by, applies, reaches, callee_of, index_of, param_at, param_names, params_of, IsNamed}
use Rattle.prl_names.specs.declared.lookups.Callee.TheVariants as callees
use Rattle.prl_names.proofs.Marking.{callee_below, index_below}
use Rattle.prl_causal.specs.Texts.{node_at, node_or}
use Rattle.prl_expand.proofs.Existence.{true_or, or_true, same_node, import_found}
use Rattle.prl_expand.proofs.Lists.{all_both}
use Rattle.prl_expand.proofs.Ranks.{rank, rank_falls, passing, one_if}
use Rattle.prl_expand.specs.code.Acts.{act_of, acts_of, all_steps, root_steps, steps_of}
use Rattle.prl_expand.specs.declared.steps.Step.{Step}
use Rattle.prl_expand.specs.Vocabulary.{Next, IsFew, IsFewBefore, ActFits, CallFits, EquationsFit, IsSound, MayApply, MayEnter, RootFits, TreeFits, TreesFit}

-- a node that reaches fewer nodes than there are levels
ranked : (p : ProgramTree) (main : ℕ) → IsNamed p main → (levels k : ℕ) → rank p k < levels → MayEnter p levels k
ranked p main named zero k h = absurd (omega (arith, h))
ranked p main named (suc levels) k h = λ j applied below. ranked p main named levels j (omega (arith, h, rank_falls p named.acyclic k j applied below))

one_few : (b : Bool) → one_if b ≤ 1
one_few true = omega arith
one_few false = omega arith

passing_few : (f : ℕ → Bool) (m : ℕ) → passing f m ≤ m
passing_few f zero = omega arith
passing_few f (suc m) = omega (arith, passing_few f m, one_few (f m))

-- as many levels as there are nodes
pub all_levels : (p : ProgramTree) (main k : ℕ) → IsNamed p main → MayApply p (length p.nodes) (λ j. applies p k j)
all_levels p main k named =
    λ j applied below. ranked p main named (length p.nodes) j (omega (arith, rank_falls p named.acyclic k j applied below, passing_few (reaches p k) (length p.nodes)))

module _ (p : ProgramTree) (levels k : ℕ) where
  pub call_fits : (name : List ℕ) (at : Span) (args : Trees) → RootFits p levels k (apply name at args) → CallFits p levels name
  call_fits name at args h = record {
    known = h.known.0;
    reach = λ j e. h.reach j (true_or (is_node j (callee_of p name)) (applied_trees p j args) (same_node j (callee_of p name) e)) (callee_below p name j e);
  }

  mutual
    -- each step of an expression that fits
    pub tree_acts : (t : Tree) → TreeFits p levels k t → AllByRecursion (ActFits p levels k) (steps_of t)
    tree_acts (tree pre root post at) h = (
      tt,
      all_both (ActFits p levels k) (root_steps root) (Some (tree pre root post at) ∷ []) (root_acts root (record { known = h.known; reach = h.reach })) (h, tt),
    )

    root_acts : (root : Root) → RootFits p levels k root → AllByRecursion (ActFits p levels k) (root_steps root)
    root_acts (const v) h = tt
    root_acts (var name) h = tt
    root_acts (apply name at args) h =
        trees_acts args (record {
          known = h.known.1;
          reach = λ j applied below. h.reach j (or_true (is_node j (callee_of p name)) (applied_trees p j args) applied) below;
        })
    root_acts (group parts) h = trees_acts parts (record { known = h.known; reach = h.reach })

    trees_acts : (ts : Trees) → TreesFit p levels k ts → AllByRecursion (ActFits p levels k) (all_steps ts)
    trees_acts none h = tt
    trees_acts (more t ts) h =
        all_both (ActFits p levels k) (steps_of t) (all_steps ts)
        (tree_acts t (record {
          known = h.known.0;
          reach = λ j applied below. h.reach j (true_or (applied_in p j t) (applied_trees p j ts) applied) below;
        }))
        (trees_acts ts (record {
          known = h.known.1;
          reach = λ j applied below. h.reach j (or_true (applied_in p j t) (applied_trees p j ts) applied) below;
        }))

  pub right_fits : (es : List Equation) (i : ℕ) (e : Equation) → slice_get es i ≡ Some e → EquationsFit p levels k (map equation_tree es) → TreeFits p levels k (tree_of e.right)
  right_fits [] i e found h = cc
  right_fits (x ∷ es) zero e found h =
      let same : x ≡ e = cc in
      subst (λ (o : Equation). TreeFits p levels k (tree_of o.right)) same (record {
        known = h.known.1;
        reach = λ j applied below. h.reach j (true_or (applied_in p j (tree_of x.right)) (applied_equations p j (map equation_tree es)) applied) below;
      })
  right_fits (x ∷ es) (suc i) e found h = right_fits es i e found (record {
    known = h.known.2;
    reach = λ j applied below. h.reach j (or_true (applied_in p j (tree_of x.right)) (applied_equations p j (map equation_tree es)) applied) below;
  })

  -- the step of this index
  pub act_fits : (steps : List Step) (i : ℕ) (x : Step) → slice_get steps i ≡ Some x → AllByRecursion (ActFits p levels k) (acts_of steps) → ActFits p levels k (act_of x)
  act_fits [] i x found h = cc
  act_fits (y ∷ steps) zero x found h = let same : y ≡ x = cc in subst (λ (o : Step). ActFits p levels k (act_of o)) same h.0
  act_fits (y ∷ steps) (suc i) x found h = act_fits steps i x found h.1

-- the element, where all are so
all_at : {A : Type 0} (P : A → Type 0) (xs : List A) (i : ℕ) (x : A) → slice_get xs i ≡ Some x → AllByRecursion P xs → P x
all_at P [] i x found h = cc
all_at P (y ∷ xs) zero x found h = let same : y ≡ x = cc in subst P same h.0
all_at P (y ∷ xs) (suc i) x found h = all_at P xs i x found h.1

pub equations_fit : (p : ProgramTree) (levels k : ℕ) (d : NodeTree) → IsSound p → slice_get p.nodes k ≡ Some d → MayApply p levels (λ j. applies p k j) → EquationsFit p levels k d.eqs
equations_fit p levels k d sound found reach = record {
  known = (sound.named.nodes k d found).known;
  reach = λ j applied below. reach j (ap (applied_by p j) found ∙ applied) below;
}

pub levels_left : (p : ProgramTree) (levels j : ℕ) → MayEnter p levels j → 0 < levels
levels_left p zero j h = absurd h
levels_left p (suc levels) j h = omega arith

pub may_apply : (p : ProgramTree) (levels left j : ℕ) → levels ≡ left + 1 → MayEnter p levels j → MayApply p left (λ i. applies p j i)
may_apply p zero left j e h = absurd h
may_apply p (suc levels) left j e h =
    let same : levels ≡ left = omega (arith, e) in
    subst (λ n. MayApply p n (λ i. applies p j i)) same h

pub few_nodes : (p : ProgramTree) (k : ℕ) → IsSound p → k < length p.nodes → k < 256
few_nodes p k sound below = omega (arith, below, sound.range.few)

pub import_below : (p : ProgramTree) (name : List ℕ) (j : ℕ) → callee_of p name ≡ Some (callees.Import j) → j < length p.imports
import_below p name j e = let i = import_found p name j e in slice_get_within p.imports j i.0 i.1

is_some : {A : Type 0} (o : Option A) → IsSome o → (x : A) × (o ≡ Some x)
is_some None h = cc
is_some (Some x) h = (x, refl)

-- where the variable stands
pub variable_at : (p : ProgramTree) (k : ℕ) (name : List ℕ) (d : NodeTree) → slice_get p.nodes k ≡ Some d → IsSome (param_at p k name) → (i : ℕ) × (param_at p k name ≡ Some i) × (i < length (params_of (node_at p k)))
variable_at p k name d found known =
    let there = is_some (param_at p k name) known in
    let here : param_at p k name ≡ index_of (param_names d) name = cc in
    let at : node_at p k ≡ d = ap node_or found in
    (there.0, there.1, subst (λ (n : NodeTree). there.0 < length (params_of n)) (sym at) (index_below (λ (q : Param). q.name) (params_of d) name there.0 (sym here ∙ there.1)))

pub outputs_some : (p : ProgramTree) (k : ℕ) (d : NodeTree) → IsSound p → slice_get p.nodes k ≡ Some d → 1 ≤ length d.outs
outputs_some p k d sound found = (all_at IsNodeInRange p.nodes k d found sound.range.nodes).some

pub ports_some : (p : ProgramTree) (k : ℕ) (i : Import) → IsSound p → slice_get p.imports k ≡ Some i → 1 ≤ length i.outs
ports_some p k i sound found = (all_at IsImportInRange p.imports k i found sound.range.imports).some

pub node_few : (s t : Next) → t ≡ record { flow = s.flow; app = s.app; node = s.node + 1 } → IsFew s → IsFewBefore t
node_few s t e h =
    subst IsFewBefore (sym e) (record { flows = h.flows; apps = h.apps; nodes = omega (arith, h.nodes) })

-- a node has an output
pub variables_few : (s t : Next) (d : NodeTree) → t ≡ record { flow = ((s.flow + length d.ins) + length d.outs) + length d.locals; app = s.app; node = s.node }
    → ((s.flow + length d.ins) + length d.outs) + length d.locals ≤ 4096 → 1 ≤ length d.outs → IsFewBefore s → IsFew t
variables_few s t d e below some h =
    subst IsFew (sym e) (record { flows = below; apps = omega (arith, h.apps, some); nodes = omega (arith, h.nodes, some) })

-- as many more flows and one more application, of which the flows are outputs
pub import_few : (s : Next) (n : ℕ) → s.flow + n ≤ 4096 → 1 ≤ n → IsFew s → IsFew (record { flow = s.flow + n; app = s.app + 1; node = s.node })
import_few s n below some h =
    record { flows = below; apps = omega (arith, h.apps, some); nodes = omega (arith, h.nodes) }

-- more flows
pub more_few : (s : Next) (n m : ℕ) → (s.flow + n) + m ≤ 4096 → IsFew s → IsFew (record { flow = (s.flow + n) + m; app = s.app; node = s.node })
more_few s n m below h =
    record { flows = below; apps = omega (arith, h.apps); nodes = omega (arith, h.nodes) }
