-- Each program whose names and arity are right has an expansion.
use Rattle.prl_base.proofs.Standard.{◌≡◌, ◌+◌, ◌<◌, ◌||◌, ℕ, zero, suc, Bool, true, false, List, [], ◌∷◌, ◌++◌, length, slice_get, Option, Some, None, IsSome, refl, sym, ap, ◌∙◌, subst, arith}
use Rattle.prl_base.proofs.Standard.{reverse, range_with_len, length-reverse, reverse-reverse, eq-eqb, length-range_with_len}
use Rattle.std.proofs.lemmas.List.{length-append}
use Rattle.prl_base.specs.declared.places.Span.{Span}
use Rattle.prl_ast.specs.declared.declarations.Import.{Import}
use Rattle.prl_ast.specs.Trees.{Tree, tree, Root, const, var, apply, group, Trees, none, more, EquationTree, NodeTree, ProgramTree}
use Rattle.prl_flow.proofs.Lists.{element_at}
use Rattle.prl_names.specs.Vocabulary.{is_node, applied_in, applied_root, applied_trees, applied_equations, applied_by, callee_of, index_of, node_names, import_names, node_or, IsNamed}
use Rattle.prl_names.specs.Vocabulary.{IsKnown, IsKnownRoot, AreKnown, AreKnownEquations}
use Rattle.prl_names.specs.declared.lookups.Callee.{Callee}
use Rattle.prl_names.specs.declared.lookups.Callee.TheVariants as callees
use Rattle.prl_names.proofs.Marking.{callee_below, index_below}
use Rattle.prl_causal.specs.Annotations.{Entered, entered, Rights, done, next, Part, part, Core, Parts, flows_in, right_flows, part_flows, core_flows, parts_flows, imports_in, right_imports, part_imports, core_imports, parts_imports, nodes_in, right_nodes, part_nodes, core_nodes, parts_nodes}
use Rattle.prl_causal.specs.Annotations as notes
use Rattle.prl_causal.specs.Texts as texts
use Rattle.prl_causal.specs.Texts.{node_at, node_of, IsNodeCall, IsImportCall, HasVariables, IsText, AreRights, IsPart, IsCore, AreParts}
use Rattle.prl_expand.specs.Expansions.{Expansion, IsExpansion}
use Rattle.prl_expand.proofs.Ranks.{rank, rank_falls}

-- counted from a number
abbrev pub From : ℕ → List ℕ → Type 0
From f xs = xs ≡ range_with_len f (length xs)

pub ranges : (a x y : ℕ) → range_with_len a x ++ range_with_len (a + x) y ≡ range_with_len a (x + y)
ranges a zero y =
    let here : a + 0 ≡ a = omega arith in
    let all : y ≡ 0 + y = omega arith in
    ap (λ b. range_with_len b y) here ∙ ap (range_with_len a) all
ranges a (suc x) y =
    let e : a + suc x ≡ (a + 1) + x = omega arith in
    let all : suc (x + y) ≡ suc x + y = omega arith in
    ap (λ xs. a ∷ xs) (ap (λ b. range_with_len (a + 1) x ++ range_with_len b y) e ∙ ranges (a + 1) x y) ∙ ap (range_with_len a) all

pub both_from : (f : ℕ) (xs ys : List ℕ) → From f xs → From (f + length xs) ys → From f (xs ++ ys)
both_from f xs ys a b =
    let x = length xs in
    ap (λ us. us ++ ys) a ∙ ap (λ vs. range_with_len f x ++ vs) b ∙ ranges f x (length ys) ∙ ap (range_with_len f) (sym (length-append xs ys))

pub range_from : (f n : ℕ) → From f (range_with_len f n)
range_from f n = ap (range_with_len f) (sym (length-range_with_len f n))

-- with numbers from these on
pub record Built (X : Type 0) (fs rs ns : X → List ℕ) (Good : X → Type 0) (f r n : ℕ) : Type 0 where
  pub value : X
  pub good : Good value
  pub flows : From f (fs value)
  pub imports : From r (rs value)
  pub nodes : From n (ns value)

abbrev pub BuiltNode : ProgramTree → ℕ → ℕ → ℕ → ℕ → Type 0
BuiltNode p k f r n = Built (Entered ℕ ℕ ℕ) flows_in imports_in nodes_in (IsText p k) f r n

-- how the nodes that are applied are built
abbrev pub Enters : ProgramTree → (ℕ → Bool) → Type 0
Enters p applied = (j : ℕ) → applied j ≡ true → j < length p.nodes → (f r n : ℕ) → BuiltNode p j f r n

pub true_or : (a b : Bool) → a ≡ true → (a || b) ≡ true
true_or a b h = rw h refl

pub or_true : (a b : Bool) → b ≡ true → (a || b) ≡ true
or_true true b h = refl
or_true false b h = h

pub same_node : (j : ℕ) (o : Option Callee) → o ≡ Some (callees.Node j) → is_node j o ≡ true
same_node j o e = ap (is_node j) e ∙ eq-eqb j j refl

pub import_found : (p : ProgramTree) (name : List ℕ) (j : ℕ) → callee_of p name ≡ Some (callees.Import j) → (i : Import) × (slice_get p.imports j ≡ Some i)
import_found p name j e = element_at p.imports j (below (index_of (node_names p) name) (index_of (import_names p) name) refl e)
  where
    below : (a b : Option ℕ) → b ≡ index_of (import_names p) name → node_or a b ≡ Some (callees.Import j) → j < length p.imports
    below (Some k) b is h = absurd (cc)
    below None None is h = absurd (cc)
    below None (Some i) is h =
        let same : i ≡ j = cc in
        index_below (λ (x : Import). x.name) p.imports name j (sym is ∙ ap Some same)

pub no_callee : (o : Option Callee) → IsSome o → o ≡ None → ⊥
no_callee None h e = cc
no_callee (Some c) h e = cc

module _ (p : ProgramTree) (k : ℕ) where
  -- an application, after its arguments
  build_call : (name : List ℕ) (at : Span) (args : Trees) → (f r n : ℕ) → (a : Built (Parts ℕ ℕ ℕ) parts_flows parts_imports parts_nodes (AreParts p args) f r n)
      → (o : Option Callee) → callee_of p name ≡ o → IsSome (callee_of p name) → ((j : ℕ) → callee_of p name ≡ Some (callees.Node j) → j < length p.nodes → (f r n : ℕ) → BuiltNode p j f r n)
      → Built (Core ℕ ℕ ℕ) core_flows core_imports core_nodes (IsCore p (apply name at args)) f r n
  build_call name at args f r n a None e known enter = absurd (no_callee (callee_of p name) known e)
  build_call name at args f r n a (Some (callees.Import j)) e known enter =
      let i = import_found p name j e in
      let f1 : ℕ = f + length (parts_flows a.value) in
      let r1 : ℕ = r + length (parts_imports a.value) in
      let outs : List ℕ = range_with_len f1 (length i.0.outs) in
      record {
        value = notes.import a.value r1 outs;
        good = (subst (λ (c : Option Callee). IsImportCall p (length outs) c) (sym e) (i.0, i.1, length-range_with_len f1 (length i.0.outs)), a.good);
        flows = both_from f (parts_flows a.value) outs a.flows (range_from f1 (length i.0.outs));
        imports = both_from r (parts_imports a.value) (r1 ∷ []) a.imports refl;
        nodes = a.nodes;
      }
  build_call name at args f r n a (Some (callees.Node j)) e known enter =
      let n1 : ℕ = n + length (parts_nodes a.value) in
      let c = enter j e (callee_below p name j e) (f + length (parts_flows a.value)) (r + length (parts_imports a.value)) (n1 + 1) in
      record {
        value = notes.node a.value n1 c.value;
        good = (subst IsNodeCall (sym e) tt, a.good, subst (λ (o : Option Callee). IsText p (node_of o) c.value) (sym e) c.good);
        flows = both_from f (parts_flows a.value) (flows_in c.value) a.flows c.flows;
        imports = both_from r (parts_imports a.value) (imports_in c.value) a.imports c.imports;
        nodes = both_from n (parts_nodes a.value) (n1 ∷ nodes_in c.value) a.nodes (ap (λ ns. n1 ∷ ns) c.nodes);
      }

  mutual
    build_part : (t : Tree) → IsKnown p k t → Enters p (λ j. applied_in p j t) → (f r n : ℕ) → Built (Part ℕ ℕ ℕ) part_flows part_imports part_nodes (IsPart p t) f r n
    build_part (tree pre root post at) known enter f r n =
        let c = build_root root known enter f r n in
        let f1 : ℕ = f + length (core_flows c.value) in
        let posts : List ℕ = range_with_len f1 (length post) in
        let f2 : ℕ = f + length (core_flows c.value ++ posts) in
        let pres : List ℕ = reverse (range_with_len f2 (length pre)) in
        let back : From f2 (reverse pres) = subst (From f2) (sym (reverse-reverse (range_with_len f2 (length pre)))) (range_from f2 (length pre)) in
        record {
          value = part pres c.value posts;
          good = (length-reverse (range_with_len f2 (length pre)) ∙ length-range_with_len f2 (length pre), c.good, length-range_with_len f1 (length post));
          flows = both_from f (core_flows c.value ++ posts) (reverse pres) (both_from f (core_flows c.value) posts c.flows (range_from f1 (length post))) back;
          imports = c.imports;
          nodes = c.nodes;
        }

    build_root : (root : Root) → IsKnownRoot p k root → Enters p (λ j. applied_root p j root) → (f r n : ℕ) → Built (Core ℕ ℕ ℕ) core_flows core_imports core_nodes (IsCore p root) f r n
    build_root (const v) known enter f r n = record { value = notes.constant f; good = tt; flows = refl; imports = refl; nodes = refl }
    build_root (var name) known enter f r n = record { value = notes.name; good = tt; flows = refl; imports = refl; nodes = refl }
    build_root (apply name at args) known enter f r n =
        let a = build_all args known.1 (λ j h below. enter j (or_true (is_node j (callee_of p name)) (applied_trees p j args) h) below) f r n in
        build_call name at args f r n a (callee_of p name) refl known.0
        (λ j e below. enter j (true_or (is_node j (callee_of p name)) (applied_trees p j args) (same_node j (callee_of p name) e)) below)
    build_root (group parts) known enter f r n =
        let a = build_all parts known enter f r n in
        record { value = notes.group a.value; good = a.good; flows = a.flows; imports = a.imports; nodes = a.nodes }

    build_all : (ts : Trees) → AreKnown p k ts → Enters p (λ j. applied_trees p j ts) → (f r n : ℕ) → Built (Parts ℕ ℕ ℕ) parts_flows parts_imports parts_nodes (AreParts p ts) f r n
    build_all none known enter f r n = record { value = notes.none; good = tt; flows = refl; imports = refl; nodes = refl }
    build_all (more t ts) known enter f r n =
        let a = build_part t known.0 (λ j h below. enter j (true_or (applied_in p j t) (applied_trees p j ts) h) below) f r n in
        let b = build_all ts known.1 (λ j h below. enter j (or_true (applied_in p j t) (applied_trees p j ts) h) below)
        (f + length (part_flows a.value)) (r + length (part_imports a.value)) (n + length (part_nodes a.value)) in
        record {
          value = notes.more a.value b.value;
          good = (a.good, b.good);
          flows = both_from f (part_flows a.value) (parts_flows b.value) a.flows b.flows;
          imports = both_from r (part_imports a.value) (parts_imports b.value) a.imports b.imports;
          nodes = both_from n (part_nodes a.value) (parts_nodes b.value) a.nodes b.nodes;
        }

  build_rights : (es : List EquationTree) → AreKnownEquations p k es → Enters p (λ j. applied_equations p j es) → (f r n : ℕ) → Built (Rights ℕ ℕ ℕ) right_flows right_imports right_nodes (AreRights p es) f r n
  build_rights [] known enter f r n = record { value = done; good = tt; flows = refl; imports = refl; nodes = refl }
  build_rights (e ∷ es) known enter f r n =
      let a = build_part e.right known.1 (λ j h below. enter j (true_or (applied_in p j e.right) (applied_equations p j es) h) below) f r n in
      let b = build_rights es known.2 (λ j h below. enter j (or_true (applied_in p j e.right) (applied_equations p j es) h) below)
      (f + length (part_flows a.value)) (r + length (part_imports a.value)) (n + length (part_nodes a.value)) in
      record {
        value = next a.value b.value;
        good = (a.good, b.good);
        flows = both_from f (part_flows a.value) (right_flows b.value) a.flows b.flows;
        imports = both_from r (part_imports a.value) (right_imports b.value) a.imports b.imports;
        nodes = both_from n (part_nodes a.value) (right_nodes b.value) a.nodes b.nodes;
      }

-- a node, where each node that it applies can be built
build_entered : (p : ProgramTree) (k : ℕ) (d : NodeTree) → slice_get p.nodes k ≡ Some d → AreKnownEquations p k d.eqs → Enters p (λ j. applied_equations p j d.eqs) → (f r n : ℕ) → BuiltNode p k f r n
build_entered p k d found known enter f r n =
    let ins : List ℕ = range_with_len f (length d.ins) in
    let outs : List ℕ = range_with_len (f + length ins) (length d.outs) in
    let locals : List ℕ = range_with_len (f + length (ins ++ outs)) (length d.locals) in
    let env : List ℕ = (ins ++ outs) ++ locals in
    let rs = build_rights p k d.eqs known enter (f + length env) r n in
    let io : From f (ins ++ outs) = both_from f ins outs (range_from f (length d.ins)) (range_from (f + length ins) (length d.outs)) in
    let iol : From f env = both_from f (ins ++ outs) locals io (range_from (f + length (ins ++ outs)) (length d.locals)) in
    let has : HasVariables (Some d) (length ins) (length outs) (length locals) =
    (length-range_with_len f (length d.ins), length-range_with_len (f + length ins) (length d.outs), length-range_with_len (f + length (ins ++ outs)) (length d.locals)) in
    let at : node_at p k ≡ d = ap texts.node_or found in
    record {
      value = entered ins outs locals rs.value;
      good = (
        subst (λ (o : Option NodeTree). HasVariables o (length ins) (length outs) (length locals)) (sym found) has,
        subst (λ (x : NodeTree). AreRights p x.eqs rs.value) (sym at) rs.good,
      );
      flows = both_from f env (right_flows rs.value) iol rs.flows;
      imports = rs.imports;
      nodes = rs.nodes;
    }

module _ (p : ProgramTree) (main : ℕ) (right : IsNamed p main) where
  -- nodes that reach fewer nodes are built first
  build : (fuel k : ℕ) → rank p k < fuel → k < length p.nodes → (f r n : ℕ) → BuiltNode p k f r n
  build zero k small below f r n = absurd (omega (arith, small))
  build (suc fuel) k small below f r n =
      let d = element_at p.nodes k below in
      build_entered p k d.0 d.1 (right.nodes k d.0 d.1).known
      (λ j applied there g s m.
      build fuel j (omega (arith, small, rank_falls p right.acyclic k j (ap (applied_by p j) d.1 ∙ applied) there)) there g s m)
      f r n

  pub expansion : (e : Expansion) × IsExpansion p main e
  expansion =
      let b = build (suc (rank p main)) main (omega arith) right.main_below 0 0 0 in
      (b.value, record { text = b.good; flows = b.flows; imports = b.imports; nodes = b.nodes })
