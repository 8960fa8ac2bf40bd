-- What is numbered from the first on is the expansion.
use Rattle.prl_base.proofs.Standard.{◌≡◌, ◌+◌, ◌<◌, ◌≤◌, ℕ, zero, suc, Bool, true, false, List, [], ◌∷◌, ◌++◌, length, slice_get, Option, Some, None, IsSome, refl, sym, ap, ◌∙◌, subst, arith, reverse}
use Rattle.prl_base.proofs.Standard.{range_with_len, length-reverse, reverse-reverse, length-range_with_len}
use Rattle.std.proofs.lemmas.List.{length-append}
use Rattle.prl_base.specs.declared.places.Span.{Span}
use Rattle.prl_ast.specs.declared.declarations.Import.{Import}
use Rattle.prl_ast.specs.Trees.{Tree, tree, Root, const, var, apply, group, Trees, none, more, EquationTree, NodeTree, ProgramTree}
use Rattle.prl_flow.proofs.Lists.{element_at}
use Rattle.prl_names.specs.Vocabulary.{is_node, applied_in, applied_root, applied_trees, applied_equations, applied_by, applies, callee_of, IsNamed, IsKnown, IsKnownRoot, AreKnown, AreKnownEquations}
use Rattle.prl_names.specs.declared.lookups.Callee.{Callee}
use Rattle.prl_names.specs.declared.lookups.Callee.TheVariants as callees
use Rattle.prl_names.proofs.Marking.{callee_below}
use Rattle.prl_causal.specs.Annotations.{Entered, Rights, Part, Core, Parts, flows_in, right_flows, part_flows, core_flows, parts_flows, imports_in, right_imports, part_imports, core_imports, parts_imports, nodes_in, right_nodes, part_nodes, core_nodes, parts_nodes}
use Rattle.prl_causal.specs.Texts as texts
use Rattle.prl_causal.specs.Texts.{node_at, node_of, IsNodeCall, IsImportCall, HasVariables, IsText, AreRights, IsPart, IsCore, AreParts}
use Rattle.prl_expand.specs.Vocabulary.{IsExpansion, ports_of, Next, ExpandFault, IsPast, a_node, Enter, all_from, called, entered_from, node_from, part_from, past_part, past_parts, rights_from}
use Rattle.prl_expand.specs.Vocabulary.{root_from, IsExpandFault}
use Rattle.prl_expand.proofs.Existence.{From, both_from, range_from, true_or, or_true, same_node, import_found, no_callee}
use Rattle.prl_expand.proofs.Ranks.{one_if, passing, rank, rank_falls}
use Rattle.prl_expand.specs.declared.counts.ExpandFault.TheVariants as faults

-- with numbers from these on
record IsBuilt (X : Type 0) (fs rs ns : X → List ℕ) (Good : X → Type 0) (s : Next) (value : X) : Type 0 where
  good : Good value
  flows : From s.flow (fs value)
  imports : From s.app (rs value)
  nodes : From s.node (ns value)

abbrev IsNode : ProgramTree → ℕ → Next → Entered ℕ ℕ ℕ → Type 0
IsNode p k = IsBuilt (Entered ℕ ℕ ℕ) flows_in imports_in nodes_in (IsText p k)

-- the nodes that are applied are entered so
abbrev Enters : ProgramTree → Enter → (ℕ → Bool) → Type 0
Enters p enter applied = (j : ℕ) → applied j ≡ true → j < length p.nodes → (s : Next) → IsNode p j s (enter j s)

module _ (p : ProgramTree) (enter : Enter) (k : ℕ) where
  build_call : (name : List ℕ) (at : Span) (args : Trees) (s : Next) (qs : Parts ℕ ℕ ℕ) → IsBuilt (Parts ℕ ℕ ℕ) parts_flows parts_imports parts_nodes (AreParts p args) s qs
      → (o : Option Callee) → callee_of p name ≡ o → IsSome (callee_of p name) → ((j : ℕ) → callee_of p name ≡ Some (callees.Node j) → j < length p.nodes → (t : Next) → IsNode p j t (enter j t))
      → IsBuilt (Core ℕ ℕ ℕ) core_flows core_imports core_nodes (IsCore p (apply name at args)) s (called p enter o (past_parts s qs) qs)
  build_call name at args s qs a None e known enters = absurd (no_callee (callee_of p name) known e)
  build_call name at args s qs a (Some (callees.Import j)) e known enters =
      let i = import_found p name j e in
      let f1 : ℕ = s.flow + length (parts_flows qs) in
      let count : ℕ = length (ports_of (slice_get p.imports j)) in
      let outs : List ℕ = range_with_len f1 count in
      let same : count ≡ length i.0.outs = ap (λ (o : Option Import). length (ports_of o)) i.1 in
      record {
        good = (subst (λ (c : Option Callee). IsImportCall p (length outs) c) (sym e) (i.0, i.1, length-range_with_len f1 count ∙ same), a.good);
        flows = both_from s.flow (parts_flows qs) outs a.flows (range_from f1 count);
        imports = both_from s.app (parts_imports qs) ((s.app + length (parts_imports qs)) ∷ []) a.imports refl;
        nodes = a.nodes;
      }
  build_call name at args s qs a (Some (callees.Node j)) e known enters =
      let t : Next = past_parts s qs in
      let inner : Next = record { flow = t.flow; app = t.app; node = t.node + 1 } in
      let c = enters j e (callee_below p name j e) inner in
      let child : Entered ℕ ℕ ℕ = enter j inner in
      record {
        good = (subst IsNodeCall (sym e) tt, a.good, subst (λ (o : Option Callee). IsText p (node_of o) child) (sym e) c.good);
        flows = both_from s.flow (parts_flows qs) (flows_in child) a.flows c.flows;
        imports = both_from s.app (parts_imports qs) (imports_in child) a.imports c.imports;
        nodes = both_from s.node (parts_nodes qs) (t.node ∷ nodes_in child) a.nodes (ap (λ ns. t.node ∷ ns) c.nodes);
      }

  mutual
    build_part : (t : Tree) → IsKnown p k t → Enters p enter (λ j. applied_in p j t) → (s : Next) → IsBuilt (Part ℕ ℕ ℕ) part_flows part_imports part_nodes (IsPart p t) s (part_from p enter t s)
    build_part (tree pre root post at) known enters s =
        let c = build_root root known enters s in
        let value : Core ℕ ℕ ℕ = root_from p enter root s in
        let f1 : ℕ = s.flow + length (core_flows value) in
        let posts : List ℕ = range_with_len f1 (length post) in
        let f2 : ℕ = f1 + length post in
        let pres : List ℕ = reverse (range_with_len f2 (length pre)) in
        let turned : reverse pres ≡ range_with_len f2 (length pre) = reverse-reverse (range_with_len f2 (length pre)) in
        let front : From s.flow (core_flows value ++ posts) = both_from s.flow (core_flows value) posts c.flows (range_from f1 (length post)) in
        let few = length-range_with_len f1 (length post) in
        let at_is : f2 ≡ s.flow + length (core_flows value ++ posts) = omega (arith, length-append (core_flows value) posts, few) in
        let back : From f2 (reverse pres) = subst (From f2) (sym turned) (range_from f2 (length pre)) in
        record {
          good = (length-reverse (range_with_len f2 (length pre)) ∙ length-range_with_len f2 (length pre), c.good, few);
          flows = both_from s.flow (core_flows value ++ posts) (reverse pres) front (subst (λ f. From f (reverse pres)) at_is back);
          imports = c.imports;
          nodes = c.nodes;
        }

    build_root : (root : Root) → IsKnownRoot p k root → Enters p enter (λ j. applied_root p j root) → (s : Next) → IsBuilt (Core ℕ ℕ ℕ) core_flows core_imports core_nodes (IsCore p root) s (root_from p enter root s)
    build_root (const v) known enters s = record { good = tt; flows = refl; imports = refl; nodes = refl }
    build_root (var name) known enters s = record { good = tt; flows = refl; imports = refl; nodes = refl }
    build_root (apply name at args) known enters s =
        let a = build_all args known.1 (λ j h below. enters j (or_true (is_node j (callee_of p name)) (applied_trees p j args) h) below) s in
        build_call name at args s (all_from p enter args s) a (callee_of p name) refl known.0
        (λ j e below. enters j (true_or (is_node j (callee_of p name)) (applied_trees p j args) (same_node j (callee_of p name) e)) below)
    build_root (group parts) known enters s =
        let a = build_all parts known enters s in
        record { good = a.good; flows = a.flows; imports = a.imports; nodes = a.nodes }

    build_all : (ts : Trees) → AreKnown p k ts → Enters p enter (λ j. applied_trees p j ts) → (s : Next) → IsBuilt (Parts ℕ ℕ ℕ) parts_flows parts_imports parts_nodes (AreParts p ts) s (all_from p enter ts s)
    build_all none known enters s = record { good = tt; flows = refl; imports = refl; nodes = refl }
    build_all (more t ts) known enters s =
        let q : Part ℕ ℕ ℕ = part_from p enter t s in
        let a = build_part t known.0 (λ j h below. enters j (true_or (applied_in p j t) (applied_trees p j ts) h) below) s in
        let b = build_all ts known.1 (λ j h below. enters j (or_true (applied_in p j t) (applied_trees p j ts) h) below) (past_part s q) in
        let rest : Parts ℕ ℕ ℕ = all_from p enter ts (past_part s q) in
        record {
          good = (a.good, b.good);
          flows = both_from s.flow (part_flows q) (parts_flows rest) a.flows b.flows;
          imports = both_from s.app (part_imports q) (parts_imports rest) a.imports b.imports;
          nodes = both_from s.node (part_nodes q) (parts_nodes rest) a.nodes b.nodes;
        }

  build_rights : (es : List EquationTree) → AreKnownEquations p k es → Enters p enter (λ j. applied_equations p j es) → (s : Next)
      → IsBuilt (Rights ℕ ℕ ℕ) right_flows right_imports right_nodes (AreRights p es) s (rights_from p enter es s)
  build_rights [] known enters s = record { good = tt; flows = refl; imports = refl; nodes = refl }
  build_rights (e ∷ es) known enters s =
      let q : Part ℕ ℕ ℕ = part_from p enter e.right s in
      let a = build_part e.right known.1 (λ j h below. enters j (true_or (applied_in p j e.right) (applied_equations p j es) h) below) s in
      let b = build_rights es known.2 (λ j h below. enters j (or_true (applied_in p j e.right) (applied_equations p j es) h) below) (past_part s q) in
      let rest : Rights ℕ ℕ ℕ = rights_from p enter es (past_part s q) in
      record {
        good = (a.good, b.good);
        flows = both_from s.flow (part_flows q) (right_flows rest) a.flows b.flows;
        imports = both_from s.app (part_imports q) (right_imports rest) a.imports b.imports;
        nodes = both_from s.node (part_nodes q) (right_nodes rest) a.nodes b.nodes;
      }

  build_entered : (d : NodeTree) → slice_get p.nodes k ≡ Some d → AreKnownEquations p k d.eqs → Enters p enter (λ j. applied_equations p j d.eqs) → (s : Next) → IsNode p k s (node_from p enter d s)
  build_entered d found known enters s =
      let ins : List ℕ = range_with_len s.flow (length d.ins) in
      let outs : List ℕ = range_with_len (s.flow + length d.ins) (length d.outs) in
      let locals : List ℕ = range_with_len ((s.flow + length d.ins) + length d.outs) (length d.locals) in
      let env : List ℕ = (ins ++ outs) ++ locals in
      let t : Next = record { flow = ((s.flow + length d.ins) + length d.outs) + length d.locals; app = s.app; node = s.node } in
      let rs = build_rights d.eqs known enters t in
      let value : Rights ℕ ℕ ℕ = rights_from p enter d.eqs t in
      let m1 = length-range_with_len s.flow (length d.ins) in
      let m2 = length-range_with_len (s.flow + length d.ins) (length d.outs) in
      let m3 = length-range_with_len ((s.flow + length d.ins) + length d.outs) (length d.locals) in
      let j1 = length-append ins outs in
      let a1 : s.flow + length d.ins ≡ s.flow + length ins = omega (arith, m1) in
      let a2 : (s.flow + length d.ins) + length d.outs ≡ s.flow + length (ins ++ outs) = omega (arith, m1, m2, j1) in
      let a3 : t.flow ≡ s.flow + length env = omega (arith, m1, m2, m3, j1, length-append (ins ++ outs) locals) in
      let io : From s.flow (ins ++ outs) = both_from s.flow ins outs (range_from s.flow (length d.ins)) (subst (λ f. From f outs) a1 (range_from (s.flow + length d.ins) (length d.outs))) in
      let iol : From s.flow env = both_from s.flow (ins ++ outs) locals io (subst (λ f. From f locals) a2 (range_from ((s.flow + length d.ins) + length d.outs) (length d.locals))) in
      let has : HasVariables (Some d) (length ins) (length outs) (length locals) = (m1, m2, m3) in
      let at : node_at p k ≡ d = ap texts.node_or found in
      record {
        good = (
          subst (λ (o : Option NodeTree). HasVariables o (length ins) (length outs) (length locals)) (sym found) has,
          subst (λ (x : NodeTree). AreRights p x.eqs value) (sym at) rs.good,
        );
        flows = both_from s.flow env (right_flows value) iol (subst (λ f. From f (right_flows value)) a3 rs.flows);
        imports = rs.imports;
        nodes = rs.nodes;
      }

abbrev pub first : Next
first = record { flow = 0; app = 0; node = 0 }

one_most : (b : Bool) → one_if b ≤ 1
one_most true = omega arith
one_most false = omega arith

passing_most : (f : ℕ → Bool) (m : ℕ) → passing f m ≤ m
passing_most f zero = omega arith
passing_most f (suc m) = omega (arith, one_most (f m), passing_most f m)

module _ (p : ProgramTree) (main : ℕ) (right : IsNamed p main) where
  build : (fuel k : ℕ) → rank p k < fuel → k < length p.nodes → (s : Next) → IsNode p k s (entered_from p fuel k s)
  build zero k small below s = absurd (omega (arith, small))
  build (suc fuel) k small below s =
      let d = element_at p.nodes k below in
      let enters : Enters p (entered_from p fuel) (λ j. applied_equations p j d.0.eqs) = λ j applied there t.
      (build fuel j (omega (arith, small, rank_falls p right.acyclic k j (ap (applied_by p j) d.1 ∙ applied) there)) there t) in
      subst (λ x. IsNode p k s (node_from p (entered_from p fuel) x s)) (sym (ap texts.node_or d.1))
      (build_entered p (entered_from p fuel) k d.0 d.1 (right.nodes k d.0 d.1).known enters s)

  pub is_expansion : IsExpansion p main (a_node p (length p.nodes) main first)
  is_expansion =
      let b = build (suc (length p.nodes)) main (omega (arith, most)) right.main_below first in
      record { text = b.good; flows = b.flows; imports = b.imports; nodes = b.nodes }
    where
      most : rank p main ≤ length p.nodes
      most = passing_most _ (length p.nodes)

  pub past_is : (n : ℕ) (e : ExpandFault) → n ≤ length (flows_in (a_node p (length p.nodes) main first)) → IsPast n e → IsExpandFault p main e
  past_is n (faults.Limit limit) below h = (h.0, record { expansion = a_node p (length p.nodes) main first; is = is_expansion; many = omega (arith, below, h.1) })
  past_is n faults.Memory below h = tt
