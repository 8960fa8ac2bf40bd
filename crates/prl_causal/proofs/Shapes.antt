-- A text has one shape, and what stands in it in order is all that it holds.
use Rattle.prl_base.proofs.Standard.{suc, ◌≡◌, ℕ, List, [], ◌∷◌, ◌++◌, length, Option, Some, None, refl, sym, ap, ◌∙◌, arith, reverse, slice_get, length-reverse, reverse-reverse}
use Rattle.std.proofs.lemmas.List.{length-append}
use Rattle.prl_ast.specs.declared.declarations.Import.{Import}
use Rattle.prl_ast.specs.Trees.{Tree, tree, Root, const, var, apply, group, Trees, none, more, EquationTree, NodeTree, ProgramTree}
use Rattle.prl_names.specs.Lookups.{callee_of}
use Rattle.prl_names.specs.declared.lookups.Callee.{Callee}
use Rattle.prl_names.specs.declared.lookups.Callee.TheVariants as callees
use Rattle.prl_causal.specs.Annotations.{Entered, entered, Rights, done, next, Part, part, Core, Parts, flows_in, right_flows, part_flows, core_flows, parts_flows, imports_in, right_imports, part_imports, core_imports, parts_imports, nodes_in, right_nodes, part_nodes, core_nodes, parts_nodes}
use Rattle.prl_causal.specs.Annotations as notes
use Rattle.prl_causal.specs.Behaviours.{Behaviour}
use Rattle.prl_causal.proofs.Elements.{some_inner, head_same, tail_same}
use Rattle.prl_causal.specs.Texts.{node_of, IsNodeCall, IsImportCall, HasVariables, node_at, IsText, AreRights, IsPart, IsCore, AreParts}

-- two lists of one, of equal first parts
record Cut {A : Type 0} (xs ys us vs : List A) : Type 0 where
  left : xs ≡ us
  right : ys ≡ vs

cut : {A : Type 0} (xs ys us vs : List A) → length xs ≡ length us → xs ++ ys ≡ us ++ vs → Cut xs ys us vs
cut [] ys [] vs n e = record { left = refl; right = e }
cut [] ys (u ∷ us) vs n e = absurd (omega (arith, n))
cut (x ∷ xs) ys [] vs n e = absurd (omega (arith, n))
cut (x ∷ xs) ys (u ∷ us) vs n e =
    let rest = cut xs ys us vs (omega (arith, n)) (tail_same x u (xs ++ ys) (us ++ vs) e) in
    record { left = rw (head_same x u (xs ++ ys) (us ++ vs) e, rest.left) refl; right = rest.right }

same_variables : (o : Option NodeTree) (a b c d e f : ℕ) → HasVariables o a b c → HasVariables o d e f → (a ≡ d) × (b ≡ e) × (c ≡ f)
same_variables None a b c d e f x y = absurd x
same_variables (Some n) a b c d e f x y = (x.0 ∙ sym y.0, x.1 ∙ sym y.1, x.2 ∙ sym y.2)

same_outputs : (p : ProgramTree) (o : Option Callee) (a b : ℕ) → IsImportCall p a o → IsImportCall p b o → a ≡ b
same_outputs p None a b x y = absurd x
same_outputs p (Some (callees.Node k)) a b x y = absurd x
same_outputs p (Some (callees.Import k)) a b x y =
    let same : x.0 ≡ y.0 = some_inner x.0 y.0 (sym x.1 ∙ y.1) in
    x.2 ∙ ap (λ (i : Import). length i.outs) same ∙ sym y.2

-- an application is not of a node and of an import
not_both : (p : ProgramTree) (o : Option Callee) (a : ℕ) → IsImportCall p a o → IsNodeCall o → ⊥
not_both p None a x y = x
not_both p (Some (callees.Node k)) a x y = x
not_both p (Some (callees.Import k)) a x y = y

both_lengths : {A B : Type 0} (xs ys : List A) (us vs : List B) → length xs ≡ length us → length ys ≡ length vs → length (xs ++ ys) ≡ length (us ++ vs)
both_lengths xs ys us vs a b = omega (arith, a, b, length-append xs ys, length-append us vs)

one_list : {A : Type 0} (a b : List A) → reverse a ≡ reverse b → a ≡ b
one_list a b e = sym (reverse-reverse a) ∙ ap reverse e ∙ reverse-reverse b

module _ {F R N : Type 0} where
  -- as long as one another, and equal where all that they hold is
  record Alike (X : Type 0) (fs : X → List F) (rs : X → List R) (ns : X → List N) (a b : X) : Type 0 where
    flows : length (fs a) ≡ length (fs b)
    imports : length (rs a) ≡ length (rs b)
    nodes : length (ns a) ≡ length (ns b)
    same : fs a ≡ fs b → rs a ≡ rs b → ns a ≡ ns b → a ≡ b

  -- a part and a rest that are alike are so together
  two_alike : {A B : Type 0} (fs : A → List F) (rs : A → List R) (ns : A → List N) (gs : B → List F) (ss : B → List R) (ms : B → List N) (make : A → B → B)
      → ((x : A) (y : B) → gs (make x y) ≡ fs x ++ gs y) → ((x : A) (y : B) → ss (make x y) ≡ rs x ++ ss y) → ((x : A) (y : B) → ms (make x y) ≡ ns x ++ ms y)
      → (a b : A) (u v : B) → Alike A fs rs ns a b → Alike B gs ss ms u v → Alike B gs ss ms (make a u) (make b v)
  two_alike fs rs ns gs ss ms make ff rr nn a b u v l r = record {
    flows = ap length (ff a u) ∙ both_lengths (fs a) (gs u) (fs b) (gs v) l.flows r.flows ∙ sym (ap length (ff b v));
    imports = ap length (rr a u) ∙ both_lengths (rs a) (ss u) (rs b) (ss v) l.imports r.imports ∙ sym (ap length (rr b v));
    nodes = ap length (nn a u) ∙ both_lengths (ns a) (ms u) (ns b) (ms v) l.nodes r.nodes ∙ sym (ap length (nn b v));
    same = λ f i n.
        let c = cut (fs a) (gs u) (fs b) (gs v) l.flows (sym (ff a u) ∙ f ∙ ff b v) in
        let d = cut (rs a) (ss u) (rs b) (ss v) l.imports (sym (rr a u) ∙ i ∙ rr b v) in
        let k = cut (ns a) (ms u) (ns b) (ms v) l.nodes (sym (nn a u) ∙ n ∙ nn b v) in
        rw (l.same c.left d.left k.left, r.same c.right d.right k.right) refl;
  }

  mutual
    entered_alike : (p : ProgramTree) (k : ℕ) (a b : Entered F R N) → IsText p k a → IsText p k b → Alike (Entered F R N) flows_in imports_in nodes_in a b
    entered_alike p k (entered ins outs locals rights) (entered ins_b outs_b locals_b rights_b) x y =
        let v = same_variables (slice_get p.nodes k) (length ins) (length outs) (length locals) (length ins_b) (length outs_b) (length locals_b) x.0 y.0 in
        let r = rights_alike p (node_at p k).eqs rights rights_b x.1 y.1 in
        let io = both_lengths ins outs ins_b outs_b v.0 v.1 in
        let iol = both_lengths (ins ++ outs) locals (ins_b ++ outs_b) locals_b io v.2 in
        record {
          flows = both_lengths ((ins ++ outs) ++ locals) (right_flows rights) ((ins_b ++ outs_b) ++ locals_b) (right_flows rights_b) iol r.flows;
          imports = r.imports;
          nodes = r.nodes;
          same = λ e f m.
              let c = cut ((ins ++ outs) ++ locals) (right_flows rights) ((ins_b ++ outs_b) ++ locals_b) (right_flows rights_b) iol e in
              let d = cut (ins ++ outs) locals (ins_b ++ outs_b) locals_b io c.left in
              let g = cut ins outs ins_b outs_b v.0 d.left in
              rw (g.left, g.right, d.right, r.same c.right f m) refl;
        }

    rights_alike : (p : ProgramTree) (es : List EquationTree) (a b : Rights F R N) → AreRights p es a → AreRights p es b → Alike (Rights F R N) right_flows right_imports right_nodes a b
    rights_alike p [] done done x y = record { flows = refl; imports = refl; nodes = refl; same = λ e f m. refl }
    rights_alike p [] done (next q rest) x y = absurd y
    rights_alike p [] (next q rest) b x y = absurd x
    rights_alike p (e ∷ es) done b x y = absurd x
    rights_alike p (e ∷ es) (next q rest) done x y = absurd y
    rights_alike p (e ∷ es) (next q rest) (next q_b rest_b) x y =
        two_alike part_flows part_imports part_nodes right_flows right_imports right_nodes next (λ x y. refl) (λ x y. refl) (λ x y. refl) q q_b rest rest_b
        (part_alike p e.right q q_b x.0 y.0) (rights_alike p es rest rest_b x.1 y.1)

    part_alike : (p : ProgramTree) (t : Tree) (a b : Part F R N) → IsPart p t a → IsPart p t b → Alike (Part F R N) part_flows part_imports part_nodes a b
    part_alike p (tree pre root post at) (part pres core posts) (part pres_b core_b posts_b) x y =
        let c = core_alike p root core core_b x.1 y.1 in
        let posts_same : length posts ≡ length posts_b = x.2 ∙ sym y.2 in
        let pres_same : length pres ≡ length pres_b = x.0 ∙ sym y.0 in
        let turned : length (reverse pres) ≡ length (reverse pres_b) = length-reverse pres ∙ pres_same ∙ sym (length-reverse pres_b) in
        let front = both_lengths (core_flows core) posts (core_flows core_b) posts_b c.flows posts_same in
        record {
          flows = both_lengths (core_flows core ++ posts) (reverse pres) (core_flows core_b ++ posts_b) (reverse pres_b) front turned;
          imports = c.imports;
          nodes = c.nodes;
          same = λ e f m.
              let s = cut (core_flows core ++ posts) (reverse pres) (core_flows core_b ++ posts_b) (reverse pres_b) front e in
              let g = cut (core_flows core) posts (core_flows core_b) posts_b c.flows s.left in
              rw (one_list pres pres_b s.right, g.right, c.same g.left f m) refl;
        }

    core_alike : (p : ProgramTree) (root : Root) (a b : Core F R N) → IsCore p root a → IsCore p root b → Alike (Core F R N) core_flows core_imports core_nodes a b
    core_alike p (const v) (notes.constant f) (notes.constant g) x y = record { flows = refl; imports = refl; nodes = refl; same = λ e h m. ap notes.constant (head_same f g [] [] e) }
    core_alike p (var name) notes.name notes.name x y = record { flows = refl; imports = refl; nodes = refl; same = λ e h m. refl }
    core_alike p (apply name at args) (notes.import parts r outs) (notes.import parts_b r_b outs_b) x y =
        let l = parts_alike p args parts parts_b x.1 y.1 in
        let n = same_outputs p (callee_of p name) (length outs) (length outs_b) x.0 y.0 in
        record {
          flows = both_lengths (parts_flows parts) outs (parts_flows parts_b) outs_b l.flows n;
          imports = both_lengths (parts_imports parts) (r ∷ []) (parts_imports parts_b) (r_b ∷ []) l.imports refl;
          nodes = l.nodes;
          same = λ e f m.
              let c = cut (parts_flows parts) outs (parts_flows parts_b) outs_b l.flows e in
              let d = cut (parts_imports parts) (r ∷ []) (parts_imports parts_b) (r_b ∷ []) l.imports f in
              rw (l.same c.left d.left m, c.right, head_same r r_b [] [] d.right) refl;
        }
    core_alike p (apply name at args) (notes.node parts n child) (notes.node parts_b n_b child_b) x y =
        let l = parts_alike p args parts parts_b x.1 y.1 in
        let c = entered_alike p (node_of (callee_of p name)) child child_b x.2 y.2 in
        record {
          flows = both_lengths (parts_flows parts) (flows_in child) (parts_flows parts_b) (flows_in child_b) l.flows c.flows;
          imports = both_lengths (parts_imports parts) (imports_in child) (parts_imports parts_b) (imports_in child_b) l.imports c.imports;
          nodes = both_lengths (parts_nodes parts) (n ∷ nodes_in child) (parts_nodes parts_b) (n_b ∷ nodes_in child_b) l.nodes (ap suc c.nodes);
          same = λ e f m.
              let g = cut (parts_flows parts) (flows_in child) (parts_flows parts_b) (flows_in child_b) l.flows e in
              let h = cut (parts_imports parts) (imports_in child) (parts_imports parts_b) (imports_in child_b) l.imports f in
              let k = cut (parts_nodes parts) (n ∷ nodes_in child) (parts_nodes parts_b) (n_b ∷ nodes_in child_b) l.nodes m in
              rw (
                l.same g.left h.left k.left,
                head_same n n_b (nodes_in child) (nodes_in child_b) k.right,
                c.same g.right h.right (tail_same n n_b (nodes_in child) (nodes_in child_b) k.right),
              ) refl;
        }
    core_alike p (apply name at args) (notes.import parts r outs) (notes.node parts_b n child) x y = absurd (not_both p (callee_of p name) (length outs) x.0 y.0)
    core_alike p (apply name at args) (notes.node parts n child) (notes.import parts_b r outs) x y = absurd (not_both p (callee_of p name) (length outs) y.0 x.0)
    core_alike p (group args) (notes.group parts) (notes.group parts_b) x y =
        let l = parts_alike p args parts parts_b x y in
        record { flows = l.flows; imports = l.imports; nodes = l.nodes; same = λ e f m. ap notes.group (l.same e f m) }
    core_alike p (const v) (notes.constant f) notes.name x y = absurd y
    core_alike p (const v) (notes.constant f) (notes.import parts_b r_b outs_b) x y = absurd y
    core_alike p (const v) (notes.constant f) (notes.node parts_b n_b child_b) x y = absurd y
    core_alike p (const v) (notes.constant f) (notes.group parts_b) x y = absurd y
    core_alike p (const v) notes.name b x y = absurd x
    core_alike p (const v) (notes.import parts r outs) b x y = absurd x
    core_alike p (const v) (notes.node parts n child) b x y = absurd x
    core_alike p (const v) (notes.group parts) b x y = absurd x
    core_alike p (var name) notes.name (notes.constant f) x y = absurd y
    core_alike p (var name) notes.name (notes.import parts_b r_b outs_b) x y = absurd y
    core_alike p (var name) notes.name (notes.node parts_b n_b child_b) x y = absurd y
    core_alike p (var name) notes.name (notes.group parts_b) x y = absurd y
    core_alike p (var name) (notes.constant f) b x y = absurd x
    core_alike p (var name) (notes.import parts r outs) b x y = absurd x
    core_alike p (var name) (notes.node parts n child) b x y = absurd x
    core_alike p (var name) (notes.group parts) b x y = absurd x
    core_alike p (apply name at args) (notes.constant f) b x y = absurd x
    core_alike p (apply name at args) notes.name b x y = absurd x
    core_alike p (apply name at args) (notes.group parts) b x y = absurd x
    core_alike p (apply name at args) (notes.import parts r outs) (notes.constant f) x y = absurd y
    core_alike p (apply name at args) (notes.import parts r outs) notes.name x y = absurd y
    core_alike p (apply name at args) (notes.import parts r outs) (notes.group parts_b) x y = absurd y
    core_alike p (apply name at args) (notes.node parts n child) (notes.constant f) x y = absurd y
    core_alike p (apply name at args) (notes.node parts n child) notes.name x y = absurd y
    core_alike p (apply name at args) (notes.node parts n child) (notes.group parts_b) x y = absurd y
    core_alike p (group args) (notes.group parts) (notes.constant f) x y = absurd y
    core_alike p (group args) (notes.group parts) notes.name x y = absurd y
    core_alike p (group args) (notes.group parts) (notes.import parts_b r_b outs_b) x y = absurd y
    core_alike p (group args) (notes.group parts) (notes.node parts_b n_b child_b) x y = absurd y
    core_alike p (group args) (notes.constant f) b x y = absurd x
    core_alike p (group args) notes.name b x y = absurd x
    core_alike p (group args) (notes.import parts r outs) b x y = absurd x
    core_alike p (group args) (notes.node parts n child) b x y = absurd x

    parts_alike : (p : ProgramTree) (ts : Trees) (a b : Parts F R N) → AreParts p ts a → AreParts p ts b → Alike (Parts F R N) parts_flows parts_imports parts_nodes a b
    parts_alike p none notes.none notes.none x y = record { flows = refl; imports = refl; nodes = refl; same = λ e f m. refl }
    parts_alike p none notes.none (notes.more q rest) x y = absurd y
    parts_alike p none (notes.more q rest) b x y = absurd x
    parts_alike p (more t ts) notes.none b x y = absurd x
    parts_alike p (more t ts) (notes.more q rest) notes.none x y = absurd y
    parts_alike p (more t ts) (notes.more q rest) (notes.more q_b rest_b) x y =
        two_alike part_flows part_imports part_nodes parts_flows parts_imports parts_nodes notes.more (λ x y. refl) (λ x y. refl) (λ x y. refl) q q_b rest rest_b
        (part_alike p t q q_b x.0 y.0) (parts_alike p ts rest rest_b x.1 y.1)

-- two texts of a node hold as much
pub as_many : {F R N : Type 0} (p : ProgramTree) (k : ℕ) (a b : Entered F R N) → IsText p k a → IsText p k b
    → (length (flows_in a) ≡ length (flows_in b)) × (length (imports_in a) ≡ length (imports_in b)) × (length (nodes_in a) ≡ length (nodes_in b))
as_many p k a b x y = let h = entered_alike p k a b x y in (h.flows, h.imports, h.nodes)

-- what stands in a text in order is all that it holds
pub one_text : {F R N : Type 0} (p : ProgramTree) (k : ℕ) (a b : Entered F R N) → IsText p k a → IsText p k b → flows_in a ≡ flows_in b → imports_in a ≡ imports_in b → nodes_in a ≡ nodes_in b → a ≡ b
one_text p k a b x y flows imports nodes = (entered_alike p k a b x y).same flows imports nodes

-- lists of nothing, of one length
same_nothing : (xs ys : List (Unit {0})) → length xs ≡ length ys → xs ≡ ys
same_nothing [] [] e = refl
same_nothing [] (y ∷ ys) e = absurd (omega (arith, e))
same_nothing (x ∷ xs) [] e = absurd (omega (arith, e))
same_nothing (x ∷ xs) (y ∷ ys) e = ap (λ zs. tt ∷ zs) (same_nothing xs ys (omega (arith, e)))

pub one_behaviour : (p : ProgramTree) (k : ℕ) (b c : Behaviour) → IsText p k b → IsText p k c → flows_in b ≡ flows_in c → imports_in b ≡ imports_in c → b ≡ c
one_behaviour p k b c x y flows imports = one_text p k b c x y flows imports (same_nothing (nodes_in b) (nodes_in c) (as_many p k b c x y).2)

-- behaviours of one text have as many flows and registers as one another
pub as_many_flows : (p : ProgramTree) (k : ℕ) (b c : Behaviour) → IsText p k b → IsText p k c → length (flows_in b) ≡ length (flows_in c)
as_many_flows p k b c x y = (as_many p k b c x y).0

pub as_many_imports : (p : ProgramTree) (k : ℕ) (b c : Behaviour) → IsText p k b → IsText p k c → length (imports_in b) ≡ length (imports_in c)
as_many_imports p k b c x y = (as_many p k b c x y).1
