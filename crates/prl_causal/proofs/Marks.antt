-- What a text asks for follows what stands at its places.
use Rattle.prl_base.proofs.Standard.{◌≡◌, ℕ, ◌+◌, List, [], ◌∷◌, ◌++◌, map, length, Option, Some, None, refl, sym, ap, ◌∙◌, subst, reverse, slice_get, option_map, map-append, reverse-append}
use Rattle.prl_base.proofs.Standard.{length-map, slice_get-map}
use Rattle.prl_ast.specs.Trees.{Tree, Root, const, var, apply, group, Trees, none, more, EquationTree, NodeTree, ProgramTree}
use Rattle.prl_ast.specs.declared.declarations.Param.{Param}
use Rattle.prl_ast.specs.declared.declarations.Placed.{Placed}
use Rattle.prl_ast.specs.declared.declarations.Rate.{Rate}
use Rattle.prl_ast.specs.declared.expressions.PlacedOp.{PlacedOp}
use Rattle.prl_ast.specs.Trees.{tree}
use Rattle.prl_flow.specs.Rules.{operator, applied, same, sensed, mark_rule, rate_rules}
use Rattle.prl_names.specs.Lookups.{callee_of, param_of, params_of}
use Rattle.prl_causal.specs.Annotations.{Entered, entered, Rights, done, next, Part, part, Core, Parts, mark_entered, mark_rights, mark_part, mark_core, mark_parts}
use Rattle.prl_causal.specs.Annotations as notes
use Rattle.prl_causal.specs.Asked.{inputs_of, outputs_of, one, at_index, at_variable, at_lefts, constant_rules, all_same, operator_rules, last_of, first_of, root_args, root_name, given, root_given, all_given, declared_rules, entered_rules, rights_rules, part_rules, root_rules, all_rules, sensed_rules, program_rules}
use Rattle.prl_causal.specs.Texts.{node_at, node_of, HasVariables, IsImportCall, IsText, AreRights, IsPart, IsCore, AreParts}

module _ {F R N G S M : Type 0} (f : F → G) (r : R → S) (n : N → M) where
  one-map : (o : Option F) → one (option_map f o) ≡ map f (one o)
  one-map None = refl
  one-map (Some x) = refl

  at_index-map : (env : List F) (k : Option ℕ) → at_index (map f env) k ≡ map f (at_index env k)
  at_index-map env None = refl
  at_index-map env (Some k) = ap one (slice_get-map f env k) ∙ one-map (slice_get env k)

  at_variable-map : (d : NodeTree) (env : List F) (name : List ℕ) → at_variable d (map f env) name ≡ map f (at_variable d env name)
  at_variable-map d env name = at_index-map env (param_of d name)

  at_lefts-map : (d : NodeTree) (env : List F) (ls : List Placed) → at_lefts d (map f env) ls ≡ map f (at_lefts d env ls)
  at_lefts-map d env [] = refl
  at_lefts-map d env (l ∷ ls) = rw (at_variable-map d env l.name, at_lefts-map d env ls) (sym (map-append f (at_variable d env l.name) (at_lefts d env ls)))

  constant-map : (root : Root) (x : F) → constant_rules {R = S} root (f x) ≡ map (mark_rule f r) (constant_rules root x)
  constant-map (const v) x = refl
  constant-map (var name) x = refl
  constant-map (apply name at args) x = refl
  constant-map (group parts) x = refl

  all_same-map : (xs ys : List F) → all_same {R = S} (map f xs) (map f ys) ≡ map (mark_rule f r) (all_same xs ys)
  all_same-map [] ys = refl
  all_same-map (x ∷ xs) [] = refl
  all_same-map (x ∷ xs) (y ∷ ys) = ap (λ rest. same (f x) (f y) ∷ rest) (all_same-map xs ys)

  operator-map : (os : List PlacedOp) (xs of : List F) → operator_rules {R = S} os (map f xs) (map f of) ≡ map (mark_rule f r) (operator_rules os xs of)
  operator-map [] xs of = refl
  operator-map (o ∷ os) [] of = refl
  operator-map (o ∷ os) (x ∷ xs) [] = refl
  operator-map (o ∷ os) (x ∷ xs) (y ∷ ys) = ap (λ rest. operator o.op (f y) (f x) ∷ rest) (operator-map os xs (x ∷ []))

  last_of-map : (of xs : List F) → last_of (map f of) (map f xs) ≡ map f (last_of of xs)
  last_of-map of [] = refl
  last_of-map of (x ∷ xs) = last_of-map (x ∷ []) xs

  first_of-map : (xs of : List F) → first_of (map f xs) (map f of) ≡ map f (first_of xs of)
  first_of-map [] of = refl
  first_of-map (x ∷ xs) of = refl

  inputs-map : (e : Entered F R N) → inputs_of (mark_entered f r n e) ≡ map f (inputs_of e)
  inputs-map (entered ins outs locals rights) = refl

  outputs-map : (e : Entered F R N) → outputs_of (mark_entered f r n e) ≡ map f (outputs_of e)
  outputs-map (entered ins outs locals rights) = refl

  mutual
    given-map : (d : NodeTree) (env : List F) (t : Tree) (q : Part F R N) → given d (map f env) t (mark_part f r n q) ≡ map f (given d env t q)
    given-map d env (tree pre root post at) (part pres core posts) =
        ap (λ of. first_of (map f pres) (last_of of (map f posts))) (root_given-map d env root core)
        ∙ ap (first_of (map f pres)) (last_of-map (root_given d env root core) posts)
        ∙ first_of-map pres (last_of (root_given d env root core) posts)

    root_given-map : (d : NodeTree) (env : List F) (root : Root) (c : Core F R N) → root_given d (map f env) root (mark_core f r n c) ≡ map f (root_given d env root c)
    root_given-map d env root (notes.constant x) = refl
    root_given-map d env root notes.name = at_variable-map d env (root_name root)
    root_given-map d env root (notes.import args x outs) = refl
    root_given-map d env root (notes.node args x child) = outputs-map child
    root_given-map d env root (notes.group parts) = all_given-map d env (root_args root) parts

    all_given-map : (d : NodeTree) (env : List F) (ts : Trees) (qs : Parts F R N) → all_given d (map f env) ts (mark_parts f r n qs) ≡ map f (all_given d env ts qs)
    all_given-map d env ts notes.none = refl
    all_given-map d env none (notes.more q rest) = refl
    all_given-map d env (more t ts) (notes.more q rest) =
        rw (given-map d env t q, all_given-map d env ts rest) (sym (map-append f (given d env t q) (all_given d env ts rest)))

  reverse-map : (xs : List F) → reverse (map f xs) ≡ map f (reverse xs)
  reverse-map [] = refl
  reverse-map (x ∷ xs) =
      reverse-append (f x ∷ []) (map f xs) ∙ ap (λ ys. ys ++ f x ∷ []) (reverse-map xs)
      ∙ sym (map-append f (reverse xs) (x ∷ [])) ∙ ap (map f) (sym (reverse-append (x ∷ []) xs))

  env-map : (ins outs locals : List F) → (map f ins ++ map f outs) ++ map f locals ≡ map f ((ins ++ outs) ++ locals)
  env-map ins outs locals = rw (map-append f (ins ++ outs) locals, map-append f ins outs) refl

  rate-map : (o : Option Rate) (x : F) → rate_rules {R = S} o (f x) ≡ map (mark_rule f r) (rate_rules o x)
  rate-map None x = refl
  rate-map (Some rate) x = refl

  declared-map : (qs : List Param) (xs : List F) → declared_rules {R = S} qs (map f xs) ≡ map (mark_rule f r) (declared_rules qs xs)
  declared-map [] xs = refl
  declared-map (q ∷ qs) [] = refl
  declared-map (q ∷ qs) (x ∷ xs) = rw (rate-map q.rate x, declared-map qs xs) (sym (map-append (mark_rule f r) (rate_rules q.rate x) (declared_rules qs xs)))

  sensed-map : (k : ℕ) (xs : List F) → sensed_rules {R = S} k (map f xs) ≡ map (mark_rule f r) (sensed_rules k xs)
  sensed-map k [] = refl
  sensed-map k (x ∷ xs) = ap (λ rest. sensed k (f x) ∷ rest) (sensed-map (k + 1) xs)

  mutual
    pub entered-map : (p : ProgramTree) (k : ℕ) (e : Entered F R N) → entered_rules p k (mark_entered f r n e) ≡ map (mark_rule f r) (entered_rules p k e)
    entered-map p k (entered ins outs locals rights) =
        let d = node_at p k in
        let env = (ins ++ outs) ++ locals in
        ap (λ es. declared_rules {R = S} (params_of d) es ++ rights_rules p d es d.eqs (mark_rights f r n rights)) (env-map ins outs locals)
        ∙ rw (declared-map (params_of d) env, rights-map p d env d.eqs rights)
        (sym (map-append (mark_rule f r) (declared_rules (params_of d) env) (rights_rules p d env d.eqs rights)))

    rights-map : (p : ProgramTree) (d : NodeTree) (env : List F) (es : List EquationTree) (qs : Rights F R N)
        → rights_rules p d (map f env) es (mark_rights f r n qs) ≡ map (mark_rule f r) (rights_rules p d env es qs)
    rights-map p d env es done = refl
    rights-map p d env [] (next q rest) = refl
    rights-map p d env (e ∷ es) (next q rest) =
        rw (part-map p d env e.right q, at_lefts-map d env e.lefts, given-map d env e.right q, all_same-map (at_lefts d env e.lefts) (given d env e.right q), rights-map p d env es rest)
        (rw (
          map-append (mark_rule f r) (part_rules p d env e.right q) (all_same (at_lefts d env e.lefts) (given d env e.right q) ++ rights_rules p d env es rest),
          map-append (mark_rule f r) (all_same (at_lefts d env e.lefts) (given d env e.right q)) (rights_rules p d env es rest),
        ) refl)

    part-map : (p : ProgramTree) (d : NodeTree) (env : List F) (t : Tree) (q : Part F R N) → part_rules p d (map f env) t (mark_part f r n q) ≡ map (mark_rule f r) (part_rules p d env t q)
    part-map p d env (tree pre root post at) (part pres core posts) =
        let of = root_given d env root core in
        rw (root-map p d env root core, root_given-map d env root core, operator-map post posts of, last_of-map of posts, reverse-map pres, operator-map (reverse pre) (reverse pres) (last_of of posts))
        (rw (
          map-append (mark_rule f r) (root_rules p d env root core) (operator_rules post posts of ++ operator_rules (reverse pre) (reverse pres) (last_of of posts)),
          map-append (mark_rule f r) (operator_rules post posts of) (operator_rules (reverse pre) (reverse pres) (last_of of posts)),
        ) refl)

    root-map : (p : ProgramTree) (d : NodeTree) (env : List F) (root : Root) (c : Core F R N) → root_rules p d (map f env) root (mark_core f r n c) ≡ map (mark_rule f r) (root_rules p d env root c)
    root-map p d env root (notes.constant x) = constant-map root x
    root-map p d env root notes.name = refl
    root-map p d env root (notes.import args x outs) =
        rw (all-map p d env (root_args root) args, all_given-map d env (root_args root) args)
        (sym (map-append (mark_rule f r) (all_rules p d env (root_args root) args) (applied (root_name root) (all_given d env (root_args root) args) outs x ∷ [])))
    root-map p d env root (notes.node args x child) =
        let ts = root_args root in
        let k = node_of (callee_of p (root_name root)) in
        rw (all-map p d env ts args, all_given-map d env ts args, inputs-map child, all_same-map (inputs_of child) (all_given d env ts args), entered-map p k child)
        (rw (
          map-append (mark_rule f r) (all_rules p d env ts args) (all_same (inputs_of child) (all_given d env ts args) ++ entered_rules p k child),
          map-append (mark_rule f r) (all_same (inputs_of child) (all_given d env ts args)) (entered_rules p k child),
        ) refl)
    root-map p d env root (notes.group parts) = all-map p d env (root_args root) parts

    all-map : (p : ProgramTree) (d : NodeTree) (env : List F) (ts : Trees) (qs : Parts F R N) → all_rules p d (map f env) ts (mark_parts f r n qs) ≡ map (mark_rule f r) (all_rules p d env ts qs)
    all-map p d env ts notes.none = refl
    all-map p d env none (notes.more q rest) = refl
    all-map p d env (more t ts) (notes.more q rest) =
        rw (part-map p d env t q, all-map p d env ts rest) (sym (map-append (mark_rule f r) (part_rules p d env t q) (all_rules p d env ts rest)))

  pub program-map : (p : ProgramTree) (main : ℕ) (e : Entered F R N) → program_rules p main (mark_entered f r n e) ≡ map (mark_rule f r) (program_rules p main e)
  program-map p main e =
      rw (inputs-map e, sensed-map 0 (inputs_of e), entered-map p main e)
      (sym (map-append (mark_rule f r) (sensed_rules 0 (inputs_of e)) (entered_rules p main e)))

  -- what stands in the text with other things at its places
  mutual
    pub flows-map : (e : Entered F R N) → notes.flows_in (mark_entered f r n e) ≡ map f (notes.flows_in e)
    flows-map (entered ins outs locals rights) =
        rw (right_flows-map rights, env-map ins outs locals) (sym (map-append f ((ins ++ outs) ++ locals) (notes.right_flows rights)))

    right_flows-map : (qs : Rights F R N) → notes.right_flows (mark_rights f r n qs) ≡ map f (notes.right_flows qs)
    right_flows-map done = refl
    right_flows-map (next q rest) = rw (part_flows-map q, right_flows-map rest) (sym (map-append f (notes.part_flows q) (notes.right_flows rest)))

    part_flows-map : (q : Part F R N) → notes.part_flows (mark_part f r n q) ≡ map f (notes.part_flows q)
    part_flows-map (part pre core post) =
        rw (core_flows-map core, reverse-map pre)
        (rw (map-append f (notes.core_flows core ++ post) (reverse pre), map-append f (notes.core_flows core) post) refl)

    core_flows-map : (c : Core F R N) → notes.core_flows (mark_core f r n c) ≡ map f (notes.core_flows c)
    core_flows-map (notes.constant x) = refl
    core_flows-map notes.name = refl
    core_flows-map (notes.import args x outs) = rw (parts_flows-map args) (sym (map-append f (notes.parts_flows args) outs))
    core_flows-map (notes.node args x child) = rw (parts_flows-map args, flows-map child) (sym (map-append f (notes.parts_flows args) (notes.flows_in child)))
    core_flows-map (notes.group parts) = parts_flows-map parts

    parts_flows-map : (qs : Parts F R N) → notes.parts_flows (mark_parts f r n qs) ≡ map f (notes.parts_flows qs)
    parts_flows-map notes.none = refl
    parts_flows-map (notes.more q rest) = rw (part_flows-map q, parts_flows-map rest) (sym (map-append f (notes.part_flows q) (notes.parts_flows rest)))

  mutual
    pub imports-map : (e : Entered F R N) → notes.imports_in (mark_entered f r n e) ≡ map r (notes.imports_in e)
    imports-map (entered ins outs locals rights) = right_imports-map rights

    right_imports-map : (qs : Rights F R N) → notes.right_imports (mark_rights f r n qs) ≡ map r (notes.right_imports qs)
    right_imports-map done = refl
    right_imports-map (next q rest) = rw (part_imports-map q, right_imports-map rest) (sym (map-append r (notes.part_imports q) (notes.right_imports rest)))

    part_imports-map : (q : Part F R N) → notes.part_imports (mark_part f r n q) ≡ map r (notes.part_imports q)
    part_imports-map (part pre core post) = core_imports-map core

    core_imports-map : (c : Core F R N) → notes.core_imports (mark_core f r n c) ≡ map r (notes.core_imports c)
    core_imports-map (notes.constant x) = refl
    core_imports-map notes.name = refl
    core_imports-map (notes.import args x outs) = rw (parts_imports-map args) (sym (map-append r (notes.parts_imports args) (x ∷ [])))
    core_imports-map (notes.node args x child) = rw (parts_imports-map args, imports-map child) (sym (map-append r (notes.parts_imports args) (notes.imports_in child)))
    core_imports-map (notes.group parts) = parts_imports-map parts

    parts_imports-map : (qs : Parts F R N) → notes.parts_imports (mark_parts f r n qs) ≡ map r (notes.parts_imports qs)
    parts_imports-map notes.none = refl
    parts_imports-map (notes.more q rest) = rw (part_imports-map q, parts_imports-map rest) (sym (map-append r (notes.part_imports q) (notes.parts_imports rest)))

  -- it is the same text
  three : (o : Option NodeTree) (a b c d g h : ℕ) → a ≡ d → b ≡ g → c ≡ h → HasVariables o d g h → HasVariables o a b c
  three o a b c d g h x y z has = subst (λ m. HasVariables o m b c) (sym x) (subst (λ m. HasVariables o d m c) (sym y) (subst (λ m. HasVariables o d g m) (sym z) has))

  mutual
    pub text-map : (p : ProgramTree) (k : ℕ) (e : Entered F R N) → IsText p k e → IsText p k (mark_entered f r n e)
    text-map p k (entered ins outs locals rights) h = (
      three (slice_get p.nodes k) (length (map f ins)) (length (map f outs)) (length (map f locals)) (length ins) (length outs) (length locals)
          (length-map ins f) (length-map outs f) (length-map locals f) h.0,
      rights_text-map p (node_at p k).eqs rights h.1,
    )

    rights_text-map : (p : ProgramTree) (es : List EquationTree) (qs : Rights F R N) → AreRights p es qs → AreRights p es (mark_rights f r n qs)
    rights_text-map p [] done h = h
    rights_text-map p [] (next q rest) h = h
    rights_text-map p (e ∷ es) done h = h
    rights_text-map p (e ∷ es) (next q rest) h = (part_text-map p e.right q h.0, rights_text-map p es rest h.1)

    part_text-map : (p : ProgramTree) (t : Tree) (q : Part F R N) → IsPart p t q → IsPart p t (mark_part f r n q)
    part_text-map p (tree pre root post at) (part pres core posts) h = (length-map pres f ∙ h.0, core_text-map p root core h.1, length-map posts f ∙ h.2)

    core_text-map : (p : ProgramTree) (root : Root) (c : Core F R N) → IsCore p root c → IsCore p root (mark_core f r n c)
    core_text-map p (const v) (notes.constant x) h = h
    core_text-map p (var name) notes.name h = h
    core_text-map p (apply name at args) (notes.import parts x outs) h =
        (subst (λ m. IsImportCall p m (callee_of p name)) (sym (length-map outs f)) h.0, parts_text-map p args parts h.1)
    core_text-map p (apply name at args) (notes.node parts x child) h = (h.0, parts_text-map p args parts h.1, text-map p (node_of (callee_of p name)) child h.2)
    core_text-map p (group args) (notes.group parts) h = parts_text-map p args parts h
    core_text-map p (const v) notes.name h = absurd h
    core_text-map p (const v) (notes.import parts x outs) h = absurd h
    core_text-map p (const v) (notes.node parts x child) h = absurd h
    core_text-map p (const v) (notes.group parts) h = absurd h
    core_text-map p (var name) (notes.constant x) h = absurd h
    core_text-map p (var name) (notes.import parts x outs) h = absurd h
    core_text-map p (var name) (notes.node parts x child) h = absurd h
    core_text-map p (var name) (notes.group parts) h = absurd h
    core_text-map p (apply name at args) (notes.constant x) h = absurd h
    core_text-map p (apply name at args) notes.name h = absurd h
    core_text-map p (apply name at args) (notes.group parts) h = absurd h
    core_text-map p (group args) (notes.constant x) h = absurd h
    core_text-map p (group args) notes.name h = absurd h
    core_text-map p (group args) (notes.import parts x outs) h = absurd h
    core_text-map p (group args) (notes.node parts x child) h = absurd h

    parts_text-map : (p : ProgramTree) (ts : Trees) (qs : Parts F R N) → AreParts p ts qs → AreParts p ts (mark_parts f r n qs)
    parts_text-map p none notes.none h = h
    parts_text-map p none (notes.more q rest) h = h
    parts_text-map p (more t ts) notes.none h = h
    parts_text-map p (more t ts) (notes.more q rest) h = (part_text-map p t q h.0, parts_text-map p ts rest h.1)
