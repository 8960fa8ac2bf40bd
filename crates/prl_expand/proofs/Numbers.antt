-- The flows of an expansion are made in the order of their numbers.
use Rattle.prl_base.proofs.Standard.{◌≡◌, ◌<◌, ◌+◌, ℕ, List, [], ◌∷◌, ◌++◌, map, length, Option, Some, None, slice_get, refl, sym, ap, ◌∙◌, arith, reverse, length-reverse, map-append}
use Rattle.std.proofs.lemmas.List.{append_assoc}
use Rattle.prl_base.specs.declared.places.Span.{Span}
use Rattle.prl_base.specs.declared.values.Ty.{Ty}
use Rattle.prl_ast.specs.Trees.{Tree, Root, const, var, apply, group, Trees, none, more, EquationTree, NodeTree, ProgramTree}
use Rattle.prl_ast.specs.declared.declarations.Import.{Import}
use Rattle.prl_ast.specs.declared.declarations.Param.{Param}
use Rattle.prl_ast.specs.declared.declarations.Port.{Port}
use Rattle.prl_ast.specs.declared.expressions.PlacedOp.{PlacedOp}
use Rattle.prl_ast.specs.Trees.{tree}
use Rattle.prl_flow.specs.declared.programs.Def.{Def}
use Rattle.prl_names.specs.Vocabulary.{callee_of, params_of, IsKnown, IsKnownRoot, AreKnown, AreKnownEquations}
use Rattle.prl_names.specs.declared.lookups.Callee.{Callee}
use Rattle.prl_names.specs.declared.lookups.Callee.TheVariants as callees
use Rattle.prl_types.specs.Vocabulary.{equations_faults, faults_in, root_faults, all_faults, prefix_fault, postfix_fault, last_at, first_of}
use Rattle.prl_types.specs.Flows as flows
use Rattle.prl_causal.specs.Annotations.{Entered, entered, Rights, done, next, Part, part, Core, Parts}
use Rattle.prl_causal.specs.Annotations as notes
use Rattle.prl_causal.specs.Asked.{inputs_of, last_of, root_given, all_given}
use Rattle.prl_causal.specs.Texts.{node_at, node_of, IsImportCall, IsText, AreRights, IsPart, IsCore, AreParts}
use Rattle.prl_expand.specs.Flats.{Numbered, Types, copy_of, resolved, label_of_node, variable_flows, equated, copies, operator_flows, output_flows, import_at, ports_of, entered_flows, right_flows, part_flows, root_flows_of, all_flows}
use Rattle.prl_expand.proofs.Lists.{no_first, no_second, equal_unless}
use Rattle.prl_expand.proofs.Sound.{IsRightNode, IsSound, root_length, last_length, operated_right, argued_right, enough_given, equated_right, entered_is, all_defined}

abbrev pub numbers_of : List Numbered → List ℕ
numbers_of fs = map (λ (f : Numbered). f.0) fs

variables_numbered : (label : List ℕ) (tys : Types) (k : ℕ) (qs : List Param) (is : List ℕ) (ds : List Def) → length is ≡ length qs → length is ≡ length ds
    → numbers_of (variable_flows label tys k qs is ds) ≡ is
variables_numbered label tys k [] [] ds a b = refl
variables_numbered label tys k [] (i ∷ is) ds a b = absurd (omega (arith, a))
variables_numbered label tys k (q ∷ qs) [] ds a b = absurd (omega (arith, a))
variables_numbered label tys k (q ∷ qs) (i ∷ is) [] a b = absurd (omega (arith, b))
variables_numbered label tys k (q ∷ qs) (i ∷ is) (d ∷ ds) a b = ap (λ js. i ∷ js) (variables_numbered label tys (k + 1) qs is ds (omega (arith, a)) (omega (arith, b)))

operators_numbered : (ty : Ty) (os : List PlacedOp) (is of : List ℕ) → length is ≡ length os → (0 < length os → length of ≡ 1) → numbers_of (operator_flows ty os is of) ≡ is
operators_numbered ty [] [] of a b = refl
operators_numbered ty [] (i ∷ is) of a b = absurd (omega (arith, a))
operators_numbered ty (o ∷ os) [] of a b = absurd (omega (arith, a))
operators_numbered ty (o ∷ os) (i ∷ is) [] a b = absurd (omega (arith, b (omega arith)))
operators_numbered ty (o ∷ os) (i ∷ is) (x ∷ xs) a b = ap (λ js. i ∷ js) (operators_numbered ty os is (i ∷ []) (omega (arith, a)) (λ h. refl))

outputs_numbered : (app out : ℕ) (at : Span) (qs : List Port) (is : List ℕ) → length is ≡ length qs → numbers_of (output_flows app out at qs is) ≡ is
outputs_numbered app out at [] [] a = refl
outputs_numbered app out at [] (i ∷ is) a = absurd (omega (arith, a))
outputs_numbered app out at (q ∷ qs) [] a = absurd (omega (arith, a))
outputs_numbered app out at (q ∷ qs) (i ∷ is) a = ap (λ js. i ∷ js) (outputs_numbered app (out + 1) at qs is (omega (arith, a)))

pub import_ports : (p : ProgramTree) (o : Option Callee) (count : ℕ) → IsImportCall p count o → count ≡ length (ports_of (import_at p o))
import_ports p None count h = absurd h
import_ports p (Some (callees.Node k)) count h = absurd h
import_ports p (Some (callees.Import k)) count h = h.2 ∙ sym (ap (λ (o : Option Import). length (ports_of o)) h.1)

-- what operators stand on is one flow
pub postfix_one : (count : ℕ) (post : List PlacedOp) → postfix_fault count post ≡ [] → 0 < length post → count ≡ 1
postfix_one count [] e some = absurd (omega (arith, some))
postfix_one count (o ∷ post) e some = equal_unless count 1 o.at.at e

pub prefix_one : (count : ℕ) (pre post : List PlacedOp) (of posts : List ℕ) → prefix_fault count pre post ≡ [] → length posts ≡ length post → length of ≡ count → 0 < length pre → length (last_of of posts) ≡ 1
prefix_one count [] post of posts e a b some = absurd (omega (arith, some))
prefix_one count (o ∷ pre) [] of [] e a b some = b ∙ equal_unless count 1 (last_at o.at.at pre) e
prefix_one count (o ∷ pre) [] of (i ∷ posts) e a b some = absurd (omega (arith, a))
prefix_one count (o ∷ pre) (q ∷ post) of [] e a b some = absurd (omega (arith, a))
prefix_one count (o ∷ pre) (q ∷ post) of (i ∷ posts) e a b some = last_length posts (i ∷ []) refl

two_numbered : (fs gs : List Numbered) (is js : List ℕ) → numbers_of fs ≡ is → numbers_of gs ≡ js → numbers_of (fs ++ gs) ≡ is ++ js
two_numbered fs gs is js a b = map-append (λ (f : Numbered). f.0) fs gs ∙ rw (a, b) refl

module _ (p : ProgramTree) (tys : Types) (sound : IsSound p) where
  mutual
    part_numbered : (k : ℕ) (n : NodeTree) (env : List ℕ) → slice_get p.nodes k ≡ Some n → length env ≡ length (params_of n) → (t : Tree) (q : Part ℕ ℕ ℕ) → IsPart p t q → IsKnown p k t
        → faults_in p k t ≡ [] → numbers_of (part_flows p tys k n env t q) ≡ notes.part_flows q
    part_numbered k n env found count (tree pre root post at) (part pres core posts) h known arity =
        let of : List ℕ = root_given n env root core in
        let needed : ℕ = length (flows.root_flows p k root) in
        let ty : Ty = resolved tys (flows.operand (flows.root_flows p k root)) in
        let arities = operated_right p k pre root post arity in
        let one : length of ≡ needed = root_length p k n env found count root core h.1 known in
        let a = root_numbered k n env found count root at core h.1 known arities.inner in
        let b = operators_numbered ty post posts of h.2 (λ some. one ∙ postfix_one needed post arities.back some) in
        let turned : length (reverse pres) ≡ length (reverse pre) = length-reverse pres ∙ h.0 ∙ sym (length-reverse pre) in
        let c = operators_numbered ty (reverse pre) (reverse pres) (last_of of posts) turned
        (λ some. prefix_one needed pre post of posts arities.front h.2 one (omega (arith, some, length-reverse pre))) in
        two_numbered (root_flows_of p tys k n env root at core) (operator_flows ty post posts of ++ operator_flows ty (reverse pre) (reverse pres) (last_of of posts))
        (notes.core_flows core) (posts ++ reverse pres) a
        (two_numbered (operator_flows ty post posts of) (operator_flows ty (reverse pre) (reverse pres) (last_of of posts)) posts (reverse pres) b c)
        ∙ sym (append_assoc (notes.core_flows core) posts (reverse pres))

    root_numbered : (k : ℕ) (n : NodeTree) (env : List ℕ) → slice_get p.nodes k ≡ Some n → length env ≡ length (params_of n) → (root : Root) (at : Span) (c : Core ℕ ℕ ℕ) → IsCore p root c
        → IsKnownRoot p k root → root_faults p k root ≡ [] → numbers_of (root_flows_of p tys k n env root at c) ≡ notes.core_flows c
    root_numbered k n env found count (const v) at (notes.constant i) h known arity = refl
    root_numbered k n env found count (var name) at notes.name h known arity = refl
    root_numbered k n env found count (apply name place args) at (notes.import parts x outs) h known arity =
        two_numbered (all_flows p tys k n env args parts) (output_flows x 0 place (ports_of (import_at p (callee_of p name))) outs) (notes.parts_flows parts) outs
        (all_numbered k n env found count args parts h.1 known.1 (argued_right p k name place args arity).inner)
        (outputs_numbered x 0 place (ports_of (import_at p (callee_of p name))) outs (import_ports p (callee_of p name) (length outs) h.0))
    root_numbered k n env found count (apply name place args) at (notes.node parts x child) h known arity =
        let callee = node_of (callee_of p name) in
        let gs : List ℕ = all_given n env args parts in
        let argued = argued_right p k name place args arity in
        let enough = enough_given p k n env found count name args parts child h.0 h.1 h.2 known.1 argued in
        two_numbered (all_flows p tys k n env args parts) (entered_flows p tys (label_of_node name x) callee (map copy_of gs) child) (notes.parts_flows parts) (notes.flows_in child)
        (all_numbered k n env found count args parts h.1 known.1 argued.inner)
        (entered_numbered (label_of_node name x) callee (map copy_of gs) child h.2 enough)
    root_numbered k n env found count (group args) at (notes.group parts) h known arity = all_numbered k n env found count args parts h known arity
    root_numbered k n env found count root at core h known arity = absurd h

    all_numbered : (k : ℕ) (n : NodeTree) (env : List ℕ) → slice_get p.nodes k ≡ Some n → length env ≡ length (params_of n) → (ts : Trees) (qs : Parts ℕ ℕ ℕ) → AreParts p ts qs → AreKnown p k ts
        → all_faults p k ts ≡ [] → numbers_of (all_flows p tys k n env ts qs) ≡ notes.parts_flows qs
    all_numbered k n env found count none notes.none h known arity = refl
    all_numbered k n env found count none (notes.more q rest) h known arity = absurd h
    all_numbered k n env found count (more t ts) notes.none h known arity = absurd h
    all_numbered k n env found count (more t ts) (notes.more q rest) h known arity =
        two_numbered (part_flows p tys k n env t q) (all_flows p tys k n env ts rest) (notes.part_flows q) (notes.parts_flows rest)
        (part_numbered k n env found count t q h.0 known.0 (no_first (faults_in p k t) (all_faults p k ts) arity))
        (all_numbered k n env found count ts rest h.1 known.1 (no_second (faults_in p k t) (all_faults p k ts) arity))

    right_numbered : (k : ℕ) (n : NodeTree) (env : List ℕ) → slice_get p.nodes k ≡ Some n → length env ≡ length (params_of n) → (es : List EquationTree) (qs : Rights ℕ ℕ ℕ) → AreRights p es qs
        → AreKnownEquations p k es → equations_faults p k es ≡ [] → numbers_of (right_flows p tys k n env es qs) ≡ notes.right_flows qs
    right_numbered k n env found count [] done h known arity = refl
    right_numbered k n env found count [] (next q rest) h known arity = absurd h
    right_numbered k n env found count (e ∷ es) done h known arity = absurd h
    right_numbered k n env found count (e ∷ es) (next q rest) h known arity =
        let arities = equated_right p k e es arity in
        two_numbered (part_flows p tys k n env e.right q) (right_flows p tys k n env es rest) (notes.part_flows q) (notes.right_flows rest)
        (part_numbered k n env found count e.right q h.0 known.1 arities.first)
        (right_numbered k n env found count es rest h.1 known.2 arities.second)

    pub entered_numbered : (label : List ℕ) (k : ℕ) (sources : List Def) (e : Entered ℕ ℕ ℕ) → IsText p k e → length sources ≡ length (inputs_of e)
        → numbers_of (entered_flows p tys label k sources e) ≡ notes.flows_in e
    entered_numbered label k sources (entered ins outs locals rights) text enough =
        let n : NodeTree = node_at p k in
        let env : List ℕ = (ins ++ outs) ++ locals in
        let is = entered_is p k ins outs locals text.0 in
        let right : IsRightNode p k n = sound.node k n is.found in
        let given_flows : List Def = copies (equated n env n.eqs rights) (n.outs ++ n.locals) in
        let as_many = all_defined p k ins outs locals is sources enough (equated n env n.eqs rights) in
        two_numbered (variable_flows label tys (first_of p k) (params_of n) env (sources ++ given_flows)) (right_flows p tys k n env n.eqs rights) env (notes.right_flows rights)
        (variables_numbered label tys (first_of p k) (params_of n) env (sources ++ given_flows) is.count as_many)
        (right_numbered k n env is.found is.count n.eqs rights text.1 right.named.known right.arity)
