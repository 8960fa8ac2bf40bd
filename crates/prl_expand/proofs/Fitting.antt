-- Each application of an expansion is of an import that main's expansion applies, with its ports.
use Rattle.prl_base.proofs.Standard.{◌≡◌, ℕ, suc, Bool, true, List, [], ◌∷◌, ◌++◌, map, length, Option, Some, None, slice_get, refl, sym, ap, ◌∙◌, subst, reverse, AllByRecursion, flat_map, option_map}
use Rattle.prl_base.proofs.Standard.{slice_get-map}
use Rattle.prl_base.specs.declared.numbers.FlowNo.{FlowNo}
use Rattle.prl_base.specs.declared.places.Span.{Span}
use Rattle.prl_base.specs.declared.values.Ty.{Ty}
use Rattle.prl_ast.specs.Trees.{Tree, Root, const, var, apply, group, Trees, none, more, EquationTree, NodeTree, ProgramTree}
use Rattle.prl_ast.specs.declared.declarations.Import.{Import}
use Rattle.prl_ast.specs.declared.declarations.Port.{Port}
use Rattle.prl_ast.specs.Trees.{tree}
use Rattle.prl_body.specs.Vocabulary.{import_named, HaveBodiesOf}
use Rattle.prl_body.specs.declared.bodies.CheckedBody.{CheckedBody}
use Rattle.prl_flow.specs.Vocabulary.{HaveTypes, HasBody, argument_numbers, FlatProgram}
use Rattle.prl_flow.specs.declared.programs.App.{App}
use Rattle.prl_flow.specs.declared.programs.Def.{Def}
use Rattle.prl_names.specs.Vocabulary.{applied_in, applied_root, applied_trees, applied_equations, applied_by, is_node, callee_of, index_of, import_names, node_names, node_or as either_callee}
use Rattle.prl_names.specs.Vocabulary.{params_of, IsNamed, IsKnown, IsKnownRoot, AreKnown, AreKnownEquations, applied_names, root_names, all_applied, node_applied, is_expanded, used_imports}
use Rattle.prl_names.specs.declared.lookups.Callee.{Callee}
use Rattle.prl_names.specs.declared.lookups.Callee.TheVariants as callees
use Rattle.prl_names.proofs.Marking.{index_found}
use Rattle.prl_types.specs.Vocabulary.{equations_faults, faults_in, root_faults, all_faults, first_of}
use Rattle.prl_types.specs.Flows as flows
use Rattle.prl_types.specs.Rules as typing
use Rattle.prl_causal.specs.Annotations.{Entered, entered, Rights, done, next, Part, part, Core, Parts}
use Rattle.prl_causal.specs.Annotations as notes
use Rattle.prl_causal.specs.Asked.{inputs_of, last_of, root_given, all_given}
use Rattle.prl_causal.specs.Texts.{node_at, node_of, IsNodeCall, IsImportCall, IsText, AreRights, IsPart, IsCore, AreParts}
use Rattle.prl_expand.specs.Flats.{Numbered, Types, resolved, copy_of, variable_flows, equated, copies, operator_flows, output_flows, import_at, ports_of, label_of_node, arguments, entered_flows, right_flows, part_flows, root_flows_of, all_flows, entered_apps, right_apps, part_apps, root_apps, all_apps}
use Rattle.prl_expand.proofs.Bodies.{Has, has_left, has_right, import_is, import_used, expanded_more, port_types_are, numbers_are}
use Rattle.prl_expand.proofs.Existence.{same_node, or_true, true_or}
use Rattle.prl_expand.proofs.FlatRules.{arguments_are}
use Rattle.prl_expand.proofs.FlowTypes.{HasFlow, AreTyped, IsEnvironment, entered_environment, all_typed, import_typed}
use Rattle.prl_expand.proofs.Lists.{some_inner, all_both, all_first, all_second, no_first, no_second}
use Rattle.prl_expand.proofs.Sound.{IsRightNode, IsSound, operated_right, argued_right, enough_given, equated_right, entered_is, call_of}
use Rattle.prl_expand.proofs.WellDefined.{Met, AllMet, AreTypedNodes, applied_typed}

import_of : (p : ProgramTree) (count : ℕ) (o : Option Callee) → IsImportCall p count o → (j : ℕ) × (i : Import) × (o ≡ Some (callees.Import j)) × (slice_get p.imports j ≡ Some i)
import_of p count None h = absurd h
import_of p count (Some (callees.Node k)) h = absurd h
import_of p count (Some (callees.Import j)) h = (j, h.0, refl, h.1)

node_call : (o : Option Callee) → IsNodeCall o → o ≡ Some (callees.Node (node_of o))
node_call None h = absurd h
node_call (Some (callees.Node k)) h = refl
node_call (Some (callees.Import j)) h = absurd h

name_of_import : (p : ProgramTree) (name : List ℕ) (j : ℕ) (i : Import) → callee_of p name ≡ Some (callees.Import j) → slice_get p.imports j ≡ Some i → i.name ≡ name
name_of_import p name j i e found =
    let at : slice_get (import_names p) j ≡ Some name = index_found (import_names p) name j (index (index_of (node_names p) name) (index_of (import_names p) name) e) in
    some_inner i.name name (sym (slice_get-map (λ (x : Import). x.name) p.imports j ∙ ap (option_map (λ (x : Import). x.name)) found) ∙ at)
  where
    index : (a b : Option ℕ) → either_callee a b ≡ Some (callees.Import j) → b ≡ Some j
    index (Some k) b h = absurd (cc)
    index None None h = absurd (cc)
    index None (Some m) h = let same : m ≡ j = cc in ap Some same

-- an application of an import that is used, with its ports
pub record IsOfUsed (p : ProgramTree) (main : ℕ) (flat : FlatProgram) (app : App) : Type 0 where
  pub import : Import
  pub declared : import_named p.imports app.name ≡ Some import
  pub used : Has (used_imports p main) app.name
  pub inputs : HaveTypes flat (argument_numbers app) (map (λ (q : Port). q.ty) import.ins)
  pub outputs : HaveTypes flat app.outs (map (λ (q : Port). q.ty) import.outs)

-- what an expression applies, the node applies, and what it enters is expanded
record Inside (p : ProgramTree) (main : ℕ) (n : NodeTree) (names : List (List ℕ)) (applied : ℕ → Bool) : Type 0 where
  named : (name : List ℕ) → Has names name → Has (node_applied n) name
  enters : (j : ℕ) → applied j ≡ true → is_expanded p main j ≡ true

module _ (p : ProgramTree) (tys : Types) (flat : FlatProgram) (sound : IsSound p) (known_types : AreTypedNodes p tys) (main : ℕ) (right : IsNamed p main) where
  abbrev AllUsed : List App → Type 0
  AllUsed us = AllByRecursion (IsOfUsed p main flat) us

  mutual
    part_used : (k : ℕ) (n : NodeTree) (env : List ℕ) → slice_get p.nodes k ≡ Some n → is_expanded p main k ≡ true → length env ≡ length (params_of n) → IsEnvironment p tys flat k env → (t : Tree) (q : Part ℕ ℕ ℕ) → IsPart p t q → IsKnown p k t
        → faults_in p k t ≡ [] → AllMet tys (typing.rules_in p k t) → AllByRecursion (HasFlow p tys flat) (part_flows p tys k n env t q) → Inside p main n (applied_names t) (λ j. applied_in p j t) → AllUsed (part_apps p n env t q)
    part_used k n env found expanded count typed (tree pre root post at) (part pres core posts) h known arity met flow inside =
        let of : List ℕ = root_given n env root core in
        let ty : Ty = resolved tys (flows.operand (flows.root_flows p k root)) in
        root_used k n env found expanded count typed root at core h.1 known (operated_right p k pre root post arity).inner
        (all_first (Met tys) (typing.root_rules p k root) (typing.constant_rules (flows.operand (flows.root_flows p k root)) pre) met)
        (all_first (HasFlow p tys flat) (root_flows_of p tys k n env root at core) (operator_flows ty post posts of ++ operator_flows ty (reverse pre) (reverse pres) (last_of of posts)) flow)
        (record { named = inside.named; enters = inside.enters })

    root_used : (k : ℕ) (n : NodeTree) (env : List ℕ) → slice_get p.nodes k ≡ Some n → is_expanded p main k ≡ true → length env ≡ length (params_of n) → IsEnvironment p tys flat k env → (root : Root) (at : Span) (c : Core ℕ ℕ ℕ) → IsCore p root c → IsKnownRoot p k root
        → root_faults p k root ≡ [] → AllMet tys (typing.root_rules p k root) → AllByRecursion (HasFlow p tys flat) (root_flows_of p tys k n env root at c) → Inside p main n (root_names root) (λ j. applied_root p j root) → AllUsed (root_apps p n env root at c)
    root_used k n env found expanded count typed (const v) at (notes.constant i) h known arity met flow inside = tt
    root_used k n env found expanded count typed (var name) at notes.name h known arity met flow inside = tt
    root_used k n env found expanded count typed (apply name place args) at (notes.import parts x outs) h known arity met flow inside =
        let callee = callee_of p name in
        let gs : List ℕ = all_given n env args parts in
        let argued = argued_right p k name place args arity in
        let a : List Numbered = all_flows p tys k n env args parts in
        let b : List Numbered = output_flows x 0 place (ports_of (import_at p callee)) outs in
        let arg_flow = all_first (HasFlow p tys flat) a b flow in
        let met_args = all_first (Met tys) (typing.all_rules p k args) (typing.argument_rules (flows.inputs_of p callee) (flows.placed_flows p k args)) met in
        let met_own = all_second (Met tys) (typing.all_rules p k args) (typing.argument_rules (flows.inputs_of p callee) (flows.placed_flows p k args)) met in
        let kinds = all_typed p tys flat sound k n env found count typed args parts h.1 known.1 argued.inner arg_flow in
        let inputs = applied_typed p tys flat k name args gs argued met_own kinds in
        let outputs : AreTyped p tys flat outs (flows.outputs_of p callee) = import_typed p tys flat callee x place outs h.0 (all_second (HasFlow p tys flat) a b flow) in
        let i = import_of p (length outs) callee h.0 in
        let own_name : i.1.name ≡ name = name_of_import p name i.0 i.1 i.2 i.3 in
        let in_ports : AreTyped p tys flat gs (flows.port_types i.1.ins) =
        subst (λ (o : Option Import). AreTyped p tys flat gs (flows.import_inputs o)) i.3 (subst (λ (c : Option Callee). AreTyped p tys flat gs (flows.inputs_of p c)) i.2 inputs) in
        let out_ports : AreTyped p tys flat outs (flows.port_types i.1.outs) =
        subst (λ (o : Option Import). AreTyped p tys flat outs (flows.import_outputs o)) i.3 (subst (λ (c : Option Callee). AreTyped p tys flat outs (flows.outputs_of p c)) i.2 outputs) in
        let there : Has (node_applied n) name = inside.named name (0, refl) in
        let call : App = call_of p n env name place args parts outs in
        let own_use : IsOfUsed p main flat call = record {
          import = i.1;
          declared = import_is p.imports i.0 i.1 name right.imports_apart i.3 own_name;
          used = subst (λ m. Has (used_imports p main) m) own_name (import_used p main k n i.0 i.1 found expanded (subst (λ m. Has (node_applied n) m) (sym own_name) there) i.3);
          inputs = subst (λ (fs : List FlowNo). HaveTypes flat fs (map (λ (q : Port). q.ty) i.1.ins)) (sym (numbers_are (arguments n env args parts) gs (arguments_are n env args parts)))
              (port_types_are p tys flat gs i.1.ins in_ports);
          outputs = port_types_are p tys flat outs i.1.outs out_ports;
        } in
        all_both (IsOfUsed p main flat) (all_apps p n env args parts) (call ∷ [])
        (all_used k n env found expanded count typed args parts h.1 known.1 argued.inner met_args arg_flow
        (record { named = λ m has. inside.named m (suc has.0, has.1); enters = λ j by. inside.enters j (or_true (is_node j (callee_of p name)) (applied_trees p j args) by) }))
        (own_use, tt)
    root_used k n env found expanded count typed (apply name place args) at (notes.node parts x child) h known arity met flow inside =
        let callee = node_of (callee_of p name) in
        let gs : List ℕ = all_given n env args parts in
        let label : List ℕ = label_of_node name x in
        let argued = argued_right p k name place args arity in
        let a : List Numbered = all_flows p tys k n env args parts in
        let b : List Numbered = entered_flows p tys label callee (map copy_of gs) child in
        let met_args = all_first (Met tys) (typing.all_rules p k args) (typing.argument_rules (flows.inputs_of p (callee_of p name)) (flows.placed_flows p k args)) met in
        all_both (IsOfUsed p main flat) (all_apps p n env args parts) (entered_apps p callee child)
        (all_used k n env found expanded count typed args parts h.1 known.1 argued.inner met_args (all_first (HasFlow p tys flat) a b flow)
        (record { named = λ m has. inside.named m (suc has.0, has.1); enters = λ j by. inside.enters j (or_true (is_node j (callee_of p name)) (applied_trees p j args) by) }))
        (entered_used label callee (map copy_of gs) child h.2 (enough_given p k n env found count name args parts child h.0 h.1 h.2 known.1 argued)
        (inside.enters callee (true_or (is_node callee (callee_of p name)) (applied_trees p callee args) (same_node callee (callee_of p name) (node_call (callee_of p name) h.0))))
        (all_second (HasFlow p tys flat) a b flow))
    root_used k n env found expanded count typed (group args) at (notes.group parts) h known arity met flow inside =
        all_used k n env found expanded count typed args parts h known arity met flow (record { named = inside.named; enters = inside.enters })
    root_used k n env found expanded count typed root at core h known arity met flow inside = absurd h

    all_used : (k : ℕ) (n : NodeTree) (env : List ℕ) → slice_get p.nodes k ≡ Some n → is_expanded p main k ≡ true → length env ≡ length (params_of n) → IsEnvironment p tys flat k env → (ts : Trees) (qs : Parts ℕ ℕ ℕ) → AreParts p ts qs → AreKnown p k ts
        → all_faults p k ts ≡ [] → AllMet tys (typing.all_rules p k ts) → AllByRecursion (HasFlow p tys flat) (all_flows p tys k n env ts qs) → Inside p main n (all_applied ts) (λ j. applied_trees p j ts) → AllUsed (all_apps p n env ts qs)
    all_used k n env found expanded count typed none notes.none h known arity met flow inside = tt
    all_used k n env found expanded count typed none (notes.more q rest) h known arity met flow inside = absurd h
    all_used k n env found expanded count typed (more t ts) notes.none h known arity met flow inside = absurd h
    all_used k n env found expanded count typed (more t ts) (notes.more q rest) h known arity met flow inside =
        let a : List Numbered = part_flows p tys k n env t q in
        let b : List Numbered = all_flows p tys k n env ts rest in
        all_both (IsOfUsed p main flat) (part_apps p n env t q) (all_apps p n env ts rest)
        (part_used k n env found expanded count typed t q h.0 known.0 (no_first (faults_in p k t) (all_faults p k ts) arity) (all_first (Met tys) (typing.rules_in p k t) (typing.all_rules p k ts) met)
        (all_first (HasFlow p tys flat) a b flow)
        (record { named = λ m has. inside.named m (has_left (applied_names t) (all_applied ts) m has); enters = λ j by. inside.enters j (true_or (applied_in p j t) (applied_trees p j ts) by) }))
        (all_used k n env found expanded count typed ts rest h.1 known.1 (no_second (faults_in p k t) (all_faults p k ts) arity) (all_second (Met tys) (typing.rules_in p k t) (typing.all_rules p k ts) met)
        (all_second (HasFlow p tys flat) a b flow)
        (record { named = λ m has. inside.named m (has_right (applied_names t) (all_applied ts) m has); enters = λ j by. inside.enters j (or_true (applied_in p j t) (applied_trees p j ts) by) }))

    right_used : (k : ℕ) (n : NodeTree) (env : List ℕ) → slice_get p.nodes k ≡ Some n → is_expanded p main k ≡ true → length env ≡ length (params_of n) → IsEnvironment p tys flat k env → (es : List EquationTree) (qs : Rights ℕ ℕ ℕ) → AreRights p es qs
        → AreKnownEquations p k es → equations_faults p k es ≡ [] → AllMet tys (typing.equations_rules p k es) → AllByRecursion (HasFlow p tys flat) (right_flows p tys k n env es qs)
        → Inside p main n (flat_map (λ (e : EquationTree). applied_names e.right) es) (λ j. applied_equations p j es) → AllUsed (right_apps p n env es qs)
    right_used k n env found expanded count typed [] done h known arity met flow inside = tt
    right_used k n env found expanded count typed [] (next q rest) h known arity met flow inside = absurd h
    right_used k n env found expanded count typed (e ∷ es) done h known arity met flow inside = absurd h
    right_used k n env found expanded count typed (e ∷ es) (next q rest) h known arity met flow inside =
        let a : List Numbered = part_flows p tys k n env e.right q in
        let b : List Numbered = right_flows p tys k n env es rest in
        let later : List (List ℕ) = flat_map (λ (x : EquationTree). applied_names x.right) es in
        let arities = equated_right p k e es arity in
        let own_met = all_first (Met tys) (typing.equation_rules p k e) (typing.equations_rules p k es) met in
        all_both (IsOfUsed p main flat) (part_apps p n env e.right q) (right_apps p n env es rest)
        (part_used k n env found expanded count typed e.right q h.0 known.1 arities.first
        (all_first (Met tys) (typing.rules_in p k e.right) (typing.left_rules p k e.lefts (flows.flows_of p k e.right)) own_met) (all_first (HasFlow p tys flat) a b flow)
        (record { named = λ m has. inside.named m (has_left (applied_names e.right) later m has); enters = λ j by. inside.enters j (true_or (applied_in p j e.right) (applied_equations p j es) by) }))
        (right_used k n env found expanded count typed es rest h.1 known.2 arities.second (all_second (Met tys) (typing.equation_rules p k e) (typing.equations_rules p k es) met)
        (all_second (HasFlow p tys flat) a b flow)
        (record { named = λ m has. inside.named m (has_right (applied_names e.right) later m has); enters = λ j by. inside.enters j (or_true (applied_in p j e.right) (applied_equations p j es) by) }))

    pub entered_used : (label : List ℕ) (k : ℕ) (sources : List Def) (e : Entered ℕ ℕ ℕ) → IsText p k e → length sources ≡ length (inputs_of e) → is_expanded p main k ≡ true
        → AllByRecursion (HasFlow p tys flat) (entered_flows p tys label k sources e) → AllUsed (entered_apps p k e)
    entered_used label k sources (entered ins outs locals rights) text enough expanded flow =
        let n : NodeTree = node_at p k in
        let env : List ℕ = (ins ++ outs) ++ locals in
        let is = entered_is p k ins outs locals text.0 in
        let own : IsRightNode p k n = sound.node k n is.found in
        let cs : List Def = copies (equated n env n.eqs rights) (n.outs ++ n.locals) in
        let vars : List Numbered = variable_flows label tys (first_of p k) (params_of n) env (sources ++ cs) in
        let others : List Numbered = right_flows p tys k n env n.eqs rights in
        right_used k n env is.found expanded is.count (entered_environment p tys flat sound label k sources ins outs locals rights text enough flow) n.eqs rights text.1 own.named.known own.arity (known_types.node k n is.found).rules
        (all_second (HasFlow p tys flat) vars others flow)
        (record { named = λ m h. h; enters = λ j by. expanded_more p main k j expanded (ap (applied_by p j) is.found ∙ by) })

-- an application of a used import has that import's body
pub body_of : (p : ProgramTree) (main : ℕ) (flat : FlatProgram) (bodies : List CheckedBody) (app : App) → HaveBodiesOf p.imports (used_imports p main) bodies → IsOfUsed p main flat app → HasBody flat bodies app
body_of p main flat bodies app have own_use =
    let b = have own_use.used.0 app.name own_use.used.1 in
    let same : b.of ≡ own_use.import = some_inner b.of own_use.import (sym b.declared ∙ own_use.declared) in
    record {
      body = b.body;
      named = b.named;
      fits = record {
        inputs = subst (λ (ports : List Port). HaveTypes flat (argument_numbers app) (map (λ (q : Port). q.ty) ports)) (sym (b.ins ∙ ap (λ (i : Import). i.ins) same)) own_use.inputs;
        outputs = subst (λ (ports : List Port). HaveTypes flat app.outs (map (λ (q : Port). q.ty) ports)) (sym (b.outs ∙ ap (λ (i : Import). i.outs) same)) own_use.outputs;
      };
    }
