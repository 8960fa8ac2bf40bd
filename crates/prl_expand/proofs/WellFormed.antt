-- The flat program of an expansion is well formed where the program is in range and its names, arity and types are right.
use Rattle.prl_base.proofs.Standard.{◌≡◌, ◌≤◌, ◌<◌, ◌+◌, ◌-◌, ◌^◌, ℕ, zero, suc, List, [], ◌∷◌, ◌++◌, map, length, Option, Some, None, slice_get, true, refl, sym, ap, ◌∙◌, subst, arith, ⊎_elim}
use Rattle.prl_base.proofs.Standard.{reverse, AllByRecursion, option_map, cases_lt, length-map, length-reverse, slice_get-map, slice_get_within}
use Rattle.std.specs.Option.{is_some}
use Rattle.std.proofs.lemmas.List.{append_assoc}
use Rattle.prl_base.specs.Operators.{IsOperatorFor}
use Rattle.prl_base.specs.declared.numbers.FlowNo.{FlowNo}
use Rattle.prl_base.specs.declared.places.Span.{Span}
use Rattle.prl_base.specs.declared.values.Ty.{Ty}
use Rattle.prl_ast.specs.InRange as ranges
use Rattle.prl_ast.specs.Trees.{Tree, Root, const, var, apply, group, Trees, none, more, EquationTree, NodeTree, ProgramTree}
use Rattle.prl_ast.specs.declared.declarations.Import.{Import}
use Rattle.prl_ast.specs.declared.declarations.Param.{Param}
use Rattle.prl_ast.specs.declared.declarations.Port.{Port}
use Rattle.prl_ast.specs.declared.expressions.PlacedOp.{PlacedOp}
use Rattle.prl_ast.specs.Trees.{tree}
use Rattle.prl_flow.specs.Vocabulary.{FlatProgram, HasType, IsWellDefined, IsApplication, IsOutput, Rule}
use Rattle.prl_flow.specs.declared.programs.App.{App}
use Rattle.prl_flow.specs.declared.programs.Arg.{Arg}
use Rattle.prl_flow.specs.declared.programs.Def.{Def}
use Rattle.prl_flow.proofs.Lists.{slice_get_append_left}
use Rattle.prl_names.specs.Vocabulary.{callee_of, param_at, param_names, params_of, index_of, IsKnown, IsKnownRoot, AreKnown, AreKnownEquations, AllAreAmong, is_among, left_names}
use Rattle.prl_names.specs.declared.lookups.Callee.{Callee}
use Rattle.prl_names.specs.declared.lookups.Callee.TheVariants as callees
use Rattle.prl_names.proofs.Marking.{index_found}
use Rattle.prl_types.specs.Vocabulary.{equations_faults, faults_in, root_faults, all_faults, prefix_fault, postfix_fault, last_at, first_of, parameter_or}
use Rattle.prl_terms.specs.declared.terms.Term.{Term}
use Rattle.prl_types.specs.Flows as flows
use Rattle.prl_types.specs.Rules as typing
use Rattle.prl_causal.specs.Annotations.{Entered, entered, Rights, done, next, Part, part, Core, Parts, imports_in, right_imports, part_imports, core_imports, parts_imports}
use Rattle.prl_causal.specs.Annotations as notes
use Rattle.prl_causal.specs.Asked.{inputs_of, last_of, given, root_given, all_given}
use Rattle.prl_causal.specs.Texts.{node_at, node_of, IsNodeCall, IsImportCall, IsText, AreRights, IsPart, IsCore, AreParts}
use Rattle.prl_expand.specs.Flats.{Numbered, Types, type_at, resolved, flow_no, copy_of, variable_flows, paired, equated, copies, source_of, operator_flows, output_flows, import_at, ports_of, wcet_of, label_of_node, arguments, entered_flows, right_flows, part_flows, root_flows_of, all_flows, entered_apps, right_apps, part_apps, root_apps, all_apps}
use Rattle.prl_expand.proofs.FlatRules.{all_tells, part_tells, arguments_are}
use Rattle.prl_expand.proofs.FlowTypes.{HasFlow, AreTyped, IsEnvironment, HaveKind, all_reverse, last_kind, operand_kind, operators_typed, entered_environment, given_typed, root_typed, all_typed}
use Rattle.prl_expand.proofs.Lists.{at_place, some_inner, all_both, all_first, all_second, no_first, no_second, equal_unless}
use Rattle.prl_expand.proofs.Numbers.{postfix_one, import_ports}
use Rattle.prl_expand.proofs.Sound.{IsRightNode, IsSound, root_length, param_known, operated_right, argued_right, enough_given, equated_right, entered_is, call_of}
use Rattle.prl_expand.proofs.Sources.{equated_names, index_is, names_of, get_second, mapped_from}
use Rattle.prl_expand.proofs.WellDefined.{Met, AllMet, AreTypedNodes, postfixes_fit, prefixes_fit, source_holds, IsSoundFlow, HaveApps, have_first, have_second, operators_sound, outputs_sound, variables_sound, applied_typed, parameter_typed, IsGiven, pairs_given}

-- what operators stand on is one flow, where there are prefixes
one_before : (count : ℕ) (pre post : List PlacedOp) → prefix_fault count pre post ≡ [] → postfix_fault count post ≡ [] → 0 < length pre → count ≡ 1
one_before count [] post e f some = absurd (omega (arith, some))
one_before count (o ∷ pre) [] e f some = equal_unless count 1 (last_at o.at.at pre) e
one_before count (o ∷ pre) (q ∷ post) e f some = postfix_one count (q ∷ post) f (omega arith)

pub factor : (n : ℕ) → ranges.IsCount n → (1 ≤ n) × (n < 2 ^ 31)
factor n h = (h.0, omega (arith, h.1))

pub among_place : (ns : List (List ℕ)) (name : List ℕ) → is_among ns name ≡ true → (t : ℕ) × (slice_get ns t ≡ Some name)
among_place ns name e =
    elim (index_of ns name) as (λ o. index_of ns name ≡ o → is_some o ≡ true → (t : ℕ) × (slice_get ns t ≡ Some name)) [
      | Some t ↦ λ f g. (t, index_found ns name t f)
      | None ↦ λ f g. absurd (cc)
    ] refl e

pub among_at : (ns : List (List ℕ)) (qs : List Param) (u : ℕ) (q : Param) → AllAreAmong ns qs → slice_get qs u ≡ Some q → is_among ns q.name ≡ true
among_at ns [] u q h e = absurd (cc)
among_at ns (x ∷ qs) zero q h e = subst (λ (y : Param). is_among ns y.name ≡ true) (some_inner x q e) h.0
among_at ns (x ∷ qs) (suc u) q h e = among_at ns qs u q h.1 e

module _ (p : ProgramTree) (tys : Types) (flat : FlatProgram) where
  -- applications as a flat program wants them
  abbrev pub AreSoundApps : List ℕ → List App → Type 0
  AreSoundApps [] us = Unit {0}
  AreSoundApps (k ∷ ks) [] = Unit {0}
  AreSoundApps (k ∷ ks) (a ∷ us) = IsApplication flat k a × AreSoundApps ks us

  -- flows and applications
  abbrev pub AreSound : List Numbered → List ℕ → List App → Type 0
  AreSound fs ks us = AllByRecursion (IsSoundFlow p tys flat) fs × AreSoundApps ks us

  apps_both : (ks ls : List ℕ) (us vs : List App) → length ks ≡ length us → AreSoundApps ks us → AreSoundApps ls vs → AreSoundApps (ks ++ ls) (us ++ vs)
  apps_both [] ls [] vs e a b = b
  apps_both [] ls (u ∷ us) vs e a b = absurd (omega (arith, e))
  apps_both (k ∷ ks) ls [] vs e a b = absurd (omega (arith, e))
  apps_both (k ∷ ks) ls (u ∷ us) vs e a b = (a.0, apps_both ks ls us vs (omega (arith, e)) a.1 b)

  sound_both : (fs gs : List Numbered) (ks ls : List ℕ) (us vs : List App) → length ks ≡ length us → AreSound fs ks us → AreSound gs ls vs → AreSound (fs ++ gs) (ks ++ ls) (us ++ vs)
  sound_both fs gs ks ls us vs e a b = (all_both (IsSoundFlow p tys flat) fs gs a.0 b.0, apps_both ks ls us vs e a.1 b.1)

  within_from : (ty : Ty) (f : FlowNo) → HasType flat ty f → f.0 < length flat.flows
  within_from ty f h = slice_get_within flat.flows f.0 h.0 h.1

  typed_within : (is : List ℕ) (ts : List Term) → AreTyped p tys flat is ts → (j i : ℕ) → slice_get is j ≡ Some i → i < length flat.flows
  typed_within [] ts h j i e = absurd (cc)
  typed_within (x ∷ is) [] h j i e = absurd h
  typed_within (x ∷ is) (t ∷ ts) h zero i e = subst (λ y. y < length flat.flows) (some_inner x i e) (within_from (resolved tys t) (flow_no x) h.0)
  typed_within (x ∷ is) (t ∷ ts) h (suc j) i e = typed_within is ts h.1 j i e

  output_at : (app out : ℕ) (at : Span) (qs : List Port) (is : List ℕ) → length is ≡ length qs → AllByRecursion (HasFlow p tys flat) (output_flows app out at qs is) → (j i : ℕ) → slice_get is j ≡ Some i
      → IsOutput flat app (out + j) (flow_no i)
  output_at app out at qs [] e h j i f = absurd (cc)
  output_at app out at [] (x ∷ is) e h j i f = absurd (omega (arith, e))
  output_at app out at (q ∷ qs) (x ∷ is) e h zero i f =
      let here : out ≡ out + 0 = omega arith in
      subst (λ y. IsOutput flat app (out + 0) (flow_no y)) (some_inner x i f) (subst (λ m. IsOutput flat app m (flow_no x)) here (_, h.0, refl))
  output_at app out at (q ∷ qs) (x ∷ is) e h (suc j) i f =
      let moved : (out + 1) + j ≡ out + suc j = omega arith in
      subst (λ m. IsOutput flat app m (flow_no i)) moved (output_at app (out + 1) at qs is (omega (arith, e)) h.1 j i f)

  import_range : AllByRecursion ranges.IsImportInRange p.imports → (o : Option Callee) (count : ℕ) → IsImportCall p count o → ranges.IsCount (wcet_of (import_at p o)) × (1 ≤ count)
  import_range imports None count h = absurd h
  import_range imports (Some (callees.Node k)) count h = absurd h
  import_range imports (Some (callees.Import k)) count h =
      let range = at_place ranges.IsImportInRange p.imports k h.0 imports h.1 in
      (subst (λ (o : Option Import). ranges.IsCount (wcet_of o)) (sym h.1) range.wcet, omega (arith, h.2, range.some))

  call_typed : (o : Option Callee) (gs : List ℕ) → IsNodeCall o → AreTyped p tys flat gs (flows.inputs_of p o) → (j g : ℕ) → slice_get gs j ≡ Some g → HasType flat (type_at tys (first_of p (node_of o) + j)) (flow_no g)
  call_typed None gs call typed j g e = absurd call
  call_typed (Some (callees.Import k)) gs call typed j g e = absurd call
  call_typed (Some (callees.Node k)) gs call typed j g e = node_typed (slice_get p.nodes k) typed
    where
      node_typed : (o : Option NodeTree) → AreTyped p tys flat gs (flows.node_inputs (first_of p k) o) → HasType flat (type_at tys (first_of p k + j)) (flow_no g)
      node_typed None h = absurd (nothing gs j g e h)
        where
          nothing : (gs : List ℕ) (j g : ℕ) → slice_get gs j ≡ Some g → AreTyped p tys flat gs [] → ⊥
          nothing [] j g e h = cc
          nothing (x ∷ gs) j g e h = h
      node_typed (Some n) h = parameter_typed p tys flat gs (first_of p k) (length n.ins) h j g e

  module _ (sound : IsSound p) (known_types : AreTypedNodes p tys) where
    -- each name of equations is given a flow of its type
    equated_given : (k : ℕ) (n : NodeTree) (env : List ℕ) → slice_get p.nodes k ≡ Some n → length env ≡ length (params_of n) → IsEnvironment p tys flat k env → (es : List EquationTree) (qs : Rights ℕ ℕ ℕ) → AreRights p es qs
        → AreKnownEquations p k es → equations_faults p k es ≡ [] → AllMet tys (typing.equations_rules p k es) → AllByRecursion (HasFlow p tys flat) (right_flows p tys k n env es qs)
        → AllByRecursion (IsGiven p tys flat k) (equated n env es qs)
    equated_given k n env found count typed [] done h known arity met flow = tt
    equated_given k n env found count typed [] (next q rest) h known arity met flow = absurd h
    equated_given k n env found count typed (e ∷ es) done h known arity met flow = absurd h
    equated_given k n env found count typed (e ∷ es) (next q rest) h known arity met flow =
        let a : List Numbered = part_flows p tys k n env e.right q in
        let b : List Numbered = right_flows p tys k n env es rest in
        let arities = equated_right p k e es arity in
        let own_met = all_first (Met tys) (typing.equation_rules p k e) (typing.equations_rules p k es) met in
        all_both (IsGiven p tys flat k) (paired e.lefts (given n env e.right q)) (equated n env es rest)
        (pairs_given p tys flat k e.lefts (given n env e.right q) (flows.flows_of p k e.right)
        (all_second (Met tys) (typing.rules_in p k e.right) (typing.left_rules p k e.lefts (flows.flows_of p k e.right)) own_met)
        (given_typed p tys flat sound k n env found count typed e.right q h.0 known.1 arities.first (all_first (HasFlow p tys flat) a b flow)))
        (equated_given k n env found count typed es rest h.1 known.2 arities.second
        (all_second (Met tys) (typing.equation_rules p k e) (typing.equations_rules p k es) met) (all_second (HasFlow p tys flat) a b flow))

    -- the definition of each variable of a node
    defined_at : (k : ℕ) (n : NodeTree) → IsRightNode p k n → slice_get p.nodes k ≡ Some n → (sources : List Def) (ins rest env : List ℕ) → env ≡ ins ++ rest → length env ≡ length (params_of n) → length sources ≡ length ins
        → length ins ≡ length n.ins → (rights : Rights ℕ ℕ ℕ) → AreRights p n.eqs rights → IsEnvironment p tys flat k env → AllMet tys (typing.equations_rules p k n.eqs) → AllByRecursion (HasFlow p tys flat) (right_flows p tys k n env n.eqs rights)
        → ((j i : ℕ) (s : Def) → slice_get ins j ≡ Some i → slice_get sources j ≡ Some s → IsWellDefined flat i (type_at tys (first_of p k + j)) s)
        → (j i : ℕ) (s : Def) → slice_get env j ≡ Some i → slice_get (sources ++ copies (equated n env n.eqs rights) (n.outs ++ n.locals)) j ≡ Some s → IsWellDefined flat i (type_at tys (first_of p k + j)) s
    defined_at k n right found sources ins rest env is_env count enough ins_count rights text typed met flow defined j i s at_env at_def =
        ⊎_elim
        (λ small.
        let number : slice_get ins j ≡ Some i = sym (slice_get_append_left ins rest j (omega (arith, small, enough))) ∙ ap (λ (is : List ℕ). slice_get is j) (sym is_env) ∙ at_env in
        defined j i s number (sym (slice_get_append_left sources (copies (equated n env n.eqs rights) (n.outs ++ n.locals)) j small) ∙ at_def))
        (λ large.
        let u : ℕ = j - length sources in
        let at : length sources + (j - length sources) ≡ j = omega (arith, large) in
        let copy_at : slice_get (copies (equated n env n.eqs rights) (n.outs ++ n.locals)) u ≡ Some s = sym (get_second sources (copies (equated n env n.eqs rights) (n.outs ++ n.locals)) u) ∙ ap (slice_get (sources ++ copies (equated n env n.eqs rights) (n.outs ++ n.locals))) at ∙ at_def in
        let q = mapped_from (λ (x : Param). copy_of (source_of (equated n env n.eqs rights) x.name)) (n.outs ++ n.locals) u s copy_at in
        let place : length n.ins + u ≡ j = omega (arith, at, enough, ins_count) in
        let param_there : slice_get (params_of n) j ≡ Some q.0 =
        ap (λ (qs : List Param). slice_get qs j) (append_assoc n.ins n.outs n.locals) ∙ ap (slice_get (n.ins ++ (n.outs ++ n.locals))) (sym place) ∙ get_second n.ins (n.outs ++ n.locals) u ∙ q.1 in
        let name_there : slice_get (param_names n) j ≡ Some q.0.name = slice_get-map (λ (x : Param). x.name) (params_of n) j ∙ ap (option_map (λ (x : Param). x.name)) param_there in
        let index : param_at p k q.0.name ≡ Some j = param_known p k n q.0.name found ∙ index_is (param_names n) j q.0.name right.named.params_apart name_there in
        let names_are : names_of (equated n env n.eqs rights) ≡ left_names n = equated_names p k n env found count n.eqs rights text right.named.known right.arity in
        let left = among_place (left_names n) q.0.name (among_at (left_names n) (n.outs ++ n.locals) u q.0 right.named.defined q.1) in
        let source_there : slice_get (names_of (equated n env n.eqs rights)) left.0 ≡ Some q.0.name = ap (λ (ns : List (List ℕ)). slice_get ns left.0) names_are ∙ left.1 in
        let kind : IsGiven p tys flat k (q.0.name, source_of (equated n env n.eqs rights) q.0.name) =
        source_holds (IsGiven p tys flat k) (equated n env n.eqs rights) left.0 q.0.name source_there (equated_given k n env found count typed n.eqs rights text right.named.known right.arity met flow) in
        let typed_source : HasType flat (type_at tys (first_of p k + j)) (flow_no (source_of (equated n env n.eqs rights) q.0.name)) =
        subst (λ (o : Option ℕ). HasType flat (resolved tys (parameter_or p k o)) (flow_no (source_of (equated n env n.eqs rights) q.0.name))) index kind in
        subst (λ (def : Def). IsWellDefined flat i (type_at tys (first_of p k + j)) def) q.2 typed_source)
        (cases_lt j (length sources))

    mutual
      part_sound : (k : ℕ) (n : NodeTree) (env : List ℕ) → slice_get p.nodes k ≡ Some n → length env ≡ length (params_of n) → IsEnvironment p tys flat k env → (d : ℕ) (t : Tree) (q : Part ℕ ℕ ℕ) → IsPart p t q → IsKnown p k t
          → faults_in p k t ≡ [] → ranges.IsTreeInRange d t → AllMet tys (typing.rules_in p k t) → AllByRecursion (HasFlow p tys flat) (part_flows p tys k n env t q)
          → HaveApps p tys flat (part_imports q) (part_apps p n env t q) → AreSound (part_flows p tys k n env t q) (part_imports q) (part_apps p n env t q)
      part_sound k n env found count typed d (tree pre root post at) (part pres core posts) h known arity range met flow apps =
          let of : List ℕ = root_given n env root core in
          let terms_of : List Term = flows.root_flows p k root in
          let needed : ℕ = length terms_of in
          let ty : Ty = resolved tys (flows.operand terms_of) in
          let arities = operated_right p k pre root post arity in
          let a : List Numbered = root_flows_of p tys k n env root at core in
          let b : List Numbered = operator_flows ty post posts of in
          let c : List Numbered = operator_flows ty (reverse pre) (reverse pres) (last_of of posts) in
          let later = all_second (HasFlow p tys flat) a (b ++ c) flow in
          let root_flow = all_first (HasFlow p tys flat) a (b ++ c) flow in
          let one : length of ≡ needed = root_length p k n env found count root core h.1 known in
          let root_kinds = root_typed p tys flat sound k n env found count typed root at core h.1 known arities.inner root_flow in
          let root_met = all_first (Met tys) (typing.root_rules p k root) (typing.constant_rules (flows.operand terms_of) pre) met in
          let pre_met = all_second (Met tys) (typing.root_rules p k root) (typing.constant_rules (flows.operand terms_of) pre) met in
          let r = root_sound k n env found count typed d root at core h.1 known arities.inner range.1 root_met root_flow apps in
          let kinds : (length of ≡ 1) → HaveKind p tys flat ty of = λ e. operand_kind p tys flat of terms_of e root_kinds in
          let post_flow = all_first (HasFlow p tys flat) b c later in
          let pre_flow = all_second (HasFlow p tys flat) b c later in
          let posts_kind = operators_typed p tys flat ty post posts of h.2 (λ some. one ∙ postfix_one needed post arities.back some) post_flow in (
            all_both (IsSoundFlow p tys flat) a (b ++ c) r.0
                (all_both (IsSoundFlow p tys flat) b c
                (operators_sound p tys flat ty post posts of (postfixes_fit ty post range.2) (λ some. kinds (one ∙ postfix_one needed post arities.back some)) post_flow)
                (operators_sound p tys flat ty (reverse pre) (reverse pres) (last_of of posts) (all_reverse (λ (o : PlacedOp). IsOperatorFor ty o.op) pre (prefixes_fit tys (flows.operand terms_of) pre range.0 pre_met))
                (λ some. last_kind p tys flat ty of posts (kinds (one ∙ one_before needed pre post arities.front arities.back (omega (arith, some, length-reverse pre)))) posts_kind) pre_flow)),
            r.1,
          )

      root_sound : (k : ℕ) (n : NodeTree) (env : List ℕ) → slice_get p.nodes k ≡ Some n → length env ≡ length (params_of n) → IsEnvironment p tys flat k env → (d : ℕ) (root : Root) (at : Span) (c : Core ℕ ℕ ℕ) → IsCore p root c → IsKnownRoot p k root
          → root_faults p k root ≡ [] → ranges.IsRootInRange d root → AllMet tys (typing.root_rules p k root) → AllByRecursion (HasFlow p tys flat) (root_flows_of p tys k n env root at c)
          → HaveApps p tys flat (core_imports c) (root_apps p n env root at c) → AreSound (root_flows_of p tys k n env root at c) (core_imports c) (root_apps p n env root at c)
      root_sound k n env found count typed d (const v) at (notes.constant i) h known arity range met flow apps = ((((refl, range), (tt, tt)), tt), tt)
      root_sound k n env found count typed d (var name) at notes.name h known arity range met flow apps = (tt, tt)
      root_sound k n env found count typed d (apply name place args) at (notes.import parts x outs) h known arity range met flow apps =
          let callee = callee_of p name in
          let argued = argued_right p k name place args arity in
          let ports : List Port = ports_of (import_at p callee) in
          let a : List Numbered = all_flows p tys k n env args parts in
          let b : List Numbered = output_flows x 0 place ports outs in
          let call : App = call_of p n env name place args parts outs in
          let arg_flow = all_first (HasFlow p tys flat) a b flow in
          let out_flow = all_second (HasFlow p tys flat) a b flow in
          let number = (all_tells (λ (r : Rule ℕ ℕ). Unit {0}) p tys sound k n env found count args parts h.1 known.1 argued.inner).count in
          let arg_apps = have_first p tys flat (parts_imports parts) (x ∷ []) (all_apps p n env args parts) (call ∷ []) number apps in
          let own_app : slice_get flat.apps x ≡ Some call = (have_second p tys flat (parts_imports parts) (x ∷ []) (all_apps p n env args parts) (call ∷ []) number apps).0 in
          let met_args = all_first (Met tys) (typing.all_rules p k args) (typing.argument_rules (flows.inputs_of p callee) (flows.placed_flows p k args)) met in
          let kinds = all_typed p tys flat sound k n env found count typed args parts h.1 known.1 argued.inner arg_flow in
          let range_of = import_range known_types.imports callee (length outs) h.0 in
          let many : length outs ≡ length ports = import_ports p callee (length outs) h.0 in
          let application : IsApplication flat x call = record {
            name = range.0;
            wcet = factor (wcet_of (import_at p callee)) range_of.0;
            args = λ j arg e.
                let number_at : slice_get (map (λ (u : Arg). u.flow.0) (arguments n env args parts)) j ≡ Some arg.flow.0 =
                slice_get-map (λ (u : Arg). u.flow.0) (arguments n env args parts) j ∙ ap (option_map (λ (u : Arg). u.flow.0)) e in
                typed_within (all_given n env args parts) (flows.all_flows p k args) kinds j arg.flow.0 (ap (λ (is : List ℕ). slice_get is j) (sym (arguments_are n env args parts)) ∙ number_at);
            outs = λ j f e.
                let o = mapped_from flow_no outs j f e in
                let plain : 0 + j ≡ j = omega arith in
                subst (λ (g : FlowNo). IsOutput flat x j g) o.2 (subst (λ m. IsOutput flat x m (flow_no o.0)) plain (output_at x 0 place ports outs many out_flow j o.0 o.1));
            has_output = let some = range_of.1 in omega (arith, some, length-map outs flow_no);
          } in
          sound_both a b (parts_imports parts) (x ∷ []) (all_apps p n env args parts) (call ∷ []) number
          (all_sound k n env found count typed (d + 1) args parts h.1 known.1 argued.inner range.2 met_args arg_flow arg_apps) (
            outputs_sound p tys flat x 0 place ports outs call own_app
                (λ j i e.
                let plain : 0 + j ≡ j = omega arith in
                ap (slice_get (map flow_no outs)) plain ∙ slice_get-map flow_no outs j ∙ ap (option_map flow_no) e),
            (application, tt),
          )
      root_sound k n env found count typed d (apply name place args) at (notes.node parts x child) h known arity range met flow apps =
          let o = callee_of p name in
          let callee = node_of o in
          let gs : List ℕ = all_given n env args parts in
          let label : List ℕ = label_of_node name x in
          let argued = argued_right p k name place args arity in
          let a : List Numbered = all_flows p tys k n env args parts in
          let b : List Numbered = entered_flows p tys label callee (map copy_of gs) child in
          let arg_flow = all_first (HasFlow p tys flat) a b flow in
          let number = (all_tells (λ (r : Rule ℕ ℕ). Unit {0}) p tys sound k n env found count args parts h.1 known.1 argued.inner).count in
          let arg_apps = have_first p tys flat (parts_imports parts) (imports_in child) (all_apps p n env args parts) (entered_apps p callee child) number apps in
          let child_apps = have_second p tys flat (parts_imports parts) (imports_in child) (all_apps p n env args parts) (entered_apps p callee child) number apps in
          let met_args = all_first (Met tys) (typing.all_rules p k args) (typing.argument_rules (flows.inputs_of p o) (flows.placed_flows p k args)) met in
          let met_own = all_second (Met tys) (typing.all_rules p k args) (typing.argument_rules (flows.inputs_of p o) (flows.placed_flows p k args)) met in
          let kinds = all_typed p tys flat sound k n env found count typed args parts h.1 known.1 argued.inner arg_flow in
          let inputs = applied_typed p tys flat k name args gs argued met_own kinds in
          sound_both a b (parts_imports parts) (imports_in child) (all_apps p n env args parts) (entered_apps p callee child) number
          (all_sound k n env found count typed (d + 1) args parts h.1 known.1 argued.inner range.2 met_args arg_flow arg_apps)
          (entered_sound label callee (map copy_of gs) child h.2 (enough_given p k n env found count name args parts child h.0 h.1 h.2 known.1 argued)
          (λ j i s e f.
          let g = mapped_from copy_of gs j s f in
          subst (λ (def : Def). IsWellDefined flat i (type_at tys (first_of p callee + j)) def) g.2 (call_typed o gs h.0 inputs j g.0 g.1))
          (all_second (HasFlow p tys flat) a b flow) child_apps)
      root_sound k n env found count typed d (group (more t ts)) at (notes.group parts) h known arity range met flow apps =
          all_sound k n env found count typed (d + 1) (more t ts) parts h known arity (range.1, range.2) met flow apps
      root_sound k n env found count typed d (group none) at (notes.group parts) h known arity range met flow apps = absurd range
      root_sound k n env found count typed d root at core h known arity range met flow apps = absurd h

      all_sound : (k : ℕ) (n : NodeTree) (env : List ℕ) → slice_get p.nodes k ≡ Some n → length env ≡ length (params_of n) → IsEnvironment p tys flat k env → (d : ℕ) (ts : Trees) (qs : Parts ℕ ℕ ℕ) → AreParts p ts qs → AreKnown p k ts
          → all_faults p k ts ≡ [] → ranges.AreTreesInRange d ts → AllMet tys (typing.all_rules p k ts) → AllByRecursion (HasFlow p tys flat) (all_flows p tys k n env ts qs)
          → HaveApps p tys flat (parts_imports qs) (all_apps p n env ts qs) → AreSound (all_flows p tys k n env ts qs) (parts_imports qs) (all_apps p n env ts qs)
      all_sound k n env found count typed d none notes.none h known arity range met flow apps = (tt, tt)
      all_sound k n env found count typed d none (notes.more q rest) h known arity range met flow apps = absurd h
      all_sound k n env found count typed d (more t ts) notes.none h known arity range met flow apps = absurd h
      all_sound k n env found count typed d (more t ts) (notes.more q rest) h known arity range met flow apps =
          let a : List Numbered = part_flows p tys k n env t q in
          let b : List Numbered = all_flows p tys k n env ts rest in
          let first = no_first (faults_in p k t) (all_faults p k ts) arity in
          let second = no_second (faults_in p k t) (all_faults p k ts) arity in
          let number = (part_tells (λ (r : Rule ℕ ℕ). Unit {0}) p tys sound k n env found count t q h.0 known.0 first).count in
          sound_both a b (part_imports q) (parts_imports rest) (part_apps p n env t q) (all_apps p n env ts rest) number
          (part_sound k n env found count typed d t q h.0 known.0 first range.0 (all_first (Met tys) (typing.rules_in p k t) (typing.all_rules p k ts) met) (all_first (HasFlow p tys flat) a b flow)
          (have_first p tys flat (part_imports q) (parts_imports rest) (part_apps p n env t q) (all_apps p n env ts rest) number apps))
          (all_sound k n env found count typed d ts rest h.1 known.1 second range.1 (all_second (Met tys) (typing.rules_in p k t) (typing.all_rules p k ts) met) (all_second (HasFlow p tys flat) a b flow)
          (have_second p tys flat (part_imports q) (parts_imports rest) (part_apps p n env t q) (all_apps p n env ts rest) number apps))

      right_sound : (k : ℕ) (n : NodeTree) (env : List ℕ) → slice_get p.nodes k ≡ Some n → length env ≡ length (params_of n) → IsEnvironment p tys flat k env → (es : List EquationTree) (qs : Rights ℕ ℕ ℕ) → AreRights p es qs
          → AreKnownEquations p k es → equations_faults p k es ≡ [] → AllByRecursion ranges.IsEquationInRange es → AllMet tys (typing.equations_rules p k es) → AllByRecursion (HasFlow p tys flat) (right_flows p tys k n env es qs)
          → HaveApps p tys flat (right_imports qs) (right_apps p n env es qs) → AreSound (right_flows p tys k n env es qs) (right_imports qs) (right_apps p n env es qs)
      right_sound k n env found count typed [] done h known arity range met flow apps = (tt, tt)
      right_sound k n env found count typed [] (next q rest) h known arity range met flow apps = absurd h
      right_sound k n env found count typed (e ∷ es) done h known arity range met flow apps = absurd h
      right_sound k n env found count typed (e ∷ es) (next q rest) h known arity range met flow apps =
          let a : List Numbered = part_flows p tys k n env e.right q in
          let b : List Numbered = right_flows p tys k n env es rest in
          let arities = equated_right p k e es arity in
          let number = (part_tells (λ (r : Rule ℕ ℕ). Unit {0}) p tys sound k n env found count e.right q h.0 known.1 arities.first).count in
          let own_met = all_first (Met tys) (typing.equation_rules p k e) (typing.equations_rules p k es) met in
          sound_both a b (part_imports q) (right_imports rest) (part_apps p n env e.right q) (right_apps p n env es rest) number
          (part_sound k n env found count typed 0 e.right q h.0 known.1 arities.first range.0.right
          (all_first (Met tys) (typing.rules_in p k e.right) (typing.left_rules p k e.lefts (flows.flows_of p k e.right)) own_met) (all_first (HasFlow p tys flat) a b flow)
          (have_first p tys flat (part_imports q) (right_imports rest) (part_apps p n env e.right q) (right_apps p n env es rest) number apps))
          (right_sound k n env found count typed es rest h.1 known.2 arities.second range.1 (all_second (Met tys) (typing.equation_rules p k e) (typing.equations_rules p k es) met)
          (all_second (HasFlow p tys flat) a b flow) (have_second p tys flat (part_imports q) (right_imports rest) (part_apps p n env e.right q) (right_apps p n env es rest) number apps))

      pub entered_sound : (label : List ℕ) (k : ℕ) (sources : List Def) (e : Entered ℕ ℕ ℕ) → IsText p k e → length sources ≡ length (inputs_of e)
          → ((j i : ℕ) (s : Def) → slice_get (inputs_of e) j ≡ Some i → slice_get sources j ≡ Some s → IsWellDefined flat i (type_at tys (first_of p k + j)) s)
          → AllByRecursion (HasFlow p tys flat) (entered_flows p tys label k sources e) → HaveApps p tys flat (imports_in e) (entered_apps p k e)
          → AreSound (entered_flows p tys label k sources e) (imports_in e) (entered_apps p k e)
      entered_sound label k sources (entered ins outs locals rights) text enough defined flow apps =
          let n : NodeTree = node_at p k in
          let env : List ℕ = (ins ++ outs) ++ locals in
          let is = entered_is p k ins outs locals text.0 in
          let right : IsRightNode p k n = sound.node k n is.found in
          let node = known_types.node k n is.found in
          let cs : List Def = copies (equated n env n.eqs rights) (n.outs ++ n.locals) in
          let vars : List Numbered = variable_flows label tys (first_of p k) (params_of n) env (sources ++ cs) in
          let others : List Numbered = right_flows p tys k n env n.eqs rights in
          let typed = entered_environment p tys flat sound label k sources ins outs locals rights text enough flow in
          let rs = right_sound k n env is.found is.count typed n.eqs rights text.1 right.named.known right.arity node.range.eqs node.rules (all_second (HasFlow p tys flat) vars others flow) apps in (
            all_both (IsSoundFlow p tys flat) vars others
                (variables_sound p tys flat label (first_of p k) (params_of n) env (sources ++ cs)
                (all_both ranges.IsParamInRange (n.ins ++ n.outs) n.locals (all_both ranges.IsParamInRange n.ins n.outs node.range.ins node.range.outs) node.range.locals)
                (defined_at k n right is.found sources ins (outs ++ locals) env (append_assoc ins outs locals) is.count enough is.has.0 rights text.1 typed node.rules (all_second (HasFlow p tys flat) vars others flow) defined))
                rs.0,
            rs.1,
          )
