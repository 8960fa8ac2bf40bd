-- The types of the flows that expressions give.
use Rattle.prl_base.proofs.Standard.{◌≡◌, ◌<◌, ◌+◌, ℕ, zero, suc, List, [], ◌∷◌, ◌++◌, map, length, Option, Some, None, IsSome, slice_get, refl, sym, ap, ◌∙◌, subst, arith, reverse, AllByRecursion}
use Rattle.prl_base.proofs.Standard.{length-map, length-reverse, reverse-append}
use Rattle.std.proofs.lemmas.List.{append_assoc}
use Rattle.prl_base.specs.declared.places.Span.{Span}
use Rattle.prl_base.specs.declared.values.Ty.{Ty}
use Rattle.prl_ast.specs.Trees.{Tree, Root, const, var, apply, group, Trees, none, more, NodeTree, ProgramTree}
use Rattle.prl_ast.specs.declared.declarations.Import.{Import}
use Rattle.prl_ast.specs.declared.declarations.Param.{Param}
use Rattle.prl_ast.specs.declared.declarations.Port.{Port}
use Rattle.prl_ast.specs.declared.expressions.PlacedOp.{PlacedOp}
use Rattle.prl_ast.specs.Trees.{tree}
use Rattle.prl_flow.specs.Programs.{FlatProgram, HasType}
use Rattle.prl_flow.specs.declared.programs.Def.{Def}
use Rattle.prl_flow.proofs.Lists.{element_at, slice_get_append_left}
use Rattle.prl_names.specs.Vocabulary.{callee_of, param_at, param_of, param_names, params_of, IsKnown, IsKnownRoot, AreKnown}
use Rattle.prl_names.specs.declared.lookups.Callee.{Callee}
use Rattle.prl_names.specs.declared.lookups.Callee.TheVariants as callees
use Rattle.prl_types.specs.Vocabulary.{faults_in, root_faults, all_faults, first_of, parameter_or}
use Rattle.prl_terms.specs.declared.terms.Term.{Term}
use Rattle.prl_terms.specs.declared.terms.Term.TheVariants as terms
use Rattle.prl_types.specs.Flows as flows
use Rattle.prl_causal.specs.Annotations.{Entered, entered, Rights, Part, part, Core, Parts}
use Rattle.prl_causal.specs.Annotations as notes
use Rattle.prl_causal.specs.Asked.{inputs_of, outputs_of, one, at_index, last_of, first_of as first_flow, given, root_given, all_given}
use Rattle.prl_causal.specs.Texts.{node_at, node_of, IsNodeCall, IsImportCall, IsText, IsPart, IsCore, AreParts}
use Rattle.prl_expand.specs.Flats.{Numbered, Types, type_at, resolved, flow_no, copy_of, variable_flows, equated, copies, operator_flows, output_flows, import_at, ports_of, label_of_node, entered_flows, right_flows, part_flows, root_flows_of, all_flows}
use Rattle.prl_expand.proofs.Lists.{some_inner, all_both, all_first, all_second, no_first, no_second}
use Rattle.prl_expand.proofs.Numbers.{postfix_one, prefix_one}
use Rattle.prl_expand.proofs.Sound.{IsSound, root_length, param_known, index_within, operated_right, argued_right, enough_given, entered_is, all_defined}
use Rattle.prl_expand.proofs.Sources.{get_second}

pub all_reverse : {A : Type 0} (P : A → Type 0) (xs : List A) → AllByRecursion P xs → AllByRecursion P (reverse xs)
all_reverse P [] h = tt
all_reverse P (x ∷ xs) h = subst (λ ys. AllByRecursion P ys) (sym (reverse-append (x ∷ []) xs)) (all_both P (reverse xs) (x ∷ []) (all_reverse P xs h.1) (h.0, tt))

pub all_reversed : {A : Type 0} (P : A → Type 0) (xs : List A) → AllByRecursion P (reverse xs) → AllByRecursion P xs
all_reversed P [] h = tt
all_reversed P (x ∷ xs) h =
    let both = subst (λ ys. AllByRecursion P ys) (reverse-append (x ∷ []) xs) h in
    ((all_second P (reverse xs) (x ∷ []) both).0, all_reversed P xs (all_first P (reverse xs) (x ∷ []) both))

module _ (p : ProgramTree) (tys : Types) (flat : FlatProgram) where
  -- the flow stands at its number
  abbrev pub HasFlow : Numbered → Type 0
  HasFlow f = slice_get flat.flows f.0 ≡ Some f.1

  -- flows of these types, one by one
  abbrev pub AreTyped : List ℕ → List Term → Type 0
  AreTyped [] [] = Unit {0}
  AreTyped [] (t ∷ ts) = ⊥
  AreTyped (i ∷ is) [] = ⊥
  AreTyped (i ∷ is) (t ∷ ts) = HasType flat (resolved tys t) (flow_no i) × AreTyped is ts

  -- the variables of a node have their types
  abbrev pub IsEnvironment : ℕ → List ℕ → Type 0
  IsEnvironment k env = (j i : ℕ) → slice_get env j ≡ Some i → HasType flat (type_at tys (first_of p k + j)) (flow_no i)

  abbrev pub HaveKind : Ty → List ℕ → Type 0
  HaveKind ty is = AllByRecursion (λ (i : ℕ). HasType flat ty (flow_no i)) is

  typed_append : (is js : List ℕ) (ts us : List Term) → AreTyped is ts → AreTyped js us → AreTyped (is ++ js) (ts ++ us)
  typed_append [] js [] us a b = b
  typed_append [] js (t ∷ ts) us a b = absurd a
  typed_append (i ∷ is) js [] us a b = absurd a
  typed_append (i ∷ is) js (t ∷ ts) us a b = (a.0, typed_append is js ts us a.1 b)

  -- flows whose types are those of parameters that follow one another
  pub typed_range : (is : List ℕ) (m : ℕ) → ((j i : ℕ) → slice_get is j ≡ Some i → HasType flat (type_at tys (m + j)) (flow_no i)) → AreTyped is (flows.parameters_from m (length is))
  typed_range [] m each = tt
  typed_range (i ∷ is) m each =
      let zero_is : m + 0 ≡ m = omega arith in (
        subst (λ k. HasType flat (type_at tys k) (flow_no i)) zero_is (each 0 i refl),
        typed_range is (m + 1) (λ j x e.
            let moved : m + suc j ≡ (m + 1) + j = omega arith in
            subst (λ k. HasType flat (type_at tys k) (flow_no x)) moved (each (suc j) x e)),
      )

  pub variables_typed : (label : List ℕ) (m : ℕ) (qs : List Param) (is : List ℕ) (ds : List Def) → length is ≡ length qs → length is ≡ length ds
      → AllByRecursion HasFlow (variable_flows label tys m qs is ds) → (j i : ℕ) → slice_get is j ≡ Some i → HasType flat (type_at tys (m + j)) (flow_no i)
  variables_typed label m qs [] ds a b h j i e = absurd (cc)
  variables_typed label m [] (x ∷ is) ds a b h j i e = absurd (omega (arith, a))
  variables_typed label m (q ∷ qs) (x ∷ is) [] a b h j i e = absurd (omega (arith, b))
  variables_typed label m (q ∷ qs) (x ∷ is) (d ∷ ds) a b h zero i e =
      let here : m ≡ m + 0 = omega arith in
      subst (λ y. HasType flat (type_at tys (m + 0)) (flow_no y)) (some_inner x i e) (subst (λ k. HasType flat (type_at tys k) (flow_no x)) here (_, h.0, refl))
  variables_typed label m (q ∷ qs) (x ∷ is) (d ∷ ds) a b h (suc j) i e =
      let moved : (m + 1) + j ≡ m + suc j = omega arith in
      subst (λ k. HasType flat (type_at tys k) (flow_no i)) moved (variables_typed label (m + 1) qs is ds (omega (arith, a)) (omega (arith, b)) h.1 j i e)

  pub operators_typed : (ty : Ty) (os : List PlacedOp) (is of : List ℕ) → length is ≡ length os → (0 < length os → length of ≡ 1) → AllByRecursion HasFlow (operator_flows ty os is of) → HaveKind ty is
  operators_typed ty [] [] of a b h = tt
  operators_typed ty [] (i ∷ is) of a b h = absurd (omega (arith, a))
  operators_typed ty (o ∷ os) [] of a b h = absurd (omega (arith, a))
  operators_typed ty (o ∷ os) (i ∷ is) [] a b h = absurd (omega (arith, b (omega arith)))
  operators_typed ty (o ∷ os) (i ∷ is) (x ∷ xs) a b h = ((_, h.0, refl), operators_typed ty os is (i ∷ []) (omega (arith, a)) (λ some. refl) h.1)

  outputs_typed : (app out : ℕ) (at : Span) (qs : List Port) (is : List ℕ) → length is ≡ length qs → AllByRecursion HasFlow (output_flows app out at qs is) → AreTyped is (flows.port_types qs)
  outputs_typed app out at [] [] a h = tt
  outputs_typed app out at [] (i ∷ is) a h = absurd (omega (arith, a))
  outputs_typed app out at (q ∷ qs) [] a h = absurd (omega (arith, a))
  outputs_typed app out at (q ∷ qs) (i ∷ is) a h = ((_, h.0, refl), outputs_typed app (out + 1) at qs is (omega (arith, a)) h.1)

  pub last_kind : (ty : Ty) (of is : List ℕ) → HaveKind ty of → HaveKind ty is → HaveKind ty (last_of of is)
  last_kind ty of [] a b = a
  last_kind ty of (i ∷ is) a b = last_kind ty (i ∷ []) is (b.0, tt) b.1

  one_typed : (is : List ℕ) (t : Term) → length is ≡ 1 → HaveKind (resolved tys t) is → AreTyped is (t ∷ [])
  one_typed [] t e h = absurd (omega (arith, e))
  one_typed (i ∷ []) t e h = (h.0, tt)
  one_typed (i ∷ j ∷ is) t e h = absurd (omega (arith, e))

  last_one : (of is : List ℕ) → 0 < length is → length (last_of of is) ≡ 1
  last_one of [] some = absurd (omega (arith, some))
  last_one of (i ∷ []) some = refl
  last_one of (i ∷ j ∷ is) some = last_one (i ∷ []) (j ∷ is) (omega arith)

  -- what operators stand on has the operand's type, where it is one flow
  pub operand_kind : (of : List ℕ) (ts : List Term) → length of ≡ 1 → AreTyped of ts → HaveKind (resolved tys (flows.operand ts)) of
  operand_kind [] ts e h = absurd (omega (arith, e))
  operand_kind (i ∷ []) [] e h = absurd h
  operand_kind (i ∷ []) (t ∷ ts) e h = (h.0, tt)
  operand_kind (i ∷ j ∷ is) ts e h = absurd (omega (arith, e))

  operated_typed : (pre post : List PlacedOp) (pres posts of : List ℕ) (ts : List Term) → length pres ≡ length pre → length posts ≡ length post
      → AreTyped of ts → HaveKind (resolved tys (flows.operand ts)) posts → HaveKind (resolved tys (flows.operand ts)) pres
      → AreTyped (first_flow pres (last_of of posts)) (flows.operated pre post ts)
  operated_typed [] [] [] [] of ts a b typed f g = typed
  operated_typed [] [] [] (i ∷ posts) of ts a b typed f g = absurd (omega (arith, b))
  operated_typed [] [] (i ∷ pres) posts of ts a b typed f g = absurd (omega (arith, a))
  operated_typed [] (o ∷ post) [] [] of ts a b typed f g = absurd (omega (arith, b))
  operated_typed [] (o ∷ post) [] (i ∷ posts) of ts a b typed f g =
      one_typed (last_of (i ∷ []) posts) (flows.operand ts) (last_one of (i ∷ posts) (omega arith)) (last_kind (resolved tys (flows.operand ts)) (i ∷ []) posts (f.0, tt) f.1)
  operated_typed [] (o ∷ post) (i ∷ pres) posts of ts a b typed f g = absurd (omega (arith, a))
  operated_typed (o ∷ pre) post [] posts of ts a b typed f g = absurd (omega (arith, a))
  operated_typed (o ∷ pre) post (i ∷ pres) posts of ts a b typed f g = (g.0, tt)

  -- a slice of what stands at all variables
  pub middle : (ins outs locals : List ℕ) (j i : ℕ) → slice_get outs j ≡ Some i → slice_get ((ins ++ outs) ++ locals) (length ins + j) ≡ Some i
  middle ins outs locals j i e =
      ap (λ (xs : List ℕ). slice_get xs (length ins + j)) (append_assoc ins outs locals) ∙ get_second ins (outs ++ locals) j
      ∙ slice_get_append_left outs locals j (within outs j i e) ∙ e
    where
      within : (xs : List ℕ) (j i : ℕ) → slice_get xs j ≡ Some i → j < length xs
      within [] j i e = absurd (cc)
      within (x ∷ xs) zero i e = omega arith
      within (x ∷ xs) (suc j) i e = omega (arith, within xs j i e)

  variable_typed : (k : ℕ) (env : List ℕ) (o : Option ℕ) → IsSome o → IsEnvironment k env → ((j : ℕ) → o ≡ Some j → j < length env) → AreTyped (at_index env o) (parameter_or p k o ∷ [])
  variable_typed k env None h typed small = absurd (cc)
  variable_typed k env (Some j) h typed small =
      let i = element_at env j (small j refl) in
      subst (λ (x : Option ℕ). AreTyped (one x) (terms.Parameter (first_of p k + j) ∷ [])) (sym i.1) (typed j i.0 i.1, tt)

  pub import_typed : (o : Option Callee) (app : ℕ) (at : Span) (outs : List ℕ) → IsImportCall p (length outs) o → AllByRecursion HasFlow (output_flows app 0 at (ports_of (import_at p o)) outs)
      → AreTyped outs (flows.outputs_of p o)
  import_typed None app at outs call h = absurd call
  import_typed (Some (callees.Node k)) app at outs call h = absurd call
  import_typed (Some (callees.Import k)) app at outs call h =
      let flows_there = subst (λ (o : Option Import). AllByRecursion HasFlow (output_flows app 0 at (ports_of o) outs)) call.1 h in
      subst (λ (o : Option Import). AreTyped outs (flows.import_outputs o)) (sym call.1) (outputs_typed app 0 at call.0.outs outs call.2 flows_there)

  module _ (sound : IsSound p) where
    -- the variables of a node that is entered
    pub entered_environment : (label : List ℕ) (k : ℕ) (sources : List Def) (ins outs locals : List ℕ) (rights : Rights ℕ ℕ ℕ) → IsText p k (entered ins outs locals rights)
        → length sources ≡ length ins → AllByRecursion HasFlow (entered_flows p tys label k sources (entered ins outs locals rights)) → IsEnvironment k ((ins ++ outs) ++ locals)
    entered_environment label k sources ins outs locals rights text enough h =
        let n : NodeTree = node_at p k in
        let env : List ℕ = (ins ++ outs) ++ locals in
        let is = entered_is p k ins outs locals text.0 in
        let given_flows : List Def = copies (equated n env n.eqs rights) (n.outs ++ n.locals) in
        let as_many = all_defined p k ins outs locals is sources enough (equated n env n.eqs rights) in
        variables_typed label (first_of p k) (params_of n) env (sources ++ given_flows) is.count as_many
        (all_first HasFlow (variable_flows label tys (first_of p k) (params_of n) env (sources ++ given_flows)) (right_flows p tys k n env n.eqs rights) h)

    child_outputs : (label : List ℕ) (k : ℕ) (sources : List Def) (e : Entered ℕ ℕ ℕ) → IsText p k e → length sources ≡ length (inputs_of e)
        → AllByRecursion HasFlow (entered_flows p tys label k sources e) → AreTyped (outputs_of e) (flows.node_outputs (first_of p k) (slice_get p.nodes k))
    child_outputs label k sources (entered ins outs locals rights) text enough h =
        let n : NodeTree = node_at p k in
        let is = entered_is p k ins outs locals text.0 in
        let env = entered_environment label k sources ins outs locals rights text enough h in
        let range : AreTyped outs (flows.parameters_from (first_of p k + length ins) (length outs)) =
        typed_range outs (first_of p k + length ins) (λ j i e.
        let moved : first_of p k + (length ins + j) ≡ (first_of p k + length ins) + j = omega arith in
        subst (λ m. HasType flat (type_at tys m) (flow_no i)) moved (env (length ins + j) i (middle ins outs locals j i e))) in
        subst (λ (o : Option NodeTree). AreTyped outs (flows.node_outputs (first_of p k) o)) (sym is.found)
        (subst (λ m. AreTyped outs (flows.parameters_from (first_of p k + length n.ins) m)) is.has.1 (subst (λ m. AreTyped outs (flows.parameters_from (first_of p k + m) (length outs))) is.has.0 range))

    call_outputs : (o : Option Callee) (label : List ℕ) (sources : List Def) (e : Entered ℕ ℕ ℕ) → IsNodeCall o → IsText p (node_of o) e → length sources ≡ length (inputs_of e)
        → AllByRecursion HasFlow (entered_flows p tys label (node_of o) sources e) → AreTyped (outputs_of e) (flows.outputs_of p o)
    call_outputs None label sources e call text enough h = absurd call
    call_outputs (Some (callees.Import k)) label sources e call text enough h = absurd call
    call_outputs (Some (callees.Node k)) label sources e call text enough h = child_outputs label k sources e text enough h

    module _ (k : ℕ) (n : NodeTree) (env : List ℕ) (found : slice_get p.nodes k ≡ Some n) (count : length env ≡ length (params_of n)) (env_typed : IsEnvironment k env) where
      mutual
        pub given_typed : (t : Tree) (q : Part ℕ ℕ ℕ) → IsPart p t q → IsKnown p k t → faults_in p k t ≡ [] → AllByRecursion HasFlow (part_flows p tys k n env t q)
            → AreTyped (given n env t q) (flows.flows_of p k t)
        given_typed (tree pre root post at) (part pres core posts) h known arity flow =
            let of : List ℕ = root_given n env root core in
            let needed : ℕ = length (flows.root_flows p k root) in
            let ty : Ty = resolved tys (flows.operand (flows.root_flows p k root)) in
            let arities = operated_right p k pre root post arity in
            let a : List Numbered = root_flows_of p tys k n env root at core in
            let b : List Numbered = operator_flows ty post posts of in
            let c : List Numbered = operator_flows ty (reverse pre) (reverse pres) (last_of of posts) in
            let later = all_second HasFlow a (b ++ c) flow in
            let one : length of ≡ needed = root_length p k n env found count root core h.1 known in
            let turned : length (reverse pres) ≡ length (reverse pre) = length-reverse pres ∙ h.0 ∙ sym (length-reverse pre) in
            operated_typed pre post pres posts of (flows.root_flows p k root) h.0 h.2
            (root_typed root at core h.1 known arities.inner (all_first HasFlow a (b ++ c) flow))
            (operators_typed ty post posts of h.2 (λ some. one ∙ postfix_one needed post arities.back some) (all_first HasFlow b c later))
            (all_reversed (λ (i : ℕ). HasType flat ty (flow_no i)) pres
            (operators_typed ty (reverse pre) (reverse pres) (last_of of posts) turned
            (λ some. prefix_one needed pre post of posts arities.front h.2 one (omega (arith, some, length-reverse pre))) (all_second HasFlow b c later)))

        pub root_typed : (root : Root) (at : Span) (c : Core ℕ ℕ ℕ) → IsCore p root c → IsKnownRoot p k root → root_faults p k root ≡ [] → AllByRecursion HasFlow (root_flows_of p tys k n env root at c)
            → AreTyped (root_given n env root c) (flows.root_flows p k root)
        root_typed (const v) at (notes.constant i) h known arity flow = ((_, flow.0, refl), tt)
        root_typed (var name) at notes.name h known arity flow =
            let is : param_at p k name ≡ param_of n name = param_known p k n name found in
            subst (λ (o : Option ℕ). AreTyped (at_index env (param_of n name)) (parameter_or p k o ∷ [])) (sym is)
            (variable_typed k env (param_of n name) (subst (λ (o : Option ℕ). IsSome o) is known) env_typed (λ j e.
            omega (arith, index_within (param_names n) name j e, count, length-map (params_of n) (λ (q : Param). q.name))))
        root_typed (apply name place args) at (notes.import parts x outs) h known arity flow =
            import_typed (callee_of p name) x place outs h.0 (all_second HasFlow (all_flows p tys k n env args parts) (output_flows x 0 place (ports_of (import_at p (callee_of p name))) outs) flow)
        root_typed (apply name place args) at (notes.node parts x child) h known arity flow =
            let gs : List ℕ = all_given n env args parts in
            let enough = enough_given p k n env found count name args parts child h.0 h.1 h.2 known.1 (argued_right p k name place args arity) in
            call_outputs (callee_of p name) (label_of_node name x) (map copy_of gs) child h.0 h.2 enough
            (all_second HasFlow (all_flows p tys k n env args parts) (entered_flows p tys (label_of_node name x) (node_of (callee_of p name)) (map copy_of gs) child) flow)
        root_typed (group args) at (notes.group parts) h known arity flow = all_typed args parts h known arity flow
        root_typed root at core h known arity flow = absurd h

        pub all_typed : (ts : Trees) (qs : Parts ℕ ℕ ℕ) → AreParts p ts qs → AreKnown p k ts → all_faults p k ts ≡ [] → AllByRecursion HasFlow (all_flows p tys k n env ts qs)
            → AreTyped (all_given n env ts qs) (flows.all_flows p k ts)
        all_typed none notes.none h known arity flow = tt
        all_typed none (notes.more q rest) h known arity flow = absurd h
        all_typed (more t ts) notes.none h known arity flow = absurd h
        all_typed (more t ts) (notes.more q rest) h known arity flow =
            typed_append (given n env t q) (all_given n env ts rest) (flows.flows_of p k t) (flows.all_flows p k ts)
            (given_typed t q h.0 known.0 (no_first (faults_in p k t) (all_faults p k ts) arity) (all_first HasFlow (part_flows p tys k n env t q) (all_flows p tys k n env ts rest) flow))
            (all_typed ts rest h.1 known.1 (no_second (faults_in p k t) (all_faults p k ts) arity) (all_second HasFlow (part_flows p tys k n env t q) (all_flows p tys k n env ts rest) flow))
