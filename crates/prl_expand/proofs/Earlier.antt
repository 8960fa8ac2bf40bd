-- A flow without a name uses flows that are made before it, and flows with a name.
use Rattle.prl_base.proofs.Standard.{◌≡◌, ◌≤◌, ◌<◌, ◌+◌, ◌⊎◌, ℕ, zero, suc, Bool, true, false, List, [], ◌∷◌, ◌++◌, map, length, Option, Some, None, slice_get, refl, sym, ap, ◌∙◌, inl, inr, subst}
use Rattle.prl_base.proofs.Standard.{eqb→eq, arith, ◌==◌, T, reverse, AllByRecursion, range_with_len, option_map, slice_get-map}
use Rattle.std.proofs.lemmas.List.{length-append}
use Rattle.prl_base.specs.Names.{IsName}
use Rattle.prl_base.specs.declared.places.Span.{Span}
use Rattle.prl_base.specs.declared.values.Ty.{Ty}
use Rattle.prl_ast.specs.InRange as ranges
use Rattle.prl_ast.specs.Trees.{Tree, Root, const, var, apply, group, Trees, none, more, EquationTree, NodeTree, ProgramTree}
use Rattle.prl_ast.specs.declared.declarations.Param.{Param}
use Rattle.prl_ast.specs.declared.declarations.Port.{Port}
use Rattle.prl_ast.specs.declared.expressions.PlacedOp.{PlacedOp}
use Rattle.prl_ast.specs.Trees.{tree}
use Rattle.prl_flow.specs.Vocabulary.{FlatProgram, Rule, IsArgument, NamesInside, NamesNow, is_made}
use Rattle.prl_flow.specs.declared.programs.App.{App}
use Rattle.prl_flow.specs.declared.programs.Arg.{Arg}
use Rattle.prl_flow.specs.declared.programs.Def.{Def}
use Rattle.prl_names.specs.Vocabulary.{callee_of, param_of, params_of, IsKnown, IsKnownRoot, AreKnown, AreKnownEquations}
use Rattle.prl_types.specs.Vocabulary.{equations_faults, faults_in, root_faults, all_faults, first_of}
use Rattle.prl_types.specs.Flows as flows
use Rattle.prl_causal.specs.Annotations.{Entered, entered, Rights, done, next, Part, part, Core, Parts, imports_in, right_imports, part_imports, core_imports, parts_imports}
use Rattle.prl_causal.specs.Annotations as notes
use Rattle.prl_causal.specs.Asked.{inputs_of, outputs_of, one, at_index, at_variable, last_of, first_of as first_flow, given, root_given, all_given}
use Rattle.prl_causal.specs.Texts.{node_at, node_of, IsText, AreRights, IsPart, IsCore, AreParts}
use Rattle.prl_expand.specs.Cycles.{HasName}
use Rattle.prl_expand.specs.Flats.{Numbered, Types, copy_of, resolved, variable_flows, equated, copies, operator_flows, output_flows, import_at, ports_of, label_of_node, entered_flows, right_flows, part_flows, root_flows_of, all_flows, entered_apps, right_apps, part_apps, root_apps, all_apps}
use Rattle.prl_expand.proofs.FlatRules.{all_tells, part_tells, arguments_are}
use Rattle.prl_expand.proofs.FlowTypes.{HasFlow, all_reversed}
use Rattle.prl_expand.proofs.Lists.{some_inner, at_place, all_both, all_first, all_second, no_first, no_second}
use Rattle.prl_expand.proofs.Sound.{IsRightNode, IsSound, operated_right, argued_right, enough_given, equated_right, entered_is, all_defined, call_of}
use Rattle.prl_expand.proofs.WellDefined.{HaveApps, have_first, have_second}

-- numbers one after another, from this one on
abbrev pub Counted : ℕ → List ℕ → Type 0
Counted s [] = Unit {0}
Counted s (i ∷ is) = (i ≡ s) × Counted (s + 1) is

pub counted_range : (s n : ℕ) → Counted s (range_with_len s n)
counted_range s zero = tt
counted_range s (suc n) = (refl, counted_range (s + 1) n)

counted_first : (s : ℕ) (is js : List ℕ) → Counted s (is ++ js) → Counted s is
counted_first s [] js h = tt
counted_first s (i ∷ is) js h = (h.0, counted_first (s + 1) is js h.1)

counted_second : (s : ℕ) (is js : List ℕ) → Counted s (is ++ js) → Counted (s + length is) js
counted_second s [] js h = let e : s ≡ s + 0 = omega arith in subst (λ m. Counted m js) e h
counted_second s (i ∷ is) js h =
    let e : (s + 1) + length is ≡ s + suc (length is) = omega arith in
    subst (λ m. Counted m js) e (counted_second (s + 1) is js h.1)

-- a name does not begin as a made label does
word_made : (b : ℕ) (bs : List ℕ) → IsName (b ∷ bs) → (b == 36) ≡ false
word_made b bs h =
    elim (b == 36) as (λ (x : Bool). (b == 36) ≡ x → x ≡ false) [
      | false ↦ λ e. refl
      | true ↦ λ e. absurd (dollar bs (subst (λ c. IsName (c ∷ bs)) (eqb→eq b 36 (subst T (sym e) tt)) h))
    ] refl
  where
    dollar : (bs : List ℕ) → IsName (36 ∷ bs) → ⊥
    dollar bs h = cc

-- labels that begin so are no made ones
abbrev pub IsStart : List ℕ → Type 0
IsStart label = (name : List ℕ) → IsName name → is_made (label ++ name) ≡ false

pub no_start : IsStart []
no_start [] h = refl
no_start (b ∷ bs) h = word_made b bs h

node_start : (name : List ℕ) (k : ℕ) → IsName name → IsStart (label_of_node name k)
node_start [] k h name is = refl
node_start (b ∷ bs) k h name is = word_made b bs h

module _ (p : ProgramTree) (tys : Types) (flat : FlatProgram) where
  -- made before this number, or with a name
  abbrev pub IsEarly : ℕ → ℕ → Type 0
  IsEarly bound j = (j < bound) ⊎ HasName flat j

  abbrev AreEarly : ℕ → List ℕ → Type 0
  AreEarly bound js = AllByRecursion (IsEarly bound) js

  abbrev AreNamed : List ℕ → Type 0
  AreNamed js = AllByRecursion (HasName flat) js

  -- the definition of a flow without a name uses such flows
  abbrev pub UsesEarlier : Numbered → Type 0
  UsesEarlier f = is_made f.1.label ≡ true → (j : ℕ) → NamesNow flat f.1.def j ⊎ NamesInside f.1.def j → IsEarly f.0 j

  abbrev AllUse : List Numbered → Type 0
  AllUse fs = AllByRecursion UsesEarlier fs

  early_up : (a b j : ℕ) → a ≤ b → IsEarly a j → IsEarly b j
  early_up a b j up h = elim h [ inl before ↦ inl (omega (arith, up, before)) | inr named ↦ inr named ]

  all_up : (a b : ℕ) (js : List ℕ) → a ≤ b → AreEarly a js → AreEarly b js
  all_up a b [] up h = tt
  all_up a b (j ∷ js) up h = (early_up a b j up h.0, all_up a b js up h.1)

  named_early : (b : ℕ) (js : List ℕ) → AreNamed js → AreEarly b js
  named_early b [] h = tt
  named_early b (j ∷ js) h = (inr h.0, named_early b js h.1)

  counted_early : (s : ℕ) (is : List ℕ) → Counted s is → AreEarly (s + length is) is
  counted_early s [] h = tt
  counted_early s (i ∷ is) h =
      let e : (s + 1) + length is ≡ s + suc (length is) = omega arith in
      (inl (omega (arith, h.0)), subst (λ b. AreEarly b is) e (counted_early (s + 1) is h.1))

  last_early : (b : ℕ) (of is : List ℕ) → AreEarly b of → AreEarly b is → AreEarly b (last_of of is)
  last_early b of [] h g = h
  last_early b of (i ∷ is) h g = last_early b (i ∷ []) is (g.0, tt) g.1

  first_early : (b : ℕ) (is of : List ℕ) → AreEarly b is → AreEarly b of → AreEarly b (first_flow is of)
  first_early b [] of h g = g
  first_early b (i ∷ is) of h g = (h.0, tt)

  index_named : (env : List ℕ) (o : Option ℕ) → AreNamed env → AreNamed (at_index env o)
  index_named env None h = tt
  index_named env (Some k) h =
      elim (slice_get env k) as (λ (x : Option ℕ). slice_get env k ≡ x → AreNamed (one x)) [
        | None ↦ λ e. tt
        | Some i ↦ λ e. (at_place (HasName flat) env k i h e, tt)
      ] refl

  variables_named : (label : List ℕ) → IsStart label → (m : ℕ) (qs : List Param) (is : List ℕ) (ds : List Def) → AllByRecursion ranges.IsParamInRange qs → length is ≡ length qs
      → length is ≡ length ds → AllByRecursion (HasFlow p tys flat) (variable_flows label tys m qs is ds) → AreNamed is
  variables_named label start m qs [] ds range a b h = tt
  variables_named label start m [] (i ∷ is) ds range a b h = absurd (omega (arith, a))
  variables_named label start m (q ∷ qs) (i ∷ is) [] range a b h = absurd (omega (arith, b))
  variables_named label start m (q ∷ qs) (i ∷ is) (d ∷ ds) range a b h = (
    record { flow = _; found = h.0; named = start q.name range.0.name },
    variables_named label start (m + 1) qs is ds range.1 (omega (arith, a)) (omega (arith, b)) h.1,
  )

  variables_use : (label : List ℕ) → IsStart label → (m : ℕ) (qs : List Param) (is : List ℕ) (ds : List Def) → AllByRecursion ranges.IsParamInRange qs
      → AllUse (variable_flows label tys m qs is ds)
  variables_use label start m [] is ds range = tt
  variables_use label start m (q ∷ qs) [] ds range = tt
  variables_use label start m (q ∷ qs) (i ∷ is) [] range = tt
  variables_use label start m (q ∷ qs) (i ∷ is) (d ∷ ds) range = (
    λ made j uses. absurd (both (is_made (label ++ q.name)) made (start q.name range.0.name)),
    variables_use label start (m + 1) qs is ds range.1,
  )
    where
      both : (b : Bool) → b ≡ true → b ≡ false → ⊥
      both b x y = cc

  operators_use : (ty : Ty) (os : List PlacedOp) (is of : List ℕ) (s : ℕ) → Counted s is → AreEarly s of → AllUse (operator_flows ty os is of)
  operators_use ty [] is of s counted early = tt
  operators_use ty (o ∷ os) [] of s counted early = tt
  operators_use ty (o ∷ os) (i ∷ is) [] s counted early = tt
  operators_use ty (o ∷ os) (i ∷ is) (x ∷ xs) s counted early =
      let first : IsEarly i x = early_up s i x (omega (arith, counted.0)) early.0 in (
        λ made j uses. elim uses [ inl now ↦ subst (IsEarly i) now.1 first | inr inside ↦ subst (IsEarly i) inside first ],
        operators_use ty os is (i ∷ []) (s + 1) counted.1 (inl (omega (arith, counted.0)), tt),
      )

  outputs_use : (app out : ℕ) (at : Span) (qs : List Port) (is : List ℕ) (s b : ℕ) → b ≤ s → Counted s is → ((j : ℕ) → IsArgument flat app j → IsEarly b j)
      → AllUse (output_flows app out at qs is)
  outputs_use app out at [] is s b up counted args = tt
  outputs_use app out at (q ∷ qs) [] s b up counted args = tt
  outputs_use app out at (q ∷ qs) (i ∷ is) s b up counted args = (
    λ made j uses. elim uses [ inl arg ↦ early_up b i j (omega (arith, counted.0, up)) (args j arg) | inr inside ↦ absurd inside ],
    outputs_use app (out + 1) at qs is (s + 1) b (omega (arith, up)) counted.1 args,
  )

  -- the arguments of an application
  arguments_early : (app : ℕ) (call : App) (gs : List ℕ) (b : ℕ) → slice_get flat.apps app ≡ Some call → map (λ (a : Arg). a.flow.0) call.args ≡ gs → AreEarly b gs
      → (j : ℕ) → IsArgument flat app j → IsEarly b j
  arguments_early app call gs b at are early j h =
      let same : h.app ≡ call = some_inner h.app call (sym h.applied ∙ at) in
      let found : slice_get call.args h.index ≡ Some h.arg = subst (λ (a : App). slice_get a.args h.index ≡ Some h.arg) same h.found in
      let number : slice_get (map (λ (a : Arg). a.flow.0) call.args) h.index ≡ Some h.arg.flow.0 =
      slice_get-map (λ (a : Arg). a.flow.0) call.args h.index ∙ ap (option_map (λ (a : Arg). a.flow.0)) found in
      subst (IsEarly b) h.is (at_place (IsEarly b) gs h.index h.arg.flow.0 early (subst (λ (xs : List ℕ). slice_get xs h.index ≡ Some h.arg.flow.0) are number))

  module _ (sound : IsSound p) (range : ranges.IsInRange p) where
    mutual
      part_use : (k : ℕ) (n : NodeTree) (env : List ℕ) → slice_get p.nodes k ≡ Some n → length env ≡ length (params_of n) → AreNamed env → (d : ℕ) (t : Tree) (q : Part ℕ ℕ ℕ)
          → IsPart p t q → IsKnown p k t → faults_in p k t ≡ [] → ranges.IsTreeInRange d t → AllByRecursion (HasFlow p tys flat) (part_flows p tys k n env t q)
          → HaveApps p tys flat (part_imports q) (part_apps p n env t q) → (s : ℕ) → Counted s (notes.part_flows q)
          → AllUse (part_flows p tys k n env t q) × AreEarly (s + length (notes.part_flows q)) (given n env t q)
      part_use k n env found count named d (tree pre root post at) (part pres core posts) h known arity range_of flow apps s counted =
          let of : List ℕ = root_given n env root core in
          let ty : Ty = resolved tys (flows.operand (flows.root_flows p k root)) in
          let arities = operated_right p k pre root post arity in
          let cs : List ℕ = notes.core_flows core in
          let a : List Numbered = root_flows_of p tys k n env root at core in
          let b : List Numbered = operator_flows ty post posts of in
          let c : List Numbered = operator_flows ty (reverse pre) (reverse pres) (last_of of posts) in
          let front = counted_first s (cs ++ posts) (reverse pres) counted in
          let r = root_use k n env found count named d root at core h.1 known arities.inner range_of.1 (all_first (HasFlow p tys flat) a (b ++ c) flow) apps s (counted_first s cs posts front) in
          let after : Counted (s + length cs) posts = counted_second s cs posts front in
          let last : Counted (s + length (cs ++ posts)) (reverse pres) = counted_second s (cs ++ posts) (reverse pres) counted in
          let l = length-append cs posts in
          let m = length-append (cs ++ posts) (reverse pres) in
          let middle : AreEarly (s + length (cs ++ posts)) (last_of of posts) =
          last_early (s + length (cs ++ posts)) of posts (all_up (s + length cs) (s + length (cs ++ posts)) of (omega (arith, l)) r.1)
          (all_up ((s + length cs) + length posts) (s + length (cs ++ posts)) posts (omega (arith, l)) (counted_early (s + length cs) posts after)) in
          let whole : ℕ = s + length ((cs ++ posts) ++ reverse pres) in (
            all_both UsesEarlier a (b ++ c) r.0
                (all_both UsesEarlier b c (operators_use ty post posts of (s + length cs) after r.1)
                (operators_use ty (reverse pre) (reverse pres) (last_of of posts) (s + length (cs ++ posts)) last middle)),
            first_early whole pres (last_of of posts)
                (all_reversed (IsEarly whole) pres
                (all_up ((s + length (cs ++ posts)) + length (reverse pres)) whole (reverse pres) (omega (arith, m)) (counted_early (s + length (cs ++ posts)) (reverse pres) last)))
                (all_up (s + length (cs ++ posts)) whole (last_of of posts) (omega (arith, m)) middle),
          )

      root_use : (k : ℕ) (n : NodeTree) (env : List ℕ) → slice_get p.nodes k ≡ Some n → length env ≡ length (params_of n) → AreNamed env → (d : ℕ) (root : Root) (at : Span) (c : Core ℕ ℕ ℕ)
          → IsCore p root c → IsKnownRoot p k root → root_faults p k root ≡ [] → ranges.IsRootInRange d root → AllByRecursion (HasFlow p tys flat) (root_flows_of p tys k n env root at c)
          → HaveApps p tys flat (core_imports c) (root_apps p n env root at c) → (s : ℕ) → Counted s (notes.core_flows c)
          → AllUse (root_flows_of p tys k n env root at c) × AreEarly (s + length (notes.core_flows c)) (root_given n env root c)
      root_use k n env found count named d (const v) at (notes.constant i) h known arity range_of flow apps s counted =
          ((λ made j uses. elim uses [ inl now ↦ absurd now | inr inside ↦ absurd inside ], tt), (inl (omega (arith, counted.0)), tt))
      root_use k n env found count named d (var name) at notes.name h known arity range_of flow apps s counted =
          (tt, named_early (s + 0) (at_variable n env name) (index_named env (param_of n name) named))
      root_use k n env found count named d (apply name place args) at (notes.import parts x outs) h known arity range_of flow apps s counted =
          let argued = argued_right p k name place args arity in
          let ports : List Port = ports_of (import_at p (callee_of p name)) in
          let a : List Numbered = all_flows p tys k n env args parts in
          let b : List Numbered = output_flows x 0 place ports outs in
          let call : App = call_of p n env name place args parts outs in
          let number = (all_tells (λ (r : Rule ℕ ℕ). Unit {0}) p tys sound k n env found count args parts h.1 known.1 argued.inner).count in
          let arg_apps = have_first p tys flat (parts_imports parts) (x ∷ []) (all_apps p n env args parts) (call ∷ []) number apps in
          let own_app : slice_get flat.apps x ≡ Some call = (have_second p tys flat (parts_imports parts) (x ∷ []) (all_apps p n env args parts) (call ∷ []) number apps).0 in
          let ps : List ℕ = notes.parts_flows parts in
          let r = all_use k n env found count named (d + 1) args parts h.1 known.1 argued.inner range_of.2 (all_first (HasFlow p tys flat) a b flow) arg_apps s (counted_first s ps outs counted) in
          let after : Counted (s + length ps) outs = counted_second s ps outs counted in
          let l = length-append ps outs in (
            all_both UsesEarlier a b r.0
                (outputs_use x 0 place ports outs (s + length ps) (s + length ps) (omega arith) after
                (arguments_early x call (all_given n env args parts) (s + length ps) own_app (arguments_are n env args parts) r.1)),
            all_up ((s + length ps) + length outs) (s + length (ps ++ outs)) outs (omega (arith, l)) (counted_early (s + length ps) outs after),
          )
      root_use k n env found count named d (apply name place args) at (notes.node parts x child) h known arity range_of flow apps s counted =
          let callee = node_of (callee_of p name) in
          let gs : List ℕ = all_given n env args parts in
          let label : List ℕ = label_of_node name x in
          let argued = argued_right p k name place args arity in
          let enough = enough_given p k n env found count name args parts child h.0 h.1 h.2 known.1 argued in
          let a : List Numbered = all_flows p tys k n env args parts in
          let b : List Numbered = entered_flows p tys label callee (map copy_of gs) child in
          let number = (all_tells (λ (r : Rule ℕ ℕ). Unit {0}) p tys sound k n env found count args parts h.1 known.1 argued.inner).count in
          let arg_apps = have_first p tys flat (parts_imports parts) (imports_in child) (all_apps p n env args parts) (entered_apps p callee child) number apps in
          let child_apps = have_second p tys flat (parts_imports parts) (imports_in child) (all_apps p n env args parts) (entered_apps p callee child) number apps in
          let ps : List ℕ = notes.parts_flows parts in
          let r = all_use k n env found count named (d + 1) args parts h.1 known.1 argued.inner range_of.2
          (all_first (HasFlow p tys flat) a b flow) arg_apps s (counted_first s ps (notes.flows_in child) counted) in
          let e = entered_use label (node_start name x range_of.0) callee (map copy_of gs) child h.2 enough (all_second (HasFlow p tys flat) a b flow) child_apps (s + length ps)
          (counted_second s ps (notes.flows_in child) counted) in
          (all_both UsesEarlier a b r.0 e.0, named_early (s + length (ps ++ notes.flows_in child)) (outputs_of child) e.1)
      root_use k n env found count named d (group (more t ts)) at (notes.group parts) h known arity range_of flow apps s counted =
          all_use k n env found count named (d + 1) (more t ts) parts h known arity (range_of.1, range_of.2) flow apps s counted
      root_use k n env found count named d (group none) at (notes.group parts) h known arity range_of flow apps s counted = absurd range_of
      root_use k n env found count named d root at core h known arity range_of flow apps s counted = absurd h

      all_use : (k : ℕ) (n : NodeTree) (env : List ℕ) → slice_get p.nodes k ≡ Some n → length env ≡ length (params_of n) → AreNamed env → (d : ℕ) (ts : Trees) (qs : Parts ℕ ℕ ℕ)
          → AreParts p ts qs → AreKnown p k ts → all_faults p k ts ≡ [] → ranges.AreTreesInRange d ts → AllByRecursion (HasFlow p tys flat) (all_flows p tys k n env ts qs)
          → HaveApps p tys flat (parts_imports qs) (all_apps p n env ts qs) → (s : ℕ) → Counted s (notes.parts_flows qs)
          → AllUse (all_flows p tys k n env ts qs) × AreEarly (s + length (notes.parts_flows qs)) (all_given n env ts qs)
      all_use k n env found count named d none notes.none h known arity range_of flow apps s counted = (tt, tt)
      all_use k n env found count named d none (notes.more q rest) h known arity range_of flow apps s counted = absurd h
      all_use k n env found count named d (more t ts) notes.none h known arity range_of flow apps s counted = absurd h
      all_use k n env found count named d (more t ts) (notes.more q rest) h known arity range_of flow apps s counted =
          let a : List Numbered = part_flows p tys k n env t q in
          let b : List Numbered = all_flows p tys k n env ts rest in
          let first = no_first (faults_in p k t) (all_faults p k ts) arity in
          let second = no_second (faults_in p k t) (all_faults p k ts) arity in
          let number = (part_tells (λ (r : Rule ℕ ℕ). Unit {0}) p tys sound k n env found count t q h.0 known.0 first).count in
          let qs : List ℕ = notes.part_flows q in
          let rs : List ℕ = notes.parts_flows rest in
          let l = length-append qs rs in
          let x = part_use k n env found count named d t q h.0 known.0 first range_of.0 (all_first (HasFlow p tys flat) a b flow)
          (have_first p tys flat (part_imports q) (parts_imports rest) (part_apps p n env t q) (all_apps p n env ts rest) number apps) s (counted_first s qs rs counted) in
          let y = all_use k n env found count named d ts rest h.1 known.1 second range_of.1 (all_second (HasFlow p tys flat) a b flow)
          (have_second p tys flat (part_imports q) (parts_imports rest) (part_apps p n env t q) (all_apps p n env ts rest) number apps) (s + length qs) (counted_second s qs rs counted) in (
            all_both UsesEarlier a b x.0 y.0,
            all_both (IsEarly (s + length (qs ++ rs))) (given n env t q) (all_given n env ts rest)
                (all_up (s + length qs) (s + length (qs ++ rs)) (given n env t q) (omega (arith, l)) x.1)
                (all_up ((s + length qs) + length rs) (s + length (qs ++ rs)) (all_given n env ts rest) (omega (arith, l)) y.1),
          )

      right_use : (k : ℕ) (n : NodeTree) (env : List ℕ) → slice_get p.nodes k ≡ Some n → length env ≡ length (params_of n) → AreNamed env → (es : List EquationTree) (qs : Rights ℕ ℕ ℕ)
          → AreRights p es qs → AreKnownEquations p k es → equations_faults p k es ≡ [] → AllByRecursion ranges.IsEquationInRange es
          → AllByRecursion (HasFlow p tys flat) (right_flows p tys k n env es qs) → HaveApps p tys flat (right_imports qs) (right_apps p n env es qs)
          → (s : ℕ) → Counted s (notes.right_flows qs) → AllUse (right_flows p tys k n env es qs)
      right_use k n env found count named [] done h known arity range_of flow apps s counted = tt
      right_use k n env found count named [] (next q rest) h known arity range_of flow apps s counted = absurd h
      right_use k n env found count named (e ∷ es) done h known arity range_of flow apps s counted = absurd h
      right_use k n env found count named (e ∷ es) (next q rest) h known arity range_of flow apps s counted =
          let a : List Numbered = part_flows p tys k n env e.right q in
          let b : List Numbered = right_flows p tys k n env es rest in
          let arities = equated_right p k e es arity in
          let number = (part_tells (λ (r : Rule ℕ ℕ). Unit {0}) p tys sound k n env found count e.right q h.0 known.1 arities.first).count in
          let qs : List ℕ = notes.part_flows q in
          let rs : List ℕ = notes.right_flows rest in
          all_both UsesEarlier a b
          (part_use k n env found count named 0 e.right q h.0 known.1 arities.first range_of.0.right (all_first (HasFlow p tys flat) a b flow)
          (have_first p tys flat (part_imports q) (right_imports rest) (part_apps p n env e.right q) (right_apps p n env es rest) number apps) s (counted_first s qs rs counted)).0
          (right_use k n env found count named es rest h.1 known.2 arities.second range_of.1 (all_second (HasFlow p tys flat) a b flow)
          (have_second p tys flat (part_imports q) (right_imports rest) (part_apps p n env e.right q) (right_apps p n env es rest) number apps) (s + length qs) (counted_second s qs rs counted))

      -- of a node that is entered; its outputs have names
      pub entered_use : (label : List ℕ) → IsStart label → (k : ℕ) (sources : List Def) (e : Entered ℕ ℕ ℕ) → IsText p k e → length sources ≡ length (inputs_of e)
          → AllByRecursion (HasFlow p tys flat) (entered_flows p tys label k sources e) → HaveApps p tys flat (imports_in e) (entered_apps p k e)
          → (s : ℕ) → Counted s (notes.flows_in e) → AllUse (entered_flows p tys label k sources e) × AreNamed (outputs_of e)
      entered_use label start k sources (entered ins outs locals rights) text enough flow apps s counted =
          let n : NodeTree = node_at p k in
          let env : List ℕ = (ins ++ outs) ++ locals in
          let is = entered_is p k ins outs locals text.0 in
          let right : IsRightNode p k n = sound.node k n is.found in
          let node = at_place ranges.IsNodeInRange p.nodes k n range.nodes is.found in
          let cs : List Def = copies (equated n env n.eqs rights) (n.outs ++ n.locals) in
          let as_many = all_defined p k ins outs locals is sources enough (equated n env n.eqs rights) in
          let params = all_both ranges.IsParamInRange (n.ins ++ n.outs) n.locals (all_both ranges.IsParamInRange n.ins n.outs node.ins node.outs) node.locals in
          let vars : List Numbered = variable_flows label tys (first_of p k) (params_of n) env (sources ++ cs) in
          let others : List Numbered = right_flows p tys k n env n.eqs rights in
          let named : AreNamed env = variables_named label start (first_of p k) (params_of n) env (sources ++ cs) params is.count as_many (all_first (HasFlow p tys flat) vars others flow) in (
            all_both UsesEarlier vars others (variables_use label start (first_of p k) (params_of n) env (sources ++ cs) params)
                (right_use k n env is.found is.count named n.eqs rights text.1 right.named.known right.arity node.eqs (all_second (HasFlow p tys flat) vars others flow) apps
                (s + length env) (counted_second s env (notes.right_flows rights) counted)),
            all_second (HasName flat) ins outs (all_first (HasName flat) (ins ++ outs) locals named),
          )
