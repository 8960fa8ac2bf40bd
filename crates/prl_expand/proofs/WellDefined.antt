-- The flows of an expansion are well defined where names, arity and types are right.
use Rattle.prl_base.proofs.Standard.{◌≡◌, ◌<◌, ◌+◌, ℕ, zero, suc, List, [], ◌∷◌, ◌++◌, length, Some, slice_get, true, false, cond, refl, sym, ap, subst, ◌∙◌, arith, AllByRecursion, length-map}
use Rattle.prl_base.proofs.Standard.{bytes_eq, bytes_decides}
use Rattle.prl_base.specs.Operators.{IsOperatorFor}
use Rattle.prl_base.specs.declared.operators.Op.{Op}
use Rattle.prl_base.specs.declared.places.Span.{Span}
use Rattle.prl_base.specs.declared.values.Ty.{Ty}
use Rattle.prl_base.specs.declared.operators.Op.TheVariants as ops
use Rattle.prl_ast.specs.InRange as ranges
use Rattle.prl_ast.specs.Trees.{NodeTree, ProgramTree, Trees}
use Rattle.prl_ast.specs.declared.declarations.Param.{Param}
use Rattle.prl_ast.specs.declared.declarations.Placed.{Placed}
use Rattle.prl_ast.specs.declared.declarations.Port.{Port}
use Rattle.prl_ast.specs.declared.expressions.PlacedOp.{PlacedOp}
use Rattle.prl_flow.specs.Programs.{FlatProgram, HasType, IsWellDefined, IsNoted}
use Rattle.prl_flow.specs.declared.programs.App.{App}
use Rattle.prl_flow.specs.declared.programs.Def.{Def}
use Rattle.prl_names.specs.Lookups.{callee_of}
use Rattle.prl_types.specs.Vocabulary.{Flow as TermFlow, named}
use Rattle.prl_terms.specs.declared.terms.Rule.{Rule as TypeRule}
use Rattle.prl_terms.specs.declared.terms.Term.{Term}
use Rattle.prl_types.specs.Flows as flows
use Rattle.prl_types.specs.Rules as typing
use Rattle.prl_types.proofs.Walking.{terms_placed_flows}
use Rattle.prl_expand.specs.Flats.{Numbered, Types, type_at, resolved, flow_no, variable_flows, paired, source_of, operator_flows, output_flows}
use Rattle.prl_expand.proofs.FlowTypes.{HasFlow, AreTyped, HaveKind}
use Rattle.prl_expand.proofs.Lists.{some_inner, all_first, all_second}
use Rattle.prl_expand.proofs.Sound.{AreArgued}
use Rattle.prl_expand.proofs.Sources.{names_of}

-- a type rule that holds of the types
abbrev pub Met : Types → TypeRule → Type 0
Met tys r = resolved tys r.wanted ≡ resolved tys r.found

abbrev pub AllMet : Types → List TypeRule → Type 0
AllMet tys rules = AllByRecursion (Met tys) rules

-- what is known of the parts of a node
pub record IsTypedNode (p : ProgramTree) (tys : Types) (k : ℕ) (n : NodeTree) : Type 0 where
  pub rules : AllMet tys (typing.equations_rules p k n.eqs)
  pub range : ranges.IsNodeInRange n

pub record AreTypedNodes (p : ProgramTree) (tys : Types) : Type 0 where
  pub node : (k : ℕ) (n : NodeTree) → slice_get p.nodes k ≡ Some n → IsTypedNode p tys k n
  pub imports : AllByRecursion ranges.IsImportInRange p.imports

postfix_fits : (ty : Ty) (o : Op) → ranges.IsPostfix o → IsOperatorFor ty o
postfix_fits ty (ops.Fby c) h = absurd h
postfix_fits ty (ops.Cons c) h = absurd h
postfix_fits ty ops.Tail h = absurd h
postfix_fits ty (ops.Up k) h = h
postfix_fits ty (ops.Down k) h = h
postfix_fits ty (ops.Shift q) h = (h.0.positive, h.1)

prefix_fits : (tys : Types) (of : Term) (at : ℕ) (o : Op) → ranges.IsPrefix o → AllMet tys (typing.constant_rule of at o) → IsOperatorFor (resolved tys of) o
prefix_fits tys of at (ops.Fby c) h met = (sym met.0, h)
prefix_fits tys of at (ops.Cons c) h met = (sym met.0, h)
prefix_fits tys of at ops.Tail h met = tt
prefix_fits tys of at (ops.Up k) h met = absurd h
prefix_fits tys of at (ops.Down k) h met = absurd h
prefix_fits tys of at (ops.Shift q) h met = absurd h

pub postfixes_fit : (ty : Ty) (os : List PlacedOp) → AllByRecursion (λ (o : PlacedOp). ranges.IsPostfix o.op) os → AllByRecursion (λ (o : PlacedOp). IsOperatorFor ty o.op) os
postfixes_fit ty [] h = tt
postfixes_fit ty (o ∷ os) h = (postfix_fits ty o.op h.0, postfixes_fit ty os h.1)

pub prefixes_fit : (tys : Types) (of : Term) (os : List PlacedOp) → AllByRecursion (λ (o : PlacedOp). ranges.IsPrefix o.op) os → AllMet tys (typing.constant_rules of os)
    → AllByRecursion (λ (o : PlacedOp). IsOperatorFor (resolved tys of) o.op) os
prefixes_fit tys of [] h met = tt
prefixes_fit tys of (o ∷ os) h met = (
  prefix_fits tys of o.at.at o.op h.0 (all_second (Met tys) (typing.constant_rules of os) (typing.constant_rule of o.at.at o.op) met),
  prefixes_fit tys of os h.1 (all_first (Met tys) (typing.constant_rules of os) (typing.constant_rule of o.at.at o.op) met),
)

abbrev Source : Type 0
Source = List ℕ × ℕ

-- a name that is given a flow is given one of those that are beside it
pub source_holds : (Q : Source → Type 0) (ss : List Source) (t : ℕ) (name : List ℕ) → slice_get (names_of ss) t ≡ Some name → AllByRecursion Q ss → Q (name, source_of ss name)
source_holds Q [] t name e h = absurd (cc)
source_holds Q (s ∷ ss) zero name e h =
    let here : s.0 ≡ name = some_inner s.0 name e in
    subst (λ g. Q (name, g)) (sym (ap (λ b. cond b s.1 (source_of ss name)) ((bytes_decides s.0 name).1 here))) (subst (λ m. Q (m, s.1)) here h.0)
source_holds Q (s ∷ ss) (suc t) name e h =
    elim (bytes_eq s.0 name) as (λ b. bytes_eq s.0 name ≡ b → Q (name, cond b s.1 (source_of ss name))) [
      | true ↦ λ f. subst (λ m. Q (m, s.1)) ((bytes_decides s.0 name).0 f) h.0
      | false ↦ λ f. (source_holds Q ss t name e h.1)
    ] refl

module _ (p : ProgramTree) (tys : Types) (flat : FlatProgram) where
  -- the flow is as a flat program wants it
  abbrev pub IsSoundFlow : Numbered → Type 0
  IsSoundFlow f = IsWellDefined flat f.0 f.1.ty f.1.def × IsNoted f.1

  -- the application stands at its number
  abbrev pub HaveApps : List ℕ → List App → Type 0
  HaveApps [] us = Unit {0}
  HaveApps (k ∷ ks) [] = Unit {0}
  HaveApps (k ∷ ks) (a ∷ us) = (slice_get flat.apps k ≡ Some a) × HaveApps ks us

  pub have_first : (ks ls : List ℕ) (us vs : List App) → length ks ≡ length us → HaveApps (ks ++ ls) (us ++ vs) → HaveApps ks us
  have_first [] ls us vs e h = tt
  have_first (k ∷ ks) ls [] vs e h = tt
  have_first (k ∷ ks) ls (a ∷ us) vs e h = (h.0, have_first ks ls us vs (omega (arith, e)) h.1)

  pub have_second : (ks ls : List ℕ) (us vs : List App) → length ks ≡ length us → HaveApps (ks ++ ls) (us ++ vs) → HaveApps ls vs
  have_second [] ls [] vs e h = h
  have_second [] ls (a ∷ us) vs e h = absurd (omega (arith, e))
  have_second (k ∷ ks) ls [] vs e h = absurd (omega (arith, e))
  have_second (k ∷ ks) ls (a ∷ us) vs e h = have_second ks ls us vs (omega (arith, e)) h.1

  pub operators_sound : (ty : Ty) (os : List PlacedOp) (is of : List ℕ) → AllByRecursion (λ (o : PlacedOp). IsOperatorFor ty o.op) os → (0 < length os → HaveKind p tys flat ty of)
      → AllByRecursion (HasFlow p tys flat) (operator_flows ty os is of) → AllByRecursion IsSoundFlow (operator_flows ty os is of)
  operators_sound ty [] is of fits kind flow = tt
  operators_sound ty (o ∷ os) [] of fits kind flow = tt
  operators_sound ty (o ∷ os) (i ∷ is) [] fits kind flow = tt
  operators_sound ty (o ∷ os) (i ∷ is) (x ∷ xs) fits kind flow =
      ((((kind (omega arith)).0, fits.0), (tt, tt)), operators_sound ty os is (i ∷ []) fits.1 (λ some. ((_, flow.0, refl), tt)) flow.1)

  pub outputs_sound : (app out : ℕ) (at : Span) (qs : List Port) (is : List ℕ) (a : App) → slice_get flat.apps app ≡ Some a
      → ((j i : ℕ) → slice_get is j ≡ Some i → slice_get a.outs (out + j) ≡ Some (flow_no i)) → AllByRecursion IsSoundFlow (output_flows app out at qs is)
  outputs_sound app out at [] is a found each = tt
  outputs_sound app out at (q ∷ qs) [] a found each = tt
  outputs_sound app out at (q ∷ qs) (i ∷ is) a found each =
      let zero_is : out + 0 ≡ out = omega arith in (
        ((a, found, subst (λ m. slice_get a.outs m ≡ Some (flow_no i)) zero_is (each 0 i refl)), (tt, tt)),
        outputs_sound app (out + 1) at qs is a found (λ j x e.
            let moved : out + suc j ≡ (out + 1) + j = omega arith in
            subst (λ m. slice_get a.outs m ≡ Some (flow_no x)) moved (each (suc j) x e)),
      )

  pub variables_sound : (label : List ℕ) (m : ℕ) (qs : List Param) (is : List ℕ) (ds : List Def) → AllByRecursion ranges.IsParamInRange qs
      → ((j i : ℕ) (d : Def) → slice_get is j ≡ Some i → slice_get ds j ≡ Some d → IsWellDefined flat i (type_at tys (m + j)) d)
      → AllByRecursion IsSoundFlow (variable_flows label tys m qs is ds)
  variables_sound label m [] is ds range each = tt
  variables_sound label m (q ∷ qs) [] ds range each = tt
  variables_sound label m (q ∷ qs) (i ∷ is) [] range each = tt
  variables_sound label m (q ∷ qs) (i ∷ is) (d ∷ ds) range each =
      let zero_is : m + 0 ≡ m = omega arith in (
        (subst (λ k. IsWellDefined flat i (type_at tys k) d) zero_is (each 0 i d refl refl), (range.0.rate, range.0.due)),
        variables_sound label (m + 1) qs is ds range.1 (λ j x e f g.
            let moved : m + suc j ≡ (m + 1) + j = omega arith in
            subst (λ k. IsWellDefined flat x (type_at tys k) e) moved (each (suc j) x e f g)),
      )

  -- arguments have the types of what they are given to
  pub arguments_typed : (ts : List Term) (fs : List TermFlow) (is : List ℕ) → length fs ≡ length ts → AllMet tys (typing.argument_rules ts fs) → AreTyped p tys flat is (flows.terms_of fs)
      → AreTyped p tys flat is ts
  arguments_typed [] [] is e met typed = typed
  arguments_typed [] (f ∷ fs) is e met typed = absurd (omega (arith, e))
  arguments_typed (t ∷ ts) [] is e met typed = absurd (omega (arith, e))
  arguments_typed (t ∷ ts) (f ∷ fs) [] e met typed = absurd typed
  arguments_typed (t ∷ ts) (f ∷ fs) (i ∷ is) e met typed =
      (subst (λ ty. HasType flat ty (flow_no i)) (sym met.0) typed.0, arguments_typed ts fs is (omega (arith, e)) met.1 typed.1)

  -- what is applied is given flows of the types of its inputs
  pub applied_typed : (k : ℕ) (name : List ℕ) (args : Trees) (gs : List ℕ) → AreArgued p k name args → AllMet tys (typing.argument_rules (flows.inputs_of p (callee_of p name)) (flows.placed_flows p k args))
      → AreTyped p tys flat gs (flows.all_flows p k args) → AreTyped p tys flat gs (flows.inputs_of p (callee_of p name))
  applied_typed k name args gs argued met kinds =
      let placed_terms : flows.terms_of (flows.placed_flows p k args) ≡ flows.all_flows p k args = terms_placed_flows p k args in
      arguments_typed (flows.inputs_of p (callee_of p name)) (flows.placed_flows p k args) gs
      (sym (length-map (flows.placed_flows p k args) (λ (f : TermFlow). f.term)) ∙ ap length placed_terms ∙ argued.needed) met
      (subst (λ (ts : List Term). AreTyped p tys flat gs ts) (sym placed_terms) kinds)

  -- flows of the types of parameters that follow one another
  pub parameter_typed : (is : List ℕ) (m count : ℕ) → AreTyped p tys flat is (flows.parameters_from m count) → (j i : ℕ) → slice_get is j ≡ Some i → HasType flat (type_at tys (m + j)) (flow_no i)
  parameter_typed [] m count typed j i e = absurd (cc)
  parameter_typed (x ∷ is) m zero typed j i e = absurd typed
  parameter_typed (x ∷ is) m (suc count) typed zero i e =
      let here : m ≡ m + 0 = omega arith in
      subst (λ y. HasType flat (type_at tys (m + 0)) (flow_no y)) (some_inner x i e) (subst (λ k. HasType flat (type_at tys k) (flow_no x)) here typed.0)
  parameter_typed (x ∷ is) m (suc count) typed (suc j) i e =
      let moved : (m + 1) + j ≡ m + suc j = omega arith in
      subst (λ k. HasType flat (type_at tys k) (flow_no i)) moved (parameter_typed is (m + 1) count typed.1 j i e)

  -- the flow that a name is given has the name's type
  abbrev pub IsGiven : ℕ → Source → Type 0
  IsGiven k s = HasType flat (resolved tys (named p k s.0)) (flow_no s.1)

  pub pairs_given : (k : ℕ) (ls : List Placed) (gs : List ℕ) (ts : List Term) → AllMet tys (typing.left_rules p k ls ts) → AreTyped p tys flat gs ts → AllByRecursion (IsGiven k) (paired ls gs)
  pairs_given k [] gs ts met typed = tt
  pairs_given k (l ∷ ls) [] ts met typed = tt
  pairs_given k (l ∷ ls) (g ∷ gs) [] met typed = absurd typed
  pairs_given k (l ∷ ls) (g ∷ gs) (t ∷ ts) met typed = (subst (λ ty. HasType flat ty (flow_no g)) (sym met.0) typed.0, pairs_given k ls gs ts met.1 typed.1)
