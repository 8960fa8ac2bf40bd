-- Expressions, applications, and lists of them.
use Rattle.prl_base.proofs.Standard.{◌≡◌, ◌<◌, ◌+◌, ◌-◌, ℕ, zero, suc, List, [], ◌∷◌, ◌++◌, map, length, drop, slice_get, get_or, Option, Some, None, refl, sym, ap, ◌∙◌, subst, arith, reverse}
use Rattle.prl_base.proofs.Standard.{Result, Ok, Err, OnOk, IfOk, IfErr, option_map, slice_get_within, range_with_len, append-nil, reverse-reverse, drop_more, length-range_with_len}
use Rattle.std.specs.Result.{IsErrAnd}
use Rattle.std.proofs.lemmas.List.{length-append}
use Rattle.prl_types.specs.Parameters.{parameter_or, first_of as first_param}
use Rattle.prl_expand.proofs.Lists.{some_inner}
use Rattle.prl_base.specs.declared.places.Span.{Span}
use Rattle.prl_base.specs.declared.values.Ty.{Ty}
use Rattle.prl_ast.specs.Trees.{Root, var, apply, Trees, NodeTree, ProgramTree, equation_tree}
use Rattle.prl_ast.specs.declared.declarations.Equation.{Equation}
use Rattle.prl_ast.specs.declared.declarations.Import.{Import}
use Rattle.prl_ast.specs.declared.declarations.Port.{Port}
use Rattle.prl_ast.specs.declared.expressions.PlacedOp.{PlacedOp}
use Rattle.prl_ast.specs.Trees.{tree}
use Rattle.prl_flow.specs.declared.programs.App.{App}
use Rattle.prl_flow.specs.declared.programs.Arg.{Arg}
use Rattle.prl_names.specs.Lookups.{callee_of, param_at, param_of}
use Rattle.prl_names.specs.declared.lookups.Callee.{Callee}
use Rattle.prl_names.specs.declared.lookups.Callee.TheVariants as callees
use Rattle.prl_terms.specs.declared.terms.Term.{Term}
use Rattle.prl_types.specs.Flows as types
use Rattle.prl_causal.specs.Vocabulary.{Entered, Part, Core, Parts, all_given, outputs_of, root_given, node_at, node_of, at_index, at_variable, one, node_or}
use Rattle.prl_causal.specs.Annotations as notes
use Rattle.prl_expand.specs.Flats as flats
use Rattle.prl_expand.specs.Vocabulary.{Numbered, Types, arguments, copy_of, flow_no, import_at, ports_of, output_flows, resolved, Next, a_call}
use Rattle.prl_expand.specs.Vocabulary.{a_core, a_node, a_part, all_parts, all_resolved, called_apps, called_flows, called_given, first_type, types_of, called, entered_from, past}
use Rattle.prl_expand.specs.Vocabulary.{past_core, past_entered, past_part, past_parts, flow_of, copied, def_of, have_types}
use Rattle.prl_expand.specs.declared.terms.Term as given_term
use Rattle.prl_terms.specs.declared.terms.Term.TheVariants as terms
use Rattle.prl_expand.proofs.Sound.{param_known}
use Rattle.prl_expand.proofs.Remaining.{past_both}

abbrev pub next_of : ℕ → ℕ → ℕ → Next
next_of f a n = record { flow = f; app = a; node = n }

pub first_resolved : (tys : Types) (ts : List Term) → first_type (all_resolved tys ts) ≡ resolved tys (types.operand ts)
first_resolved tys [] = refl
first_resolved tys (t ∷ ts) = refl

-- numbers past lists of known lengths
numbers_past : (f a b c d : ℕ) → d ≡ (a + b) + c → ((f + a) + b) + c ≡ f + d
numbers_past f a b c d e = omega (arith, e)

module _ (p : ProgramTree) (tys : Types) (levels k : ℕ) (env : List ℕ) (pre : List PlacedOp) (root : Root) (post : List PlacedOp) (at : Span) (s : Next) where
  abbrev core : Core ℕ ℕ ℕ
  core = a_core p levels root s

  abbrev whole : Part ℕ ℕ ℕ
  whole = a_part p levels (tree pre root post at) s

  abbrev above : ℕ
  above = s.flow + length (notes.core_flows core)

  part_length : length (notes.part_flows whole) ≡ (length (notes.core_flows core) + length post) + length pre
  part_length =
      let c : List ℕ = notes.core_flows core in
      let posts : List ℕ = range_with_len above (length post) in
      let pres : List ℕ = reverse (range_with_len (above + length post) (length pre)) in
      let n : length (reverse pres) ≡ length pre = ap length (reverse-reverse (range_with_len (above + length post) (length pre))) ∙ length-range_with_len (above + length post) (length pre) in
      omega (arith, n, length-range_with_len above (length post), length-append (c ++ posts) (reverse pres), length-append c posts)

  pub expression_next : record { flow = (above + length post) + length pre; app = s.app + length (notes.core_imports core); node = s.node + length (notes.core_nodes core) } ≡ past_part s whole
  expression_next =
      ap (λ f. record { flow = f; app = s.app + length (notes.core_imports core); node = s.node + length (notes.core_nodes core) })
      (numbers_past s.flow (length (notes.core_flows core)) (length post) (length pre) (length (notes.part_flows whole)) part_length)

pub on_ok : {T E : Type 0} (r : Result T E) (P Q : Type 0) → (P → Q) → OnOk r P → OnOk r Q
on_ok (Ok x) P Q f h = f h
on_ok (Err e) P Q f h = h

pub if_ok : {T E : Type 0} (r : Result T E) (P Q : T → Type 0) → ((x : T) → P x → Q x) → IfOk r P → IfOk r Q
if_ok (Ok x) P Q f h = f x h
if_ok (Err e) P Q f h = h

pub if_err : {T E : Type 0} (r : Result T E) (P Q : E → Type 0) → ((e : E) → P e → Q e) → IfErr r P → IfErr r Q
if_err (Ok x) P Q f h = h
if_err (Err e) P Q f h = f e h

pub entered_below : (p : ProgramTree) (levels k : ℕ) (s : Next) → 0 < levels → entered_from p levels k s ≡ a_node p (levels - 1) k s
entered_below p zero k s h = absurd (omega (arith, h))
entered_below p (suc levels) k s h = let same : levels ≡ suc levels - 1 = omega arith in ap (λ n. a_node p n k s) same

known_types : (tys : Types) (qs : List Port) → map (λ (q : Port). q.ty) qs ≡ all_resolved tys (types.port_types qs)
known_types tys [] = refl
known_types tys (q ∷ qs) = ap (λ (xs : List Ty). q.ty ∷ xs) (known_types tys qs)

-- an import that is applied
module _ (p : ProgramTree) (tys : Types) (levels j : ℕ) (i : Import) (o : Option Callee) (name : List ℕ) (at : Span) (of : List ℕ) (args : List Arg) (s : Next)
    (is : o ≡ Some (callees.Import j)) (found : slice_get p.imports j ≡ Some i) where
  outs_of : Option Import → List ℕ
  outs_of x = range_with_len s.flow (length (ports_of x))

  pub import_types : map (λ (q : Port). q.ty) i.outs ≡ all_resolved tys (types.outputs_of p o)
  import_types = subst (λ x. map (λ (q : Port). q.ty) i.outs ≡ all_resolved tys (types.outputs_of p x)) (sym is) (known_types tys i.outs ∙ ap (λ x. all_resolved tys (types.import_outputs x)) (sym found))

  pub import_flows : output_flows s.app 0 at i.outs (range_with_len s.flow (length i.outs)) ≡ called_flows p tys o name at of (a_call p levels o s)
  import_flows =
      subst (λ x. output_flows s.app 0 at i.outs (range_with_len s.flow (length i.outs)) ≡ called_flows p tys x name at of (a_call p levels x s)) (sym is)
      (ap (λ x. output_flows s.app 0 at (ports_of x) (range_with_len s.flow (length (ports_of x)))) (sym found))

  pub import_apps : record { name = name; wcet = i.wcet; args = args; outs = map flow_no (range_with_len s.flow (length i.outs)); at = at } ∷ [] ≡ called_apps p o name at args (a_call p levels o s)
  import_apps =
      subst (λ x. record { name = name; wcet = i.wcet; args = args; outs = map flow_no (range_with_len s.flow (length i.outs)); at = at } ∷ [] ≡ called_apps p x name at args (a_call p levels x s)) (sym is)
      (ap (λ x. an_app (flats.wcet_of x) (range_with_len s.flow (length (ports_of x))) ∷ []) (sym found))
    where
      an_app : ℕ → List ℕ → App
      an_app wcet outs = record { name = name; wcet = wcet; args = args; outs = map flow_no outs; at = at }

  pub import_next : next_of (s.flow + length i.outs) (s.app + 1) s.node ≡ past_core s (a_call p levels o s)
  import_next =
      subst (λ x. next_of (s.flow + length i.outs) (s.app + 1) s.node ≡ past_core s (a_call p levels x s)) (sym is)
      (let none : s.node ≡ s.node + 0 = omega arith in
      let many : s.flow + length i.outs ≡ s.flow + length (range_with_len s.flow (length (ports_of (slice_get p.imports j)))) =
      ap (λ x. s.flow + length (ports_of x)) (sym found) ∙ ap (λ n. s.flow + n) (sym (length-range_with_len s.flow (length (ports_of (slice_get p.imports j))))) in
      ap (λ n. next_of (s.flow + length i.outs) (s.app + 1) n) none ∙ ap (λ n. next_of n (s.app + 1) (s.node + 0)) many)

  pub import_past : s.flow + length i.outs ≡ s.flow + length (notes.core_flows (a_call p levels o s))
  import_past = ap (λ (x : Next). x.flow) import_next

-- a node that is applied
module _ (p : ProgramTree) (tys : Types) (levels j : ℕ) (o : Option Callee) (name : List ℕ) (at : Span) (of : List ℕ) (args : List Arg) (s : Next)
    (is : o ≡ Some (callees.Node j)) (deep : 0 < levels) where
  abbrev within : Next
  within = next_of s.flow s.app (s.node + 1)

  abbrev child : Entered ℕ ℕ ℕ
  child = a_node p (levels - 1) j within

  call_is : a_call p levels o s ≡ notes.node notes.none s.node child
  call_is = ap (λ x. a_call p levels x s) is ∙ ap (notes.node notes.none s.node) (entered_below p levels j within deep)

  pub node_given : outputs_of child ≡ called_given o (a_call p levels o s)
  node_given = sym (ap (called_given o) call_is)

  pub node_flows : flats.entered_flows p tys (flats.label_of_node name s.node) j (map copy_of of) child ≡ called_flows p tys o name at of (a_call p levels o s)
  node_flows = sym (ap (called_flows p tys o name at of) call_is ∙ ap (λ x. flats.entered_flows p tys (flats.label_of_node name s.node) (node_of x) (map copy_of of) child) is)

  pub node_apps : flats.entered_apps p j child ≡ called_apps p o name at args (a_call p levels o s)
  node_apps = sym (ap (called_apps p o name at args) call_is ∙ ap (λ x. flats.entered_apps p (node_of x) child) is)

  pub node_next : past_entered within child ≡ past_core s (a_call p levels o s)
  node_next =
      let one : (s.node + 1) + length (notes.nodes_in child) ≡ s.node + suc (length (notes.nodes_in child)) = omega arith in
      ap (λ n. next_of (s.flow + length (notes.flows_in child)) (s.app + length (notes.imports_in child)) n) one ∙ sym (ap (past_core s) call_is)

  pub node_past : s.flow + length (notes.flows_in child) ≡ s.flow + length (notes.core_flows (a_call p levels o s))
  node_past = ap (λ (x : Next). x.flow) node_next

-- an application with its arguments
module _ (p : ProgramTree) (tys : Types) (levels k : ℕ) (env : List ℕ) (name : List ℕ) (place at : Span) (args : Trees) (s : Next) where
  abbrev inner : Parts ℕ ℕ ℕ
  inner = all_parts p levels args s

  abbrev called_by : Option Callee → Core ℕ ℕ ℕ
  called_by o = called p (entered_from p levels) o (past_parts s inner) inner

  given_is : (o : Option Callee) → called_given o (a_call p levels o (past_parts s inner)) ≡ root_given (node_at p k) env (apply name place args) (called_by o)
  given_is None = refl
  given_is (Some (callees.Import j)) = refl
  given_is (Some (callees.Node j)) = refl

  abbrev mine : List Numbered
  mine = flats.all_flows p tys k (node_at p k) env args inner

  abbrev my_apps : List App
  my_apps = flats.all_apps p (node_at p k) env args inner

  abbrev gs : List ℕ
  gs = all_given (node_at p k) env args inner

  abbrev us : List Arg
  us = arguments (node_at p k) env args inner

  abbrev s₁ : Next
  s₁ = past_parts s inner

  pub flows_root : (o : Option Callee) → callee_of p name ≡ o → mine ++ called_flows p tys o name place gs (a_call p levels o s₁) ≡ flats.root_flows_of p tys k (node_at p k) env (apply name place args) at (called_by o)
  flows_root None e = ap (λ x. mine ++ output_flows s₁.app 0 place (ports_of (import_at p x)) []) (sym e)
  flows_root (Some (callees.Import j)) e = ap (λ x. mine ++ output_flows s₁.app 0 place (ports_of (import_at p x)) (range_with_len s₁.flow (length (ports_of (slice_get p.imports j))))) (sym e)
  flows_root (Some (callees.Node j)) e =
      ap (λ x. mine ++ flats.entered_flows p tys (flats.label_of_node name s₁.node) (node_of x) (map copy_of gs) (entered_from p levels j (next_of s₁.flow s₁.app (s₁.node + 1)))) (sym e)

  abbrev an_app : ℕ → List ℕ → App
  an_app wcet outs = record { name = name; wcet = wcet; args = us; outs = map flow_no outs; at = place }

  pub apps_root : (o : Option Callee) → callee_of p name ≡ o → my_apps ++ called_apps p o name place us (a_call p levels o s₁) ≡ flats.root_apps p (node_at p k) env (apply name place args) at (called_by o)
  apps_root None e = ap (λ x. my_apps ++ an_app (flats.wcet_of (import_at p x)) [] ∷ []) (sym e)
  apps_root (Some (callees.Import j)) e = ap (λ x. my_apps ++ an_app (flats.wcet_of (import_at p x)) (range_with_len s₁.flow (length (ports_of (slice_get p.imports j)))) ∷ []) (sym e)
  apps_root (Some (callees.Node j)) e = ap (λ x. my_apps ++ flats.entered_apps p (node_of x) (entered_from p levels j (next_of s₁.flow s₁.app (s₁.node + 1)))) (sym e)

  pub numbers_root : (o : Option Callee) → past_core s₁ (a_call p levels o s₁) ≡ past_core s (called_by o)
  numbers_root None =
      past_both s (notes.parts_flows inner) [] (notes.parts_imports inner) (s₁.app ∷ []) (notes.parts_nodes inner) []
      ∙ ap (λ xs. past s (notes.parts_flows inner ++ []) (notes.parts_imports inner ++ s₁.app ∷ []) xs) (append-nil (notes.parts_nodes inner))
  numbers_root (Some (callees.Import j)) =
      let outs : List ℕ = range_with_len s₁.flow (length (ports_of (slice_get p.imports j))) in
      past_both s (notes.parts_flows inner) outs (notes.parts_imports inner) (s₁.app ∷ []) (notes.parts_nodes inner) []
      ∙ ap (λ xs. past s (notes.parts_flows inner ++ outs) (notes.parts_imports inner ++ s₁.app ∷ []) xs) (append-nil (notes.parts_nodes inner))
  numbers_root (Some (callees.Node j)) =
      let child : Entered ℕ ℕ ℕ = entered_from p levels j (next_of s₁.flow s₁.app (s₁.node + 1)) in
      past_both s (notes.parts_flows inner) (notes.flows_in child) (notes.parts_imports inner) (notes.imports_in child) (notes.parts_nodes inner) (s₁.node ∷ notes.nodes_in child)

  abbrev o : Option Callee
  o = callee_of p name

  pub apply_given : (t : Next) → t ≡ s₁ → called_given o (a_call p levels o t) ≡ root_given (node_at p k) env (apply name place args) (a_core p levels (apply name place args) s)
  apply_given t e = ap (λ x. called_given o (a_call p levels o x)) e ∙ given_is o

pub get_map : {A B : Type 0} (f : A → B) (xs : List A) (i : ℕ) (x : A) → slice_get xs i ≡ Some x → slice_get (map f xs) i ≡ Some (f x)
get_map f [] i x e = absurd (cc)
get_map f (y ∷ ys) zero x e = ap (option_map f) e
get_map f (y ∷ ys) (suc i) x e = get_map f ys i x e

get_range : (a n i : ℕ) → i < n → slice_get (range_with_len a n) i ≡ Some (a + i)
get_range a zero i below = absurd (omega (arith, below))
get_range a (suc n) zero below = let here : a ≡ a + 0 = omega arith in ap Some here
get_range a (suc n) (suc i) below = let here : (a + 1) + i ≡ a + suc i = omega arith in get_range (a + 1) n i (omega (arith, below)) ∙ ap Some here

-- a name
module _ (p : ProgramTree) (tys : Types) (k : ℕ) (env : List given_term.Term) (name : List ℕ) (i : ℕ) (t : given_term.Term)
    (is : param_at p k name ≡ Some i) (at : slice_get env i ≡ Some t) where
  pub var_given : (n : NodeTree) × (slice_get p.nodes k ≡ Some n) → t.flow ∷ [] ≡ at_variable (node_at p k) (map flow_of env) name
  var_given there =
      let here : param_of (node_at p k) name ≡ Some i = ap (λ n. param_of n name) (ap node_or there.1) ∙ sym (param_known p k there.0 name there.1) ∙ is in
      sym (ap (at_index (map flow_of env)) here ∙ ap one (get_map flow_of env i t at))

  pub var_types : types_of env ≡ have_types p tys k (length env) → t.ty ∷ [] ≡ all_resolved tys (types.root_flows p k (var name))
  var_types e =
      let below = slice_get_within env i t at in
      let first : ℕ = first_param p k in
      let ours : slice_get (types_of env) i ≡ Some t.ty = get_map (λ (u : given_term.Term). u.ty) env i t at in
      let theirs : slice_get (have_types p tys k (length env)) i ≡ Some (resolved tys (terms.Parameter (first + i))) =
      get_map (resolved tys) (map terms.Parameter (range_with_len first (length env))) i (terms.Parameter (first + i)) (get_map terms.Parameter (range_with_len first (length env)) i (first + i) (get_range first (length env) i below)) in
      let same : t.ty ≡ resolved tys (terms.Parameter (first + i)) = some_inner t.ty (resolved tys (terms.Parameter (first + i))) (sym ours ∙ ap (λ xs. slice_get xs i) e ∙ theirs) in
      ap (λ (ty : Ty). ty ∷ []) (same ∙ ap (λ x. resolved tys (parameter_or p k x)) (sym is))

pub err_and : {T E : Type 0} (r : Result T E) (P Q : E → Type 0) → ((e : E) → P e → Q e) → IsErrAnd r P → IfErr r Q
err_and (Ok x) P Q f h = tt
err_and (Err e) P Q f h = f e h

pub copied_are : (ts : List given_term.Term) → map def_of (map copied ts) ≡ map copy_of (map flow_of ts)
copied_are [] = refl
copied_are (t ∷ ts) = ap (λ xs. copy_of t.flow ∷ xs) (copied_are ts)

pub drop_equations : (eqs : List Equation) (i : ℕ) (e : Equation) → i < length eqs → e ≡ get_or eqs i e → map equation_tree (drop i eqs) ≡ equation_tree e ∷ map equation_tree (drop (i + 1) eqs)
drop_equations eqs i e below is = ap (map equation_tree) (drop_more eqs i e below) ∙ ap (λ x. equation_tree x ∷ map equation_tree (drop (i + 1) eqs)) (sym is)
