-- A node that is entered.
use Rattle.prl_base.proofs.Standard.{◌≡◌, ◌+◌, ℕ, zero, suc, List, [], ◌∷◌, ◌++◌, map, length, drop, take, slice_get, Some, refl, sym, ap, ◌∙◌, subst, arith, append_assoc, range_with_len, map-append}
use Rattle.prl_base.proofs.Standard.{length-map, length-range_with_len}
use Rattle.std.proofs.lemmas.List.{length-append}
use Rattle.prl_ast.specs.Trees.{NodeTree, ProgramTree, program_tree}
use Rattle.prl_ast.specs.declared.declarations.Param.{Param}
use Rattle.prl_ast.specs.declared.declarations.Program.{Program}
use Rattle.prl_flow.specs.declared.programs.App.{App}
use Rattle.prl_flow.specs.declared.programs.Def.{Def}
use Rattle.prl_flow.specs.declared.programs.Flow.{Flow}
use Rattle.prl_types.specs.Flows as types
use Rattle.prl_causal.specs.Vocabulary.{Entered, Rights, outputs_of, node_at}
use Rattle.prl_causal.specs.Annotations as notes
use Rattle.prl_expand.specs.Flats as flats
use Rattle.prl_expand.specs.Vocabulary.{Numbered, Types, equated, resolved, ExpandFault, Next, IsPast, a_node, all_resolved, the_rights, types_of, past_entered, past_rights, flow_of, flows_of}
use Rattle.prl_expand.specs.Vocabulary.{have_types, copies, type_at, variable_flow, variable_flows, variables_made}
use Rattle.prl_expand.specs.declared.terms.Term as given_term
use Rattle.prl_terms.specs.declared.terms.Term.TheVariants as terms
use Rattle.prl_types.specs.Parameters.{first_of as first_param}
use Rattle.prl_expand.proofs.Adding.{past_more}
use Rattle.prl_names.specs.Lookups.{params_of}
use Rattle.prl_causal.proofs.Elements.{head_same, tail_same}
use Rattle.prl_expand.proofs.Existence.{ranges}
use Rattle.prl_expand.proofs.Expressions.{next_of}

take_first : {A : Type 0} (ys zs : List A) → take (length ys) (ys ++ zs) ≡ ys
take_first [] zs = refl
take_first (y ∷ ys) zs = ap (λ xs. y ∷ xs) (take_first ys zs)

middle_of : {A : Type 0} (xs ys zs : List A) → take (length ys) (drop (length xs) ((xs ++ ys) ++ zs)) ≡ ys
middle_of [] ys zs = take_first ys zs
middle_of (x ∷ xs) ys zs = middle_of xs ys zs

map_take : {A B : Type 0} (f : A → B) (n : ℕ) (xs : List A) → map f (take n xs) ≡ take n (map f xs)
map_take f zero xs = refl
map_take f (suc n) [] = refl
map_take f (suc n) (x ∷ xs) = ap (λ ys. f x ∷ ys) (map_take f n xs)

map_drop : {A B : Type 0} (f : A → B) (n : ℕ) (xs : List A) → map f (drop n xs) ≡ drop n (map f xs)
map_drop f zero xs = refl
map_drop f (suc n) [] = refl
map_drop f (suc n) (x ∷ xs) = map_drop f n xs

pub three_ranges : (f a b c : ℕ) → range_with_len f ((a + b) + c) ≡ (range_with_len f a ++ range_with_len (f + a) b) ++ range_with_len ((f + a) + b) c
three_ranges f a b c =
    let e : f + (a + b) ≡ (f + a) + b = omega arith in
    sym (ranges f (a + b) c) ∙ ap (λ xs. xs ++ range_with_len (f + (a + b)) c) (sym (ranges f a b)) ∙ ap (λ n. (range_with_len f a ++ range_with_len (f + a) b) ++ range_with_len n c) e

middle_range : (f a b c : ℕ) → take b (drop a (range_with_len f ((a + b) + c))) ≡ range_with_len (f + a) b
middle_range f a b c =
    let xs : List ℕ = range_with_len f a in
    let ys : List ℕ = range_with_len (f + a) b in
    let m : length xs ≡ a = length-range_with_len f a in
    let n : length ys ≡ b = length-range_with_len (f + a) b in
    ap (λ zs. take b (drop a zs)) (three_ranges f a b c)
    ∙ ap (λ i. take i (drop a ((xs ++ ys) ++ range_with_len ((f + a) + b) c))) (sym n) ∙ ap (λ i. take (length ys) (drop i ((xs ++ ys) ++ range_with_len ((f + a) + b) c))) (sym m)
    ∙ middle_of xs ys (range_with_len ((f + a) + b) c)

pub middle_mapped : {A B : Type 0} (g : A → B) (ts : List A) (h : ℕ → B) (f a b c : ℕ) → map g ts ≡ map h (range_with_len f ((a + b) + c)) → map g (take b (drop a ts)) ≡ map h (range_with_len (f + a) b)
middle_mapped g ts h f a b c e =
    map_take g b (drop a ts) ∙ ap (take b) (map_drop g a ts) ∙ ap (λ xs. take b (drop a xs)) e
    ∙ ap (take b) (sym (map_drop h a (range_with_len f ((a + b) + c)))) ∙ sym (map_take h b (drop a (range_with_len f ((a + b) + c)))) ∙ ap (map h) (middle_range f a b c)

pub middle_numbers : {A : Type 0} (g : A → ℕ) (ts : List A) (f a b c : ℕ) → map g ts ≡ range_with_len f ((a + b) + c) → map g (take b (drop a ts)) ≡ range_with_len (f + a) b
middle_numbers g ts f a b c e = map_take g b (drop a ts) ∙ ap (take b) (map_drop g a ts) ∙ ap (λ xs. take b (drop a xs)) e ∙ middle_range f a b c

pub params_length : (d : NodeTree) → length (params_of d) ≡ (length d.ins + length d.outs) + length d.locals
params_length d =
    omega (arith, length-append (d.ins ++ d.outs) d.locals, length-append d.ins d.outs)

-- a node of the program that was checked is one of the program at hand
pub node_found : (names checked : Program) (k : ℕ) (d : NodeTree) → checked ≡ names → slice_get (program_tree checked).nodes k ≡ Some d → slice_get (program_tree names).nodes k ≡ Some d
node_found names checked k d same at = ap (λ (x : Program). slice_get (program_tree x).nodes k) (sym same) ∙ at

-- the terms of a node's variables: the numbers of their flows, and their types
pub record AreVariables (p : ProgramTree) (tys : Types) (k : ℕ) (s : Next) (d : NodeTree) (ts : List given_term.Term) : Type 0 where
  pub numbers : map flow_of ts ≡ range_with_len s.flow ((length d.ins + length d.outs) + length d.locals)
  pub types_are : types_of ts ≡ have_types p tys k ((length d.ins + length d.outs) + length d.locals)
  pub many : length ts ≡ (length d.ins + length d.outs) + length d.locals

pub node_variables : (names typed : Program) (tys : Types) (k : ℕ) (s : Next) (d : NodeTree) (ts made : List given_term.Term) → ts ≡ made →
    map flow_of made ≡ range_with_len s.flow (length (params_of d)) → types_of made ≡ have_types (program_tree typed) tys k (length (params_of d)) → names ≡ typed →
    AreVariables (program_tree names) tys k s d ts
node_variables names typed tys k s d ts made same flows typing checked =
    let numbers = ap (map flow_of) same ∙ flows ∙ ap (range_with_len s.flow) (params_length d) in
    record {
      numbers = numbers;
      types_are = ap types_of same ∙ typing ∙ ap (λ (x : Program). have_types (program_tree x) tys k (length (params_of d))) (sym checked) ∙ ap (have_types (program_tree names) tys k) (params_length d);
      many = sym (length-map ts flow_of) ∙ ap length numbers ∙ length-range_with_len s.flow ((length d.ins + length d.outs) + length d.locals);
    }

variables_are : (label : List ℕ) (tys : Types) (m : ℕ) (qs : List Param) (ts : List given_term.Term) (ds : List Def) → types_of ts ≡ all_resolved tys (types.parameters_from m (length ts))
    → variables_made label qs ts ds ≡ variable_flows label tys m qs (map flow_of ts) ds
variables_are label tys m [] ts ds e = refl
variables_are label tys m (q ∷ qs) [] ds e = refl
variables_are label tys m (q ∷ qs) (t ∷ ts) [] e = refl
variables_are label tys m (q ∷ qs) (t ∷ ts) (d ∷ ds) e =
    ap (λ ty. variable_flow label t.flow q ty d ∷ variables_made label qs ts ds) (head_same _ _ _ _ e)
    ∙ ap (λ fs. variable_flow label t.flow q (type_at tys m) d ∷ fs) (variables_are label tys (m + 1) qs ts ds (tail_same _ _ _ _ e))

map_twice : {A B C : Type 0} (f : B → C) (g : A → B) (xs : List A) → map f (map g xs) ≡ map (λ x. f (g x)) xs
map_twice f g [] = refl
map_twice f g (x ∷ xs) = ap (λ ys. f (g x) ∷ ys) (map_twice f g xs)

module _ (p : ProgramTree) (tys : Types) (levels k : ℕ) (s : Next) where
  abbrev n : NodeTree
  n = node_at p k

  abbrev whole : Entered ℕ ℕ ℕ
  whole = a_node p levels k s

  -- past the variables of the node
  abbrev pub after : NodeTree → Next
  after d = next_of (((s.flow + length d.ins) + length d.outs) + length d.locals) s.app s.node

  abbrev rights : Rights ℕ ℕ ℕ
  rights = the_rights p levels n.eqs (after n)

  abbrev env : List ℕ
  env = (range_with_len s.flow (length n.ins) ++ range_with_len (s.flow + length n.ins) (length n.outs)) ++ range_with_len ((s.flow + length n.ins) + length n.outs) (length n.locals)

  env_length : length env ≡ (length n.ins + length n.outs) + length n.locals
  env_length = ap length (sym (three_ranges s.flow (length n.ins) (length n.outs) (length n.locals))) ∙ length-range_with_len s.flow ((length n.ins + length n.outs) + length n.locals)

  whole_length : (((s.flow + length n.ins) + length n.outs) + length n.locals) + length (notes.right_flows rights) ≡ s.flow + length (notes.flows_in whole)
  whole_length =
      omega (arith, length-append env (notes.right_flows rights), env_length)

  pub variables_past : (d : NodeTree) (e : ExpandFault) → n ≡ d → IsPast (((s.flow + length d.ins) + length d.outs) + length d.locals) e → IsPast (s.flow + length (notes.flows_in whole)) e
  variables_past d e is h =
      let mine : IsPast (((s.flow + length n.ins) + length n.outs) + length n.locals) e = subst (λ (x : NodeTree). IsPast (((s.flow + length x.ins) + length x.outs) + length x.locals) e) (sym is) h in
      past_more (((s.flow + length n.ins) + length n.outs) + length n.locals) (s.flow + length (notes.flows_in whole)) e (omega (arith, whole_length)) mine

  pub equations_past : (d : NodeTree) (t : Next) (e : ExpandFault) → n ≡ d → t ≡ after d → IsPast (t.flow + length (notes.right_flows (the_rights p levels d.eqs t))) e → IsPast (s.flow + length (notes.flows_in whole)) e
  equations_past d t e is at h =
      let there = subst (λ (x : Next). IsPast (x.flow + length (notes.right_flows (the_rights p levels d.eqs x))) e) at h in
      let mine = subst (λ (x : NodeTree). IsPast ((after x).flow + length (notes.right_flows (the_rights p levels x.eqs (after x)))) e) (sym is) there in
      subst (λ m. IsPast m e) whole_length mine

  -- what is known where the node is left: what was made before and within, and the flows of its variables
  pub record Entering (label : List ℕ) (a b z : List Flow) (ts : List given_term.Term) (sources defs : List Def) (d : NodeTree) : Type 0 where
    pub inner_is : b ≡ flows_of (flats.right_flows p tys k n (map flow_of ts) d.eqs (the_rights p levels d.eqs (after d)))
    pub numbers : map flow_of ts ≡ range_with_len s.flow ((length d.ins + length d.outs) + length d.locals)
    pub types_are : types_of ts ≡ all_resolved tys (types.parameters_from (first_param p k) (length ts))
    pub defs_are : defs ≡ sources ++ copies (equated n (map flow_of ts) d.eqs (the_rights p levels d.eqs (after d))) (d.outs ++ d.locals)
    pub all_is : z ≡ (a ++ flows_of (variables_made label (params_of d) ts defs)) ++ b

  pub entered_made : (label : List ℕ) (a b z : List Flow) (ts : List given_term.Term) (sources defs : List Def) (d : NodeTree) → n ≡ d → Entering label a b z ts sources defs d
      → z ≡ a ++ flows_of (flats.entered_flows p tys label k sources whole)
  entered_made label a b z ts sources defs d is known =
      let mine = subst (λ x. Entering label a b z ts sources defs x) (sym is) known in
      let e : map flow_of ts ≡ env = mine.numbers ∙ three_ranges s.flow (length n.ins) (length n.outs) (length n.locals) in
      let ds : List Def = sources ++ copies (equated n env n.eqs rights) (n.outs ++ n.locals) in
      let ds_are : defs ≡ ds = mine.defs_are ∙ ap (λ is. sources ++ copies (equated n is n.eqs rights) (n.outs ++ n.locals)) e in
      let vs : variables_made label (params_of n) ts defs ≡ variable_flows label tys (first_param p k) (params_of n) env ds =
      variables_are label tys (first_param p k) (params_of n) ts defs mine.types_are
      ∙ ap (λ is. variable_flows label tys (first_param p k) (params_of n) is defs) e ∙ ap (variable_flows label tys (first_param p k) (params_of n) env) ds_are in
      let rs = mine.inner_is ∙ ap (λ is. flows_of (flats.right_flows p tys k n is n.eqs rights)) e in
      mine.all_is ∙ append_assoc a (flows_of (variables_made label (params_of n) ts defs)) b
      ∙ ap (λ fs. a ++ (flows_of fs ++ b)) vs
      ∙ ap (λ fs. a ++ (flows_of (variable_flows label tys (first_param p k) (params_of n) env ds) ++ fs)) rs
      ∙ ap (λ fs. a ++ fs) (sym (map-append (λ (f : Numbered). f.1) (variable_flows label tys (first_param p k) (params_of n) env ds) (flats.right_flows p tys k n env n.eqs rights)))

  pub entered_apps : (us : List App) (ts : List given_term.Term) (d : NodeTree) → n ≡ d → map flow_of ts ≡ range_with_len s.flow ((length d.ins + length d.outs) + length d.locals)
      → us ≡ flats.right_apps p n (map flow_of ts) d.eqs (the_rights p levels d.eqs (after d)) → us ≡ flats.entered_apps p k whole
  entered_apps us ts d is numbers e =
      let mine : us ≡ flats.right_apps p n (map flow_of ts) n.eqs rights = subst (λ (x : NodeTree). us ≡ flats.right_apps p n (map flow_of ts) x.eqs (the_rights p levels x.eqs (after x))) (sym is) e in
      let ours : map flow_of ts ≡ range_with_len s.flow ((length n.ins + length n.outs) + length n.locals) =
      subst (λ (x : NodeTree). map flow_of ts ≡ range_with_len s.flow ((length x.ins + length x.outs) + length x.locals)) (sym is) numbers in
      mine ∙ ap (λ is. flats.right_apps p n is n.eqs rights) (ours ∙ three_ranges s.flow (length n.ins) (length n.outs) (length n.locals))

  pub entered_next : (d : NodeTree) → n ≡ d → past_rights (after d) (the_rights p levels d.eqs (after d)) ≡ past_entered s whole
  entered_next d is =
      ap (λ (x : NodeTree). past_rights (after x) (the_rights p levels x.eqs (after x))) (sym is)
      ∙ ap (λ f. next_of f (s.app + length (notes.right_imports rights)) (s.node + length (notes.right_nodes rights))) whole_length

  pub entered_given : (ts : List given_term.Term) (d : NodeTree) → n ≡ d → map flow_of ts ≡ range_with_len s.flow ((length d.ins + length d.outs) + length d.locals)
      → map flow_of (take (length d.outs) (drop (length d.ins) ts)) ≡ outputs_of whole
  entered_given ts d is e =
      middle_numbers flow_of ts s.flow (length d.ins) (length d.outs) (length d.locals) e ∙ ap (λ (x : NodeTree). range_with_len (s.flow + length x.ins) (length x.outs)) (sym is)

  pub entered_types : (ts : List given_term.Term) (d : NodeTree) → slice_get p.nodes k ≡ Some d → types_of ts ≡ have_types p tys k ((length d.ins + length d.outs) + length d.locals)
      → types_of (take (length d.outs) (drop (length d.ins) ts)) ≡ all_resolved tys (types.node_outputs (first_param p k) (slice_get p.nodes k))
  entered_types ts d found e =
      let m : ℕ = first_param p k in
      let both : map (resolved tys) (map terms.Parameter (range_with_len m ((length d.ins + length d.outs) + length d.locals))) ≡ map (λ i. resolved tys (terms.Parameter i)) (range_with_len m ((length d.ins + length d.outs) + length d.locals)) =
      map_twice (resolved tys) terms.Parameter (range_with_len m ((length d.ins + length d.outs) + length d.locals)) in
      middle_mapped (λ (t : given_term.Term). t.ty) ts (λ i. resolved tys (terms.Parameter i)) m (length d.ins) (length d.outs) (length d.locals) (e ∙ both)
      ∙ sym (map_twice (resolved tys) terms.Parameter (range_with_len (m + length d.ins) (length d.outs)))
      ∙ ap (λ x. all_resolved tys (types.node_outputs m x)) (sym found)
