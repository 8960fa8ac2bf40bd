-- What is known of the nodes of a program whose names and arity are right, and how many flows expressions give.
use Rattle.prl_base.proofs.Standard.{◌≡◌, ◌<◌, ◌+◌, ℕ, zero, suc, List, [], ◌∷◌, ◌++◌, length, Option, Some, None, IsSome, map, slice_get, refl, sym, ap, ◌∙◌, subst, arith, option_and_then}
use Rattle.prl_base.proofs.Standard.{range_with_len, length-map, length-range_with_len, slice_get_within}
use Rattle.std.proofs.lemmas.List.{append_assoc, length-append}
use Rattle.prl_base.specs.declared.places.Span.{Span}
use Rattle.prl_ast.specs.Trees.{Tree, Root, const, var, apply, group, Trees, none, more, EquationTree, NodeTree, ProgramTree}
use Rattle.prl_ast.specs.declared.declarations.Import.{Import}
use Rattle.prl_ast.specs.declared.declarations.Param.{Param}
use Rattle.prl_ast.specs.declared.declarations.Port.{Port}
use Rattle.prl_ast.specs.declared.expressions.PlacedOp.{PlacedOp}
use Rattle.prl_ast.specs.Trees.{tree}
use Rattle.prl_flow.specs.declared.programs.App.{App}
use Rattle.prl_flow.specs.declared.programs.Def.{Def}
use Rattle.prl_flow.proofs.Lists.{element_at}
use Rattle.prl_names.specs.Vocabulary.{callee_of, param_at, param_of, param_names, params_of, index_of, IsNamedNode, IsKnown, IsKnownRoot, AreKnown}
use Rattle.prl_names.specs.declared.lookups.Callee.{Callee}
use Rattle.prl_names.specs.declared.lookups.Callee.TheVariants as callees
use Rattle.prl_names.proofs.Marking.{index_found}
use Rattle.prl_types.specs.Vocabulary.{arity_faults, nodes_faults, equations_faults, equation_faults, faults_in, root_faults, all_faults, prefix_fault, postfix_fault, unless_equal, operated, flows_of}
use Rattle.prl_types.specs.Vocabulary.{root_flows, all_flows, outputs_of, inputs_of, import_outputs, node_inputs, node_outputs, parameters_from, first_of}
use Rattle.prl_terms.specs.declared.terms.Term.{Term}
use Rattle.prl_terms.specs.declared.terms.Term.TheVariants as terms
use Rattle.prl_causal.specs.Annotations.{Entered, entered, Part, part, Core, Parts}
use Rattle.prl_causal.specs.Annotations as notes
use Rattle.prl_causal.specs.Asked as asked
use Rattle.prl_causal.specs.Asked.{one, at_index, at_variable, last_of, first_of as first_flow, given, root_given, all_given}
use Rattle.prl_causal.specs.Texts.{node_at, node_or, node_of, IsNodeCall, IsImportCall, HasVariables, IsText, IsPart, IsCore, AreParts}
use Rattle.prl_expand.specs.Flats.{arguments, copies, copy_of, flow_no, import_at, source_of, wcet_of}
use Rattle.prl_expand.proofs.Lists.{some_inner, no_first, no_second, equal_unless, lengths_append}

-- the node of this number, whose names and arity are right
pub record IsRightNode (p : ProgramTree) (k : ℕ) (n : NodeTree) : Type 0 where
  pub found : slice_get p.nodes k ≡ Some n
  pub named : IsNamedNode p k n
  pub arity : equations_faults p k n.eqs ≡ []

pub record IsSound (p : ProgramTree) : Type 0 where
  pub node : (k : ℕ) (n : NodeTree) → slice_get p.nodes k ≡ Some n → IsRightNode p k n

node_arity : (p : ProgramTree) (ns : List NodeTree) (first i k : ℕ) (n : NodeTree) → nodes_faults p first ns ≡ [] → slice_get ns i ≡ Some n → k ≡ first + i → equations_faults p k n.eqs ≡ []
node_arity p [] first i k n e found at = absurd (cc)
node_arity p (m ∷ ns) first zero k n e found at =
    let here : equations_faults p first m.eqs ≡ [] = no_first (equations_faults p first m.eqs) (nodes_faults p (first + 1) ns) e in
    let number : first ≡ k = omega (arith, at) in
    subst (λ (x : NodeTree). equations_faults p k x.eqs ≡ []) (some_inner m n found) (subst (λ j. equations_faults p j m.eqs ≡ []) number here)
node_arity p (m ∷ ns) first (suc i) k n e found at =
    node_arity p ns (first + 1) i k n (no_second (equations_faults p first m.eqs) (nodes_faults p (first + 1) ns) e) found (omega (arith, at))

pub sound_from : (p : ProgramTree) → ((k : ℕ) (n : NodeTree) → slice_get p.nodes k ≡ Some n → IsNamedNode p k n) → arity_faults p ≡ [] → IsSound p
unfolding arity_faults
sound_from p named arity = record {
  node = λ k n found. record { found = found; named = named k n found; arity = node_arity p p.nodes 0 k k n arity found (omega arith) };
}

-- a node that has variables is there
pub there : (o : Option NodeTree) (a b c : ℕ) → HasVariables o a b c → (n : NodeTree) × (o ≡ Some n)
there None a b c h = absurd h
there (Some n) a b c h = (n, refl)

-- what stands at all variables of a node: as many things as there are variables
pub variables_count : {F : Type 0} (n : NodeTree) (ins outs locals : List F) → HasVariables (Some n) (length ins) (length outs) (length locals)
    → length ((ins ++ outs) ++ locals) ≡ length (params_of n)
variables_count n ins outs locals h =
    omega (arith, h.0, h.1, h.2, length-append (ins ++ outs) locals, length-append ins outs, length-append (n.ins ++ n.outs) n.locals, length-append n.ins n.outs)

pub one_length : {F : Type 0} (env : List F) (j : ℕ) → j < length env → length (one (slice_get env j)) ≡ 1
one_length {F = F} env j within =
    ap (λ (o : Option F). length (one o)) (element_at env j within).1

pub index_within : (names : List (List ℕ)) (name : List ℕ) (j : ℕ) → index_of names name ≡ Some j → j < length names
index_within names name j e = slice_get_within names j name (index_found names name j e)

index_length : {F : Type 0} (env : List F) (o : Option ℕ) → IsSome o → ((j : ℕ) → o ≡ Some j → j < length env) → length (at_index env o) ≡ 1
index_length env None h f = absurd (cc)
index_length env (Some j) h f = one_length env j (f j refl)

pub param_known : (p : ProgramTree) (k : ℕ) (n : NodeTree) (name : List ℕ) → slice_get p.nodes k ≡ Some n → param_at p k name ≡ param_of n name
param_known p k n name found = ap (option_and_then (λ (m : NodeTree). param_of m name)) found

pub variable_length : {F : Type 0} (p : ProgramTree) (k : ℕ) (n : NodeTree) (env : List F) (name : List ℕ) → slice_get p.nodes k ≡ Some n → length env ≡ length (params_of n)
    → IsSome (param_at p k name) → length (at_variable n env name) ≡ 1
variable_length p k n env name found count known =
    index_length env (param_of n name) (subst (λ (o : Option ℕ). IsSome o) (param_known p k n name found) known)
    (λ j e. omega (arith, index_within (param_names n) name j e, count, length-map (params_of n) (λ (q : Param). q.name)))

parameters_length : (first count : ℕ) → length (parameters_from first count) ≡ count
parameters_length first count = length-map (range_with_len first count) terms.Parameter ∙ length-range_with_len first count

variables_outputs : (o : Option NodeTree) (first a b c : ℕ) → HasVariables o a b c → b ≡ length (node_outputs first o)
variables_outputs None first a b c h = absurd h
variables_outputs (Some n) first a b c h = h.1 ∙ sym (parameters_length (first + length n.ins) (length n.outs))

variables_inputs : (o : Option NodeTree) (first a b c : ℕ) → HasVariables o a b c → a ≡ length (node_inputs first o)
variables_inputs None first a b c h = absurd h
variables_inputs (Some n) first a b c h = h.0 ∙ sym (parameters_length first (length n.ins))

pub last_length : {F : Type 0} (fs of : List F) → length of ≡ 1 → length (last_of of fs) ≡ 1
last_length [] of e = e
last_length (f ∷ fs) of e = last_length fs (f ∷ []) refl

-- operators make one flow
operated_length : {F : Type 0} (pre post : List PlacedOp) (pres posts of : List F) (flows : List Term) → length pres ≡ length pre → length posts ≡ length post
    → length of ≡ length flows → length (first_flow pres (last_of of posts)) ≡ length (operated pre post flows)
operated_length [] [] [] [] of flows a b e = e
operated_length [] [] [] (f ∷ posts) of flows a b e = absurd (omega (arith, b))
operated_length [] [] (f ∷ pres) posts of flows a b e = absurd (omega (arith, a))
operated_length [] (o ∷ post) [] [] of flows a b e = absurd (omega (arith, b))
operated_length [] (o ∷ post) [] (f ∷ posts) of flows a b e = last_length posts (f ∷ []) refl
operated_length [] (o ∷ post) (f ∷ pres) posts of flows a b e = absurd (omega (arith, a))
operated_length (o ∷ pre) post [] posts of flows a b e = absurd (omega (arith, a))
operated_length (o ∷ pre) post (f ∷ pres) posts of flows a b e = refl

import_length : (p : ProgramTree) (o : Option Callee) (count : ℕ) → IsImportCall p count o → count ≡ length (outputs_of p o)
import_length p None count h = absurd h
import_length p (Some (callees.Node k)) count h = absurd h
import_length p (Some (callees.Import k)) count h =
    h.2 ∙ sym (length-map h.0.outs (λ (q : Port). terms.Known q.ty)) ∙ sym (ap (λ (o : Option Import). length (import_outputs o)) h.1)

module _ {F R N : Type 0} where
  outputs_length : (p : ProgramTree) (o : Option Callee) (e : Entered F R N) → IsNodeCall o → IsText p (node_of o) e → length (asked.outputs_of e) ≡ length (outputs_of p o)
  outputs_length p None e h text = absurd h
  outputs_length p (Some (callees.Import k)) e h text = absurd h
  outputs_length p (Some (callees.Node k)) (entered ins outs locals rights) h text =
      variables_outputs (slice_get p.nodes k) (first_of p k) (length ins) (length outs) (length locals) text.0

  pub inputs_length : (p : ProgramTree) (o : Option Callee) (e : Entered F R N) → IsNodeCall o → IsText p (node_of o) e → length (asked.inputs_of e) ≡ length (inputs_of p o)
  inputs_length p None e h text = absurd h
  inputs_length p (Some (callees.Import k)) e h text = absurd h
  inputs_length p (Some (callees.Node k)) (entered ins outs locals rights) h text =
      variables_inputs (slice_get p.nodes k) (first_of p k) (length ins) (length outs) (length locals) text.0

  -- an expression gives as many flows as its types say
  module _ (p : ProgramTree) (k : ℕ) (n : NodeTree) (env : List F) (found : slice_get p.nodes k ≡ Some n) (count : length env ≡ length (params_of n)) where
    mutual
      pub given_length : (t : Tree) (q : Part F R N) → IsPart p t q → IsKnown p k t → length (given n env t q) ≡ length (flows_of p k t)
      given_length (tree pre root post at) (part pres core posts) h known =
          operated_length pre post pres posts (root_given n env root core) (root_flows p k root) h.0 h.2 (root_length root core h.1 known)

      pub root_length : (root : Root) (c : Core F R N) → IsCore p root c → IsKnownRoot p k root → length (root_given n env root c) ≡ length (root_flows p k root)
      root_length (const v) (notes.constant f) h known = refl
      root_length (var name) notes.name h known = variable_length p k n env name found count known
      root_length (apply name at args) (notes.import parts r outs) h known = import_length p (callee_of p name) (length outs) h.0
      root_length (apply name at args) (notes.node parts x child) h known = outputs_length p (callee_of p name) child h.0 h.2
      root_length (group args) (notes.group parts) h known = all_length args parts h known
      root_length root core h known = absurd h

      pub all_length : (ts : Trees) (qs : Parts F R N) → AreParts p ts qs → AreKnown p k ts → length (all_given n env ts qs) ≡ length (all_flows p k ts)
      all_length none notes.none h known = refl
      all_length none (notes.more q rest) h known = absurd h
      all_length (more t ts) notes.none h known = absurd h
      all_length (more t ts) (notes.more q rest) h known =
          lengths_append (given n env t q) (all_given n env ts rest) (flows_of p k t) (all_flows p k ts) (given_length t q h.0 known.0) (all_length ts rest h.1 known.1)

-- what right arity says of the parts of an expression
pub record IsOperated (p : ProgramTree) (k : ℕ) (pre : List PlacedOp) (root : Root) (post : List PlacedOp) : Type 0 where
  pub front : prefix_fault (length (root_flows p k root)) pre post ≡ []
  pub inner : root_faults p k root ≡ []
  pub back : postfix_fault (length (root_flows p k root)) post ≡ []

pub operated_right : (p : ProgramTree) (k : ℕ) (pre : List PlacedOp) (root : Root) (post : List PlacedOp) →
    prefix_fault (length (root_flows p k root)) pre post ++ root_faults p k root ++ postfix_fault (length (root_flows p k root)) post ≡ [] → IsOperated p k pre root post
operated_right p k pre root post arity =
    let needed : ℕ = length (root_flows p k root) in
    let both = no_first (prefix_fault needed pre post ++ root_faults p k root) (postfix_fault needed post) arity in
    record {
      front = no_first (prefix_fault needed pre post) (root_faults p k root) both;
      inner = no_second (prefix_fault needed pre post) (root_faults p k root) both;
      back = no_second (prefix_fault needed pre post ++ root_faults p k root) (postfix_fault needed post) arity;
    }

-- of the arguments of what is applied
pub record AreArgued (p : ProgramTree) (k : ℕ) (name : List ℕ) (args : Trees) : Type 0 where
  pub needed : length (all_flows p k args) ≡ length (inputs_of p (callee_of p name))
  pub inner : all_faults p k args ≡ []

pub argued_right : (p : ProgramTree) (k : ℕ) (name : List ℕ) (place : Span) (args : Trees) →
    unless_equal (length (all_flows p k args)) (length (inputs_of p (callee_of p name))) place.at ++ all_faults p k args ≡ [] → AreArgued p k name args
argued_right p k name place args arity =
    let a : ℕ = length (all_flows p k args) in
    let b : ℕ = length (inputs_of p (callee_of p name)) in
    record {
      needed = equal_unless a b place.at (no_first (unless_equal a b place.at) (all_faults p k args) arity);
      inner = no_second (unless_equal a b place.at) (all_faults p k args) arity;
    }

-- a node that is applied is given as many flows as it has inputs
pub enough_given : (p : ProgramTree) (k : ℕ) (n : NodeTree) (env : List ℕ) → slice_get p.nodes k ≡ Some n → length env ≡ length (params_of n) → (name : List ℕ) (args : Trees) (parts : Parts ℕ ℕ ℕ)
    (child : Entered ℕ ℕ ℕ) → IsNodeCall (callee_of p name) → AreParts p args parts → IsText p (node_of (callee_of p name)) child → AreKnown p k args → AreArgued p k name args →
    length (map copy_of (all_given n env args parts)) ≡ length (asked.inputs_of child)
enough_given p k n env found count name args parts child call are text known argued =
    length-map (all_given n env args parts) copy_of ∙ all_length p k n env found count args parts are known ∙ argued.needed ∙ sym (inputs_length p (callee_of p name) child call text)

-- of an equation and those after it
pub record IsEquated (p : ProgramTree) (k : ℕ) (e : EquationTree) (es : List EquationTree) : Type 0 where
  pub first : faults_in p k e.right ≡ []
  pub second : equations_faults p k es ≡ []

pub equated_right : (p : ProgramTree) (k : ℕ) (e : EquationTree) (es : List EquationTree) → equation_faults p k e ++ equations_faults p k es ≡ [] → IsEquated p k e es
equated_right p k e es arity = record {
  first = no_second (unless_equal (length (flows_of p k e.right)) (length e.lefts) e.at.at) (faults_in p k e.right) (no_first (equation_faults p k e) (equations_faults p k es) arity);
  second = no_second (equation_faults p k e) (equations_faults p k es) arity;
}

-- a node that is entered is there, with what stands at its variables
pub record IsEntered (p : ProgramTree) (k : ℕ) (ins outs locals : List ℕ) : Type 0 where
  pub found : slice_get p.nodes k ≡ Some (node_at p k)
  pub has : HasVariables (Some (node_at p k)) (length ins) (length outs) (length locals)
  pub count : length ((ins ++ outs) ++ locals) ≡ length (params_of (node_at p k))
  pub rest_count : length (outs ++ locals) ≡ length ((node_at p k).outs ++ (node_at p k).locals)

pub entered_is : (p : ProgramTree) (k : ℕ) (ins outs locals : List ℕ) → HasVariables (slice_get p.nodes k) (length ins) (length outs) (length locals) → IsEntered p k ins outs locals
entered_is p k ins outs locals vars =
    let at = there (slice_get p.nodes k) (length ins) (length outs) (length locals) vars in
    let found : slice_get p.nodes k ≡ Some (node_at p k) = at.1 ∙ ap Some (sym (ap node_or at.1)) in
    let has : HasVariables (Some (node_at p k)) (length ins) (length outs) (length locals) = subst (λ (o : Option NodeTree). HasVariables o (length ins) (length outs) (length locals)) found vars in
    record {
      found = found;
      has = has;
      count = variables_count (node_at p k) ins outs locals has;
      rest_count = lengths_append outs locals (node_at p k).outs (node_at p k).locals has.1 has.2;
    }

-- and a definition of each, where its inputs have theirs
pub all_defined : (p : ProgramTree) (k : ℕ) (ins outs locals : List ℕ) → IsEntered p k ins outs locals → (sources : List Def) → length sources ≡ length ins → (qs : List (List ℕ × ℕ)) →
    length ((ins ++ outs) ++ locals) ≡ length (sources ++ copies qs ((node_at p k).outs ++ (node_at p k).locals))
all_defined p k ins outs locals is sources enough qs =
    ap length (append_assoc ins outs locals) ∙ lengths_append ins (outs ++ locals) sources (copies qs ((node_at p k).outs ++ (node_at p k).locals)) (sym enough)
    (is.rest_count ∙ sym (length-map ((node_at p k).outs ++ (node_at p k).locals) (λ (q : Param). copy_of (source_of qs q.name))))

-- the application of an import
abbrev pub call_of : ProgramTree → NodeTree → List ℕ → List ℕ → Span → Trees → Parts ℕ ℕ ℕ → List ℕ → App
call_of p n env name place args parts outs = record {
  name = name;
  wcet = wcet_of (import_at p (callee_of p name));
  args = arguments n env args parts;
  outs = map flow_no outs;
  at = place;
}
