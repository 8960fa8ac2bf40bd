-- Steps one after the other.
use Rattle.prl_base.proofs.Standard.{◌≡◌, ◌<◌, ◌≤◌, ◌+◌, ◌-◌, ℕ, zero, suc, List, [], ◌∷◌, ◌++◌, map, length, Option, refl, sym, ap, ◌∙◌, subst, arith, append_assoc, reverse, range_with_len}
use Rattle.prl_base.proofs.Standard.{append-nil, map-append, length-reverse, reverse-append}
use Rattle.prl_base.specs.declared.places.Span.{Span}
use Rattle.prl_base.specs.declared.values.Ty.{Ty}
use Rattle.prl_ast.specs.declared.declarations.Port.{Port}
use Rattle.prl_ast.specs.declared.expressions.PlacedOp.{PlacedOp}
use Rattle.prl_flow.specs.declared.programs.App.{App}
use Rattle.prl_flow.specs.declared.programs.Arg.{Arg}
use Rattle.prl_flow.specs.declared.programs.Flow.{Flow}
use Rattle.prl_flow.specs.declared.programs.Def.TheVariants as definitions
use Rattle.prl_causal.specs.Asked.{first_of as first_given, last_of}
use Rattle.prl_expand.specs.Vocabulary.{Numbered, flow_no, made_flow, operator_flows, output_flows, ExpandFault, Next, Made, Adds, IsFew, IsPast, first_type, head_of, operated_flows, operated_given}
use Rattle.prl_expand.specs.Vocabulary.{operated_types, types_of, arg_of, flow_of, flows_of, number_of, operators_made, operators_over, output_terms, outputs_made, placed_at}
use Rattle.prl_expand.specs.declared.counts.ExpandFault.TheVariants as faults
use Rattle.prl_expand.specs.declared.terms.Term as given
use Rattle.prl_expand.proofs.TermLists.{range_suc}

pub past_more : (m n : ℕ) (e : ExpandFault) → m ≤ n → IsPast m e → IsPast n e
past_more m n (faults.Limit limit) below h = (h.0, omega (arith, below, h.1))
past_more m n faults.Memory below h = tt

pub adds_then : (a b c : Made) (fs gs : List Numbered) (us vs : List App) (s t : Next) → Adds a b fs us s → Adds b c gs vs t → Adds a c (fs ++ gs) (us ++ vs) t
adds_then a b c fs gs us vs s t one two = record {
  flows_are = two.flows_are ∙ ap (λ xs. xs ++ flows_of gs) one.flows_are ∙ append_assoc a.flows.items (flows_of fs) (flows_of gs)
      ∙ ap (λ xs. a.flows.items ++ xs) (sym (map-append (λ (f : Numbered). f.1) fs gs));
  apps_are = two.apps_are ∙ ap (λ xs. xs ++ vs) one.apps_are ∙ append_assoc a.apps.items us vs;
  next_is = two.next_is;
  few = two.few;
}

pub adds_as : (a b : Made) (fs gs : List Numbered) (us vs : List App) (s t : Next) → Adds a b fs us s → fs ≡ gs → us ≡ vs → s ≡ t → Adds a b gs vs t
adds_as a b fs gs us vs s t one f u n = record {
  flows_are = one.flows_are ∙ ap (λ xs. a.flows.items ++ flows_of xs) f;
  apps_are = one.apps_are ∙ ap (λ xs. a.apps.items ++ xs) u;
  next_is = one.next_is ∙ n;
  few = one.few;
}

-- outputs of an import over their numbers
pub outputs_are : (app out : ℕ) (at : Span) (qs : List Port) (first : ℕ) → outputs_made app out at qs first ≡ output_flows app out at qs (range_with_len first (length qs))
outputs_are app out at [] first = refl
outputs_are app out at (q ∷ qs) first = ap (λ fs. made_flow first q.ty (definitions.Apply app out) at ∷ fs) (outputs_are app (out + 1) at qs (first + 1))

pub output_flows_of : (qs : List Port) (first : ℕ) (at : Span) → map flow_of (output_terms qs first at) ≡ range_with_len first (length qs)
output_flows_of [] first at = refl
output_flows_of (q ∷ qs) first at = ap (λ xs. first ∷ xs) (output_flows_of qs (first + 1) at)

pub output_types_of : (qs : List Port) (first : ℕ) (at : Span) → types_of (output_terms qs first at) ≡ map (λ (q : Port). q.ty) qs
output_types_of [] first at = refl
output_types_of (q ∷ qs) first at = ap (λ (xs : List Ty). q.ty ∷ xs) (output_types_of qs (first + 1) at)

pub numbers_are : (ts : List given.Term) → map number_of ts ≡ map flow_no (map flow_of ts)
numbers_are [] = refl
numbers_are (t ∷ ts) = ap (λ xs. number_of t ∷ xs) (numbers_are ts)

-- operators over their numbers
pub operators_are : (ty : Ty) (os : List PlacedOp) (first of : ℕ) → operators_made ty os first of ≡ operator_flows ty os (range_with_len first (length os)) (of ∷ [])
operators_are ty [] first of = refl
operators_are ty (o ∷ os) first of = ap (λ fs. made_flow first ty (definitions.Op o.op (flow_no of)) o.at ∷ fs) (operators_are ty os (first + 1) first)

no_operators : (ty : Ty) (os : List PlacedOp) (is : List ℕ) → operator_flows ty os is [] ≡ []
no_operators ty [] is = refl
no_operators ty (o ∷ os) [] = refl
no_operators ty (o ∷ os) (i ∷ is) = refl

more_operands : (ty : Ty) (os : List PlacedOp) (is : List ℕ) (x : ℕ) (xs : List ℕ) → operator_flows ty os is (x ∷ []) ≡ operator_flows ty os is (x ∷ xs)
more_operands ty [] is x xs = refl
more_operands ty (o ∷ os) [] x xs = refl
more_operands ty (o ∷ os) (i ∷ is) x xs = refl

pub over_are : (ty : Ty) (os : List PlacedOp) (first : ℕ) (of : List ℕ) → operators_over ty os first (head_of of) ≡ operator_flows ty os (range_with_len first (length os)) of
over_are ty os first [] = sym (no_operators ty os (range_with_len first (length os)))
over_are ty os first (x ∷ xs) = operators_are ty os first x ∙ more_operands ty os (range_with_len first (length os)) x xs

-- the last of numbers that follow one another
last_range : (of : List ℕ) (f n : ℕ) → last_of of (range_with_len f (suc n)) ≡ (f + n) ∷ []
last_range of f zero = let here : f ≡ f + 0 = omega arith in ap (λ b. b ∷ []) here
last_range of f (suc n) =
    let here : (f + 1) + n ≡ f + suc n = omega arith in
    last_range (f ∷ []) (f + 1) n ∙ ap (λ b. b ∷ []) here

pub middle_is : (of : List ℕ) (f n : ℕ) → 0 < n → last_of of (range_with_len f n) ≡ ((f + n) - 1) ∷ []
middle_is of f zero some = absurd (omega (arith, some))
middle_is of f (suc n) some = let here : f + n ≡ (f + suc n) - 1 = omega arith in last_range of f n ∙ ap (λ b. b ∷ []) here

first_reversed : (xs : List ℕ) (y : ℕ) (of : List ℕ) → first_given (reverse (xs ++ y ∷ [])) of ≡ y ∷ []
first_reversed xs y of = ap (λ ys. first_given ys of) (reverse-append xs (y ∷ []))

pub given_last : (f : ℕ) (pre post : List PlacedOp) (of : List ℕ) → 0 < length post + length pre → operated_given f pre post of ≡ (((f + length post) + length pre) - 1) ∷ []
given_last f [] post of some =
    let many : 0 < length post = omega (arith, some) in
    let number : (f + length post) - 1 ≡ ((f + length post) + 0) - 1 = omega arith in
    middle_is of f (length post) many ∙ ap (λ i. i ∷ []) number
given_last f (o ∷ pre) post of some =
    let a : ℕ = f + length post in
    let number : a + length pre ≡ (a + suc (length pre)) - 1 = omega arith in
    ap (λ xs. first_given (reverse xs) (last_of of (range_with_len f (length post)))) (range_suc a (length pre))
    ∙ first_reversed (range_with_len a (length pre)) (a + length pre) (last_of of (range_with_len f (length post))) ∙ ap (λ i. i ∷ []) number

pub no_given : (f : ℕ) (pre post : List PlacedOp) (of : List ℕ) → length pre ≡ 0 → length post ≡ 0 → operated_given f pre post of ≡ of
no_given f [] [] of a b = refl
no_given f [] (o ∷ post) of a b = absurd (omega (arith, b))
no_given f (o ∷ pre) post of a b = absurd (omega (arith, a))

pub no_types : (pre post : List PlacedOp) (tys : List Ty) → length pre ≡ 0 → length post ≡ 0 → operated_types pre post tys ≡ tys
no_types [] [] tys a b = refl
no_types [] (o ∷ post) tys a b = absurd (omega (arith, b))
no_types (o ∷ pre) post tys a b = absurd (omega (arith, a))

pub one_type : (pre post : List PlacedOp) (tys : List Ty) → 0 < length post + length pre → operated_types pre post tys ≡ first_type tys ∷ []
one_type [] [] tys some = absurd (omega (arith, some))
one_type [] (o ∷ post) tys some = refl
one_type (o ∷ pre) post tys some = refl

-- what the prefixes stand on
pub inner_are : (ty : Ty) (f : ℕ) (pre post : List PlacedOp) (of : List ℕ) (middle : Option ℕ) → middle ≡ head_of (last_of of (range_with_len f (length post)))
    → operators_over ty (reverse pre) (f + length post) middle ≡ operator_flows ty (reverse pre) (range_with_len (f + length post) (length pre)) (last_of of (range_with_len f (length post)))
inner_are ty f pre post of middle e =
    let stand : List ℕ = last_of of (range_with_len f (length post)) in
    ap (operators_over ty (reverse pre) (f + length post)) e ∙ over_are ty (reverse pre) (f + length post) stand
    ∙ ap (λ n. operator_flows ty (reverse pre) (range_with_len (f + length post) n) stand) (length-reverse pre)

pub placed_given : (at : Span) (ts : List given.Term) → map arg_of (map (placed_at at) ts) ≡ map (λ (i : ℕ). record { flow = flow_no i; at = at }) (map flow_of ts)
placed_given at [] = refl
placed_given at (t ∷ ts) = ap (λ (xs : List Arg). record { flow = flow_no t.flow; at = at } ∷ xs) (placed_given at ts)

pub placed_types : (at : Span) (ts : List given.Term) → types_of (map (placed_at at) ts) ≡ types_of ts
placed_types at [] = refl
placed_types at (t ∷ ts) = ap (λ (xs : List Ty). t.ty ∷ xs) (placed_types at ts)

pub below_few : (s t : Next) → s ≡ t → IsFew t → IsFew s
below_few s t e h = subst IsFew (sym e) h

module _ (name : List ℕ) (wcet : ℕ) (at : Span) where
  abbrev an_app : List Arg → List ℕ → App
  an_app args outs = record { name = name; wcet = wcet; args = args; outs = map flow_no outs; at = at }

  pub import_adds : (a b : Made) (args args' : List Arg) (qs ports : List Port) (first app : ℕ) (outs outs' : List given.Term) (s : Next) → ports ≡ qs → first ≡ a.next.flow → app ≡ a.next.app
      → b.flows.items ≡ a.flows.items ++ flows_of (outputs_made app 0 at ports first)
      → outs ≡ output_terms ports first at → outs' ≡ outs → args' ≡ args
      → b.apps.items ≡ a.apps.items ++ record { name = name; wcet = wcet; args = args'; outs = map number_of outs'; at = at } ∷ []
      → b.next ≡ s → IsFew s
      → Adds a b (output_flows a.next.app 0 at qs (range_with_len a.next.flow (length qs)))
      (record { name = name; wcet = wcet; args = args; outs = map flow_no (range_with_len a.next.flow (length qs)); at = at } ∷ []) s
  import_adds a b args args' qs ports first app outs outs' s p f n flows o o' g apps next_is few = record {
    flows_are = flows
        ∙ ap (λ x. a.flows.items ++ flows_of (outputs_made x 0 at ports first)) n
        ∙ ap (λ x. a.flows.items ++ flows_of (outputs_made a.next.app 0 at ports x)) f
        ∙ ap (λ x. a.flows.items ++ flows_of (outputs_made a.next.app 0 at x a.next.flow)) p
        ∙ ap (λ x. a.flows.items ++ flows_of x) (outputs_are a.next.app 0 at qs a.next.flow);
    apps_are = apps
        ∙ ap (λ x. a.apps.items ++ record { name = name; wcet = wcet; args = args'; outs = x; at = at } ∷ []) (ap (map number_of) o' ∙ numbers_are outs)
        ∙ ap (λ x. a.apps.items ++ an_app x (map flow_of outs) ∷ []) g
        ∙ ap (λ x. a.apps.items ++ an_app args x ∷ [])
        (ap (map flow_of) o ∙ output_flows_of ports first at ∙ ap (λ x. range_with_len first (length x)) p ∙ ap (λ x. range_with_len x (length qs)) f);
    next_is = next_is;
    few = below_few b.next s next_is few;
  }

pub operators_add : (a b : Made) (pre post ops : List PlacedOp) (ty ty' : Ty) (of : List ℕ) (after before : ℕ) (first middle : Option ℕ) (flows : List Flow) (s : Next)
    → ops ≡ reverse pre → ty ≡ ty' → after ≡ a.next.flow → before ≡ a.next.flow + length post → first ≡ head_of of → middle ≡ head_of (last_of of (range_with_len a.next.flow (length post)))
    → flows ≡ a.flows.items ++ flows_of (operators_over ty post after first) → b.flows.items ≡ flows ++ flows_of (operators_over ty ops before middle)
    → b.apps.items ≡ a.apps.items → b.next ≡ s → IsFew s
    → Adds a b (operated_flows a.next.flow pre post ty' of) [] s
operators_add a b pre post ops ty ty' of after before first middle flows s o t f g h m one two apps next_is few =
    let n : ℕ = a.next.flow in
    let left : operators_over ty post after first ≡ operator_flows ty' post (range_with_len n (length post)) of =
    ap (λ x. operators_over x post after first) t ∙ ap (λ x. operators_over ty' post x first) f ∙ ap (operators_over ty' post n) h ∙ over_are ty' post n of in
    let right : operators_over ty ops before middle ≡ operator_flows ty' (reverse pre) (range_with_len (n + length post) (length pre)) (last_of of (range_with_len n (length post))) =
    ap (λ x. operators_over x ops before middle) t ∙ ap (λ x. operators_over ty' x before middle) o ∙ ap (λ x. operators_over ty' (reverse pre) x middle) g ∙ inner_are ty' n pre post of middle m in
    record {
      flows_are = two ∙ ap (λ xs. xs ++ flows_of (operators_over ty ops before middle)) one
          ∙ append_assoc a.flows.items (flows_of (operators_over ty post after first)) (flows_of (operators_over ty ops before middle))
          ∙ ap (λ xs. a.flows.items ++ (flows_of xs ++ flows_of (operators_over ty ops before middle))) left
          ∙ ap (λ xs. a.flows.items ++ (flows_of (operator_flows ty' post (range_with_len n (length post)) of) ++ flows_of xs)) right
          ∙ ap (λ xs. a.flows.items ++ xs) (sym (map-append (λ (x : Numbered). x.1) (operator_flows ty' post (range_with_len n (length post)) of)
          (operator_flows ty' (reverse pre) (range_with_len (n + length post) (length pre)) (last_of of (range_with_len n (length post))))));
      apps_are = apps ∙ sym (append-nil a.apps.items);
      next_is = next_is;
      few = below_few b.next s next_is few;
    }
