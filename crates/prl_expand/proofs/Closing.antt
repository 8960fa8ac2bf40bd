-- The end of an expression, and steps one after another.
use Rattle.prl_base.proofs.Standard.{◌≡◌, ◌≤◌, ◌<◌, ◌+◌, ℕ, List, [], ◌∷◌, ◌++◌, map, length, Some, None, sym, ap, ◌∙◌, subst, append-nil, map-append, map_more, drop_more, take-append-drop, take, drop, get_or, Vec, Global}
use Rattle.prl_base.proofs.Standard.{Result, Ok, Err, IfOk, OnOk}
use Rattle.prl_base.specs.declared.places.Span.{Span}
use Rattle.prl_base.specs.declared.values.Ty.{Ty}
use Rattle.prl_ast.specs.declared.expressions.PlacedOp.{PlacedOp}
use Rattle.prl_ast.specs.Trees.{tree, Root}
use Rattle.prl_flow.specs.declared.programs.Arg.{Arg}
use Rattle.prl_expand.specs.Vocabulary.{flow_no, ExpandFault, Next, Made, Adds, IsPast, first_type, operated_flows, operated_given, operated_types, types_of, arg_of, flow_of}
use Rattle.prl_expand.specs.declared.steps.Step.{Step}
use Rattle.prl_expand.specs.declared.terms.Term.{Term}
use Rattle.prl_expand.specs.code.Acts.{Act, act_of, acts_of}
use Rattle.prl_expand.specs.code.Standings.{IsAt}
use Rattle.prl_expand.specs.code.Steps.{Site, Standing, after, end_apps, end_flows, end_given, end_next, end_types, ended_apps, ended_flows, ended_given, ended_next, given_around, given_of, numbers_in, past_operators, start, stepped}
use Rattle.prl_expand.proofs.Adding.{adds_as, adds_then, past_more}
use Rattle.prl_expand.proofs.Stepping.{after_both, after_grows, numbers_are, same_given}

pub if_ok_both : {T E : Type 0} (r : Result T E) (P Q R : T → Type 0) → ((x : T) → P x → Q x → R x) → IfOk r P → IfOk r Q → IfOk r R
if_ok_both (Ok x) P Q R f h g = f x h g
if_ok_both (Err e) P Q R f h g = h

pub ok_on : {T E : Type 0} (r : Result T E) (P : T → Type 0) (Q : Type 0) → ((x : T) → P x → Q) → IfOk r P → OnOk r Q
ok_on (Ok x) P Q f h = f x h
ok_on (Err e) P Q f h = h

module _ (w : Site) (pre : List PlacedOp) (root : Root) (post : List PlacedOp) (at : Span) where
  abbrev at_place : List ℕ → List Arg
  at_place is = map (λ (i : ℕ). record { flow = flow_no i; at = at }) is

  pub closed_given : (parts of terms : List Term) (b s : Next) → map arg_of terms ≡ at_place (operated_given b.flow pre post (map flow_of of)) → types_of terms ≡ operated_types pre post (types_of of)
      → b ≡ end_next w root s → map flow_of of ≡ end_given w root (map flow_of parts) s → types_of of ≡ end_types w root (types_of parts)
      → given_of terms ≡ ended_given w (tree pre root post at) (given_of parts) s
  closed_given parts of terms b s args kinds next_is flows_is types_is =
      same_given _ _ _ _
      (args ∙ ap (λ (x : Next). at_place (operated_given x.flow pre post (map flow_of of))) next_is
      ∙ ap (λ is. at_place (operated_given (end_next w root s).flow pre post is)) (flows_is ∙ ap (λ is. end_given w root is s) (numbers_are parts)))
      (kinds ∙ ap (operated_types pre post) types_is)

  pub closed_made : (a b d : Made) (parts of : List Term) → Adds a b (end_flows w root at (map flow_of parts) a.next) (end_apps w root (map arg_of parts) a.next) (end_next w root a.next)
      → map flow_of of ≡ end_given w root (map flow_of parts) a.next → types_of of ≡ end_types w root (types_of parts)
      → Adds b d (operated_flows b.next.flow pre post (first_type (types_of of)) (map flow_of of)) [] (past_operators pre post b.next)
      → Adds a d (ended_flows w (tree pre root post at) (given_of parts) a.next) (ended_apps w (tree pre root post at) (given_of parts) a.next) (ended_next w (tree pre root post at) a.next)
  closed_made a b d parts of one flows_is types_is two =
      let s : Next = a.next in
      let given_are = ap (λ is. end_given w root is s) (numbers_are parts) in
      adds_as a d _ _ _ _ _ _ (adds_then a b d _ _ _ _ _ _ one two)
      (ap (λ is. end_flows w root at is s ++ operated_flows b.next.flow pre post (first_type (types_of of)) (map flow_of of)) (numbers_are parts)
      ∙ ap (λ xs. end_flows w root at (numbers_in (given_of parts).args) s ++ xs)
      (ap (λ (x : Next). operated_flows x.flow pre post (first_type (types_of of)) (map flow_of of)) one.next_is
      ∙ ap (λ (y : List Ty). operated_flows (end_next w root s).flow pre post (first_type y) (map flow_of of)) types_is
      ∙ ap (operated_flows (end_next w root s).flow pre post (first_type (end_types w root (types_of parts)))) (flows_is ∙ given_are)))
      (append-nil (end_apps w root (map arg_of parts) s))
      (ap (past_operators pre post) one.next_is)

module _ (w : Site) (steps : List Step) (i : ℕ) (x : Step) (below : i < length steps) (is : x ≡ get_or steps i x) (st : Standing) where
  -- one step more
  pub one_more : after w (acts_of (take (i + 1) steps)) st ≡ stepped w (act_of x) (after w (acts_of (take i steps)) st)
  one_more =
      ap (λ xs. after w xs st) (map_more act_of steps i x below ∙ ap (λ y. acts_of (take i steps) ++ act_of y ∷ []) (sym is))
      ∙ after_both w (acts_of (take i steps)) (act_of x ∷ []) st

  -- no step takes a number back
  pub step_within : (stepped w (act_of x) (after w (acts_of (take i steps)) st)).next.flow ≤ (after w (acts_of steps) st).next.flow
  step_within =
      let rest : acts_of (drop i steps) ≡ act_of x ∷ acts_of (drop (i + 1) steps) = ap acts_of (drop_more steps i x below) ∙ ap (λ y. act_of y ∷ acts_of (drop (i + 1) steps)) (sym is) in
      let both : acts_of steps ≡ acts_of (take i steps) ++ (act_of x ∷ acts_of (drop (i + 1) steps)) =
      ap acts_of (sym (take-append-drop i steps)) ∙ map-append act_of (take i steps) (drop i steps) ∙ ap (λ xs. acts_of (take i steps) ++ xs) rest in
      let whole : after w (acts_of steps) st ≡ after w (acts_of (drop (i + 1) steps)) (stepped w (act_of x) (after w (acts_of (take i steps)) st)) =
      ap (λ xs. after w xs st) both ∙ after_both w (acts_of (take i steps)) (act_of x ∷ acts_of (drop (i + 1) steps)) st in
      subst (λ (y : Standing). (stepped w (act_of x) (after w (acts_of (take i steps)) st)).next.flow ≤ y.next.flow) (sym whole)
      (after_grows w (acts_of (drop (i + 1) steps)) (stepped w (act_of x) (after w (acts_of (take i steps)) st)))

-- what a step needs, from where the steps have come to
pub step_past : (w : Site) (a : Act) (st : Standing) (m₀ m : Made) (list : List Term) (around : List (Vec Term Global)) (n : ℕ) (e : ExpandFault) → IsAt m₀ st list around m
    → (stepped w a st).next.flow ≤ n → IsPast (stepped w a (start (given_of list) (given_around around) m.next)).next.flow e → IsPast n e
step_past w None st m₀ m list around n e at below h = past_more m.next.flow n e (subst (λ (x : Next). x.flow ≤ n) (sym at.made.next_is) below) h
step_past w (Some t) st m₀ m list around n e at below h =
    past_more (ended_next w t m.next).flow n e (subst (λ (x : Next). (ended_next w t x).flow ≤ n) (sym at.made.next_is) below) h
