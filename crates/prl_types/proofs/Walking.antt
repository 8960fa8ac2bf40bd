-- Lists of flows and of rules.
use Rattle.prl_base.proofs.Standard.{◌≡◌, ◌≤◌, ◌++◌, ◌∙◌, ℕ, List, [], ◌∷◌, length, drop, refl, sym, ap, append_assoc, append-nil, map-append, drop_all}
use Rattle.prl_ast.specs.Trees.{Trees, none, more, ProgramTree}
use Rattle.prl_ast.specs.declared.declarations.Placed.{Placed}
use Rattle.prl_terms.specs.declared.terms.Rule.{Rule}
use Rattle.prl_terms.specs.declared.terms.Term.{Term}
use Rattle.prl_types.specs.Vocabulary.{Flow, placed, placed_flows, terms_of, flows_of, all_flows, place_of, argument_rules, left_rules}

pub terms_placed : (at : ℕ) (ts : List Term) → terms_of (placed at ts) ≡ ts
terms_placed at [] = refl
terms_placed at (t ∷ ts) = ap (λ (us : List Term). t ∷ us) (terms_placed at ts)

pub terms_placed_flows : (p : ProgramTree) (node : ℕ) (ts : Trees) → terms_of (placed_flows p node ts) ≡ all_flows p node ts
terms_placed_flows p node none = refl
terms_placed_flows p node (more t ts) =
    map-append (λ (f : Flow). f.term) (placed (place_of t) (flows_of p node t)) (placed_flows p node ts)
    ∙ ap (λ (us : List Term). us ++ terms_of (placed_flows p node ts)) (terms_placed (place_of t) (flows_of p node t))
    ∙ ap (λ (us : List Term). flows_of p node t ++ us) (terms_placed_flows p node ts)

pub no_arguments : (ts : List Term) (fs : List Flow) → fs ≡ [] → argument_rules ts fs ≡ []
no_arguments [] fs e = refl
no_arguments (t ∷ ts) [] e = refl
no_arguments (t ∷ ts) (f ∷ fs) e = absurd (cc)

no_lefts : (p : ProgramTree) (node : ℕ) (ls : List Placed) (fs : List Term) → fs ≡ [] → left_rules p node ls fs ≡ []
no_lefts p node [] fs e = refl
no_lefts p node (l ∷ ls) [] e = refl
no_lefts p node (l ∷ ls) (f ∷ fs) e = absurd (cc)

-- no flow is left
pub arguments_end : (rules whole : List Rule) (inputs : List Term) (at : ℕ) (ts : List Term) (k : ℕ) → length ts ≤ k → rules ++ argument_rules (drop k inputs) (placed at (drop k ts)) ≡ whole → rules ≡ whole
arguments_end rules whole inputs at ts k past e =
    sym (append-nil rules) ∙ ap (λ (rs : List Rule). rules ++ rs) (sym (no_arguments (drop k inputs) (placed at (drop k ts)) (ap (placed at) (drop_all k ts past)))) ∙ e

pub lefts_end : (p : ProgramTree) (node : ℕ) (rules whole : List Rule) (lefts : List Placed) (flows : List Term) (k : ℕ) → length flows ≤ k → rules ++ left_rules p node (drop k lefts) (drop k flows) ≡ whole → rules ≡ whole
lefts_end p node rules whole lefts flows k past e =
    sym (append-nil rules) ∙ ap (λ (rs : List Rule). rules ++ rs) (sym (no_lefts p node (drop k lefts) (drop k flows) (drop_all k flows past))) ∙ e

-- the steps of an application
pub application_rules : (old middle new all root : List Rule) (inputs is : List Term) (flows fs : List Flow) → middle ≡ old ++ all → new ≡ middle ++ argument_rules is fs → is ≡ inputs → fs ≡ flows
    → root ≡ all ++ argument_rules inputs flows → new ≡ old ++ root
application_rules old middle new all root inputs is flows fs m n i f r =
    n ∙ ap (λ (rs : List Rule). rs ++ argument_rules is fs) m ∙ append_assoc old all (argument_rules is fs)
    ∙ ap (λ (rs : List Rule). old ++ (all ++ rs)) (ap (λ (xs : List Term). argument_rules xs fs) i ∙ ap (λ (xs : List Flow). argument_rules inputs xs) f)
    ∙ ap (λ (rs : List Rule). old ++ rs) (sym r)
