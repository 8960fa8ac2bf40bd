-- Over bodies of the imports that main's expansion applies, each application of its flat program has a body that fits.
use Rattle.prl_base.proofs.Standard.{◌≡◌, ◌+◌, ◌==◌, ◌||◌, ℕ, zero, suc, Bool, true, false, cond, List, [], ◌∷◌, ◌++◌, map, length, Some, slice_get, refl, sym, ap, ◌∙◌, subst, arith, ⊎_elim}
use Rattle.prl_base.proofs.Standard.{option_map, bytes_eq, bytes_decides, or_cases, eqb-true, slice_get-map, slice_get_within}
use Rattle.std.specs.Option.{is_some}
use Rattle.prl_ast.specs.Trees.{NodeTree, ProgramTree}
use Rattle.prl_ast.specs.declared.declarations.Import.{Import}
use Rattle.prl_ast.specs.declared.declarations.Port.{Port}
use Rattle.prl_body.specs.Checks.{import_named}
use Rattle.prl_flow.specs.Vocabulary.{HaveTypes, FlatProgram}
use Rattle.prl_flow.specs.declared.programs.Arg.{Arg}
use Rattle.prl_flow.proofs.Lists.{slice_get_append_left}
use Rattle.prl_names.specs.Vocabulary.{applies, once, then, reaches, index_of, AreApart, node_applied, is_expanded, expanded_from, expanded_names, used_among, used_imports}
use Rattle.prl_names.specs.Applications.{Reaches}
use Rattle.prl_names.proofs.Reaching.{reached, reaching}
use Rattle.prl_types.specs.Flows as flows
use Rattle.prl_expand.specs.Flats.{Types, flow_no}
use Rattle.prl_expand.proofs.FlowTypes.{AreTyped}
use Rattle.prl_expand.proofs.Lists.{some_inner}
use Rattle.prl_expand.proofs.Sources.{get_second, index_some}

-- the import at an index is the one of its name
pub import_is : (is : List Import) (j : ℕ) (i : Import) (name : List ℕ) → AreApart (map (λ (x : Import). x.name) is) → slice_get is j ≡ Some i → i.name ≡ name → import_named is name ≡ Some i
import_is [] j i name apart e at = absurd (cc)
import_is (x ∷ is) zero i name apart e at =
    let same : x ≡ i = some_inner x i e in
    let here : bytes_eq x.name name ≡ true = (bytes_decides x.name name).1 (ap (λ (y : Import). y.name) same ∙ at) in
    ap (λ b. cond b (Some x) (import_named is name)) here ∙ ap (λ (y : Import). Some y) same
import_is (x ∷ is) (suc j) i name apart e at =
    elim (bytes_eq x.name name) as (λ b. bytes_eq x.name name ≡ b → cond b (Some x) (import_named is name) ≡ Some i) [
      | true ↦ λ f.
          (let first : x.name ≡ name = (bytes_decides x.name name).0 f in
          let there : slice_get (map (λ (y : Import). y.name) is) j ≡ Some name = slice_get-map (λ (y : Import). y.name) is j ∙ ap (option_map (λ (y : Import). y.name)) e ∙ ap Some at in
          absurd (omega (arith, apart 0 (suc j) name (ap Some first) there)))
      | false ↦ λ f. import_is is j i name (λ a b m g h. let up : suc a ≡ suc b = apart (suc a) (suc b) m g h in omega (arith, up)) e at
    ] refl

-- one application more
further : (p : ProgramTree) (a b c : ℕ) → Reaches p a b → applies p b c ≡ true → Reaches p a c
further p a b c (once by node h) applied = then a b c h (once b c applied)
further p a b c (then by m node h r) applied = then a m c h (further p m b c r applied)

right_or : (a b : Bool) → b ≡ true → (a || b) ≡ true
right_or true b h = refl
right_or false b h = h

-- what an expanded node applies is expanded
pub expanded_more : (p : ProgramTree) (main k j : ℕ) → is_expanded p main k ≡ true → applies p k j ≡ true → is_expanded p main j ≡ true
expanded_more p main k j h applied =
    right_or (j == main) (reaches p main j)
    (⊎_elim
    (λ here.
    ((reached p main j (once main j (subst (λ i. applies p i j ≡ true) (eqb-true k main here) applied))).1))
    (λ far. (reached p main j (further p main k j (reaching p main k far) applied)).1)
    (or_cases (k == main) (reaches p main k) h))

-- a name is one of these
abbrev pub Has : List (List ℕ) → List ℕ → Type 0
Has names name = (u : ℕ) × (slice_get names u ≡ Some name)

pub has_left : (xs ys : List (List ℕ)) (name : List ℕ) → Has xs name → Has (xs ++ ys) name
has_left xs ys name h = (h.0, slice_get_append_left xs ys h.0 (slice_get_within xs h.0 name h.1) ∙ h.1)

pub has_right : (xs ys : List (List ℕ)) (name : List ℕ) → Has ys name → Has (xs ++ ys) name
has_right xs ys name h = (length xs + h.0, get_second xs ys h.0 ∙ h.1)

cond_has : (b : Bool) (xs ys zs : List (List ℕ)) (name : List ℕ) → Has (xs ++ ys) name → Has ys name → Has (cond b (xs ++ ys) ys) name
cond_has true xs ys zs name f g = f
cond_has false xs ys zs name f g = g

expanded_has : (p : ProgramTree) (main : ℕ) (ns : List NodeTree) (first i k : ℕ) (n : NodeTree) (name : List ℕ) → slice_get ns i ≡ Some n → k ≡ first + i → is_expanded p main k ≡ true → Has (node_applied n) name
    → Has (expanded_from p main first ns) name
expanded_has p main [] first i k n name e at h there = absurd (cc)
expanded_has p main (m ∷ ns) first zero k n name e at h there =
    let number : k ≡ first = omega (arith, at) in
    let here : is_expanded p main first ≡ true = subst (λ j. is_expanded p main j ≡ true) number h in
    subst (λ (b : Bool). Has (cond b (node_applied m ++ expanded_from p main (first + 1) ns) (expanded_from p main (first + 1) ns)) name) (sym here)
    (has_left (node_applied m) (expanded_from p main (first + 1) ns) name (subst (λ (x : NodeTree). Has (node_applied x) name) (sym (some_inner m n e)) there))
expanded_has p main (m ∷ ns) first (suc i) k n name e at h there =
    let later = expanded_has p main ns (first + 1) i k n name e (omega (arith, at)) h there in
    cond_has (is_expanded p main first) (node_applied m) (expanded_from p main (first + 1) ns) [] name (has_right (node_applied m) (expanded_from p main (first + 1) ns) name later) later

-- an import that is applied is among the used ones
used_has : (applied : List (List ℕ)) (is : List Import) (j : ℕ) (i : Import) → slice_get is j ≡ Some i → Has applied i.name → Has (used_among applied is) i.name
used_has applied [] j i e h = absurd (cc)
used_has applied (x ∷ is) zero i e h =
    let same : x ≡ i = some_inner x i e in
    let there : is_some (index_of applied x.name) ≡ true = ap (λ (y : Import). is_some (index_of applied y.name)) same ∙ ap is_some (index_some 0 applied h.0 i.name h.1).1 in
    subst (λ (b : Bool). Has (cond b (x.name ∷ used_among applied is) (used_among applied is)) i.name) (sym there) (0, ap (λ (y : Import). Some y.name) same)
used_has applied (x ∷ is) (suc j) i e h =
    let later = used_has applied is j i e h in
    elim (is_some (index_of applied x.name)) as (λ b. Has (cond b (x.name ∷ used_among applied is) (used_among applied is)) i.name) [
      | true ↦ (suc later.0, later.1)
      | false ↦ later
    ]

-- the import of an application in an expanded node is used
pub import_used : (p : ProgramTree) (main k : ℕ) (n : NodeTree) (j : ℕ) (i : Import) → slice_get p.nodes k ≡ Some n → is_expanded p main k ≡ true → Has (node_applied n) i.name → slice_get p.imports j ≡ Some i
    → Has (used_imports p main) i.name
import_used p main k n j i found h there declared =
    used_has (expanded_names p main) p.imports j i declared (expanded_has p main p.nodes 0 k k n i.name found (omega arith) h there)

-- flows of the types of ports
pub port_types_are : (p : ProgramTree) (tys : Types) (flat : FlatProgram) (is : List ℕ) (ports : List Port) → AreTyped p tys flat is (flows.port_types ports)
    → HaveTypes flat (map flow_no is) (map (λ (q : Port). q.ty) ports)
port_types_are p tys flat [] [] h = tt
port_types_are p tys flat [] (q ∷ ports) h = absurd h
port_types_are p tys flat (i ∷ is) [] h = absurd h
port_types_are p tys flat (i ∷ is) (q ∷ ports) h = (h.0, port_types_are p tys flat is ports h.1)

pub numbers_are : (us : List Arg) (is : List ℕ) → map (λ (u : Arg). u.flow.0) us ≡ is → map (λ (u : Arg). u.flow) us ≡ map flow_no is
numbers_are us is e = again us ∙ ap (map flow_no) e
  where
    again : (us : List Arg) → map (λ (u : Arg). u.flow) us ≡ map flow_no (map (λ (u : Arg). u.flow.0) us)
    again [] = refl
    again (u ∷ us) = ap (λ fs. u.flow ∷ fs) (again us)
