-- Checked bodies are well typed.
use Rattle.prl_base.proofs.Standard.{◌≡◌, ◌++◌, ℕ, true, false, cond, List, [], ◌∷◌, map, Option, Some, None, Result, Ok, subst, AllByRecursion, bytes_eq}
use Rattle.prl_base.specs.Reading.{◌>>=◌}
use Rattle.prl_ast.specs.declared.declarations.Import.{Import}
use Rattle.prl_body.specs.Vocabulary.{IsWellTyped, body_named, BodyTree, all_there, body_tree, checked, checked_bodies, checked_body, checked_one, has_text, import_named, TextTree}
use Rattle.prl_body.specs.declared.bodies.CheckedBody.{CheckedBody}
use Rattle.prl_body.specs.declared.faults.BodyFault.{BodyFault}
use Rattle.prl_body.specs.declared.faults.BodyFault.TheVariants as faults
use Rattle.prl_body.proofs.BodySound.{IsWellTyped_checked}
use Rattle.prl_body.proofs.Inversion.{both_ok}
use Rattle.prl_body.proofs.UsedBodies.{refused_ok}

-- the list of trees is that of well typed bodies, whatever bodies have these trees
abbrev AreTyped : List BodyTree → Type 0
AreTyped trees = (bodies : List CheckedBody) → trees ≡ map body_tree bodies → AllByRecursion IsWellTyped bodies

none_typed : AreTyped []
none_typed [] same = tt
none_typed (body ∷ bodies) same = absurd (cc)

first_is : (t u : BodyTree) (ts us : List BodyTree) → t ∷ ts ≡ u ∷ us → t ≡ u
first_is t u ts us e = cc

rest_is : (t u : BodyTree) (ts us : List BodyTree) → t ∷ ts ≡ u ∷ us → ts ≡ us
rest_is t u ts us e = cc

one_typed : (import : Import) (text : TextTree) (t : BodyTree) (ts : List BodyTree) → checked_body import text ≡ Ok t → AreTyped ts → AreTyped (t ∷ ts)
one_typed import text t ts is others [] same = absurd (cc)
one_typed import text t ts is others (body ∷ bodies) same =
    let tree = first_is t (body_tree body) ts (map body_tree bodies) same in
    let made = subst (λ (x : BodyTree). checked_body import text ≡ Ok x) tree is in
    (IsWellTyped_checked import text body made, others bodies (rest_is t (body_tree body) ts (map body_tree bodies) same))

-- the body of a text, and those after it
next_typed : (earlier : List TextTree) (b : TextTree) (rest : Result (List BodyTree) BodyFault) (ts : List BodyTree) (o : Option Import)
    → ((xs : List BodyTree) → rest ≡ Ok xs → AreTyped xs) → checked_one earlier o b (λ x. (rest >>= λ xs. Ok (x ∷ xs))) rest ≡ Ok ts → AreTyped ts
next_typed earlier b rest ts None others is = others ts is
next_typed earlier b rest ts (Some of) others is =
    let found : BodyTree → Result (List BodyTree) BodyFault = λ x. (rest >>= λ xs. Ok (x ∷ xs)) in
    let passed = refused_ok (has_text earlier b.name) (checked_body of b >>= found) ts (faults.BodyName b.at.at) is in
    let one = both_ok (checked_body of b) found ts passed in
    let last : List BodyTree → Result (List BodyTree) BodyFault = λ xs. Ok (one.first ∷ xs) in
    let two = both_ok rest last ts one.rest in
    let same : one.first ∷ two.first ≡ ts = cc (two.rest) in
    subst AreTyped same (one_typed of b one.first two.first one.is (others two.first two.is))

trees_typed : (imports : List Import) (earlier texts : List TextTree) (ts : List BodyTree) → checked_bodies imports earlier texts ≡ Ok ts → AreTyped ts
trees_typed imports earlier [] ts is =
    let same : [] ≡ ts = cc in
    subst AreTyped same none_typed
trees_typed imports earlier (b ∷ bs) ts is =
    next_typed earlier b (checked_bodies imports (earlier ++ b ∷ []) bs) ts (import_named imports b.name) (trees_typed imports (earlier ++ b ∷ []) bs) is

pub checked_are_typed : (imports : List Import) (used : List (List ℕ)) (texts : List TextTree) (bodies : List CheckedBody)
    → checked imports used texts ≡ Ok (map body_tree bodies) → AllByRecursion IsWellTyped bodies
checked_are_typed imports used texts bodies is =
    let trees = map body_tree bodies in
    let last : List BodyTree → Unit {0} → Result (List BodyTree) BodyFault = λ ts u. Ok ts in
    let from_trees : List BodyTree → Result (List BodyTree) BodyFault = λ ts. (all_there ts used >>= last ts) in
    let one = both_ok (checked_bodies imports [] texts) from_trees trees is in
    let two = both_ok (all_there one.first used) (last one.first) trees one.rest in
    let same : one.first ≡ trees = cc (two.rest) in
    trees_typed imports [] texts one.first one.is bodies same

-- a body of a name is one of the bodies
pub named_typed : (bodies : List CheckedBody) (name : List ℕ) (b : CheckedBody) → AllByRecursion IsWellTyped bodies → body_named bodies name ≡ Some b → IsWellTyped b
named_typed [] name b all named = absurd (cc)
named_typed (x ∷ bodies) name b all named =
    elim (bytes_eq x.name name) as (λ t. cond t (Some x) (body_named bodies name) ≡ Some b → IsWellTyped b) [
      | true ↦ λ e. subst IsWellTyped (let f : x ≡ b = cc in f) all.0
      | false ↦ λ e. named_typed bodies name b all.1 e
    ] named
