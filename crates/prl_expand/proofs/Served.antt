-- Each application of the flat program of an expansion has a body that fits.
use Rattle.prl_base.proofs.Standard.{◌≡◌, ◌==◌, ℕ, true, List, Option, refl, [], eq-eqb}
use Rattle.prl_base.specs.declared.values.Ty.{Ty}
use Rattle.prl_ast.specs.Vocabulary.{IsInRange, ProgramTree}
use Rattle.prl_body.specs.Used.{HaveBodiesOf}
use Rattle.prl_body.specs.declared.bodies.CheckedBody.{CheckedBody}
use Rattle.prl_flow.specs.Applications.{HaveBodies}
use Rattle.prl_names.specs.Vocabulary.{reaches, IsNamed, is_expanded, used_imports}
use Rattle.prl_names.proofs.Right.{named}
use Rattle.prl_types.specs.Typing.{IsTyped}
use Rattle.prl_causal.specs.Asked.{inputs_of}
use Rattle.prl_expand.specs.Vocabulary.{Expansion, IsExpansion, entered_apps, flat_of, sensors_from}
use Rattle.prl_expand.proofs.Existence.{true_or}
use Rattle.prl_expand.proofs.Fitting.{IsOfUsed, entered_used, body_of}
use Rattle.prl_expand.proofs.FlatRules.{sensors_count}
use Rattle.prl_expand.proofs.Formed.{typed_nodes, flows_there}
use Rattle.prl_expand.proofs.Sound.{IsSound, sound_from}
use Rattle.prl_expand.proofs.Lists.{at_place}

main_expanded : (p : ProgramTree) (main : ℕ) → is_expanded p main main ≡ true
main_expanded p main = true_or (main == main) (reaches p main main) (eq-eqb main main refl)

pub have_bodies : (p : ProgramTree) (asked : Option (List ℕ)) (main : ℕ) (tys : List Ty) (e : Expansion) → IsInRange p → IsTyped p asked main tys → IsExpansion p main e
    → (bodies : List CheckedBody) → HaveBodiesOf p.imports (used_imports p main) bodies → HaveBodies (flat_of p tys main e) bodies
have_bodies p asked main tys e range typed expansion bodies have =
    let right : IsNamed p main = named p asked main typed.names in
    let sound : IsSound p = sound_from p right.nodes typed.arity in
    let flat = flat_of p tys main e in
    let uses = entered_used p tys flat sound (typed_nodes p asked main tys range typed) main right [] main (sensors_from 0 (inputs_of e)) e expansion.text (sensors_count 0 (inputs_of e))
    (main_expanded p main) (flows_there p tys main sound e expansion) in
    λ k app found. body_of p main flat bodies app have (at_place (IsOfUsed p main flat) (entered_apps p main e) k app uses found)
