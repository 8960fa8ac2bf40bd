-- Of what a flow uses, all has its mark, or something has not.
use Rattle.std.proofs.Common.{◌≡◌, ◌⊎◌, ℕ, zero, suc, Bool, true, false, List, [], ◌∷◌, get_or, slice_get, Some, refl, subst, inl, inr, ⊎_elim}
use Rattle.prl_flow.specs.Programs.{FlatProgram}
use Rattle.prl_flow.specs.declared.programs.App.{App}
use Rattle.prl_flow.specs.declared.programs.Arg.{Arg}
use Rattle.prl_flow.proofs.Lists.{element_at}
use Rattle.prl_causal.specs.Vocabulary.{Source, IsMarked, IsSource, Names}
use Rattle.prl_causal.specs.declared.sources.Source.TheVariants as sources

pub marked_or_not : (marks : List Bool) (i : ℕ) → IsMarked marks i ⊎ (get_or marks i false ≡ false)
marked_or_not marks i =
    elim (get_or marks i false) as (λ b. (b ≡ true) ⊎ (b ≡ false)) [
      | true ↦ inl refl
      | false ↦ inr refl
    ]

-- an argument without its mark
record Lacks (args : List Arg) (marks : List Bool) : Type 0 where
  index : ℕ
  arg : Arg
  found : slice_get args index ≡ Some arg
  unmarked : get_or marks arg.flow.0 false ≡ false

abbrev HaveMarks : List Arg → List Bool → Type 0
HaveMarks args marks = (j : ℕ) (arg : Arg) → slice_get args j ≡ Some arg → IsMarked marks arg.flow.0

nothing_found : (marks : List Bool) → HaveMarks [] marks
nothing_found marks j arg h = cc

one_more_marked : (arg : Arg) (args : List Arg) (marks : List Bool) → IsMarked marks arg.flow.0 → HaveMarks args marks → HaveMarks (arg ∷ args) marks
one_more_marked arg args marks marked rest zero other h = (let same : arg ≡ other = cc in subst (λ a. IsMarked marks a.flow.0) same marked)
one_more_marked arg args marks marked rest (suc j) other h = rest j other h

arguments_marked : (args : List Arg) (marks : List Bool) → HaveMarks args marks ⊎ Lacks args marks
arguments_marked [] marks = inl (nothing_found marks)
arguments_marked (arg ∷ args) marks =
    ⊎_elim
    (λ marked. ⊎_elim
    (λ rest. inl (one_more_marked arg args marks marked rest))
    (λ lacks. inr (record { index = suc lacks.index; arg = lacks.arg; found = lacks.found; unmarked = lacks.unmarked }))
    (arguments_marked args marks))
    (λ clear. inr (record { index = zero; arg = arg; found = refl; unmarked = clear }))
    (marked_or_not marks arg.flow.0)

-- something that is used is without its mark
pub record HasUnmarked (p : FlatProgram) (s : Source) (marks : List Bool) : Type 0 where
  pub used : ℕ
  pub names : Names p s used
  pub unmarked : get_or marks used false ≡ false

pub source_marked : (p : FlatProgram) (s : Source) (marks : List Bool) → IsSource p s → ((j : ℕ) → Names p s j → IsMarked marks j) ⊎ HasUnmarked p s marks
source_marked p sources.Nothing marks there = inl (λ j names. absurd names)
source_marked p (sources.Flow of) marks there =
    ⊎_elim
    (λ marked. inl (λ j names. subst (λ x. IsMarked marks x) names marked))
    (λ clear. inr (record { used = of.0; names = refl; unmarked = clear }))
    (marked_or_not marks of.0)
source_marked p (sources.Arguments k) marks there =
    let at : (app : App) × (slice_get p.apps k ≡ Some app) = element_at p.apps k there in
    ⊎_elim
    (λ marked. inl (λ j a.
    (let here = a.applied in
    let found = at.1 in
    let same : a.app ≡ at.0 = cc in
    subst (λ x. IsMarked marks x) a.is (marked a.index a.arg (subst (λ x. slice_get x.args a.index ≡ Some a.arg) same a.found)))))
    (λ lacks. inr (record {
      used = lacks.arg.flow.0;
      names = record { app = at.0; applied = at.1; index = lacks.index; arg = lacks.arg; found = lacks.found; is = refl };
      unmarked = lacks.unmarked;
    }))
    (arguments_marked at.0.args marks)
