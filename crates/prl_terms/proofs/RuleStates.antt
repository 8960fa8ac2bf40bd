-- What one more rule makes of what is known.
use Rattle.std.proofs.Common.{◌≡◌, ◌++◌, ◌∙◌, ℕ, List, [], ◌∷◌, length, refl, ap, append_assoc}
use Rattle.prl_base.specs.declared.values.Ty.{Ty}
use Rattle.prl_terms.specs.Vocabulary.{Rule, Term, Marks, FitsRule, FitRules, IsMismatch, resolved, IsKept, Solves, Refuses, IsOpen, HasState, State}
use Rattle.prl_terms.specs.declared.solving.Unsolved.TheVariants as unsolved
use Rattle.prl_terms.specs.declared.progress.State.TheVariants as states
use Rattle.prl_terms.proofs.Meeting.{Sides, mismatch, solves_equal}

fits_last : (count : ℕ) (rules : List Rule) (rule : Rule) → FitRules count (rules ++ rule ∷ []) → FitsRule count rule
fits_last count [] rule h = h.0
fits_last count (r ∷ rs) rule h = fits_last count rs rule h.1

fits_front : (count : ℕ) (rules more : List Rule) → FitRules count (rules ++ more) → FitRules count rules
fits_front count [] more h = tt
fits_front count (r ∷ rs) more h = (h.0, fits_front count rs more h.1)

-- the rule speaks of another parameter
pub passed_over : {count : ℕ} {rules : List Rule} {marks : Marks} (rule : Rule) → IsOpen count rules marks → (FitsRule count rule → ⊥)
    → IsOpen count (rules ++ rule ∷ []) marks
passed_over {count} {rules} rule open_one unfit = record {
  kept = open_one.kept;
  number = open_one.number;
  solves = λ fits. absurd (unfit (fits_last count rules rule fits));
}

-- the marks solve it, too
pub solved_too : {count : ℕ} {rules : List Rule} {old new : Marks} (rule : Rule) → IsOpen count rules old → IsKept new
    → length new.marks.items ≡ length old.marks.items → (Solves rules old.marks.items → Solves (rules ++ rule ∷ []) new.marks.items)
    → IsOpen count (rules ++ rule ∷ []) new
solved_too {count} {rules} rule open_one kept number solves = record {
  kept = kept;
  number = number ∙ open_one.number;
  solves = λ fits. solves (open_one.solves (fits_front count rules (rule ∷ []) fits));
}

-- it contradicts those before it
pub contradicted : {count : ℕ} {rules : List Rule} {old : Marks} (rule : Rule) {at : ℕ} {wanted found : Ty} → IsOpen count rules old
    → (Solves rules old.marks.items → Refuses rules rule (unsolved.Mismatch at wanted found)) → FitRules count (rules ++ rule ∷ [])
    → IsMismatch (rules ++ rule ∷ []) at wanted found
contradicted {count} {rules} rule open_one refuses fits =
    mismatch rules rule [] refl (refuses (open_one.solves (fits_front count rules (rule ∷ []) fits)))

-- a contradiction stays the first one
pub stays_refused : (count : ℕ) (rules more : List Rule) {at : ℕ} {wanted found : Ty} → (FitRules count rules → IsMismatch rules at wanted found)
    → FitRules count (rules ++ more) → IsMismatch (rules ++ more) at wanted found
stays_refused count rules more before fits =
    let h = before (fits_front count rules more fits) in
    record {
      earlier = h.earlier;
      rule = h.rule;
      later = h.later ++ more;
      whole = ap (λ (rs : List Rule). rs ++ more) h.whole ∙ append_assoc h.earlier (h.rule ∷ h.later) more;
      contradicts = h.contradicts;
    }

-- a rule of two equal sides says nothing
pub says_nothing : (count : ℕ) (rules : List Rule) (rule : Rule) (marks : Marks) (state : State) → rule.wanted ≡ rule.found → HasState count rules marks state
    → HasState count (rules ++ rule ∷ []) marks state
says_nothing count rules rule marks states.Open same open_one = record {
  kept = open_one.kept;
  number = open_one.number;
  solves = λ fits.
      solves_equal record { wanted_is = refl; found_is = refl } (ap (resolved marks.marks.items) same)
      (open_one.solves (fits_front count rules (rule ∷ []) fits));
}
says_nothing count rules rule marks (states.Refused at wanted found) same before = stays_refused count rules (rule ∷ []) before
says_nothing count rules rule marks states.Lost same before = tt

-- the marks give both sides the same already
pub agrees : {count : ℕ} {rules : List Rule} {marks : Marks} (rule : Rule) {t u : Term} → Sides marks.marks.items rule t u → t ≡ u → IsOpen count rules marks
    → IsOpen count (rules ++ rule ∷ []) marks
agrees {count} {rules} rule sides same open_one = record {
  kept = open_one.kept;
  number = open_one.number;
  solves = λ fits. solves_equal sides same (open_one.solves (fits_front count rules (rule ∷ []) fits));
}
