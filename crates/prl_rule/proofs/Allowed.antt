-- What the table asks of each kind of step is what the rule grants.
use Rattle.prl_base.proofs.Standard.{◌≡◌, ℕ, List, length, get_or, set, refl, sym, subst, Some, set-get_or}
use mathlib.Core.Option.{some}
use lib.ListN.{get_elem?}
use Rattle.atomic_table.specs.Table.{Me, Allows, Splits, keeps}
use Rattle.prl_plan.specs.declared.events.Event.{Event}
use Rattle.prl_rule.specs.Vocabulary.{Constants, TaskPart, View, Witness, run_of, values_of, Agreed, AgreesWith, given_to, only_part, without_part}
use Rattle.prl_rule.proofs.SeatSteps.{split_keeps}

-- words, views and the list of events agree, with the seat's view
abbrev pub Grants : Constants → ℕ → Me (Unit {0}) View → ℕ → (ℕ → ℕ) → (ℕ → View) → (ℕ → View → Type 0) → Type 0
Grants k id me word f next told = (w : Witness) (es : List Event) (words : List ℕ) (views : List View) → AgreesWith k (run_of k) (values_of k) w es words views →
    get_elem? views id ≡ some me.0 →
    (w' : Witness) × (es' : List Event) × AgreesWith k (run_of k) (values_of k) w' es' (set words word (f (get_or words word 0))) (set views id (next (get_or words word 0)))
    × told (get_or words word 0) (next (get_or words word 0))

pub allowed : (k : Constants) (slots id : ℕ) (me : Me (Unit {0}) View) (word : ℕ) (f : ℕ → ℕ) (next : ℕ → View) (told : ℕ → View → Type 0) →
    Grants k id me word f next told → Allows (Agreed k) slots id me word f (λ n m. told n m.0 × (m.1 ≡ me.1))
allowed k slots id me word f next told grants s holds len at small =
    let r = grants holds.0 holds.1 s.words s.views holds.2 at in (next (get_or s.words word 0), keeps, tt, (r.0, r.1, r.2), (r.3, refl))

-- a load leaves the words as they are
abbrev pub GrantsLoad : Constants → ℕ → Me (Unit {0}) View → ℕ → (ℕ → View) → (ℕ → View → Type 0) → Type 0
GrantsLoad k id me word next told = (w : Witness) (es : List Event) (words : List ℕ) (views : List View) → AgreesWith k (run_of k) (values_of k) w es words views →
    get_elem? views id ≡ some me.0 →
    (w' : Witness) × (es' : List Event) × AgreesWith k (run_of k) (values_of k) w' es' words (set views id (next (get_or words word 0)))
    × told (get_or words word 0) (next (get_or words word 0))

pub load_allowed : (k : Constants) (slots id : ℕ) (me : Me (Unit {0}) View) (word : ℕ) (next : ℕ → View) (told : ℕ → View → Type 0) →
    GrantsLoad k id me word next told → Allows (Agreed k) slots id me word (λ n. n) (λ n m. told n m.0 × (m.1 ≡ me.1))
load_allowed k slots id me word next told grants =
    allowed k slots id me word (λ n. n) next told (λ w es words views a at.
    let r = grants w es words views a at in
    let same : words ≡ set words word (get_or words word 0) = sym (set-get_or words word 0) in
    (r.0, r.1, subst (λ (ws : List ℕ). AgreesWith k (run_of k) (values_of k) r.0 r.1 ws (set views id (next (get_or words word 0)))) same r.2, r.3))

-- a seat that has the part of a task may be split
pub split_allowed : (k : Constants) (id i : ℕ) (view : View) (p : TaskPart) → get_elem? view.tasks i ≡ some (Some p) →
    Splits {S = Unit {0}} (Agreed k) id view (without_part i view) (only_part i view)
split_allowed k id i view p has s holds at =
    (given_to i (length s.views) holds.0, holds.1, split_keeps k (run_of k) (values_of k) holds.0 holds.1 s.words s.views id i view p holds.2 at has)
