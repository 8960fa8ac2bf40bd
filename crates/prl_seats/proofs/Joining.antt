-- Views of one board share no part, so a join loses none.
use Rattle.prl_base.proofs.Standard.{◌≡◌, ℕ, suc, ◌&&◌, ◌||◌, List, [], ◌∷◌, ◌++◌, get_or, set, refl, sym, ap, ◌∙◌, subst, ⊎_elim, Bool, true, false, cond, Option, Some, None, set-get_or}
use mathlib.Core.Option.{some}
use lib.ListN.{get_elem?}
use Rattle.atomic_table.specs.Table.{Me, Allows, Enters, Joins, Final, Seen, keeps}
use Rattle.atomic_table.proofs.Lists.{at_set, set_again}
use Rattle.prl_plan.specs.declared.events.Event.{Event}
use Rattle.prl_rule.specs.Vocabulary.{Witness, run_of, values_of, Agreed, AgreesWith, all_parts, first_part, bare, joined, spent, taken_in}
use Rattle.prl_rule.specs.declared.views.ClockPart.{ClockPart}
use Rattle.prl_rule.specs.declared.views.Constants.{Constants}
use Rattle.prl_rule.specs.declared.views.TaskPart.{TaskPart}
use Rattle.prl_rule.specs.declared.views.View.{View}
use Rattle.prl_seats.specs.Vocabulary.{IsClosing, IsLive, joined_apart, refused, has_clock, overlap, share_part}

overlap_none : (ps qs : List (Option TaskPart)) → ((j : ℕ) (p q : TaskPart) → get_elem? ps j ≡ some (Some p) → get_elem? qs j ≡ some (Some q) → ⊥) → overlap ps qs ≡ false
overlap_none [] qs apart = refl
overlap_none (p ∷ ps) [] apart = refl
overlap_none (Some p ∷ ps) (Some q ∷ qs) apart = absurd (apart 0 p q refl refl)
overlap_none (Some p ∷ ps) (None ∷ qs) apart = overlap_none ps qs (λ j a b here there. apart (suc j) a b here there)
overlap_none (None ∷ ps) (q ∷ qs) apart = overlap_none ps qs (λ j a b here there. apart (suc j) a b here there)

clock_none : (r q : Option ClockPart) → ((a b : ClockPart) → r ≡ Some a → q ≡ Some b → ⊥) → (has_clock r && has_clock q) ≡ false
clock_none (Some a) (Some b) apart = absurd (apart a b refl refl)
clock_none (Some a) None apart = refl
clock_none None q apart = refl

apart_views : (u x : View) → ((j : ℕ) (p q : TaskPart) → get_elem? u.tasks j ≡ some (Some p) → get_elem? x.tasks j ≡ some (Some q) → ⊥) →
    ((a b : ClockPart) → u.clock ≡ Some a → x.clock ≡ Some b → ⊥) → share_part u x ≡ false
apart_views u x tasks clocks = ap (λ (b : Bool). b || (has_clock u.clock && has_clock x.clock)) (overlap_none u.tasks x.tasks tasks) ∙ clock_none u.clock x.clock clocks

-- the law of joins, at the run of the board
abbrev pub JoinKeeps : Constants → Type 0
JoinKeeps k = (w : Witness) (es : List Event) (words : List ℕ) (views : List View) (id other : ℕ) (view theirs : View) →
    AgreesWith k (run_of k) (values_of k) w es words views → get_elem? views id ≡ some view → (other ≡ id → ⊥) → get_elem? views other ≡ some theirs → view.constants ≡ Some k →
    AgreesWith k (run_of k) (values_of k) (taken_in id other w) es words (set (set views id (joined view theirs)) other spent)

pub join_allowed : (k : Constants) → JoinKeeps k → (id other : ℕ) (u x : View) → u.constants ≡ Some k → Joins {S = Unit {0}} (Agreed k) id u other x (joined_apart u x) spent
join_allowed k keep id other u x known s holds at ne there =
    let a = holds.2 in
    let at_other : get_elem? s.views other ≡ some x = ⊎_elim (λ t. absurd (ne t.0)) (λ t. t.1) (at_set s.views id other (joined_apart u x) x there) in
    let mine = a.each_view id u at in
    let theirs = a.each_view other x at_other in
    let apart : share_part u x ≡ false = apart_views u x (λ j p q here other_. ne (sym (theirs.task j q other_).0 ∙ (mine.task j p here).0)) (λ p q here other_. ne (sym (theirs.clock q other_).0 ∙ (mine.clock p here).0)) in
    let same : joined_apart u x ≡ joined u x = ap (λ (b : Bool). cond b refused (joined u x)) apart in (
      taken_in id other holds.0,
      holds.1,
      subst (λ (v : View). AgreesWith k (run_of k) (values_of k) (taken_in id other holds.0) holds.1 s.words (set (set s.views id v) other spent)) (sym same)
          (keep holds.0 holds.1 s.words s.views id other u x a at ne at_other known),
    )

is_apart : (b : Bool) (v : View) → IsLive (cond b refused v) → b ≡ false
is_apart true v live = absurd (live 0 (first_part []) refl refl)
is_apart false v live = refl

-- a join of two views that share a part leaves none that is live
pub were_apart : (u x : View) → IsLive (joined_apart u x) → share_part u x ≡ false
were_apart u x live = is_apart (share_part u x) (joined u x) live

pub joined_is : (u x : View) → share_part u x ≡ false → joined_apart u x ≡ joined u x
joined_is u x apart = ap (λ (b : Bool). cond b refused (joined u x)) apart

-- a seat with no part may enter
abbrev pub EnterKeeps : Constants → Type 0
EnterKeeps k = (w : Witness) (es : List Event) (words : List ℕ) (views : List View) → AgreesWith k (run_of k) (values_of k) w es words views →
    AgreesWith k (run_of k) (values_of k) w es words (views ++ bare k ∷ [])

abbrev no_slots : List (ℕ × Unit {0})
no_slots = []

pub enter_allowed : (k : Constants) → EnterKeeps k → (slots : ℕ) →
    Enters {S = Unit {0}} (Agreed k) slots 0 (λ n w. (w ≡ record { constants = (all_parts k).constants; tasks = []; clock = None }) × (no_slots ≡ no_slots))
enter_allowed k keep slots s holds len small = (bare k, (holds.0, holds.1, keep holds.0 holds.1 s.words s.views holds.2), (refl, refl))

-- a load may leave all as it is
pub look_allowed : (k : Constants) (slots id : ℕ) (me : Me (Unit {0}) View) → Allows (Agreed k) slots id me 0 (λ n. n) (λ n m. (m ≡ me) × IsLive me.0)
look_allowed k slots id me s holds len at small =
    let words : set s.words 0 (get_or s.words 0 0) ≡ s.words = set-get_or s.words 0 0 in
    let views : set s.views id me.0 ≡ s.views = set_again s.views id me.0 at in
    let P : List ℕ × List View → Type 0 = λ z. AgreesWith k (run_of k) (values_of k) holds.0 holds.1 z.0 z.1 in (
      me.0,
      keeps,
      tt,
      (holds.0, holds.1, subst P (λ h. (sym words h, sym views h)) holds.2),
      (refl, λ i p has none. let z : None ≡ Some k = sym none ∙ ((holds.2.each_view id me.0 at).task i p has).1 in absurd (cc z)),
    )

-- what the table says of its words at the end
pub closing_from : (k : Constants) (id : ℕ) (view : View) (words : List ℕ) (slots : List (Unit {0})) → Final (Seen (Agreed k) id view) words slots → IsClosing k view words
closing_from k id view words slots last =
    (last.1.0.0, last.1.0.1, last.0.views, id, subst (λ (ws : List ℕ). AgreesWith k (run_of k) (values_of k) last.1.0.0 last.1.0.1 ws last.0.views) last.2 last.1.0.2, last.1.1)
