-- What a read finds is what its half holds in the whole state, and what a write leaves.
use Rattle.std.proofs.Common.{◌≡◌, ◌+◌, ◌-◌, ◌/◌, ◌^◌, ◌<◌, ℕ, zero, suc, Bool, List, [], ◌∷◌, cond, eq-eqb, get_or, take, refl, sym, ap, ◌∙◌, subst, arith, Some}
use Rattle.std.specs.Prelude.{slice_get}
use Rattle.prl_base.specs.declared.numbers.EdgeNo.{EdgeNo}
use Rattle.prl_base.specs.declared.values.Value.{Value}
use Rattle.prl_plan.specs.Vocabulary.{last_in, last_tag, tag_after, tag_of_jobs, HasPlanFacts, RunConstants, action_at}
use Rattle.prl_plan.specs.declared.events.Action.{Action}
use Rattle.prl_plan.specs.declared.events.SlotNo.{SlotNo}
use Rattle.prl_plan.specs.declared.events.Action.TheVariants as actions
use Rattle.prl_rule.specs.Vocabulary.{run_of, values_of, part_at, part_of}
use Rattle.prl_rule.specs.declared.views.Constants.{Constants}
use Rattle.prl_rule.specs.declared.views.Standing.{Standing}
use Rattle.prl_rule.specs.declared.views.TaskPart.{TaskPart}
use Rattle.prl_rule.specs.declared.views.View.{View}
use Rattle.prl_board.specs.Vocabulary.{Got, Wrote, FindsTag, LeavesTag, tag_found, AnswersHalf, AnswersRead, AnswersWrite, ReadsHalf, WritesAction}
use Rattle.prl_board.specs.declared.seats.Got.TheVariants as gots
use Rattle.prl_seats.specs.JobSeats.{Follows, IsStage, JobSeatView}
use Rattle.prl_seats.specs.declared.jobs.Stage.{Stage}
use Rattle.prl_rule.proofs.HalfSteps.{word_tag}
use Rattle.prl_seats.proofs.Following.{ended_is}

abbrev IsConstant : Action → Type 0
IsConstant action = (port : ℕ) × (value : Value) × (action ≡ actions.ReadConst port value)

constant_leaves : (slot tag : ℕ) (action : Action) → IsConstant action → tag_after slot tag action ≡ tag
constant_leaves slot tag action is = ap (tag_after slot tag) is.2

-- one more action
last_more : (slot tag : ℕ) (list : List Action) (p : ℕ) → last_in slot tag (take (p + 1) list) ≡ tag_after slot (last_in slot tag (take p list)) (get_or list p actions.End)
last_more slot tag list p = subst (λ (q : ℕ). last_in slot tag (take q list) ≡ tag_after slot (last_in slot tag (take p list)) (get_or list p actions.End)) (let e : suc p ≡ p + 1 = omega arith in e) (go tag list p)
  where
    go : (tag : ℕ) (xs : List Action) (n : ℕ) → last_in slot tag (take (suc n) xs) ≡ tag_after slot (last_in slot tag (take n xs)) (get_or xs n actions.End)
    go tag [] zero = refl
    go tag [] (suc n) = refl
    go tag (x ∷ xs) zero = refl
    go tag (x ∷ xs) (suc n) = go (tag_after slot tag x) xs n

-- the reads of constants leave each tag
list_leaves : (slot tag : ℕ) (list : List Action) (p count : ℕ) → ((j : ℕ) → j < count → IsConstant (get_or list (p + j) actions.End)) → last_in slot tag (take (p + count) list) ≡ last_in slot tag (take p list)
list_leaves slot tag list p zero all = (let e : p + 0 ≡ p = omega arith in λ h. last_in slot tag (take (e h) list))
list_leaves slot tag list p (suc count) all =
    let e : p + suc count ≡ p + count + 1 = omega arith in
    (λ h. last_in slot tag (take (e h) list)) ∙ last_more slot tag list (p + count)
    ∙ constant_leaves slot (last_in slot tag (take (p + count) list)) (get_or list (p + count) actions.End) (all count (omega arith))
    ∙ list_leaves slot tag list p count (λ j below. all j (omega (arith, below)))

-- a write leaves the tag of its instance
write_leaves : (c : RunConstants) (i n place m : ℕ) (e : EdgeNo) (slot : SlotNo) → action_at c i n place ≡ actions.Write e m slot → last_tag c i slot.0 n (place + 1) ≡ m + 1
write_leaves c i n place m e slot is =
    last_more slot.0 (tag_of_jobs c i slot.0 n) (c.actions i n) place
    ∙ ap (tag_after slot.0 (last_tag c i slot.0 n place)) is
    ∙ ap (λ (b : Bool). cond b (m + 1) (last_tag c i slot.0 n place)) (eq-eqb slot.0 slot.0 refl)

-- the tag that a task left is the same by its part and by its seat
pub lag_leaves : (k : Constants) (u : View) (i job place slot : ℕ) {stage : _} → Follows k u i job place stage →
    last_tag (run_of k) i slot (part_of i u).stand.ended (part_of i u).stand.place ≡ last_tag (run_of k) i slot job place
lag_leaves k u i job place slot follows =
    let c : RunConstants = run_of k in
    let at : Standing = (part_of i u).stand in
    let all : place ≡ at.place + (place - at.place) = omega (arith, follows.at.past) in
    let ended : at.ended ≡ job = ended_is k i place u ∙ follows.ended in
    sym (list_leaves slot (tag_of_jobs c i slot at.ended) (c.actions i at.ended) at.place (place - at.place) follows.at.read.constants)
    ∙ (λ h. last_tag c i slot (ended h) (sym all h))

-- the tag that an answer names was loaded
found_is : (k : Constants) (m : ℕ) (slot : SlotNo) (before after : JobSeatView) (word : ℕ) (got : Got) → AnswersHalf k m slot before after word got → tag_found m got ≡ word / 2 ^ 32
found_is k m slot before after word gots.Half answer = sym answer.1
found_is k m slot before after word (gots.Value value) answer = sym answer.1
found_is k m slot before after word (gots.NotYet cell wanted found) answer = answer.0.finds
found_is k m slot before after word (gots.Overrun cell wanted found) answer = answer.0.finds

pub read_is_exact : (k : Constants) (before after : JobSeatView) (got : Got) (seats : List JobSeatView) →
    ((j : ℕ) (x : JobSeatView) → slice_get seats j ≡ Some x → Follows k before.view j x.job x.place x.stage) →
    AnswersRead k before after got before.stage → FindsTag (run_of k) seats before.stage got
read_is_exact k before after got seats follows answer = λ port e m slot is j x writer has.
    let its = follows j x has in
    let part : TaskPart = part_of j before.view in
    let told : ReadsHalf k e m slot before after got = subst (AnswersRead k before after got) is answer in
    found_is k m slot before after told.word got told.answer
    ∙ ap (λ (n : ℕ). n / 2 ^ 32) (told.told.own j part its.at.part writer)
    ∙ word_tag (values_of k) slot.0 (last_tag (run_of k) j slot.0 part.stand.ended part.stand.place)
    ∙ lag_leaves k before.view j x.job x.place slot.0 its

pub write_is_exact : (k : Constants) → HasPlanFacts (run_of k) → (i : ℕ) (before after t : JobSeatView) (wrote : Wrote) (seats : List JobSeatView) → Follows k before.view i before.job before.place before.stage →
    AnswersWrite k before after wrote before.stage → slice_get seats i ≡ Some t → t.job ≡ after.job → t.place ≡ after.place → LeavesTag (run_of k) seats before.stage
write_is_exact k facts i before after t wrote seats follows answer there job place = λ e m slot is j x writer has.
    let c : RunConstants = run_of k in
    let shown = subst (λ (z : Stage). IsStage c i before.job before.place (part_at k i before.place before.view).stand.is_open z) is follows.shown in
    let told : WritesAction k before after wrote (actions.Write e m slot) = subst (AnswersWrite k before after wrote) is answer in
    let own : i ≡ j = writer i before.job before.place m (record { job = record { task = follows.task; job = shown.1 }; action = (e, shown.2) }) in
    let one : t ≡ x = (let same : Some t ≡ Some x = sym there ∙ ap (slice_get seats) own ∙ has in cc same) in
    sym (write_leaves c i before.job before.place m e slot shown.2)
    ∙ (λ h. last_tag c (own h) slot.0 ((sym (told.2.job) ∙ sym job ∙ ap (λ (s : JobSeatView). s.job) one) h) ((sym (told.2.place) ∙ sym place ∙ ap (λ (s : JobSeatView). s.place) one) h))
