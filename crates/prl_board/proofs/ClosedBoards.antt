-- What the table says at the end is what a closed board shows.
use Rattle.prl_base.proofs.Standard.{◌≡◌, ◌<◌, ℕ, zero, suc, List, [], ◌∷◌, length, get_or, inl, inr, refl, sym, ap, ◌∙◌, subst, arith, Bool, Some, cases_lt, get_or_past, slice_get_within, slice_get}
use mathlib.Core.Option.{some, some-injective, some-ne-none}
use lib.ListN.{get_elem?}
use Rattle.prl_rule.specs.Vocabulary.{part_of, run_of, values_of, reached, PlanLaws}
use Rattle.prl_rule.specs.declared.views.ClockPart.{ClockPart}
use Rattle.prl_rule.specs.declared.views.Constants.{Constants}
use Rattle.prl_rule.specs.declared.views.TaskPart.{TaskPart}
use Rattle.prl_rule.specs.declared.views.View.{View}
use Rattle.prl_plan.specs.Vocabulary.{IsComplete, ExecState, RunConstants}
use Rattle.prl_seats.specs.Vocabulary.{IsStage, JobSeatView, IsClosing}
use Rattle.prl_seats.specs.declared.jobs.Stage.{Stage}
use Rattle.prl_seats.specs.declared.jobs.Stage.TheVariants as stages
use Rattle.prl_board.specs.Vocabulary.{IsClosed, IsLastState, KeepsTag, IsLeft, IsLent, IsSettled}
use Rattle.prl_rule.proofs.HalfSteps.{loaded_tag}
use Rattle.prl_board.proofs.Lists.{seat_there}

pub closed_from : (k : Constants) → PlanLaws → (view : View) (words : List ℕ) (seats : List JobSeatView) → IsClosing k view words →
    length seats ≡ (run_of k).tasks → ((i : ℕ) (s : JobSeatView) → slice_get seats i ≡ Some s → IsLent k view i s) →
    ((i : ℕ) (s : JobSeatView) → slice_get seats i ≡ Some s → IsSettled view i s) → IsClosed k words seats
closed_from k laws view words seats closing tasks lent settled =
    let es = closing.1 in
    let a = closing.4 in
    let mine = a.each_view closing.3 view closing.5 in
    record {
      wide = a.shows.wide;
      tasks = tasks;
      each = λ i s has.
          let its = lent i s has in
          let at = (mine.task i (part_of i view) its.stands.at.part).2.stand in
          (its.task, omega (arith, at.ended, (settled i s has).0, (laws.tagged (run_of k) a.facts es a.free).counted i its.stands.task), (_, its.stands.shown));
      last = (
        reached (run_of k) es,
        record {
          events = es;
          free = a.free;
          gated = a.gated;
          state = refl;
          now = a.shows.now;
          done = a.shows.done;
          half = a.shows.slot;
          each = λ i s has.
              let at = (mine.task i (part_of i view) (lent i s has).stands.at.part).2.stand in
              (sym (settled i s has).0 ∙ at.ended, sym (settled i s has).1 ∙ at.place);
        },
      );
    }

-- a word that is read
pub word_there : (words : List ℕ) (i n : ℕ) → get_elem? words i ≡ some n → get_or words i 0 ≡ n
word_there [] i n e = absurd (some-ne-none n (sym e))
word_there (x ∷ xs) zero n e = some-injective x n e
word_there (x ∷ xs) (suc i) n e = word_there xs i n e

-- where every seat is over, every horizon job has ended
pub all_over : (k : Constants) (words : List ℕ) (seats : List JobSeatView) → IsClosed k words seats →
    ((j : ℕ) (t : JobSeatView) → j < length seats → slice_get seats j ≡ Some t → t.stage ≡ stages.Over) → (s : ExecState) → IsLastState k words seats s → IsComplete (run_of k) s
all_over k words seats closed over s last j n task job =
    let tasks = closed.tasks in
    let seat = seat_there seats j (omega (arith, tasks, task)) in
    let its = (closed.each j seat.0 seat.1).2 in
    let shown : IsStage (run_of k) j seat.0.job seat.0.place its.0 stages.Over = subst (IsStage (run_of k) j seat.0.job seat.0.place its.0) (over j seat.0 (omega (arith, tasks, task)) seat.1) its.1 in
    omega (arith, shown.1, (last.each j seat.0 seat.1).0, job)

stage_left : (c : RunConstants) (i n place : ℕ) (is_open : Bool) (stage : Stage) → IsStage c i n place is_open stage → (stage ≡ stages.Over → ⊥) → n < c.jobs i
stage_left c i n place is_open stages.Over is left = absurd (left refl)
stage_left c i n place is_open stages.Idle is left = is.1
stage_left c i n place is_open (stages.At action) is left = is.1

-- and else not
pub not_over : (k : Constants) (words : List ℕ) (seats : List JobSeatView) (i : ℕ) (t : JobSeatView) → IsClosed k words seats → slice_get seats i ≡ Some t → (t.stage ≡ stages.Over → ⊥) →
    (s : ExecState) → IsLastState k words seats s → IsComplete (run_of k) s → ⊥
not_over k words seats i t closed has left s last complete =
    let its = (closed.each i t has).2 in
    let more = stage_left (run_of k) i t.job t.place its.0 t.stage its.1 left in
    let done = complete i t.job (omega (arith, closed.tasks, slice_get_within seats i t has)) more in
    omega (arith, done, (last.each i t has).0)

-- the word of `now` is the clock's
pub closing_clock : (k : Constants) (view : View) (words : List ℕ) → IsClosing k view words → (r : ClockPart) → view.clock ≡ Some r → get_or words 0 0 ≡ r.now
closing_clock k view words closing r part =
    closing.4.shows.now ∙ sym ((closing.4.each_view closing.3 view closing.5).clock r part).2.now

-- what was loaded of a half, its word has not fallen below
pub closing_tags : (k : Constants) → PlanLaws → (view : View) (words : List ℕ) → IsClosing k view words → (i : ℕ) (p : TaskPart) → get_elem? view.tasks i ≡ some (Some p) → KeepsTag k p.kept words
closing_tags k laws view words closing i p has =
    let a = closing.4 in
    let es = closing.1 in
    let tag = ((a.each_view closing.3 view closing.5).task i p has).2.kept.tag in
    elim (cases_lt p.kept.slot (run_of k).slots) [
      | inl inside ↦ (let same = loaded_tag k (run_of k) (values_of k) closing.0 es words closing.2 p.kept.slot a inside in omega (arith, tag, same))
      | inr outside ↦
          (let wide = (laws.tagged (run_of k) a.facts es a.free).tags in
          let none : get_or (reached (run_of k) es).tags p.kept.slot 0 ≡ 0 = get_or_past (reached (run_of k) es).tags p.kept.slot 0 (omega (arith, wide, outside)) in
          omega (arith, tag, none))
    ]

-- what a closed board keeps, by the run that is seen
pub left_of : {k : Constants} {view : View} {words : List ℕ} {wide : ℕ} {seats : List JobSeatView} → (j : Constants) × IsLeft j view words wide seats → view.constants ≡ Some k → IsLeft k view words wide seats
left_of {k = k} {view = view} {words = words} {wide = wide} {seats = seats} left known =
    let same : left.0 ≡ k = (let e : Some left.0 ≡ Some k = sym (ap (λ (v : View). v.constants) left.1.given) ∙ known in cc e) in
    subst (λ (j : Constants). IsLeft j view words wide seats) same left.1
