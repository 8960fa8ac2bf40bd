-- A seat stands by another view with its part as it stood by its own.
use Rattle.prl_base.proofs.Standard.{◌≡◌, ℕ, ◌+◌, ◌-◌, ◌<◌, ◌≤◌, refl, sym, ap, ◌∙◌, subst, ⊎_elim, arith, set, length-set, List, Some, slice_get, slice_get_within}
use mathlib.Core.Logic.{dite}
use mathlib.Core.Option.{some, some-ne-none}
use native.Mathlib.Decide.{ℕ_discrete}
use lib.ListN.{get_elem?}
use Rattle.prl_base.specs.declared.numbers.TaskNo.{TaskNo}
use Rattle.prl_seats.specs.JobSeats.{Follows, HasPartOf, IsStage, JobSeatView, StaysAt}
use Rattle.prl_seats.specs.declared.jobs.Stage.{Stage}
use Rattle.prl_rule.specs.Vocabulary.{part_at, part_of, part_or, run_of, values_of, HasRead, bare, caught_up, stop_loaded, with_part}
use Rattle.prl_rule.specs.declared.views.ClockPart.{ClockPart}
use Rattle.prl_rule.specs.declared.views.Constants.{Constants}
use Rattle.prl_rule.specs.declared.views.TaskPart.{TaskPart}
use Rattle.prl_rule.specs.declared.views.View.{View}
use Rattle.prl_board.specs.Vocabulary.{ClockSeatView, IsClockData, IsWhole, LoneView, StandAs, AreLent, IsLent, IsSettled, KeepHalves}
use Rattle.atomic_table.proofs.Lists.{set_else as part_else}
use Rattle.prl_seats.proofs.Following.{part_is}
use Rattle.prl_rule.proofs.Parts.{caught_kept, part_there, set_found}
use Rattle.prl_board.proofs.Lists.{seat_there, set_at, set_else, set_here}

pub follows_with : (k : Constants) (i job place : ℕ) (stage : Stage) (u v : View) → Follows k u i job place stage → v.constants ≡ Some k → get_elem? v.tasks i ≡ some (Some (part_of i u)) →
    Follows k v i job place stage
follows_with k i job place stage u v follows known has =
    let same : part_of i v ≡ part_of i u = ap part_or (part_there v.tasks i (part_of i u) has) in
    let caught : TaskPart → TaskPart = λ p. caught_up (run_of k) (values_of k) i (place - p.stand.place) p in
    let P : TaskPart → Type 0 = λ p. (p.stand.place ≤ place) × HasRead (run_of k) i p (place - p.stand.place) × ((caught p).stand.ended ≡ job) × ((caught p).stand.place ≡ place)
    × IsStage (run_of k) i job place (caught p).stand.is_open stage in
    let is : P (part_of i v) = subst P (sym same) (follows.at.past, follows.at.read, follows.ended, follows.stands, follows.shown) in
    record {
      at = record { known = known; part = has ∙ ap (λ (p : TaskPart). some (Some p)) (sym same); past = is.0; read = is.1 };
      task = follows.task;
      ended = is.2;
      stands = is.3;
      shown = is.4;
    }

-- a view with no part has none of a task
pub bare_has_none : (k : Constants) (i : ℕ) → HasPartOf i (bare k) → ⊥
bare_has_none k i has = some-ne-none (Some (part_of i (bare k))) (sym has)

-- what one thread keeps, after a step of the task i
pub relent : (k : Constants) (u v : View) (i : ℕ) (seats : List JobSeatView) (s : JobSeatView) (clock : ClockSeatView) → AreLent k u seats clock → u.constants ≡ Some k → v.constants ≡ Some k →
    ((j : ℕ) (p : TaskPart) → (j ≡ i → ⊥) → get_elem? u.tasks j ≡ some (Some p) → get_elem? v.tasks j ≡ some (Some p)) → v.clock ≡ u.clock → IsLent k v i s → AreLent k v (set seats i s) clock
relent k u v i seats s clock lent was known others same mine = record {
  tasks = length-set seats i s ∙ lent.tasks;
  each = λ j t there. ⊎_elim
      (λ here. let P : ℕ × JobSeatView → Type 0 = λ z. IsLent k v z.0 z.1 in subst P (λ h. (sym here.0 h, here.1 h)) mine)
      (λ else_. let its = lent.each j t else_.1 in record {
        task = its.task;
        given = its.given;
        stands = follows_with k j t.job t.place t.stage u v its.stands known (others j (part_of j u) else_.0 its.stands.at.part);
      })
      (set_at seats i j s t there);
  ticks = record {
    given = lent.ticks.given;
    part = (lent.ticks.part.0, same ∙ lent.ticks.part.1);
    same = record {
      same = λ r has. lent.ticks.same.same r (sym same ∙ has);
      within = λ other has. lent.ticks.same.within other (was ∙ (sym known ∙ has));
      wide = λ other has. lent.ticks.same.wide other (was ∙ (sym known ∙ has));
    };
  };
}

pub stays_same : (s : JobSeatView) → StaysAt s s
stays_same s = record { job = refl; place = refl; stage = refl }

stays_again : (s t u : JobSeatView) → StaysAt s t → StaysAt t u → StaysAt s u
stays_again s t u first second = record { job = second.job ∙ first.job; place = second.place ∙ first.place; stage = second.stage ∙ first.stage }

-- the seat that has just lent its part, where its task stood
lent_now : (k : Constants) (v : View) (i : ℕ) (before after : JobSeatView) → before.task ≡ record { 0 = i } → Follows k v before.task.0 before.job before.place before.stage → after.view ≡ bare k →
    after.task ≡ before.task → StaysAt before after → IsLent k v i after
lent_now k v i before after task stands given same stays = record {
  task = same ∙ task;
  given = given;
  stands = (let P : ℕ × ℕ × ℕ × Stage → Type 0 = λ z. Follows k v z.0 z.1 z.2 z.3 in
      subst P (λ h. (ap (λ (t : TaskNo). t.0) task h, sym stays.job h, sym stays.place h, sym stays.stage h)) stands);
}

-- one seat more has lent its part
pub lent_more : (k : Constants) (u v : View) (i : ℕ) (seats : List JobSeatView) (before after : JobSeatView) →
    ((j : ℕ) (s : JobSeatView) → j < i → slice_get seats j ≡ Some s → IsLent k u j s) → v.constants ≡ Some k →
    ((j : ℕ) (p : TaskPart) → get_elem? u.tasks j ≡ some (Some p) → get_elem? v.tasks j ≡ some (Some p)) → before.task ≡ record { 0 = i } →
    Follows k v before.task.0 before.job before.place before.stage → after.view ≡ bare k → after.task ≡ before.task → StaysAt before after →
    (j : ℕ) (s : JobSeatView) → j < i + 1 → slice_get (set seats i after) j ≡ Some s → IsLent k v j s
lent_more k u v i seats before after done known others task stands given same stays j s below has =
    ⊎_elim
    (λ here. let P : ℕ × JobSeatView → Type 0 = λ z. IsLent k v z.0 z.1 in subst P (λ h. (sym here.0 h, here.1 h)) (lent_now k v i before after task stands given same stays))
    (λ else_. let ne = else_.0 in
    let its = done j s (omega (arith, below, ne)) else_.1 in record {
      task = its.task;
      given = its.given;
      stands = follows_with k j s.job s.place s.stage u v its.stands known (others j (part_of j u) its.stands.at.part);
    })
    (set_at seats i j after s has)

-- one part more is in the view
pub parts_more : (u v : View) (i : ℕ) (initial : List JobSeatView) (before : JobSeatView) →
    ((j : ℕ) (s : JobSeatView) → j < i → slice_get initial j ≡ Some s → get_elem? u.tasks j ≡ some (Some (part_of j s.view))) → slice_get initial i ≡ Some before → before.task ≡ record { 0 = i } →
    ((j : ℕ) (p : TaskPart) → get_elem? u.tasks j ≡ some (Some p) → get_elem? v.tasks j ≡ some (Some p)) → get_elem? v.tasks before.task.0 ≡ some (Some (part_of before.task.0 before.view)) →
    (j : ℕ) (s : JobSeatView) → j < i + 1 → slice_get initial j ≡ Some s → get_elem? v.tasks j ≡ some (Some (part_of j s.view))
parts_more u v i initial before done there task others new j s below has =
    dite (ℕ_discrete j i)
    (λ here.
    let one : before ≡ s = (let e : Some before ≡ Some s = sym there ∙ ap (slice_get initial) (sym here) ∙ has in cc e) in
    let P : ℕ × JobSeatView → Type 0 = λ z. get_elem? v.tasks z.0 ≡ some (Some (part_of z.0 z.1.view)) in
    subst P (λ h. ((ap (λ (t : TaskNo). t.0) task ∙ sym here) h, one h)) new)
    (λ ne. others j (part_of j s.view) (done j s (omega (arith, below, ne)) has))

pub stand_more : (initial seats : List JobSeatView) (i : ℕ) (before after : JobSeatView) →
    ((j : ℕ) (s : JobSeatView) → slice_get initial j ≡ Some s → (t : JobSeatView) × (slice_get seats j ≡ Some t) × (t.task ≡ s.task) × StaysAt s t) → slice_get seats i ≡ Some before →
    after.task ≡ before.task → StaysAt before after →
    (j : ℕ) (s : JobSeatView) → slice_get initial j ≡ Some s → (t : JobSeatView) × (slice_get (set seats i after) j ≡ Some t) × (t.task ≡ s.task) × StaysAt s t
stand_more initial seats i before after stand there same stays j s has =
    let was = stand j s has in
    dite (ℕ_discrete j i)
    (λ here.
    let one : was.0 ≡ before = (let e : Some was.0 ≡ Some before = sym was.1 ∙ ap (slice_get seats) here ∙ there in cc e) in (
      after,
      ap (slice_get (set seats i after)) here ∙ set_here seats i after before there,
      same ∙ sym (ap (λ (t : JobSeatView). t.task) one) ∙ was.2,
      stays_again s before after (subst (StaysAt s) one was.3) stays,
    ))
    (λ else_. (was.0, set_else seats i j after else_ ∙ was.1, was.2, was.3))

pub rest_more : (initial seats : List JobSeatView) (i : ℕ) (after : JobSeatView) → ((j : ℕ) → i ≤ j → slice_get seats j ≡ slice_get initial j) →
    (j : ℕ) → i + 1 ≤ j → slice_get (set seats i after) j ≡ slice_get initial j
rest_more initial seats i after rest j from = set_else seats i j after (λ same. omega (arith, same, from)) ∙ rest j (omega (arith, from))

-- after a load of the stop word the part stands where its seat does
pub stop_settles : (k : Constants) (u v : View) (i job place n : ℕ) (stage : Stage) → Follows k u i job place stage → v ≡ with_part i (stop_loaded n (part_at k i place u)) u →
    (v.constants ≡ u.constants) × (v.clock ≡ u.clock) × ((j : ℕ) (p : TaskPart) → (j ≡ i → ⊥) → get_elem? u.tasks j ≡ some (Some p) → get_elem? v.tasks j ≡ some (Some p))
    × ((part_of i v).stand.ended ≡ job) × ((part_of i v).stand.place ≡ place)
stop_settles k u v i job place n stage follows is =
    let part : part_of i v ≡ stop_loaded n (part_at k i place u) = ap (part_of i) is ∙ part_is i u (part_of i u) (stop_loaded n (part_at k i place u)) follows.at.part in (
      ap (λ (w : View). w.constants) is,
      ap (λ (w : View). w.clock) is,
      (λ j p ne has. ap (λ (w : View). get_elem? w.tasks j) is ∙ (part_else u.tasks i j (Some (stop_loaded n (part_at k i place u))) ne ∙ has)),
      ap (λ (p : TaskPart). p.stand.ended) part ∙ follows.ended,
      ap (λ (p : TaskPart). p.stand.place) part ∙ follows.stands,
    )

-- all seats stand where they stood, where one of them does
pub stands_set : (seats : List JobSeatView) (i : ℕ) (before after : JobSeatView) → slice_get seats i ≡ Some before → after.task ≡ before.task → StaysAt before after → StandAs seats (set seats i after)
stands_set seats i before after there same stays = record {
  tasks = length-set seats i after;
  each = stand_more seats seats i before after (λ j s has. (s, has, refl, stays_same s)) there same stays;
}

pub stands_then : (first second third : List JobSeatView) → StandAs first second → StandAs second third → StandAs first third
stands_then first second third a b = record {
  tasks = b.tasks ∙ a.tasks;
  each = λ j s has.
      let t = a.each j s has in
      let u = b.each j t.0 t.1 in
      (u.0, u.1, u.2 ∙ t.2, stays_again s t.0 u.0 t.3 u.3);
}

-- the seat that was set
pub set_is : (seats : List JobSeatView) (i : ℕ) (before after s : JobSeatView) → slice_get seats i ≡ Some before → slice_get (set seats i after) i ≡ Some s → after ≡ s
set_is seats i before after s there has = let e : Some after ≡ Some s = sym (set_here seats i after before there) ∙ has in cc e

-- the same is said of the clock by another view of the same run
pub clock_moves : (k : Constants) (u v : View) (r : ClockPart) (now : ℕ) (looks : List ℕ) → IsClockData u now looks → u.constants ≡ Some k → v.constants ≡ Some k → u.clock ≡ Some r → v.clock ≡ Some r →
    IsClockData v now looks
clock_moves k u v r now looks own mine theirs here there = record {
  same = λ q has. own.same q (here ∙ (sym there ∙ has));
  within = λ other has. own.within other (mine ∙ (sym theirs ∙ has));
  wide = λ other has. own.wide other (mine ∙ (sym theirs ∙ has));
}

-- a part that stays stands where its seat does, which stays too
pub settled_stays : (k : Constants) (before after : LoneView) (j : ℕ) (s : JobSeatView) → IsWhole k before → StandAs before.seats after.seats →
    ((p : TaskPart) → get_elem? before.view.tasks j ≡ some (Some p) → get_elem? after.view.tasks j ≡ some (Some p)) →
    ((t : JobSeatView) → slice_get before.seats j ≡ Some t → IsSettled before.view j t) → slice_get after.seats j ≡ Some s → IsSettled after.view j s
settled_stays k before after j s whole stand other settled has =
    let was = seat_there before.seats j (omega (arith, slice_get_within after.seats j s has, stand.tasks)) in
    let now = stand.each j was.0 was.1 in
    let one : now.0 ≡ s = (let e : Some now.0 ≡ Some s = sym now.1 ∙ has in cc e) in
    let at = (whole.each j was.0 was.1).1.at.part in
    let part : part_of j after.view ≡ part_of j before.view = ap part_or (part_there after.view.tasks j (part_of j before.view) (other (part_of j before.view) at)) in
    let set_ = settled was.0 was.1 in
    subst (IsSettled after.view j) one
    (ap (λ (p : TaskPart). p.stand.ended) part ∙ set_.0 ∙ sym now.3.job, ap (λ (p : TaskPart). p.stand.place) part ∙ set_.1 ∙ sym now.3.place)

-- the half that a task has loaded last stays over a load of the stop word
pub stop_keeps_halves : (k : Constants) (u v : View) (i place n : ℕ) → HasPartOf i u → v ≡ with_part i (stop_loaded n (part_at k i place u)) u → KeepHalves u v
stop_keeps_halves k u v i place n mine is j p has =
    let q : TaskPart = stop_loaded n (part_at k i place u) in
    dite (ℕ_discrete j i)
    (λ here.
    let one : part_of i u ≡ p = ap part_or (part_there u.tasks i p (ap (get_elem? u.tasks) (sym here) ∙ has)) in (
      q,
      ap (λ (w : View). get_elem? w.tasks j) is ∙ ap (get_elem? (set u.tasks i (Some q))) here ∙ set_found u.tasks i (Some (part_of i u)) (Some q) mine,
      caught_kept (run_of k) (values_of k) i (place - (part_of i u).stand.place) (part_of i u) ∙ ap (λ (r : TaskPart). r.kept) one,
    ))
    (λ ne. (p, ap (λ (w : View). get_elem? w.tasks j) is ∙ part_else u.tasks i j (Some q) ne ∙ has, refl))

pub keep_then : (u v w : View) → KeepHalves u v → KeepHalves v w → KeepHalves u w
keep_then u v w first second j p has =
    let a = first j p has in let b = second j a.0 a.1 in (b.0, b.1, b.2 ∙ a.2)
