-- What a call of a seat leaves to the one thread that has lent it the view that has all parts.
use Rattle.prl_base.proofs.Standard.{◌≡◌, ◌<◌, ℕ, sym, ap, ◌∙◌, subst, set, get_or, length, length-set, arith, List, [], Some, None, slice_get_within, slice_get}
use lib.ListN.{get_elem?}
use Rattle.atomic_table.specs.Seated.{TableId}
use Rattle.prl_rule.specs.Vocabulary.{bare, ticked, with_clock, with_part, LookTold, part_of}
use Rattle.prl_rule.specs.declared.views.ClockPart.{ClockPart}
use Rattle.prl_rule.specs.declared.views.Constants.{Constants}
use Rattle.prl_rule.specs.declared.views.TaskPart.{TaskPart}
use Rattle.prl_rule.specs.declared.views.View.{View}
use Rattle.prl_seats.specs.Vocabulary.{BoardView, AnswersRelease, Follows, IsSeatOf, JobSeatView, reseated}
use Rattle.prl_seats.specs.declared.jobs.Release.{Release}
use Rattle.prl_seats.specs.declared.jobs.Stage.{Stage}
use Rattle.prl_board.specs.Vocabulary.{AnswersTick, ClockSeatView, IsClockOf, Ticked, Got, Wrote, IsClockCall, IsLoneOf, IsPlacedAt, IsReleasedBy, IsTaskCall, IsTicked, LoneView, Place, AnswersRead}
use Rattle.prl_board.specs.Vocabulary.{AnswersWrite, place_of, AreLent, IsClockReturned, IsElsewhere, IsLent, IsLentClock, IsReturned}
use Rattle.prl_base.specs.declared.numbers.TaskNo.{TaskNo}
use Rattle.prl_plan.specs.declared.events.Action.TheVariants as actions
use Rattle.prl_board.specs.declared.clocks.Ticked.TheVariants as ticks
use Rattle.prl_seats.specs.declared.jobs.Release.TheVariants as releases
use Rattle.prl_seats.specs.declared.jobs.Stage.TheVariants as stages
use Rattle.atomic_table.proofs.Lists.{set_else as part_else}
use Rattle.prl_seats.proofs.Following.{ended_is, known_once}
use Rattle.prl_board.proofs.Lending.{follows_with, relent}
use Rattle.prl_board.proofs.Lists.{read_there, set_else, set_here}

-- a view with no part has none of the clock
pub bare_has_no_clock : (k : Constants) (u : View) (r : ClockPart) {A : Type 0} → u ≡ bare k → u.clock ≡ Some r → A
bare_has_no_clock k u r is has = let e : None ≡ Some r = sym (ap (λ (v : View). v.clock) is) ∙ has in absurd (cc e)

-- the clock's seat gives the view back
pub clock_returned : (b : BoardView) (u v : View) (s t : ClockSeatView) (r : ClockPart) → IsClockOf b s r → s.view.tasks ≡ u.tasks → v ≡ s.view → IsLentClock b.known s.view t → IsClockReturned b.known u v t
clock_returned b u v s t r is tasks same lent = record {
  known = ap (λ (x : View). x.constants) same ∙ is.known;
  tasks = ap (λ (x : View). x.tasks) same ∙ tasks;
  lent = subst (λ (x : View). IsLentClock b.known x t) (sym same) lent;
}

-- what a tick answers, by the views alone
pub ticked_by : (k : Constants) (r : ClockPart) (u v : View) (s t : ClockSeatView) (answer : Ticked) → s.view ≡ u → v ≡ t.view → AnswersTick k r s t answer → IsTicked k r u v answer
ticked_by k r u v s t (ticks.Now now) before after answer =
    (answer.0, answer.1, answer.2, (let P : View × View → Type 0 = λ z. z.1 ≡ with_clock (ticked r) z.0 in subst P (λ h. (before h, sym after h)) answer.3))
ticked_by k r u v s t (ticks.Behind task job) before after answer = (answer.0, answer.1, answer.2, after ∙ ap (λ (x : ClockSeatView). x.view) answer.3 ∙ before)
ticked_by k r u v s t ticks.End before after answer = (answer.0, after ∙ ap (λ (x : ClockSeatView). x.view) answer.1 ∙ before)

-- a tick leaves the tasks
pub tick_leaves : (k : Constants) (r : ClockPart) (s t : ClockSeatView) (answer : Ticked) → AnswersTick k r s t answer → t.view.tasks ≡ s.view.tasks
tick_leaves k r s t (ticks.Now now) answer = ap (λ (x : View). x.tasks) answer.3
tick_leaves k r s t (ticks.Behind task job) answer = ap (λ (x : ClockSeatView). x.view.tasks) answer.3
tick_leaves k r s t ticks.End answer = ap (λ (x : ClockSeatView). x.view.tasks) answer.1

-- what one thread keeps, after a step of the clock
relent_clock : (k : Constants) (u v : View) (seats : List JobSeatView) (before after : ClockSeatView) → AreLent k u seats before → IsClockReturned k u v after → AreLent k v seats after
relent_clock k u v seats before after lent back = record {
  tasks = lent.tasks;
  each = λ j s has.
      let its = lent.each j s has in record {
        task = its.task;
        given = its.given;
        stands = follows_with k j s.job s.place s.stage u v its.stands back.known (ap (λ (ps : _). get_elem? ps j) back.tasks ∙ its.stands.at.part);
      };
  ticks = back.lent;
}

-- a look is the number of ended jobs
pub look_is_exact : (k : Constants) (i : ℕ) (r : ClockPart) (u v : View) (n : ℕ) (s : JobSeatView) → LookTold k i r u n v → Follows k u i s.job s.place s.stage → n ≡ s.job
look_is_exact k i r u v n s told follows = told.own (part_of i u) follows.at.part ∙ ended_is k i s.place u ∙ follows.ended

-- the seat as it stood with the view that it has given back
pub seen_again : (table other : TableId) (id n : ℕ) (v u : View) (s t : JobSeatView) → table ≡ s.table → id ≡ s.id → v ≡ s.view → t ≡ reseated other n u s → reseated table id v t ≡ s
seen_again table other id n v u s t a b c d = λ h. reseated (a h) (b h) (c h) (d h)

-- A seat is lent the view as `s`, answers as `t`, and stands as `after` when it has given the view back.
pub same_after : {X : Type 0} {table bare_table other : TableId} {id bare_id n : ℕ} {u spare : View} {me : View × List X} {s after : JobSeatView} (seat t : JobSeatView) →
    s ≡ reseated table id u seat → after ≡ reseated bare_table bare_id spare t → (other ≡ t.table) × (n ≡ t.id) × (me ≡ (t.view, [])) → t.table ≡ s.table → t.task ≡ s.task →
    (other ≡ table) × (me.1 ≡ []) × (after.task ≡ seat.task)
same_after seat t lent back given tables tasks =
    (given.0 ∙ tables ∙ ap (λ (x : JobSeatView). x.table) lent, ap (λ m. m.1) given.2, ap (λ (x : JobSeatView). x.task) back ∙ tasks ∙ ap (λ (x : JobSeatView). x.task) lent)

pub answer_after : {X : Type 0} {table bare_table other : TableId} {id bare_id n : ℕ} {u spare : View} {me : View × List X} {s after : JobSeatView} (seat t : JobSeatView)
    (P : JobSeatView → JobSeatView → Type 0) → s ≡ reseated table id u seat → after ≡ reseated bare_table bare_id spare t → (other ≡ t.table) × (n ≡ t.id) × (me ≡ (t.view, [])) →
    P s t → P (reseated table id u seat) (reseated other n me.0 after)
answer_after {table = table} {bare_table = bare_table} {other = other} {id = id} {bare_id = bare_id} {n = n} {u = u} {spare = spare} {me = me} {after = after} seat t P lent back given holds =
    let Q : JobSeatView × JobSeatView → Type 0 = λ z. P z.0 z.1 in
    let seen = seen_again other bare_table n bare_id me.0 spare t after given.0 given.1 (ap (λ m. m.0) given.2) back in
    subst Q (λ h. (lent h, sym seen h)) holds

-- a step changes the part of its task at most
pub elsewhere_with : (i : ℕ) (q : TaskPart) (u v : View) → v ≡ with_part i q u → IsElsewhere i u v
elsewhere_with i q u v is = record {
  parts = λ j ne. ap (λ (w : View). get_elem? w.tasks j) is ∙ part_else u.tasks i j (Some q) ne;
  clock = ap (λ (w : View). w.clock) is;
}

pub elsewhere_same : (i : ℕ) (u v : View) → v ≡ u → IsElsewhere i u v
elsewhere_same i u v is = record { parts = λ j ne. ap (λ (w : View). get_elem? w.tasks j) is; clock = ap (λ (w : View). w.clock) is }

pub release_elsewhere : (k : Constants) (s t : JobSeatView) (answer : Release) → AnswersRelease k s t answer → IsElsewhere s.task.0 s.view t.view
release_elsewhere k s t releases.Over answer = elsewhere_same s.task.0 s.view t.view (ap (λ (x : JobSeatView). x.view) answer.1)
release_elsewhere k s t (releases.Early now at) answer = elsewhere_with s.task.0 _ s.view t.view answer.3.view
release_elsewhere k s t (releases.Open job) answer = elsewhere_with s.task.0 _ s.view t.view answer.2.2.view

pub read_elsewhere : (k : Constants) (s t : JobSeatView) (got : Got) (stage : Stage) → AnswersRead k s t got stage → IsElsewhere s.task.0 s.view t.view
read_elsewhere k s t got stages.Over answer = absurd answer
read_elsewhere k s t got stages.Idle answer = absurd answer
read_elsewhere k s t got (stages.At (actions.ReadConst port value)) answer = elsewhere_same s.task.0 s.view t.view answer.1
read_elsewhere k s t got (stages.At (actions.Read port e m slot)) answer = elsewhere_with s.task.0 _ s.view t.view answer.told.view
read_elsewhere k s t got (stages.At (actions.Write e m slot)) answer = absurd answer
read_elsewhere k s t got (stages.At actions.End) answer = absurd answer

pub write_elsewhere : (k : Constants) (s t : JobSeatView) (wrote : Wrote) (stage : Stage) → AnswersWrite k s t wrote stage → IsElsewhere s.task.0 s.view t.view
write_elsewhere k s t wrote stages.Over answer = absurd answer
write_elsewhere k s t wrote stages.Idle answer = absurd answer
write_elsewhere k s t wrote (stages.At (actions.ReadConst port value)) answer = absurd answer
write_elsewhere k s t wrote (stages.At (actions.Read port e m slot)) answer = absurd answer
write_elsewhere k s t wrote (stages.At (actions.Write e m slot)) answer = elsewhere_with s.task.0 _ s.view t.view answer.1.view
write_elsewhere k s t wrote (stages.At actions.End) answer = absurd answer

-- the seat of a task gives the view back
pub seat_returned : (b : BoardView) (task : TaskNo) (u v : View) (table : TableId) (id : ℕ) (s t : JobSeatView) → IsSeatOf b s → s.task ≡ task → IsElsewhere task.0 u s.view → v ≡ s.view →
    t ≡ reseated table id (bare b.known) s → Follows b.known s.view s.task.0 s.job s.place s.stage → IsReturned b.known task.0 u v t
seat_returned b task u v table id s t is same elsewhere view taken follows = record {
  known = ap (λ (x : View). x.constants) view ∙ is.known;
  elsewhere = subst (IsElsewhere task.0 u) (sym view) elsewhere;
  lent = record {
    task = ap (λ (x : JobSeatView). x.task) taken ∙ same;
    given = ap (λ (x : JobSeatView). x.view) taken;
    stands = (let P : View × TaskNo × JobSeatView → Type 0 = λ z. Follows b.known z.0 z.1.0 z.2.job z.2.place z.2.stage in subst P (λ h. (sym view h, same h, sym taken h)) follows);
  };
}

-- what one thread keeps, after a call of task i
relent_seat : (k : Constants) (u v : View) (i : ℕ) (seats : List JobSeatView) (s : JobSeatView) (clock : ClockSeatView) → AreLent k u seats clock → u.constants ≡ Some k → IsReturned k i u v s →
    AreLent k v (set seats i s) clock
relent_seat k u v i seats s clock lent was back =
    relent k u v i seats s clock lent was back.known (λ j p ne has. back.elsewhere.parts j ne ∙ has) back.elsewhere.clock back.lent

-- a call of task i as it is seen of the one thread
task_call : (k : Constants) (i : ℕ) (table other : TableId) (id n : ℕ) (u v : View) (seats : List JobSeatView) (s t : JobSeatView) (answers : JobSeatView → JobSeatView → Type 0) →
    slice_get seats i ≡ Some s → t.task ≡ s.task → IsReturned k i u v t → answers (reseated table id u s) (reseated other n v t) →
    IsTaskCall i (record { table = table; id = id; view = u; seats = seats }) (record { table = other; id = n; view = v; seats = set seats i t }) answers
task_call k i table other id n u v seats s t answers there same back answer = record {
  answer = λ x has.
      let one : s ≡ x = (let e : Some s ≡ Some x = sym there ∙ has in cc e) in
      (t, set_here seats i t s there, same ∙ ap (λ (z : JobSeatView). z.task) one, subst (λ (z : JobSeatView). answers (reseated table id u z) (reseated other n v t)) one answer);
  tasks = length-set seats i t;
  others = λ j ne. set_else seats i j t ne;
  parts = back.elsewhere.parts;
  clock = back.elsewhere.clock;
}

-- Of one thread `m` is what it is made of, and `l` is how it is seen.

-- it belongs to the board: so it may lend its view
pub may_lend : {b : BoardView} {m l : LoneView} {P : Type 0} → m ≡ l → IsLoneOf b l → P → (m.table ≡ b.table) × P × (m.view.constants ≡ Some b.known)
may_lend is lone p = (ap (λ (x : LoneView). x.table) is ∙ lone.table, p, ap (λ (x : LoneView). x.view.constants) is ∙ lone.known)

-- and so it does after a call
pub lone_after : {b : BoardView} {m l after : LoneView} → m ≡ l → IsLoneOf b l → after.table ≡ m.table → after.view.constants ≡ Some b.known → IsLoneOf b after
lone_after is lone table known = record { table = table ∙ ap (λ (x : LoneView). x.table) is ∙ lone.table; known = known }

-- what its seats have lent
pub lent_of : {b : BoardView} {m l : LoneView} {clock : ClockSeatView} → m ≡ l → IsLoneOf b l → ((k : Constants) → m.view.constants ≡ Some k → AreLent k m.view m.seats clock) →
    AreLent b.known m.view m.seats clock
lent_of {b = b} is lone kept = kept b.known (ap (λ (x : LoneView). x.view.constants) is ∙ lone.known)

-- what it keeps after a call of the clock, and that call
pub kept_after_clock : {k : Constants} {u v : View} {seats : List JobSeatView} {before after : ClockSeatView} → AreLent k u seats before → IsClockReturned k u v after →
    (other : Constants) → v.constants ≡ Some other → AreLent other v seats after
kept_after_clock {k = k} {u = u} {v = v} {seats = seats} {before = before} {after = after} lent back =
    known_once v k (λ x. AreLent x v seats after) back.known (relent_clock k u v seats before after lent back)

pub clock_call : {k : Constants} {m l : LoneView} {clock : ClockSeatView} {other : TableId} {n : ℕ} {v : View} → m ≡ l → IsClockReturned k m.view v clock →
    IsClockCall l (record { table = other; id = n; view = v; seats = m.seats })
clock_call is back = record { seats = ap (λ (x : LoneView). x.seats) is; parts = back.tasks ∙ ap (λ (x : LoneView). x.view.tasks) is }

-- it has a seat of the task
has_seat : {m l : LoneView} {s : JobSeatView} (i : ℕ) → m ≡ l → slice_get l.seats i ≡ Some s → i < length m.seats
has_seat {m = m} {s = s} i is has = slice_get_within m.seats i s (ap (λ (x : LoneView). slice_get x.seats i) is ∙ has)

-- and so the vector, which counts them
pub has_index : {m l : LoneView} {s : JobSeatView} {count : ℕ} (i : ℕ) → m ≡ l → slice_get l.seats i ≡ Some s → count ≡ length m.seats → i < count
has_index i is has counted = subst (λ (n : ℕ). i < n) (sym counted) (has_seat i is has)

-- what is known of the seat of a task that was taken out
pub record IsTaken (k : Constants) (m : LoneView) (clock : ClockSeatView) (task : TaskNo) (s : JobSeatView) : Type 0 where
  pub there : slice_get m.seats task.0 ≡ Some s
  pub known : m.view.constants ≡ Some k
  pub lent : AreLent k m.view m.seats clock
  pub own : s.task ≡ task

pub taken : {b : BoardView} {m l : LoneView} {clock : ClockSeatView} {x s : JobSeatView} (task : TaskNo) → m ≡ l → IsLoneOf b l →
    ((k : Constants) → m.view.constants ≡ Some k → AreLent k m.view m.seats clock) → slice_get l.seats task.0 ≡ Some x → s ≡ get_or m.seats task.0 s → IsTaken b.known m clock task s
taken {m = m} {s = s} task is lone kept has value =
    let there = read_there m.seats task.0 s (has_seat task.0 is has) value in
    let lent = lent_of is lone kept in
    record { there = there; known = ap (λ (x : LoneView). x.view.constants) is ∙ lone.known; lent = lent; own = (lent.each task.0 s there).task }

pub taken_lent : {k : Constants} {m : LoneView} {clock : ClockSeatView} {task : TaskNo} {s : JobSeatView} → IsTaken k m clock task s → IsLent k m.view s.task.0 s
taken_lent {k = k} {m = m} {task = task} {s = s} its = subst (λ (t : TaskNo). IsLent k m.view t.0 s) (sym its.own) (its.lent.each task.0 s its.there)

-- it is the one that is seen
taken_seen : {k : Constants} {m l : LoneView} {clock : ClockSeatView} {task : TaskNo} {s x : JobSeatView} → m ≡ l → IsTaken k m clock task s → slice_get l.seats task.0 ≡ Some x → s ≡ x
taken_seen {task = task} {s = s} {x = x} is its has = let e : Some s ≡ Some x = sym its.there ∙ ap (λ (y : LoneView). slice_get y.seats task.0) is ∙ has in cc e

pub taken_placed : {k : Constants} {m l : LoneView} {clock : ClockSeatView} {task : TaskNo} {s : JobSeatView} (may : Place → Type 0) → m ≡ l → IsTaken k m clock task s →
    IsPlacedAt may l task.0 → may (place_of s.stage)
taken_placed may is its place = subst (λ (x : JobSeatView). may (place_of x.stage)) (sym (taken_seen is its place.1)) place.2

-- what holds of it holds of the one that is seen
pub seen_with : {k : Constants} {m l : LoneView} {clock : ClockSeatView} {task : TaskNo} {s x : JobSeatView} (P : List JobSeatView → JobSeatView → Type 0) → m ≡ l → IsTaken k m clock task s →
    slice_get l.seats task.0 ≡ Some x → P m.seats s → P l.seats x
seen_with P is its has holds = let Q : LoneView × JobSeatView → Type 0 = λ z. P z.0.seats z.1 in subst Q (λ h. (is h, taken_seen is its has h)) holds

-- what one thread keeps after the call of the seat that was taken out, and that call
back_with : {k : Constants} {m : LoneView} {clock : ClockSeatView} {task : TaskNo} {s t : JobSeatView} {v : View} → IsTaken k m clock task s → IsReturned k s.task.0 m.view v t →
    IsReturned k task.0 m.view v t
back_with {k = k} {m = m} {t = t} {v = v} its back = subst (λ (x : TaskNo). IsReturned k x.0 m.view v t) its.own back

pub kept_after : {k : Constants} {m : LoneView} {clock : ClockSeatView} {task : TaskNo} {s t : JobSeatView} {v : View} → IsTaken k m clock task s → IsReturned k s.task.0 m.view v t →
    (other : Constants) → v.constants ≡ Some other → AreLent other v (set m.seats task.0 t) clock
kept_after {k = k} {m = m} {clock = clock} {task = task} {t = t} {v = v} its back =
    known_once v k (λ x. AreLent x v (set m.seats task.0 t) clock) back.known
    (relent_seat k m.view v task.0 m.seats t clock its.lent its.known (back_with its back))

pub call_after : {k : Constants} {m l : LoneView} {clock : ClockSeatView} {task : TaskNo} {s t : JobSeatView} {other : TableId} {n : ℕ} {v : View} (answers : JobSeatView → JobSeatView → Type 0) →
    m ≡ l → IsTaken k m clock task s → t.task ≡ s.task → IsReturned k s.task.0 m.view v t → answers (reseated m.table m.id m.view s) (reseated other n v t) →
    IsTaskCall task.0 l (record { table = other; id = n; view = v; seats = set m.seats task.0 t }) answers
call_after {k = k} {m = m} {task = task} {s = s} {t = t} {other = other} {n = n} {v = v} answers is its same back answer =
    subst (λ (x : LoneView). IsTaskCall task.0 x (record { table = other; id = n; view = v; seats = set m.seats task.0 t }) answers) is
    (task_call k task.0 m.table other m.id n m.view v m.seats s t answers its.there same (back_with its back) answer)

-- a release judges by the clock's `now`
pub release_is_exact : (k : Constants) (s t : JobSeatView) (r : ClockPart) (answer : Release) → AnswersRelease k s t answer → s.view.clock ≡ Some r → IsReleasedBy k s r.now answer
release_is_exact k s t r releases.Over answer has = answer.0
release_is_exact k s t r (releases.Early now at) answer has = let own = answer.3.own r has in (answer.0, own, answer.1, subst (λ (n : ℕ). n < at) own answer.2)
release_is_exact k s t r (releases.Open job) answer has =
    let same = answer.0 in
    (omega (arith, same, answer.1), same, omega (arith, answer.2.2.own r has, answer.2.1))
