-- A seat follows its view after each step.
use Rattle.std.proofs.Common.{◌≡◌, ℕ, zero, suc, ◌+◌, ◌-◌, ◌/◌, ◌^◌, ◌<◌, ◌≤◌, ◌&&◌, nat_lt, nat_le, cond, eq-eqb, ne_eqb, List, [], ◌∷◌, length, get_or, set, refl, sym, ap, ◌∙◌, subst, inl, inr, arith, Bool, true, false, Some}
use Rattle.std.proofs.lemmas.Bool.{cases_lt}
use Rattle.std.proofs.lemmas.Bool.Decides.{nat_tests}
use mathlib.Core.Option.{some}
use lib.ListN.{get_elem?}
use Rattle.prl_base.specs.declared.numbers.TaskNo.{TaskNo}
use Rattle.prl_base.specs.declared.values.Value.{Value}
use Rattle.prl_plan.specs.Vocabulary.{IsJob, RunConstants, action_at}
use Rattle.prl_plan.specs.declared.events.Action.{Action}
use Rattle.prl_plan.specs.declared.events.Action.TheVariants as actions
use Rattle.prl_seats.specs.Vocabulary.{Stage, BoardView, Follows, HasFirstPart, HasPartOf, IsSeatOf, IsStage, JobSeatView}
use Rattle.prl_seats.specs.declared.jobs.Stage.TheVariants as stages
use Rattle.prl_rule.specs.Vocabulary.{RunValues, run_of, values_of, StandsAt, first_part, caught_up, done_counted, half_loaded, half_missed, half_stored, half_taken, moved_on, now_loaded, with_part}
use Rattle.prl_rule.specs.Vocabulary.{EndTold, HalfTold, IsAt, NowTold, WriteTold, part_at, part_of, part_or}
use Rattle.prl_rule.specs.declared.views.Constants.{Constants}
use Rattle.prl_rule.specs.declared.views.Standing.{Standing}
use Rattle.prl_rule.specs.declared.views.TaskPart.{TaskPart}
use Rattle.prl_rule.specs.declared.views.View.{View}
use Rattle.prl_rule.proofs.Parts.{caught_ended, caught_open, part_there, set_found}

-- the part of a view with this part
pub part_is : (i : ℕ) (view : View) (p q : TaskPart) → get_elem? view.tasks i ≡ some (Some p) → part_of i (with_part i q view) ≡ q
part_is i view p q has = ap part_or (part_there (set view.tasks i (Some q)) i q (set_found view.tasks i (Some p) (Some q) has))

module _ (k : Constants) (i : ℕ) where
  -- a seat whose last step left this part
  pub fresh_at : (view : View) (p q : TaskPart) (place : ℕ) → view.constants ≡ Some k → get_elem? view.tasks i ≡ some (Some p) → q.stand.place ≡ place → IsAt k i place (with_part i q view)
  fresh_at view p q place known has at =
      let mine : part_of i (with_part i q view) ≡ q = part_is i view p q has in
      let same : (part_of i (with_part i q view)).stand.place ≡ place = ap (λ (r : TaskPart). r.stand.place) mine ∙ at in
      record {
        known = known;
        part = set_found view.tasks i (Some p) (Some q) has ∙ ap (λ (r : TaskPart). some (Some r)) (sym mine);
        past = omega (arith, same);
        read = record { opened = λ some_. absurd (omega (arith, some_, same)); constants = λ j below. absurd (omega (arith, below, same)) };
      }

  pub fresh_part : (view : View) (p q : TaskPart) (place : ℕ) → get_elem? view.tasks i ≡ some (Some p) → q.stand.place ≡ place → part_at k i place (with_part i q view) ≡ q
  fresh_part view p q place has at =
      let mine : part_of i (with_part i q view) ≡ q = part_is i view p q has in
      let same : (part_of i (with_part i q view)).stand.place ≡ place = ap (λ (r : TaskPart). r.stand.place) mine ∙ at in
      let none : place - (part_of i (with_part i q view)).stand.place ≡ 0 = omega (arith, same) in
      (λ h. caught_up (run_of k) (values_of k) i (none h) (mine h))

  pub follows_fresh : (view : View) (p q : TaskPart) (job place : ℕ) (stage : Stage) → view.constants ≡ Some k → get_elem? view.tasks i ≡ some (Some p) → i < (run_of k).tasks →
      q.stand.ended ≡ job → q.stand.place ≡ place → IsStage (run_of k) i job place q.stand.is_open stage → Follows k (with_part i q view) i job place stage
  follows_fresh view p q job place stage known has task ended at is =
      let same : part_at k i place (with_part i q view) ≡ q = fresh_part view p q place has at in
      record {
        at = fresh_at view p q place known has at;
        task = task;
        ended = ap (λ (r : TaskPart). r.stand.ended) same ∙ ended;
        stands = ap (λ (r : TaskPart). r.stand.place) same ∙ at;
        shown = subst (λ (r : TaskPart). IsStage (run_of k) i job place r.stand.is_open stage) (sym same) is;
      }

  -- a seat at the opening
  pub first_follows : (view : View) (stage : Stage) → HasFirstPart k i view → i < (run_of k).tasks → IsStage (run_of k) i 0 0 false stage → Follows k view i 0 0 stage
  first_follows view stage first task is =
      let mine : part_of i view ≡ first_part ((values_of k).registers i 0) = ap part_or (part_there view.tasks i (first_part ((values_of k).registers i 0)) first.part) in
      let place : (part_of i view).stand.place ≡ 0 = ap (λ (r : TaskPart). r.stand.place) mine in
      let none : 0 - (part_of i view).stand.place ≡ 0 = omega (arith, place) in
      let same : part_at k i 0 view ≡ first_part ((values_of k).registers i 0) = (λ h. caught_up (run_of k) (values_of k) i (none h) (mine h)) in
      record {
        at = record {
          known = first.known;
          part = first.part ∙ ap (λ (r : TaskPart). some (Some r)) (sym mine);
          past = omega (arith, place);
          read = record { opened = λ some_. absurd (omega (arith, some_, place)); constants = λ j below. absurd (omega (arith, below, place)) };
        };
        task = task;
        ended = ap (λ (r : TaskPart). r.stand.ended) same;
        stands = ap (λ (r : TaskPart). r.stand.place) same;
        shown = subst (λ (r : TaskPart). IsStage (run_of k) i 0 0 r.stand.is_open stage) (sym same) is;
      }

  -- whether a job is open is as it was before constants were read
  pub open_is : (place : ℕ) (view : View) → (part_at k i place view).stand.is_open ≡ (part_of i view).stand.is_open
  open_is place view = caught_open (run_of k) (values_of k) i (place - (part_of i view).stand.place) (part_of i view)

  -- where no constant was read, the part is that of the view
  first_part_is : (place : ℕ) (view : View) → place ≡ 0 → part_at k i place view ≡ part_of i view
  first_part_is place view none =
      let zero_ : place - (part_of i view).stand.place ≡ 0 = omega (arith, none) in
      ap (λ (n : ℕ). caught_up (run_of k) (values_of k) i n (part_of i view)) zero_

  pub is_job : (view : View) (job place : ℕ) (action : Action) → Follows k view i job place (stages.At action) → IsJob (run_of k) i job
  is_job view job place action f = record { task = f.task; job = f.shown.1 }

  pub stands_at : (view : View) (job place : ℕ) (action : Action) → Follows k view i job place (stages.At action) → StandsAt (run_of k) i (part_at k i place view).stand action
  stands_at view job place action f = record {
    opened = f.shown.0;
    next = (λ h. action_at (run_of k) i (f.ended h) (f.stands h)) ∙ f.shown.2;
  }

  -- after a load of `now`
  now_follows : (view after : View) (job place n : ℕ) (stage : Stage) → Follows k view i job place stages.Idle → NowTold k i view n after →
      IsStage (run_of k) i job place (nat_lt job ((run_of k).jobs i) && nat_le ((run_of k).release i job) n) stage → Follows k after i job place stage
  now_follows view after job place n stage f told is =
      let same : part_at k i place view ≡ part_of i view = first_part_is place view f.shown.2 in
      let ended : (part_of i view).stand.ended ≡ job = ap (λ (p : TaskPart). p.stand.ended) (sym same) ∙ f.ended in
      subst (λ (v : View). Follows k v i job place stage) (sym told.view)
      (follows_fresh view (part_of i view) (now_loaded (run_of k) i n (part_of i view)) job place stage f.at.known f.at.part f.task ended
      (ap (λ (p : TaskPart). p.stand.place) (sym same) ∙ f.stands)
      (subst (λ (z : ℕ). IsStage (run_of k) i job place (nat_lt z ((run_of k).jobs i) && nat_le ((run_of k).release i z) n) stage) (sym ended) is))

  both_tests : (a b : Bool) → a ≡ true → b ≡ true → a && b ≡ true
  both_tests a b p q = (λ h. p h && q h)

  second_test : (a b : Bool) → a ≡ true → b ≡ false → a && b ≡ false
  second_test a b p q = (λ h. p h && q h)

  lt_yes : (a b : ℕ) → a < b → nat_lt a b ≡ true
  lt_yes a b h = grind (arith, nat_tests)

  le_yes : (a b : ℕ) → a ≤ b → nat_le a b ≡ true
  le_yes a b h = grind (arith, nat_tests)

  le_no : (a b : ℕ) → b < a → nat_le a b ≡ false
  le_no a b h = grind (arith, nat_tests)

  pub early_follows : (view after : View) (job place n : ℕ) → Follows k view i job place stages.Idle → NowTold k i view n after → n < (run_of k).release i job →
      Follows k after i job place stages.Idle
  early_follows view after job place n f told early =
      now_follows view after job place n stages.Idle f told
      (second_test (nat_lt job ((run_of k).jobs i)) (nat_le ((run_of k).release i job) n) (lt_yes job ((run_of k).jobs i) f.shown.1) (le_no ((run_of k).release i job) n early), f.shown.1, f.shown.2)

  pub open_follows : (view after : View) (job place n : ℕ) → Follows k view i job place stages.Idle → NowTold k i view n after → (run_of k).release i job ≤ n →
      Follows k after i job place (stages.At (action_at (run_of k) i job 0))
  open_follows view after job place n f told released =
      now_follows view after job place n (stages.At (action_at (run_of k) i job 0)) f told (
        both_tests (nat_lt job ((run_of k).jobs i)) (nat_le ((run_of k).release i job) n) (lt_yes job ((run_of k).jobs i) f.shown.1) (le_yes ((run_of k).release i job) n released),
        f.shown.1,
        ap (action_at (run_of k) i job) f.shown.2,
      )

  -- after a load of a half
  pub found_follows : (view after : View) (job place word e m h : ℕ) (action : Action) → Follows k view i job place (stages.At action) → HalfTold k i place e m h view word after →
      word / 2 ^ 32 ≡ m + 1 → Follows k after i job (place + 1) (stages.At (action_at (run_of k) i job (place + 1)))
  found_follows view after job place word e m h action f told tag =
      let taken : half_loaded (run_of k) (values_of k) i h (m + 1) word (part_at k i place view) ≡ half_taken (run_of k) (values_of k) i h word (part_at k i place view) =
      ap (λ (b : Bool). cond b (half_taken (run_of k) (values_of k) i h word (part_at k i place view)) (half_missed h word (part_at k i place view))) (eq-eqb (word / 2 ^ 32) (m + 1) tag) in
      subst (λ (v : View). Follows k v i job (place + 1) (stages.At (action_at (run_of k) i job (place + 1)))) (sym (told.view ∙ ap (λ (q : TaskPart). with_part i q view) taken))
      (follows_fresh view (part_of i view) (half_taken (run_of k) (values_of k) i h word (part_at k i place view)) job (place + 1) (stages.At (action_at (run_of k) i job (place + 1)))
      f.at.known f.at.part f.task f.ended (ap (λ (n : ℕ). n + 1) f.stands) (f.shown.0, f.shown.1, refl))

  pub missed_follows : (view after : View) (job place word e m h : ℕ) (action : Action) → Follows k view i job place (stages.At action) → HalfTold k i place e m h view word after →
      (word / 2 ^ 32 ≡ m + 1 → ⊥) → Follows k after i job place (stages.At action)
  missed_follows view after job place word e m h action f told other =
      let missed : half_loaded (run_of k) (values_of k) i h (m + 1) word (part_at k i place view) ≡ half_missed h word (part_at k i place view) =
      ap (λ (b : Bool). cond b (half_taken (run_of k) (values_of k) i h word (part_at k i place view)) (half_missed h word (part_at k i place view))) (ne_eqb (word / 2 ^ 32) (m + 1) other) in
      subst (λ (v : View). Follows k v i job place (stages.At action)) (sym (told.view ∙ ap (λ (q : TaskPart). with_part i q view) missed))
      (follows_fresh view (part_of i view) (half_missed h word (part_at k i place view)) job place (stages.At action) f.at.known f.at.part f.task f.ended f.stands f.shown)

  -- after a step that leaves the task where it is
  pub stays_follows : (view after : View) (job place : ℕ) (stage : Stage) (q : TaskPart) → Follows k view i job place stage → after ≡ with_part i q view →
      q.stand ≡ (part_at k i place view).stand → Follows k after i job place stage
  stays_follows view after job place stage q f told same =
      subst (λ (v : View). Follows k v i job place stage) (sym told)
      (follows_fresh view (part_of i view) q job place stage f.at.known f.at.part f.task (ap (λ (x : Standing). x.ended) same ∙ f.ended) (ap (λ (x : Standing). x.place) same ∙ f.stands)
      (subst (λ (x : Standing). IsStage (run_of k) i job place x.is_open stage) (sym same) f.shown))

  -- after a store of a half
  pub write_follows : (view after : View) (job place : ℕ) (action : Action) → Follows k view i job place (stages.At action) → WriteTold k i place view after →
      Follows k after i job (place + 1) (stages.At (action_at (run_of k) i job (place + 1)))
  write_follows view after job place action f told =
      subst (λ (v : View). Follows k v i job (place + 1) (stages.At (action_at (run_of k) i job (place + 1)))) (sym told.view)
      (follows_fresh view (part_of i view) (half_stored (run_of k) (values_of k) i (part_at k i place view)) job (place + 1) (stages.At (action_at (run_of k) i job (place + 1)))
      f.at.known f.at.part f.task f.ended (ap (λ (n : ℕ). n + 1) f.stands) (f.shown.0, f.shown.1, refl))

  -- after a store of the done word
  pub end_follows : (view after : View) (job place : ℕ) (action : Action) (stage : Stage) → Follows k view i job place (stages.At action) → EndTold k i place view after →
      IsStage (run_of k) i (job + 1) 0 false stage → Follows k after i (job + 1) 0 stage
  end_follows view after job place action stage f told is =
      subst (λ (v : View). Follows k v i (job + 1) 0 stage) (sym told)
      (follows_fresh view (part_of i view) (done_counted (values_of k) i (part_at k i place view)) (job + 1) 0 stage
      f.at.known f.at.part f.task (ap (λ (n : ℕ). n + 1) f.ended) refl is)

  -- the part of a view that was given another part
  pub part_after : (view after : View) (q : TaskPart) → get_elem? view.tasks i ≡ some (Some (part_of i view)) → after ≡ with_part i q view → get_elem? after.tasks i ≡ some (Some (part_of i after))
  part_after view after q has same =
      subst (λ (v : View). get_elem? v.tasks i ≡ some (Some (part_of i v))) (sym same)
      (set_found view.tasks i (Some (part_of i view)) (Some q) has ∙ ap (λ (r : TaskPart). some (Some r)) (sym (part_is i view (part_of i view) q has)))

-- one constant more is read
caught_more : (c : RunConstants) (v : RunValues) (i count : ℕ) (p : TaskPart) → caught_up c v i (suc count) p ≡ moved_on c v i 0 (caught_up c v i count p)
caught_more c v i zero p = refl
caught_more c v i (suc count) p = caught_more c v i count (moved_on c v i 0 p)

module _ (k : Constants) (i : ℕ) where
  pub const_follows : (view : View) (job place port : ℕ) (value : Value) → Follows k view i job place (stages.At (actions.ReadConst port value)) →
      Follows k view i job (place + 1) (stages.At (action_at (run_of k) i job (place + 1)))
  const_follows view job place port value f =
      let past = f.at.past in
      let count : place + 1 - (part_of i view).stand.place ≡ suc (place - (part_of i view).stand.place) = omega (arith, past) in
      let next : part_at k i (place + 1) view ≡ moved_on (run_of k) (values_of k) i 0 (part_at k i place view) =
      ap (λ (n : ℕ). caught_up (run_of k) (values_of k) i n (part_of i view)) count ∙ caught_more (run_of k) (values_of k) i (place - (part_of i view).stand.place) (part_of i view) in
      let opened : (part_of i view).stand.is_open ≡ true = sym (open_is k i place view) ∙ f.shown.0 in
      let ended : (part_of i view).stand.ended ≡ job = sym (caught_ended (run_of k) (values_of k) i (place - (part_of i view).stand.place) (part_of i view)) ∙ f.ended in
      record {
        at = record {
          known = f.at.known;
          part = f.at.part;
          past = omega (arith, past);
          read = record {
            opened = λ some_. opened;
            constants = λ j below.
                elim (cases_lt j (place - (part_of i view).stand.place)) [
                  | inl earlier ↦ f.at.read.constants j earlier
                  | inr last ↦
                      (let here : (part_of i view).stand.place + j ≡ place = omega (arith, past, below, last) in
                      (port, value, (λ h. action_at (run_of k) i (ended h) (here h)) ∙ f.shown.2))
                ];
          };
        };
        task = f.task;
        ended = ap (λ (p : TaskPart). p.stand.ended) next ∙ f.ended;
        stands = ap (λ (p : TaskPart). p.stand.place) next ∙ ap (λ (n : ℕ). n + 1) f.stands;
        shown = (ap (λ (p : TaskPart). p.stand.is_open) next ∙ f.shown.0, f.shown.1, refl);
      }

  -- as many jobs have ended as before the constants were read
  pub ended_is : (place : ℕ) (view : View) → (part_of i view).stand.ended ≡ (part_at k i place view).stand.ended
  ended_is place view = sym (caught_ended (run_of k) (values_of k) i (place - (part_of i view).stand.place) (part_of i view))

-- an action that does not end its job is one of its list
pub place_inside : (list : List Action) (place : ℕ) → (get_or list place actions.End ≡ actions.End → ⊥) → place < length list
place_inside [] place more = absurd (more (none_at place))
  where
    none_at : (n : ℕ) → get_or {A = Action} [] n actions.End ≡ actions.End
    none_at zero = refl
    none_at (suc n) = refl
place_inside (x ∷ list) zero more = omega arith
place_inside (x ∷ list) (suc place) more = let rest = place_inside list place more in omega (arith, rest)

-- what is so for the constants of a view is so for any that it has
pub known_once : (view : View) (k : Constants) (P : Constants → Type 0) → view.constants ≡ Some k → P k → (other : Constants) → view.constants ≡ Some other → P other
known_once view k P known p other has = let same : Some k ≡ Some other = sym known ∙ has in subst P (cc same) p

-- what is known of a seat whose job stands so
pub record StandsSo (k : Constants) (s : JobSeatView) (so : Stage) : Type 0 where
  pub known : s.view.constants ≡ Some k
  pub part : HasPartOf s.task.0 s.view
  pub stage : s.stage ≡ so
  pub follows : Follows k s.view s.task.0 s.job s.place so

pub stands_so : {b : BoardView} {s t : JobSeatView} {stage : Stage} → s ≡ t → IsSeatOf b t →
    ((k : Constants) → s.view.constants ≡ Some k → HasPartOf s.task.0 s.view → Follows k s.view s.task.0 s.job s.place s.stage) → t.stage ≡ stage → StandsSo b.known s stage
stands_so {b = b} {s = s} {stage = stage} is seat stands at =
    let known : s.view.constants ≡ Some b.known = ap (λ (x : JobSeatView). x.view.constants) is ∙ seat.known in
    let part : HasPartOf s.task.0 s.view = subst (λ (x : JobSeatView). HasPartOf x.task.0 x.view) (sym is) seat.part in
    let same : s.stage ≡ stage = ap (λ (x : JobSeatView). x.stage) is ∙ at in
    record { known = known; part = part; stage = same; follows = subst (λ (z : Stage). Follows b.known s.view s.task.0 s.job s.place z) same (stands b.known known part) }

-- where it stands
pub stands_here : {b : BoardView} {s t : JobSeatView} → s ≡ t → IsSeatOf b t →
    ((k : Constants) → s.view.constants ≡ Some k → HasPartOf s.task.0 s.view → Follows k s.view s.task.0 s.job s.place s.stage) → StandsSo b.known s s.stage
stands_here is seat stands = stands_so is seat stands (sym (ap (λ (x : JobSeatView). x.stage) is))

pub stands_in : {k : Constants} {s : JobSeatView} {action : Action} → StandsSo k s (stages.At action) → StandsAt (run_of k) s.task.0 (part_at k s.task.0 s.place s.view).stand action
stands_in {k = k} {s = s} {action = action} at = stands_at k s.task.0 s.view s.job s.place action at.follows

-- it belongs to the board after a step
pub seat_after : {b : BoardView} {s t u : JobSeatView} (q : TaskPart) → s ≡ t → IsSeatOf b t → u.table ≡ s.table → u.task ≡ s.task → u.view ≡ with_part s.task.0 q s.view → IsSeatOf b u
seat_after {b = b} {s = s} {u = u} q is seat table task view = record {
  table = table ∙ ap (λ (x : JobSeatView). x.table) is ∙ seat.table;
  known = ap (λ (v : View). v.constants) view ∙ ap (λ (x : JobSeatView). x.view.constants) is ∙ seat.known;
  part = subst (λ (n : TaskNo). HasPartOf n.0 u.view) (sym task)
      (part_after b.known s.task.0 s.view u.view q (subst (λ (x : JobSeatView). HasPartOf x.task.0 x.view) (sym is) seat.part) view);
}

-- a seat that follows its view under one name of the run follows it under each
pub follows_on : {k : Constants} {u : View} {i job place : ℕ} {stage : Stage} → u.constants ≡ Some k → Follows k u i job place stage →
    (other : Constants) → u.constants ≡ Some other → HasPartOf i u → Follows other u i job place stage
follows_on {k = k} {u = u} {i = i} {job = job} {place = place} {stage = stage} known follows other has part =
    known_once u k (λ x. Follows x u i job place stage) known follows other has

-- the next action, as it was looked up
pub next_follows : {k : Constants} {u : View} {i job next : ℕ} {action : Action} (place : ℕ) → next ≡ place + 1 → action ≡ action_at (run_of k) i job next →
    Follows k u i job (place + 1) (stages.At (action_at (run_of k) i job (place + 1))) → Follows k u i job next (stages.At action)
next_follows {k = k} {u = u} {i = i} {job = job} {next = next} place here is follows =
    subst (λ (a : Action). Follows k u i job next (stages.At a)) (sym is)
    (subst (λ (n : ℕ). Follows k u i job n (stages.At (action_at (run_of k) i job n))) (sym here) follows)
