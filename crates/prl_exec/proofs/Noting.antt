-- What one thread notes of the tasks that wait for the clock.
use Rattle.prl_base.proofs.Standard.{◌≡◌, ◌+◌, ◌<◌, ◌≤◌, ◌++◌, ℕ, List, [], ◌∷◌, length, length-append, set, refl, sym, ◌∙◌, ap, subst, arith, inl, inr, Some, slice_get, slice_index, cases_eq, get_or-set_at, get_or-set_other, get_or-replicate, replicate}
use Rattle.prl_plan.specs.Vocabulary.{KeepsGated, RunConstants, ExecState, opening, next_action}
use Rattle.prl_plan.specs.declared.events.Event.{Event}
use Rattle.prl_plan.specs.declared.events.Event.TheVariants as events
use Rattle.prl_rule.specs.Rule.{reached}
use Rattle.prl_rule.specs.declared.views.ClockPart.{ClockPart}
use Rattle.prl_seats.specs.JobSeats.{JobSeatView}
use Rattle.prl_board.specs.Lones.{LoneView}
use Rattle.prl_exec.specs.Vocabulary.{AreNoted, HasRunOn, HasTurned, KeepsNoted, RunLaws, RunsOn, StandsIn, Sweeps, act_of}
use Rattle.prl_exec.proofs.Standing.{else_stays}
use Rattle.prl_board.proofs.Lists.{seat_there}

module _ (c : RunConstants) (laws : RunLaws c) where
  -- an act leaves how many jobs of the other tasks have ended
  act_leaves : (list : List Event) (i j : ℕ) → (j ≡ i → ⊥) → slice_index (reached c (list ++ act_of i ∷ [])).ended j ≡ slice_index (reached c list).ended j
  act_leaves list i j ne =
      ap (λ (x : ExecState). slice_index x.ended j) (laws.state (opening c) list (act_of i ∷ [])) ∙ (else_stays c laws (reached c list) i j (next_action c (reached c list) i) ne).0

  -- one action more of task i
  pub run_once : (i : ℕ) (l m : LoneView) (r : ClockPart) (list : List Event) (n : ℕ) (so_far : RunsOn c i l r list n) → StandsIn c m r (so_far.after ++ act_of i ∷ []) → RunsOn c i m r list (n + 1)
  run_once i l m r list n so_far did = record {
    after = so_far.after ++ act_of i ∷ [];
    count = (let long = length-append so_far.after (act_of i ∷ []) in let count = so_far.count in omega (arith, long, count));
    same = λ z. absurd (omega (arith, z));
    stands = did;
    others = λ j ne. act_leaves so_far.after i j ne ∙ so_far.others j ne;
  }

  -- a tick ends no job
  pub noted_on : (list : List Event) (until : List ℕ) (soon : ℕ) → KeepsNoted c until soon (reached c list) → KeepsNoted c until soon (reached c (list ++ events.Tick ∷ []))
  noted_on list until soon noted = subst (KeepsNoted c until soon) (sym (laws.state (opening c) list (events.Tick ∷ []))) noted

-- at first nothing is known
pub none_noted : (c : RunConstants) (s : ExecState) (until : List ℕ) (soon : ℕ) → until ≡ replicate c.tasks 0 → soon ≡ 0 → KeepsNoted c until soon s
none_noted c s until soon zeros zero = (
  (λ i task left.
      (let z = ap (λ (xs : List ℕ). slice_index xs i) zeros in let none : slice_index (replicate c.tasks 0) i ≡ 0 = get_or-replicate c.tasks i 0 0 task in omega (arith, z, none))),
  (λ i task. omega (arith, zero)),
)

-- task i has done what it could, as a poll tells
pub stops_there : (c : RunConstants) (i : ℕ) (l m : LoneView) (r : ClockPart) (list : List Event) (n : ℕ) (so_far : RunsOn c i l r list n) →
    StandsIn c m r so_far.after × (KeepsGated c (reached c so_far.after) (act_of i) → ⊥) → HasRunOn c i m r list n
stops_there c i l m r list n so_far now = record {
  runs = record { after = so_far.after; count = so_far.count; same = so_far.same; stands = now.0; others = so_far.others };
  none = λ z keeps. now.1 (subst (λ (x : List Event). KeepsGated c (reached c x) (act_of i)) (sym (so_far.same z)) keeps);
}

-- or not yet
pub stops_so : (c : RunConstants) (i : ℕ) (l : LoneView) (r : ClockPart) (list : List Event) (n : ℕ) → 1 ≤ n → RunsOn c i l r list n → HasRunOn c i l r list n
stops_so c i l r list n some runs = record { runs = runs; none = λ z. absurd (omega (arith, z, some)) }

pub none_yet : (c : RunConstants) (i : ℕ) (l : LoneView) (r : ClockPart) (list : List Event) → StandsIn c l r list → RunsOn c i l r list 0
none_yet c i l r list stands = record { after = list; count = omega arith; same = λ z. refl; stands = stands; others = λ j ne. refl }

-- a task that waits for the clock has no turn
pub waits : (c : RunConstants) (i : ℕ) (l : LoneView) (r : ClockPart) (list : List Event) (until : List ℕ) (now at : ℕ) → StandsIn c l r list → now ≡ r.now → AreNoted c until (reached c list) →
    slice_index until i ≡ at → now < at → HasTurned c i l r list until until 0
unfolding none_yet
waits c i l r list until now at stands same noted is before = record {
  runs = record {
    runs = none_yet c i l r list stands;
    none = λ z keeps.
        (let wait = noted i keeps.0.task keeps.0.job in let released = keeps.1 in let clock = stands.now in omega (arith, wait, released, clock, same, is, before));
  };
  noted = noted;
  rest = λ j ne. refl;
}

-- what is noted of task i after its turn
pub turned : (c : RunConstants) (i : ℕ) (l m : LoneView) (r : ClockPart) (list : List Event) (until : List ℕ) (at n : ℕ) → i < length until → i < length m.seats → AreNoted c until (reached c list) →
    HasRunOn c i m r list n → ((s : JobSeatView) → slice_get m.seats i ≡ Some s → s.job < c.jobs i → at ≡ c.release i s.job) → HasTurned c i m r list until (set until i at) n
turned c i l m r list until at n inside seat noted runs next = record {
  runs = runs;
  noted = λ j task left. elim (cases_eq j i) [
    | inl here ↦
        (let there = seat_there m.seats i seat in
        let is = (runs.runs.stands.each i there.0 there.1).job in
        let P : ℕ → Type 0 = λ x. slice_index (reached c runs.runs.after).ended x < c.jobs x in
        let own = subst P here left in
        let rel = next there.0 there.1 (omega (arith, is, own)) in
        let e = ap (c.release i) is in
        let now : at ≤ c.release i (slice_index (reached c runs.runs.after).ended i) = omega (arith, rel, e) in
        let put = get_or-set_at until i j at 0 here inside in
        let Q : ℕ → Type 0 = λ x. at ≤ c.release x (slice_index (reached c runs.runs.after).ended x) in
        let goal = subst Q (sym here) now in
        omega (arith, put, goal))
    | inr other ↦
        (let stays = runs.runs.others j other in
        let put = get_or-set_other until i j at 0 other in
        let was = noted j task (omega (arith, stays, left)) in
        let e = ap (c.release j) stays in
        omega (arith, put, was, e))
  ];
  rest = λ j ne. get_or-set_other until i j at 0 ne;
}

-- no task had its turn yet
pub none_swept : (c : RunConstants) (l : LoneView) (r : ClockPart) (list : List Event) (until : List ℕ) (soon : ℕ) → StandsIn c l r list → AreNoted c until (reached c list) → Sweeps c l r list until soon 0 0
none_swept c l r list until soon stands noted = record {
  after = list;
  count = omega arith;
  same = λ z. refl;
  stands = stands;
  noted = noted;
  least = λ j below. absurd (omega (arith, below));
  none = λ z j below. absurd (omega (arith, below));
}

-- one task more
pub swept_on : (c : RunConstants) (l m : LoneView) (r : ClockPart) (list : List Event) (before after : List ℕ) (soon next at i n more : ℕ) (so_far : Sweeps c l r list before soon n i) →
    HasTurned c i m r so_far.after before after more → slice_index after i ≡ at → next ≤ soon → next ≤ at → Sweeps c m r list after next (n + more) (i + 1)
swept_on c l m r list before after soon next at i n more so_far turn is below_soon below_at = record {
  after = turn.runs.runs.after;
  count = (let a = so_far.count in let b = turn.runs.runs.count in omega (arith, a, b));
  same = λ z. turn.runs.runs.same (omega (arith, z)) ∙ so_far.same (omega (arith, z));
  stands = turn.runs.runs.stands;
  noted = turn.noted;
  least = λ j below. elim (cases_eq j i) [
    | inl here ↦ (let e = ap (slice_index after) here in omega (arith, e, is, below_at))
    | inr other ↦ (let e = turn.rest j other in let w = so_far.least j (omega (arith, below, other)) in omega (arith, e, w, below_soon))
  ];
  none = λ z j below keeps. elim (cases_eq j i) [
    | inl here ↦
        turn.runs.none (omega (arith, z))
        (let P : List Event × ℕ → Type 0 = λ x. KeepsGated c (reached c x.0) (act_of x.1) in subst P (λ h. (sym (so_far.same (omega (arith, z))) h, here h)) keeps)
    | inr other ↦ so_far.none (omega (arith, z)) j (omega (arith, below, other)) keeps
  ];
}

-- where all tasks wait for the clock
pub all_wait : (c : RunConstants) (l : LoneView) (r : ClockPart) (list : List Event) (until : List ℕ) (soon now : ℕ) → StandsIn c l r list → now ≡ r.now → KeepsNoted c until soon (reached c list) →
    now < soon → Sweeps c l r list until soon 0 c.tasks
all_wait c l r list until soon now stands same noted before = record {
  after = list;
  count = omega arith;
  same = λ z. refl;
  stands = stands;
  noted = noted.0;
  least = noted.1;
  none = λ z j below keeps.
      (let wait = noted.0 j below keeps.0.job in let least = noted.1 j below in let released = keeps.1 in let clock = stands.now in
      omega (arith, wait, least, released, clock, same, before));
}
