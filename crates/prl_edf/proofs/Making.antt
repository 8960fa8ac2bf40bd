-- The pieces of a run while it is made.
use Rattle.prl_base.proofs.Standard.{◌≡◌, ◌+◌, ◌-◌, ◌<◌, ◌≤◌, ℕ, List, [], length, set, min, Option, Some, None, inl, inr, refl, sym, subst, arith, MatchOption, cases_lt}
use Rattle.prl_plan.specs.Vocabulary.{HasPlanFacts, RunConstants}
use Rattle.prl_edf.specs.Vocabulary.{AreUnits, IsPlainRun, IsFirstMiss, IsFeasibleRun, run_of, AreLongest, Piece, Rest, Ready, Choice, Extends, EndBy, IsFirstReady, NoneReady, IsChoice, IsRestOf}
use Rattle.prl_edf.specs.Vocabulary.{IsDoneTask, IsRestAfter, AreRests, IsMaking}
use Rattle.prl_edf.proofs.Going.{before_next, idle_goes_on, run_is_whole, goes_on, rest_shorter, rest_next, is_first_miss}
use Rattle.prl_edf.proofs.OneRun.{plain_agrees}
use Rattle.prl_edf.proofs.PieceLists.{end_later}

module _ (c : RunConstants) (facts : HasPlanFacts c) (units : ℕ → ℕ → ℕ) where
  pub begins : (cost : ℕ → ℕ → ℕ) → AreUnits c cost units → (rests : List (Option Rest)) → AreRests c units (run_of []) 0 rests → IsMaking c units [] 0 rests
  begins cost are rests kept = record {
    going = record {
      kept_rests = kept;
      plain = record {
        ready = λ t i n early. absurd (omega (arith, early));
        earliest = λ t i n j k early. absurd (omega (arith, early));
        lowest = λ t i n j k early. absurd (omega (arith, early));
        busy = λ t j k early. absurd (omega (arith, early));
        rest = λ t _. refl;
      };
      within = omega arith;
      kept = λ i n job some. omega arith;
      met = λ i n job all. absurd (let h = (are i n job).0 in omega (arith, h, all));
    };
    longest = tt;
    ended = tt;
  }

  module _ (pieces : List Piece) (now : ℕ) (rests : List (Option Rest)) (making : IsMaking c units pieces now rests) (choice : Choice) (chosen : IsChoice rests now c.end c.tasks choice) where
    pub none_chosen : choice.ready ≡ None → NoneReady rests now c.tasks
    none_chosen is = subst (λ (o : Option Ready). MatchOption o (NoneReady rests now c.tasks) (IsFirstReady rests now c.tasks)) is chosen.ready

    pub first_chosen : (ready : Ready) → choice.ready ≡ Some ready → IsFirstReady rests now c.tasks ready
    first_chosen ready is = subst (λ (o : Option Ready). MatchOption o (NoneReady rests now c.tasks) (IsFirstReady rests now c.tasks)) is chosen.ready

    pub waits : choice.ready ≡ None → (choice.next ≡ c.end → ⊥) → (now < choice.next) × IsMaking c units pieces choice.next rests
    waits none more =
        let later : now < choice.next = elim chosen.later [ inl last ↦ absurd (more last) | inr later ↦ later ] in (
          later,
          record {
            going = idle_goes_on c facts units (run_of pieces) now rests making.going choice chosen (none_chosen none) later;
            longest = making.longest;
            ended = end_later pieces now choice.next (omega (arith, later)) making.ended;
          },
        )

    pub is_whole : choice.ready ≡ None → choice.next ≡ c.end → IsFeasibleRun c units (record { pieces = pieces })
    is_whole none over =
        let whole = run_is_whole c facts units (run_of pieces) now rests making.going choice chosen (none_chosen none) over in
        record { longest = making.longest; plain = whole.0; met = whole.1 }

    module _ (ready : Ready) (is : choice.ready ≡ Some ready) where
      pub misses : ready.rest.deadline ≤ now → (run : ℕ → Option (ℕ × ℕ)) → IsPlainRun c units run → IsFirstMiss c units run ready.task.0 ready.rest.job
      misses late run whole =
          is_first_miss c facts units (run_of pieces) now rests making.going choice chosen ready (first_chosen ready is) late run whole
          (plain_agrees c facts units (run_of pieces) run now making.going.within making.going.plain whole)

      pub some_time : now < ready.rest.deadline → now < choice.next
      some_time early = before_next c facts units (run_of pieces) now rests making.going choice chosen ready (first_chosen ready is) early

      pub works : (had : ℕ) → 1 ≤ had → now + had ≤ choice.next → now + had ≤ ready.rest.deadline → had ≤ ready.rest.units → (next : List Piece) →
          Extends (run_of pieces) (run_of next) now (now + had) (Some (ready.task.0, ready.rest.job)) → AreLongest next → EndBy next (now + had) →
          (left : Option Rest) → IsRestAfter c units ready had left → IsMaking c units next (now + had) (set rests ready.task.0 left)
      works had some in_next in_window no_more next ext longest ended left after =
          let first = first_chosen ready is in
          let to : ℕ = now + had in
          let more : now < to = omega (arith, some) in
          let few : to ≤ now + ready.rest.units = omega (arith, no_more) in
          let kept : MatchOption left (IsDoneTask c units (run_of next) to ready.task.0) (IsRestOf c units (run_of next) to ready.task.0) =
          elim (cases_lt had ready.rest.units) [
            | inl less ↦ subst (λ (o : Option Rest). MatchOption o (IsDoneTask c units (run_of next) to ready.task.0) (IsRestOf c units (run_of next) to ready.task.0))
                (sym (after.some less))
                (rest_shorter c facts units (run_of pieces) now rests making.going choice chosen ready first to more in_next in_window few (run_of next) ext
                (ready.rest.units - had) (omega (arith, less)) (omega (arith, less)))
            | inr whole ↦ rest_next c facts units (run_of pieces) now rests making.going choice chosen ready first to more in_next in_window few (run_of next) ext
                (omega (arith, whole, no_more)) left (after.all (omega (arith, whole, no_more)))
          ] in
          record {
            going = goes_on c facts units (run_of pieces) now rests making.going choice chosen ready first to more in_next in_window few (run_of next) ext left kept;
            longest = longest;
            ended = ended;
          }

-- a choice among all tasks that are kept
pub of_all : (given kept : List (Option Rest)) (now end tasks : ℕ) (choice : Choice) → given ≡ kept → length kept ≡ tasks → IsChoice given now end (length given) choice →
    IsChoice kept now end tasks choice
of_all given kept now end tasks choice same long is =
    subst (λ (n : ℕ). IsChoice kept now end n choice) long (subst (λ (xs : List (Option Rest)). IsChoice xs now end (length xs) choice) same is)

-- what is had of a window: at least one tick, and within each bound
pub record IsHad (now deadline next units limit had : ℕ) : Type 0 where
  pub some : 1 ≤ had
  pub in_next : now + had ≤ next
  pub in_window : now + had ≤ deadline
  pub no_more : had ≤ units

pub had_well : (now deadline next units limit had : ℕ) → limit ≡ min deadline next → had ≡ min units (limit - now) → now < deadline → now < next → 1 ≤ units →
    IsHad now deadline next units limit had
had_well now deadline next units limit had is then early open_yet some = record {
  some = omega (arith, is, then, early, open_yet, some);
  in_next = omega (arith, is, then, early, open_yet, some);
  in_window = omega (arith, is, then, early, open_yet, some);
  no_more = omega (arith, is, then);
}
