-- The rule grants each kind of step, and what the step tells.
use Rattle.std.proofs.Common.{◌≡◌, ℕ, ◌+◌, ◌-◌, ◌/◌, ◌^◌, ◌<◌, ◌≤◌, List, [], ◌∷◌, ◌++◌, get_or, refl, sym, ◌∙◌, subst, false, cond, eqb, Some}
use mathlib.Core.Option.{some}
use lib.ListN.{get_elem?}
use Rattle.atomic_table.specs.Table.{Me}
use Rattle.prl_base.specs.Values.{FitsValue}
use Rattle.prl_base.specs.declared.numbers.EdgeNo.{EdgeNo}
use Rattle.prl_plan.specs.declared.events.Action.TheVariants as actions
use Rattle.prl_plan.specs.Vocabulary.{IsJob, IsHorizon, IsPlan}
use Rattle.prl_plan.specs.declared.events.Event.{Event}
use Rattle.prl_plan.specs.declared.events.Event.TheVariants as events
use Rattle.prl_rule.specs.Vocabulary.{Constants, ClockPart, View, word_of, now_word, done_word, slot_word, stop_word, IsOverrun, Witness, run_of, values_of, AgreesWith, HasPart, StandsAt, acts}
use Rattle.prl_rule.specs.Vocabulary.{clock_stop_loaded, done_counted, half_loaded, half_stored, looked, now_loaded, part_raised, raised_by, stop_loaded, ticked, with_clock, with_part, ClockStopTold}
use Rattle.prl_rule.specs.Vocabulary.{EndTold, HalfTold, IsAt, IsStopFor, LookTold, NowTold, RaiseTold, StopTold, TickTold, WriteTold, part_at, part_of, PlanLaws}
use Rattle.prl_rule.specs.declared.views.Gate.TheVariants as gates
use Rattle.prl_rule.proofs.Allowed.{Grants, GrantsLoad}
use Rattle.prl_rule.proofs.Caught.{gated_law, inside_law, left_law, load_half_law, load_stop_law, raise_law, store_done_law, store_half_law, value_law}
use Rattle.prl_rule.proofs.ClockSteps.{look_finds_own, look_keeps, now_is_own, tick_keeps}
use Rattle.prl_rule.proofs.HalfSteps.{fits_loaded, found_loaded, half_of_loaded}
use Rattle.prl_rule.proofs.JobSteps.{load_now_keeps, load_now_tells}
use Rattle.prl_rule.proofs.Reading.{whole_read}
use Rattle.prl_rule.proofs.StopSteps.{clock_stop_keeps, stop_gated, stop_names, stop_not_none}
use Rattle.prl_rule.proofs.Telling.{count_in_jobs, found_is_written, now_in_end, word_is_own}

module _ (k : Constants) (laws : PlanLaws) (id : ℕ) (me : Me (Unit {0}) View) where
  pub grants_now : (i : ℕ) → get_elem? me.0.tasks i ≡ some (Some (part_of i me.0)) → (part_of i me.0).stand.is_open ≡ false →
      GrantsLoad k id me now_word (λ n. with_part i (now_loaded (run_of k) i n (part_of i me.0)) me.0) (λ n after. NowTold k i me.0 n after)
  grants_now i has shut w es words views a at = (
    w,
    es,
    load_now_keeps k (run_of k) (values_of k) w es words views id i me.0 (part_of i me.0) a at has shut,
    record {
      view = refl;
      rises = load_now_tells k (run_of k) (values_of k) w es words views id i me.0 (part_of i me.0) a at has;
      within = now_in_end k (run_of k) (values_of k) w es words views a;
      own = λ r clock. now_is_own k (run_of k) (values_of k) w es words views id me.0 r a at clock;
    },
  )

  -- the steps of a task's seat at a place
  module _ (i place : ℕ) (is : IsAt k i place me.0) where
    abbrev has_part : (views : List View) → get_elem? views id ≡ some me.0 → HasPart views id i me.0 (part_of i me.0)
    has_part views at = record { seat = at; part = is.part }

    pub grants_half : (port : ℕ) (e : EdgeNo) (m h : ℕ) → StandsAt (run_of k) i (part_at k i place me.0).stand (actions.Read port e m (record { 0 = h })) →
        GrantsLoad k id me (slot_word (run_of k) h) (λ n. with_part i (half_loaded (run_of k) (values_of k) i h (m + 1) n (part_at k i place me.0)) me.0) (λ n after. HalfTold k i place e.0 m h me.0 n after)
    grants_half port e m h stands w es words views a at =
        let inside : h < (run_of k).slots = inside_law k (run_of k) (values_of k) laws w es words views id i (place - (part_of i me.0).stand.place) me.0 (part_of i me.0) a (has_part views at) is.read port e m h stands in (
          w,
          es ++ (acts i (place - (part_of i me.0).stand.place) ++ (cond (eqb (get_or words (slot_word (run_of k) h) 0 / 2 ^ 32) (m + 1)) (acts i 1) [])),
          load_half_law k (run_of k) (values_of k) laws w es words views id i (place - (part_of i me.0).stand.place) me.0 (part_of i me.0) a (has_part views at) is.read port e m h stands,
          record {
            view = refl;
            found = found_loaded k (run_of k) (values_of k) w es words views h a inside;
            written = λ l tag. found_is_written k (run_of k) (values_of k) laws (laws.written (run_of k)) w es words views h l a inside tag;
            half = λ tag. (half_of_loaded k (run_of k) (values_of k) w es words views h m a inside tag, fits_loaded k (run_of k) (values_of k) w es words views h m a inside tag);
            value = λ tag odd. value_law k (run_of k) (values_of k) laws w es words views id i (place - (part_of i me.0).stand.place) me.0 (part_of i me.0) a (has_part views at) is.read port e m h stands tag odd;
            no_later = λ gate. gated_law k (run_of k) (values_of k) laws w es words views id i (place - (part_of i me.0).stand.place) me.0 (part_of i me.0) a (has_part views at) is.read port e m h gate stands;
            own = λ j q has writer. word_is_own k (run_of k) (values_of k) (laws.left (run_of k) a.facts) w es words views id j h me.0 q a at has writer inside;
          },
        )

    -- the same for each action that it can be
    pub grants_any_half : (port : ℕ) (e : EdgeNo) (m h : ℕ) → StandsAt (run_of k) i (part_at k i place me.0).stand (actions.Read port e m (record { 0 = h })) →
        GrantsLoad k id me (slot_word (run_of k) h) (λ n. with_part i (half_loaded (run_of k) (values_of k) i h (m + 1) n (part_at k i place me.0)) me.0)
        (λ n after. (port' : ℕ) (e' : EdgeNo) (m' h' : ℕ) → StandsAt (run_of k) i (part_at k i place me.0).stand (actions.Read port' e' m' (record { 0 = h' })) → HalfTold k i place e'.0 m' h' me.0 n after)
    grants_any_half port e m h stands w es words views a at =
        let r = grants_half port e m h stands w es words views a at in (
          r.0,
          r.1,
          r.2,
          (λ port' e' m' h' other.
              let same = whole_read port e m h port' e' m' h' (sym stands.next ∙ other.next) in
              let P : EdgeNo × (ℕ × ℕ) → Type 0 = λ z. HalfTold k i place z.0.0 z.1.0 z.1.1 me.0 (get_or words (slot_word (run_of k) h) 0)
              (with_part i (half_loaded (run_of k) (values_of k) i h (m + 1) (get_or words (slot_word (run_of k) h) 0) (part_at k i place me.0)) me.0) in
              subst P (λ x. (same.0 x, (same.1 x, same.2 x))) r.3),
        )

    pub grants_write : IsPlan k.plan → IsHorizon k.plan k.horizon → (e : EdgeNo) (m h : ℕ) → StandsAt (run_of k) i (part_at k i place me.0).stand (actions.Write e m (record { 0 = h })) → FitsValue ((values_of k).stored (h / 2) m) →
        Grants k id me (slot_word (run_of k) h) (λ n. word_of (values_of k) h (m + 1)) (λ n. with_part i (half_stored (run_of k) (values_of k) i (part_at k i place me.0)) me.0) (λ n after. WriteTold k i place me.0 after)
    grants_write whole horizon e m h stands fits w es words views a at = (
      w,
      es ++ (acts i (place - (part_of i me.0).stand.place) ++ acts i 1),
      store_half_law k (run_of k) (values_of k) laws w es words views id i (place - (part_of i me.0).stand.place) me.0 (part_of i me.0) a (has_part views at) is.read e m h stands fits,
      record {
        view = refl;
        replaces = λ e' m' slot next.
            left_law k (values_of k) laws whole horizon w es words views id i (place - (part_of i me.0).stand.place) me.0 (part_of i me.0) a (has_part views at) is.read e' m' slot
            (record { opened = stands.opened; next = next });
      },
    )

    pub grants_end : StandsAt (run_of k) i (part_at k i place me.0).stand actions.End →
        Grants k id me (done_word i) (λ n. (part_of i me.0).stand.ended + 1) (λ n. with_part i (done_counted (values_of k) i (part_at k i place me.0)) me.0) (λ n after. EndTold k i place me.0 after)
    grants_end stands w es words views a at = (
      w,
      es ++ (acts i (place - (part_of i me.0).stand.place) ++ acts i 1),
      store_done_law k (run_of k) (values_of k) laws w es words views id i (place - (part_of i me.0).stand.place) me.0 (part_of i me.0) a (has_part views at) is.read stands,
      refl,
    )

    pub grants_raise : IsOverrun (run_of k) i (part_at k i place me.0).stand (part_of i me.0).kept →
        Grants k id me (stop_word (run_of k)) (λ n. i + 1) (λ n. with_part i (part_raised (part_at k i place me.0)) me.0) (λ n after. RaiseTold k i place me.0 after)
    grants_raise over w es words views a at = (
      raised_by i w,
      es ++ acts i (place - (part_of i me.0).stand.place),
      raise_law k (run_of k) (values_of k) laws w es words views id i (place - (part_of i me.0).stand.place) me.0 (part_of i me.0) a (has_part views at) is.read over,
      refl,
    )

    pub grants_stop : GrantsLoad k id me (stop_word (run_of k)) (λ n. with_part i (stop_loaded n (part_at k i place me.0)) me.0) (λ n after. StopTold k i place me.0 n after)
    grants_stop w es words views a at = (
      w,
      es ++ acts i (place - (part_of i me.0).stand.place),
      load_stop_law k (run_of k) (values_of k) laws w es words views id i (place - (part_of i me.0).stand.place) me.0 (part_of i me.0) a (has_part views at) is.read,
      record { view = refl; word = stop_for w es words views a at },
    )
      where
        stop_for : (w : Witness) (es : List Event) (words : List ℕ) (views : List View) → AgreesWith k (run_of k) (values_of k) w es words views → get_elem? views id ≡ some me.0 →
            IsStopFor k me.0 (get_or words (stop_word (run_of k)) 0)
        stop_for w es words views a at = record {
          gated = λ gate. stop_gated k (run_of k) (values_of k) w es words views a gate;
          own = λ j p has raised. stop_not_none k (run_of k) (values_of k) w es words views id j me.0 p a at has raised;
          named = λ some_. let found = stop_names k (run_of k) (values_of k) w es words views a some_ in (found.0, found.1, found.2);
        }

  -- the steps of the clock's seat
  module _ (r : ClockPart) (clock : me.0.clock ≡ Some r) where
    pub grants_look : (i : ℕ) → i < (run_of k).tasks →
        GrantsLoad k id me (done_word i) (λ n. with_clock (looked i n r) me.0) (λ n after. LookTold k i r me.0 n after)
    grants_look i task w es words views a at = (
      w,
      es,
      look_keeps k (run_of k) (values_of k) w es words views id i me.0 r a at clock task,
      record {
        view = refl;
        counted = count_in_jobs k (run_of k) (values_of k) laws w es words views i a task;
        own = λ p has. look_finds_own k (run_of k) (values_of k) w es words views id i me.0 p a at has;
      },
    )

    pub grants_tick : r.now < (run_of k).end → (k.gate ≡ gates.Gated → (i n : ℕ) → IsJob (run_of k) i n → (run_of k).deadline i n ≤ r.now + 1 → n < get_or r.looks i 0) →
        Grants k id me now_word (λ n. r.now + 1) (λ n. with_clock (ticked r) me.0) (λ n after. TickTold r me.0 after)
    grants_tick before ended w es words views a at = (
      w,
      es ++ events.Tick ∷ [],
      tick_keeps k (run_of k) (values_of k) laws w es words views id me.0 r a at clock before ended,
      refl,
    )

    pub grants_clock_stop : GrantsLoad k id me (stop_word (run_of k)) (λ n. with_clock (clock_stop_loaded n r) me.0) (λ n after. ClockStopTold k r me.0 n after)
    grants_clock_stop w es words views a at = (
      w,
      es,
      clock_stop_keeps k (run_of k) (values_of k) w es words views id me.0 r a at clock,
      record {
        view = refl;
        word = record {
          gated = λ gate. stop_gated k (run_of k) (values_of k) w es words views a gate;
          own = λ j p has raised. stop_not_none k (run_of k) (values_of k) w es words views id j me.0 p a at has raised;
          named = λ some_. let found = stop_names k (run_of k) (values_of k) w es words views a some_ in (found.0, found.1, found.2);
        };
      },
    )

    -- the same for each part of the clock that the view has
    pub one_clock : (other : ClockPart) → me.0.clock ≡ Some other → r ≡ other
    one_clock other has = let same : Some r ≡ Some other = sym clock ∙ has in cc same

    pub grants_any_look : (i : ℕ) → i < (run_of k).tasks →
        GrantsLoad k id me (done_word i) (λ n. with_clock (looked i n r) me.0) (λ n after. (other : ClockPart) → me.0.clock ≡ Some other → LookTold k i other me.0 n after)
    grants_any_look i task w es words views a at =
        let g = grants_look i task w es words views a at in (
          g.0,
          g.1,
          g.2,
          (λ other has. subst (λ (z : ClockPart). LookTold k i z me.0 (get_or words (done_word i) 0) (with_clock (looked i (get_or words (done_word i) 0) r) me.0)) (one_clock other has) g.3),
        )

    pub grants_any_tick : r.now < (run_of k).end → (k.gate ≡ gates.Gated → (i n : ℕ) → IsJob (run_of k) i n → (run_of k).deadline i n ≤ r.now + 1 → n < get_or r.looks i 0) →
        Grants k id me now_word (λ n. r.now + 1) (λ n. with_clock (ticked r) me.0) (λ n after. (other : ClockPart) → me.0.clock ≡ Some other → TickTold other me.0 after)
    grants_any_tick before ended w es words views a at =
        let g = grants_tick before ended w es words views a at in (
          g.0,
          g.1,
          g.2,
          (λ other has. subst (λ (z : ClockPart). TickTold z me.0 (with_clock (ticked r) me.0)) (one_clock other has) g.3),
        )

    pub grants_any_clock_stop : GrantsLoad k id me (stop_word (run_of k)) (λ n. with_clock (clock_stop_loaded n r) me.0)
        (λ n after. (other : ClockPart) → me.0.clock ≡ Some other → ClockStopTold k other me.0 n after)
    grants_any_clock_stop w es words views a at =
        let g = grants_clock_stop w es words views a at in (
          g.0,
          g.1,
          g.2,
          (λ other has. subst (λ (z : ClockPart). ClockStopTold k z me.0 (get_or words (stop_word (run_of k)) 0) (with_clock (clock_stop_loaded (get_or words (stop_word (run_of k)) 0) r) me.0)) (one_clock other has) g.3),
        )
