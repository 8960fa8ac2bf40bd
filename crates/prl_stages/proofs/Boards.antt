-- A closed board on which every job of the horizon has ended, and which shows what the actuators got.
use Rattle.prl_base.proofs.Standard.{◌≡◌, ◌<◌, ◌≤◌, ◌+◌, ◌++◌, ◌↔◌, ℕ, zero, suc, List, [], ◌∷◌, length, map, get_or, false, Option, Some, refl, sym, ap, ◌∙◌, subst, arith, pos, slice_get}
use Rattle.prl_base.proofs.Standard.{length-append, length-map-range_with_len}
use Rattle.prl_base.proofs.Standard.{unwrap_or, range_with_len, get_or_from_slice_get, slice_get-get_or, slice_get_within}
use Rattle.prl_base.specs.Values.{type_of}
use Rattle.prl_base.specs.declared.values.Value.{Value}
use Rattle.prl_base.specs.declared.values.Value.TheVariants as values
use Rattle.prl_board.specs.Closings.{AreOutputs as AreRead, ClosedView, IsClosed, IsLastState}
use Rattle.prl_core.specs.Cores.{AreOutputs}
use Rattle.prl_exec.specs.Runs.{HasEnded}
use Rattle.prl_flow.specs.declared.programs.OutFlow.{OutFlow}
use Rattle.prl_plan.specs.Vocabulary.{is_actuator, IsHorizonJob, job_count, task_at, IsPlan, edge_at, no_edge, IsComplete, IsGated, ExecState, opening}
use Rattle.prl_plan.specs.declared.events.Event.{Event}
use Rattle.prl_plan.specs.declared.graphs.Kind.{Kind}
use Rattle.prl_plan.specs.declared.graphs.Kind.TheVariants as kinds
use Rattle.prl_plan.proofs.RoundPeriods.{task_is}
use Rattle.prl_replay.specs.Replays.{AddsFlow, AreFlowsBelow}
use Rattle.prl_replay.specs.Shown.{AddsShown, AreShown, AreShownBelow, core_in}
use Rattle.prl_rule.specs.Vocabulary.{job_values_of, reached, run_of, slot_word, values_of, spent, word_count, word_of}
use Rattle.prl_rule.specs.declared.views.Constants.{Constants}
use Rattle.prl_seats.specs.declared.jobs.Stage.TheVariants as seat_stages
use Rattle.prl_seats.specs.JobSeats.{IsStage, JobSeatView}
use Rattle.prl_values.specs.JobValues.{reads_of_job, value_on}
use Rattle.prl_values.proofs.PortReads.{read_at_port}
use Rattle.prl_stages.proofs.LastStates.{gated_is_free}

some_inner : {A : Type 0} (x y : A) → Some x ≡ Some y → x ≡ y
some_inner x y e = cc

counted_word : (f : ℕ → ℕ) (s n i : ℕ) (rest : List ℕ) → i < n → get_or (map f (range_with_len s n) ++ rest) i 0 ≡ f (s + i)
counted_word f s zero i rest below = absurd (omega (arith, below))
counted_word f s (suc n) zero rest below = let e : s ≡ s + 0 = omega arith in ap f e
counted_word f s (suc n) (suc i) rest below =
    let e : (s + 1) + i ≡ s + suc i = omega arith in
    counted_word f (s + 1) n i rest (omega (arith, below)) ∙ ap f e

-- the words behind those
word_behind : (f : ℕ → ℕ) (s n i at : ℕ) (rest : List ℕ) → at ≡ n + i → get_or (map f (range_with_len s n) ++ rest) at 0 ≡ get_or rest i 0
word_behind f s zero i at rest is = (let e : at ≡ i = omega (arith, is) in ap (λ m. get_or rest m 0) e)
word_behind f s (suc n) i zero rest is = absurd (omega (arith, is))
word_behind f s (suc n) i (suc at) rest is = word_behind f (s + 1) n i at rest (omega (arith, is))

counted_seat : (f : ℕ → JobSeatView) (s n i : ℕ) (x : JobSeatView) → slice_get (map f (range_with_len s n)) i ≡ Some x → x ≡ f (s + i)
counted_seat f s zero i x at = absurd (cc)
counted_seat f s (suc n) zero x at = let e : s ≡ s + 0 = omega arith in sym (some_inner (f s) x at) ∙ ap f e
counted_seat f s (suc n) (suc i) x at =
    let e : (s + 1) + i ≡ s + suc i = omega arith in
    counted_seat f (s + 1) n i x at ∙ ap f e

-- what an actuator's jobs have read, by the jobs' reads
read_by_jobs : (k : Constants) (i jobs : ℕ) (column : List Value) → length column ≡ jobs
    → ((n : ℕ) → n < jobs → slice_get column n ≡ slice_get (reads_of_job k.plan.graph (job_values_of k) i n) 0) → AreRead k i jobs column
unfolding values_of
read_by_jobs k i jobs column count each = record { count = count; each = each }

module _ (k : Constants) (s : ExecState) where
  -- the seat of a task that has ended all its jobs
  abbrev ended_seat : ℕ → JobSeatView
  ended_seat i = record {
    table = record { words = 0; slots = 0; views_name = 0; atom = 0; block = 0; offset = 0; slot_names = [] };
    id = 0;
    view = spent;
    task = record { 0 = i };
    job = (run_of k).jobs i;
    place = 0;
    stage = seat_stages.Over;
  }

  abbrev half_word : ℕ → ℕ
  half_word slot = word_of (values_of k) slot (get_or s.tags slot 0)

  -- the words behind that of `now`: the done words, the halves of the cells, and the stop word
  abbrev words_behind : List ℕ
  words_behind = map half_word (range_with_len 0 (run_of k).slots) ++ 0 ∷ []

  abbrev done_words : List ℕ
  done_words = map (run_of k).jobs (range_with_len 0 (length k.plan.graph.tasks)) ++ words_behind

  -- the words of a run that has come to its end
  abbrev ended_words : List ℕ
  ended_words = s.now ∷ done_words

  abbrev ended_seats : List JobSeatView
  ended_seats = map ended_seat (range_with_len 0 (length k.plan.graph.tasks))

  abbrev pub board : ClosedView
  board = record { constants = Some k; words = ended_words; seats = ended_seats }

  done_there : (j : ℕ) → j < length k.plan.graph.tasks → get_or ended_words (1 + j) 0 ≡ (run_of k).jobs j
  done_there j inside =
      let e : 1 + j ≡ suc j = omega arith in
      let plain : 0 + j ≡ j = omega arith in
      ap (λ m. get_or ended_words m 0) e ∙ counted_word (run_of k).jobs 0 (length k.plan.graph.tasks) j words_behind inside ∙ ap (run_of k).jobs plain

  half_there : (slot : ℕ) → slot < (run_of k).slots → get_or ended_words (slot_word (run_of k) slot) 0 ≡ half_word slot
  half_there slot inside =
      let e : slot_word (run_of k) slot ≡ suc (length k.plan.graph.tasks + slot) = omega arith in
      let plain : 0 + slot ≡ slot = omega arith in
      ap (λ m. get_or ended_words m 0) e
      ∙ word_behind (run_of k).jobs 0 (length k.plan.graph.tasks) slot (length k.plan.graph.tasks + slot) words_behind refl
      ∙ counted_word half_word 0 (run_of k).slots slot (0 ∷ []) inside ∙ ap half_word plain

  wide : length ended_words ≡ word_count (run_of k)
  wide =
      let all = length-append (map (run_of k).jobs (range_with_len 0 (length k.plan.graph.tasks))) words_behind in
      let rest = length-append (map half_word (range_with_len 0 (run_of k).slots)) (0 ∷ []) in
      let tasks = length-map-range_with_len (run_of k).jobs 0 (length k.plan.graph.tasks) in
      let slots = length-map-range_with_len half_word 0 (run_of k).slots in
      omega (arith, all, rest, tasks, slots)

  as_many : length ended_seats ≡ length k.plan.graph.tasks
  as_many = length-map-range_with_len ended_seat 0 (length k.plan.graph.tasks)

  seat_is : (i : ℕ) (x : JobSeatView) → slice_get ended_seats i ≡ Some x → x ≡ ended_seat i
  seat_is i x at =
      let plain : 0 + i ≡ i = omega arith in
      counted_seat ended_seat 0 (length k.plan.graph.tasks) i x at ∙ ap ended_seat plain

  complete_here : (t : ExecState) → IsLastState k ended_words ended_seats t → IsComplete (run_of k) t
  complete_here t last j n inside below =
      let done = last.done j inside in
      let word = done_there j inside in
      omega (arith, below, done, word)

  pub has_ended : HasEnded board
  has_ended other t same last =
      subst (λ (x : Constants). (u : ExecState) → IsLastState x ended_words ended_seats u → IsComplete (run_of x) u) (some_inner k other same) complete_here t last

  -- it is closed, where the state is that of a whole gated list
  module _ (list : List Event) (gated : IsGated (run_of k) (opening (run_of k)) list) (state : s ≡ reached (run_of k) list)
      (ended : (i : ℕ) → i < length k.plan.graph.tasks → get_or s.ended i 0 ≡ (run_of k).jobs i)
      (shut : (i : ℕ) → i < length k.plan.graph.tasks → get_or s.places i 0 ≡ 0) where
    last_state : IsLastState k ended_words ended_seats s
    last_state = record {
      events = list;
      free = gated_is_free (run_of k) (opening (run_of k)) list gated;
      gated = λ under. gated;
      state = state;
      now = refl;
      done = λ i inside. done_there i inside ∙ sym (ended i inside);
      half = λ slot inside. half_there slot inside;
      each = λ i x at.
          let inside : i < length k.plan.graph.tasks = (let n = as_many in let m = slice_get_within ended_seats i x at in omega (arith, n, m)) in (
            ap (λ (y : JobSeatView). y.job) (seat_is i x at) ∙ sym (ended i inside),
            ap (λ (y : JobSeatView). y.place) (seat_is i x at) ∙ sym (shut i inside),
          );
    }

    pub is_closed : IsClosed k board.words board.seats
    is_closed = record {
      wide = wide;
      tasks = as_many;
      each = λ i x at.
          let is = seat_is i x at in
          let job : x.job ≡ (run_of k).jobs i = ap (λ (y : JobSeatView). y.job) is in (
            ap (λ (y : JobSeatView). y.task) is,
            omega (arith, job),
            (
              false,
              subst (λ (y : JobSeatView). IsStage (run_of k) i y.job y.place false y.stage) (sym is) (refl, omega arith, refl),
            ),
          );
      last = (s, last_state);
    }

  module _ (is_plan : IsPlan k.plan)
      (counted : (i n : ℕ) → i < length k.plan.graph.tasks → 0 < (task_at k.plan.graph i).clock.period →
      IsHorizonJob k.plan.graph k.horizon.until i n ↔ (n < job_count (task_at k.plan.graph i) k.horizon.until))
      (typed : (e n : ℕ) → e < length k.plan.graph.edges → IsHorizonJob k.plan.graph k.horizon.until (edge_at k.plan.graph e).to.0 n →
      (value : Value) × (value_on (job_values_of k) (edge_at k.plan.graph e) n ≡ Some value) × (type_of value ≡ (edge_at k.plan.graph e).ty))
      (all_ended : (i : ℕ) → i < length k.plan.graph.tasks → get_or s.ended i 0 ≡ job_count (task_at k.plan.graph i) k.horizon.until) where
    column_is : (i a : ℕ) → i < length k.plan.graph.tasks → (task_at k.plan.graph i).kind ≡ kinds.Actuator a → (column : List Value) → AreOutputs (core_in k s) i column
        → AreRead k i ((run_of k).jobs i) column
    column_is i a inside kind column are = read_by_jobs k i ((run_of k).jobs i) column (are.ended ∙ all_ended i inside) each
      where
        each : (n : ℕ) → n < (run_of k).jobs i → slice_get column n ≡ slice_get (reads_of_job k.plan.graph (job_values_of k) i n) 0
        each n below =
            let whole = all_ended i inside in
            let port = is_plan.graph.actuators i inside (ap is_actuator kind) in
            let e : ℕ = port.one.0 in
            let there : e < length k.plan.graph.edges = slice_get_within k.plan.graph.edges e port.one.1 port.one.2 in
            let stands = slice_get-get_or k.plan.graph.edges e no_edge there in
            let to : (edge_at k.plan.graph e).to.0 ≡ i =
            ap (λ x. x.to.0) (get_or_from_slice_get k.plan.graph.edges e port.one.1 no_edge port.one.2) ∙ port.one.3 in
            let only : (edge_at k.plan.graph e).port ≡ 0 = port.only e (edge_at k.plan.graph e) stands to in
            let period = (task_is k.plan.graph is_plan.graph i inside).period in
            let job : IsHorizonJob k.plan.graph k.horizon.until i n = (counted i n inside (omega (arith, period.0))).1 below in
            let has = typed e n there (subst (λ (j : ℕ). IsHorizonJob k.plan.graph k.horizon.until j n) (sym to) job) in
            are.each e n there to (omega (arith, below, whole))
            ∙ has.1 ∙ sym (ap (λ (o : Option Value). Some (unwrap_or o (values.Int (pos 0)))) has.1)
            ∙ sym (read_at_port (job_values_of k) i n k.plan.graph.edges is_plan.graph.order e (edge_at k.plan.graph e) stands to)
            ∙ ap (slice_get (reads_of_job k.plan.graph (job_values_of k) i n)) only

    added : (i : ℕ) → i < length k.plan.graph.tasks → (kind : Kind) → (task_at k.plan.graph i).kind ≡ kind → (before outs : List OutFlow)
        → AddsFlow (core_in k s) i kind before outs → AddsShown board k.plan.graph i kind before outs
    added i inside (kinds.Sensor a) is before outs adds = adds
    added i inside (kinds.Node a) is before outs adds = adds
    added i inside (kinds.Actuator a) is before outs adds = (
      adds.0,
      adds.1,
      record {
        name = adds.2.name;
        clock = adds.2.clock;
        values = λ other x same at.
            let job : x.job ≡ (run_of k).jobs i = ap (λ (y : JobSeatView). y.job) (seat_is i x at) in
            subst (λ (y : Constants). AreRead y i x.job adds.0.values) (some_inner k other same)
            (subst (λ (jobs : ℕ). AreRead k i jobs adds.0.values) (sym job) (column_is i a inside is adds.0.values adds.2.values));
      },
    )

    shown_below : (n : ℕ) → n ≤ length k.plan.graph.tasks → (outs : List OutFlow) → AreFlowsBelow (core_in k s) n outs → AreShownBelow board k.plan.graph n outs
    shown_below zero within outs are = are
    shown_below (suc i) within outs are = (
      are.0,
      shown_below i (omega (arith, within)) are.0 are.1,
      added i (omega (arith, within)) (task_at k.plan.graph i).kind refl are.0 outs are.2,
    )

    -- it shows what the machine of the plan has in a state in which every job has ended
    pub are_shown : (outs : List OutFlow) → AreFlowsBelow (core_in k s) (length k.plan.graph.tasks) outs → AreShown board k.plan.graph outs
    are_shown outs are = shown_below (length k.plan.graph.tasks) (omega arith) outs are
