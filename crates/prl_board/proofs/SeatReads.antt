-- What a task's seat keeps after its steps, and what its reads answer.
use Rattle.std.proofs.Common.{◌≡◌, ℕ, ◌+◌, ◌/◌, ◌^◌, ◌<◌, ◌≤◌, sym, ap, ◌∙◌, subst, arith, Bool, cond, ne_eqb, nat_le, List, Option, Some}
use Rattle.prl_base.specs.declared.numbers.CellNo.{CellNo}
use Rattle.prl_base.specs.declared.numbers.EdgeNo.{EdgeNo}
use Rattle.prl_base.specs.declared.numbers.TaskNo.{TaskNo}
use Rattle.prl_base.specs.declared.values.Value.{Value}
use Rattle.prl_plan.specs.declared.events.Action.TheVariants as actions
use Rattle.prl_plan.specs.Vocabulary.{action_at, task_at}
use Rattle.prl_plan.specs.declared.events.SlotNo.{SlotNo}
use Rattle.prl_plan.specs.declared.graphs.Kind.{Kind}
use Rattle.prl_values.specs.Workers.{HasMachine, HasNoMachine, IsNewWorker, IsWork, IsWorker, once}
use Rattle.prl_values.specs.declared.workers.Work.{Work}
use Rattle.prl_values.specs.declared.workers.Worker.{Worker}
use Rattle.prl_values.specs.declared.workers.Work.TheVariants as works
use Rattle.prl_values.proofs.Working.{new_worker}
use Rattle.prl_body.specs.Machines.{MachineState}
use Rattle.prl_body.specs.declared.bodies.CheckedBody.{CheckedBody}
use Rattle.prl_flow.specs.Applications.{registers_before}
use Rattle.prl_plan.specs.declared.graphs.Kind.TheVariants as kinds
use Rattle.prl_values.specs.Vocabulary.{place_of_run, body_of_task, reads_of_job}
use Rattle.prl_seats.specs.JobSeats.{AnswersRelease, Follows, GoesOn, IsFirstSeat, IsSameSeat, JobSeatView, MayRaise, StaysAt}
use Rattle.prl_seats.specs.declared.jobs.Release.{Release}
use Rattle.prl_seats.specs.declared.jobs.Stage.{Stage}
use Rattle.prl_board.proofs.Lows.{low_shut}
use Rattle.prl_seats.specs.declared.jobs.Release.TheVariants as releases
use Rattle.prl_seats.specs.declared.jobs.Stage.TheVariants as stages
use Rattle.prl_board.specs.Vocabulary.{Got, AnswersHalf, IsMachineOf, IsNodeTask, Misses, IsLow, Works}
use Rattle.prl_board.specs.declared.seats.Got.TheVariants as gots
use Rattle.prl_rule.specs.Vocabulary.{IsOverrun, HalfTold, part_at, part_of, job_values_of, registers_of, run_of, values_of, half_loaded, half_missed, half_taken, with_part}
use Rattle.prl_rule.specs.declared.views.Constants.{Constants}
use Rattle.prl_rule.specs.declared.views.TaskPart.{TaskPart}
use Rattle.prl_rule.specs.declared.views.View.{View}
use Rattle.prl_rule.specs.declared.views.Gate.TheVariants as gates
use Rattle.prl_seats.proofs.Following.{fresh_part, part_is}

-- the worker where the seat has gone to
works_at : (k : Constants) (after : JobSeatView) (worker : Worker) (task : TaskNo) (job place : ℕ) → after.task ≡ task → after.job ≡ job → after.place ≡ place →
    IsWorker k.plan k.bodies k.horizon.until (job_values_of k) task.0 job place worker → Works k after worker
works_at k after worker task job place t j p works =
    let P : TaskNo × ℕ × ℕ → Type 0 = λ z. IsWorker k.plan k.bodies k.horizon.until (job_values_of k) z.0.0 z.1 z.2 worker in
    subst P (λ h. (sym t h, sym j h, sym p h)) works

abbrev pub Keeps : Constants → JobSeatView → ℕ → Worker → Type 0
Keeps k s low worker = IsLow k s.stage low × Works k s worker

-- it stays where it is
pub stays_kept : (k : Constants) (before after : JobSeatView) (low : ℕ) (worker : Worker) → IsSameSeat before after → StaysAt before after → Keeps k before low worker →
    Keeps k after low worker
stays_kept k before after low worker same stays keeps = (
  subst (λ (x : Stage). IsLow k x low) (sym stays.stage) keeps.0,
  works_at k after worker before.task before.job before.place same.task stays.job stays.place keeps.1,
)

-- it goes on
pub goes_kept : (k : Constants) (before after : JobSeatView) (low : ℕ) (worker : Worker) → IsSameSeat before after → GoesOn k before after →
    IsLow k (stages.At (action_at (run_of k) before.task.0 before.job (before.place + 1))) low →
    IsWorker k.plan k.bodies k.horizon.until (job_values_of k) before.task.0 before.job (before.place + 1) worker → Keeps k after low worker
goes_kept k before after low worker same goes is_low works = (
  subst (λ (x : Stage). IsLow k x low) (sym goes.stage) is_low,
  works_at k after worker before.task before.job (before.place + 1) same.task goes.job goes.place works,
)

job_released : (k : Constants) (before after : JobSeatView) (answer : Release) → AnswersRelease k before after answer → after.job ≡ before.job
job_released k before after releases.Over answer = ap (λ (s : JobSeatView). s.job) answer.1
job_released k before after (releases.Early now at) answer = answer.4
job_released k before after (releases.Open job) answer = answer.3

-- after a release
pub release_kept : (k : Constants) (before after : JobSeatView) (low : ℕ) (worker : Worker) (answer : Release) → IsSameSeat before after → AnswersRelease k before after answer →
    after.place ≡ before.place → IsLow k after.stage low → Works k before worker → Keeps k after low worker
release_kept k before after low worker answer same told place is_low works =
    (is_low, works_at k after worker before.task before.job before.place same.task (job_released k before after answer told) place works)

-- after the end of a job
pub end_kept : (k : Constants) (before after : JobSeatView) (low : ℕ) (worker : Worker) → IsSameSeat before after → after.job ≡ before.job + 1 → after.place ≡ 0 → IsLow k after.stage low →
    IsWorker k.plan k.bodies k.horizon.until (job_values_of k) before.task.0 (before.job + 1) 0 worker → Keeps k after low worker
end_kept k before after low worker same job place is_low works = (is_low, works_at k after worker before.task (before.job + 1) 0 same.task job place works)

-- a later instance than the wanted one was loaded
pub may_raise : (k : Constants) (before after : JobSeatView) (port : ℕ) (e : EdgeNo) (m : ℕ) (slot : SlotNo) (word : ℕ) →
    Follows k before.view before.task.0 before.job before.place (stages.At (actions.Read port e m slot)) → HalfTold k before.task.0 before.place e.0 m slot.0 before.view word after.view →
    m + 1 < word / 2 ^ 32 → after.task ≡ before.task → after.place ≡ before.place → MayRaise k after
may_raise k before after port e m slot word follows told later task place =
    let missed : half_loaded (run_of k) (values_of k) before.task.0 slot.0 (m + 1) word (part_at k before.task.0 before.place before.view)
    ≡ half_missed slot.0 word (part_at k before.task.0 before.place before.view) =
    ap (λ (b : Bool). cond b (half_taken (run_of k) (values_of k) before.task.0 slot.0 word (part_at k before.task.0 before.place before.view)) (half_missed slot.0 word (part_at k before.task.0 before.place before.view)))
    (ne_eqb (word / 2 ^ 32) (m + 1) (λ same. omega (arith, same, later))) in
    let view : after.view ≡ with_part before.task.0 (half_missed slot.0 word (part_at k before.task.0 before.place before.view)) before.view =
    told.view ∙ ap (λ (x : TaskPart). with_part before.task.0 x before.view) missed in
    let own : part_of before.task.0 (with_part before.task.0 (half_missed slot.0 word (part_at k before.task.0 before.place before.view)) before.view)
    ≡ half_missed slot.0 word (part_at k before.task.0 before.place before.view) =
    part_is before.task.0 before.view (part_of before.task.0 before.view) (half_missed slot.0 word (part_at k before.task.0 before.place before.view)) follows.at.part in
    let stands : part_at k before.task.0 before.place (with_part before.task.0 (half_missed slot.0 word (part_at k before.task.0 before.place before.view)) before.view)
    ≡ half_missed slot.0 word (part_at k before.task.0 before.place before.view) =
    fresh_part k before.task.0 before.view (part_of before.task.0 before.view) (half_missed slot.0 word (part_at k before.task.0 before.place before.view)) before.place follows.at.part follows.stands in
    let here : IsOverrun (run_of k) before.task.0 (part_at k before.task.0 before.place before.view).stand
    (half_missed slot.0 word (part_at k before.task.0 before.place before.view)).kept = record {
      opened = follows.shown.0;
      port = port;
      edge = e;
      instance = m;
      reads = (λ h. action_at (run_of k) before.task.0 (follows.ended h) (follows.stands h)) ∙ follows.shown.2;
      later = later;
    } in
    let P : TaskPart × TaskPart → Type 0 = λ z. IsOverrun (run_of k) before.task.0 z.0.stand z.1.kept in
    let there : IsOverrun (run_of k) before.task.0 (part_at k before.task.0 before.place (with_part before.task.0 (half_missed slot.0 word (part_at k before.task.0 before.place before.view)) before.view)).stand
    (part_of before.task.0 (with_part before.task.0 (half_missed slot.0 word (part_at k before.task.0 before.place before.view)) before.view)).kept = subst P (λ h. (sym stands h, sym own h)) here in
    let Q : TaskNo × ℕ × View → Type 0 = λ z. IsOverrun (run_of k) z.0.0 (part_at k z.0.0 z.1 z.2).stand (part_of z.0.0 z.2).kept in
    subst Q (λ h. (sym task h, sym place h, sym view h)) there

-- what a read answers that finds another tag
pub misses_answer : (k : Constants) (m : ℕ) (slot : SlotNo) (before after : JobSeatView) (word : ℕ) (cell : CellNo) (wanted found : ℕ) (got : Got) → Misses cell wanted found got →
    cell.0 ≡ slot.0 / 2 → wanted ≡ m + 1 → found ≡ word / 2 ^ 32 → StaysAt before after → (k.gate ≡ gates.Gated → word / 2 ^ 32 ≤ m + 1) → (m + 1 < word / 2 ^ 32 → MayRaise k after) →
    AnswersHalf k m slot before after word got
misses_answer k m slot before after word cell wanted found gots.Half misses at wants finds stays none raise = absurd misses
misses_answer k m slot before after word cell wanted found (gots.Value value) misses at wants finds stays none raise = absurd misses
misses_answer k m slot before after word cell wanted found (gots.NotYet c w f) misses at wants finds stays none raise =
    let f_is = misses.2 in (
      record { at = ap (λ (x : CellNo). x.0) misses.0 ∙ at; wants = misses.1 ∙ wants; finds = misses.2 ∙ finds; stays = stays },
      omega (arith, misses.3, misses.1, f_is),
    )
misses_answer k m slot before after word cell wanted found (gots.Overrun c w f) misses at wants finds stays none raise =
    let less = misses.3 in
    let f_is = misses.2 in (
      record { at = ap (λ (x : CellNo). x.0) misses.0 ∙ at; wants = misses.1 ∙ wants; finds = misses.2 ∙ finds; stays = stays },
      omega (arith, less, misses.1, f_is),
      (λ gated. let most = none gated in omega (arith, most, less, wants, finds)),
      raise (omega (arith, less, wants, finds)),
    )

-- at the opening
pub first_kept : (k : Constants) (s : JobSeatView) (worker : Worker) (task : TaskNo) → IsFirstSeat k task s → IsNewWorker k.plan k.bodies k.horizon.until task.0 worker → Keeps k s 0 worker
first_kept k s worker task first new = (
  low_shut k (run_of k) task.0 0 0 0 s.stage first.stage,
  works_at k s worker task 0 0 first.task first.job first.place (new_worker k.plan k.bodies k.horizon.until (job_values_of k) task.0 worker new),
)

-- what follows from each case of an option
-- the machine of a node task
module _ (k : Constants) (s : JobSeatView) where
  node_kind : (kind : Kind) (j : ℕ) (body : Option CheckedBody) (checked : CheckedBody) (reads : ℕ → List Value) (n : ℕ) → kind ≡ kinds.Node j → body ≡ Some checked →
      registers_of kind body reads n ≡ registers_before checked reads n
  node_kind kind j body checked reads n is named = (λ h. registers_of (is h) (named h) reads n)

  pub machine_is : (work : Work) (ran : Bool) (machine : MachineState) → ran ≡ nat_le (place_of_run k.plan s.task.0 s.job) s.place →
      IsWork k.plan k.bodies k.horizon.until (job_values_of k) s.task.0 (s.job + once ran) work → HasMachine work machine → IsMachineOf k s machine
  unfolding values_of
  machine_is (works.Sensor j) ran machine runs is has = absurd has
  machine_is (works.Node word own) ran machine runs is has =
      let steps : s.job + once ran ≡ s.job + once (nat_le (place_of_run k.plan s.task.0 s.job) s.place) = ap (λ (b : Bool). s.job + once b) runs in
      let state = has ∙ is.2.2 in
      record {
        node = is.0;
        steps = ap (λ (m : MachineState). m.steps) state ∙ steps;
        registers = ap (λ (m : MachineState). m.registers) state ∙ ap (registers_before is.2.0 (reads_of_job k.plan.graph (job_values_of k) s.task.0)) steps
            ∙ sym (node_kind (task_at k.plan.graph s.task.0).kind is.0.0 (body_of_task k.bodies (task_at k.plan.graph s.task.0)) is.2.0
            (reads_of_job k.plan.graph (job_values_of k) s.task.0) (s.job + once (nat_le (place_of_run k.plan s.task.0 s.job) s.place)) is.0.1 is.2.1);
      }
  machine_is (works.Actuator column) ran machine runs is has = absurd has

  pub no_machine : (work : Work) (steps : ℕ) → IsWork k.plan k.bodies k.horizon.until (job_values_of k) s.task.0 steps work → HasNoMachine work → IsNodeTask k s.task.0 → ⊥
  no_machine (works.Sensor n) steps is has node = (let e : kinds.Sensor n ≡ kinds.Node node.0 = sym is ∙ node.1 in cc e)
  no_machine (works.Node word own) steps is has node = has
  no_machine (works.Actuator column) steps is has node = (let e : kinds.Actuator is.0.0 ≡ kinds.Node node.0 = sym is.0.1 ∙ node.1 in cc e)
