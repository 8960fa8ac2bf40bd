-- What a read finds in the whole state.
use Rattle.prl_base.proofs.Standard.{◌≡◌, ◌<◌, ℕ, List, get_or, sym, ◌∙◌, ap, arith, Some, slice_get, slice_index, slice_get-get_or}
use Rattle.prl_base.specs.declared.numbers.EdgeNo.{EdgeNo}
use Rattle.prl_plan.specs.declared.events.Action.TheVariants as actions
use Rattle.prl_plan.specs.Vocabulary.{ReadsAt, IsWriter, last_tag, RunConstants, action_at}
use Rattle.prl_plan.specs.declared.events.Event.{Event}
use Rattle.prl_plan.specs.declared.events.SlotNo.{SlotNo}
use Rattle.prl_rule.specs.Rule.{reached}
use Rattle.prl_rule.specs.declared.views.ClockPart.{ClockPart}
use Rattle.prl_seats.specs.declared.jobs.Stage.TheVariants as stages
use Rattle.prl_seats.specs.JobSeats.{JobSeatView}
use Rattle.prl_board.specs.Lones.{FindsTag, LoneView, tag_found}
use Rattle.prl_board.specs.declared.seats.Got.{Got}
use Rattle.prl_exec.specs.Standing.{RunLaws, StandsIn}

-- the half holds the tag that was found
pub found_there : (c : RunConstants) (laws : RunLaws c) (l : LoneView) (r : ClockPart) (list : List Event) (i : ℕ) (s : JobSeatView) (port : ℕ) (e : EdgeNo) (m : ℕ) (slot : SlotNo) (got : Got) →
    StandsIn c l r list → i < c.tasks → s.job < c.jobs i → s.stage ≡ stages.At (actions.Read port e m slot) → action_at c i s.job s.place ≡ actions.Read port e m slot →
    FindsTag c l.seats s.stage got → slice_index (reached c list).tags slot.0 ≡ tag_found m got
found_there c laws l r list i s port e m slot got stands task job stage at finds =
    let reads : ReadsAt c i s.job s.place m slot.0 = record { job = record { task = task; job = job }; action = (port, e, at) } in
    let given = laws.facts.provided i s.job s.place m slot.0 reads in
    let j : ℕ = given.0 in
    let writes = given.3.writes in
    let writer : IsWriter c j slot.0 = λ k n place other w. laws.facts.writer k n place other j given.1 given.2 m slot.0 w writes in
    let inside = writes.job.task in
    let tasks = stands.tasks in
    let u : JobSeatView = get_or l.seats j s in
    let there : slice_get l.seats j ≡ Some u = slice_get-get_or l.seats j s (omega (arith, inside, tasks)) in
    let own = stands.each j u there in
    let tag = finds port e m slot stage j u writer there in
    (laws.left list stands.free).left j slot.0 writer
    ∙ (sym (ap (λ (n : ℕ). last_tag c j slot.0 n u.place) own.job ∙ ap (last_tag c j slot.0 (slice_index (reached c list).ended j)) own.place) ∙ sym tag)
