-- What a closed board shows of a read that was overrun before it was closed.
use Rattle.prl_base.proofs.Standard.{◌≡◌, ◌+◌, ◌/◌, ◌^◌, ◌<◌, ◌≤◌, ℕ, zero, suc, List, refl, sym, ◌∙◌, ap, subst, arith, inl, inr, Some, IsSome, slice_get, slice_index}
use Rattle.prl_base.specs.declared.numbers.EdgeNo.{EdgeNo}
use Rattle.prl_plan.specs.declared.events.Action.TheVariants as actions
use Rattle.prl_plan.specs.Vocabulary.{IsJob, ReadsAt, IsWriter, last_tag, operand_of, IsActionOf, IsHalfOf, cell_of, edge_at, high, low, place_on, ComesFrom, IsFree, RunConstants, ExecState}
use Rattle.prl_plan.specs.Vocabulary.{action_at, opening, IsTagged}
use Rattle.prl_plan.specs.declared.events.Event.{Event}
use Rattle.prl_rule.specs.Vocabulary.{run_of, values_of, reached, RunValues, word_of}
use Rattle.prl_rule.specs.declared.views.Constants.{Constants}
use Rattle.prl_rule.specs.declared.views.Gate.{Gate}
use Rattle.prl_rule.specs.declared.views.Gate.TheVariants as gates
use Rattle.prl_seats.specs.JobSeats.{JobSeatView}
use Rattle.prl_board.specs.Vocabulary.{ClosedView, IsClosed, LoneView, StandAs}
use Rattle.prl_exec.specs.Vocabulary.{Missed, Stopped, HasStopped, IsGivenTo, RunLaws, IsOverrunIn}
use Rattle.prl_board.proofs.Lists.{seat_there}

half_of_cell : (cell slot : ℕ) → IsHalfOf cell slot → slot / 2 ≡ cell
half_of_cell cell slot (inl is) = omega (arith, is)
half_of_cell cell slot (inr is) = omega (arith, is)

-- a word has the tag that it was made with, or a later one
tag_in : (v : RunValues) (slot found tag : ℕ) → found ≤ tag → found ≤ word_of v slot tag / 2 ^ 32
tag_in v slot found zero below = omega (arith, below)
tag_in v slot found (suc n) below = omega (arith, below)

is_free : (gate : Gate) → (gate ≡ gates.Gated → ⊥) → gate ≡ gates.Free
is_free gates.Gated loose = absurd (loose refl)
is_free gates.Free loose = refl

module _ (k : Constants) (laws : RunLaws (run_of k))
    (tagged : (list : List Event) → IsFree (run_of k) (opening (run_of k)) list → IsTagged (run_of k) (reached (run_of k) list))
    (halves : (s : ExecState) → IsTagged (run_of k) s → (cell : ℕ) → slice_index s.tags (high cell) ≤ slice_index s.tags (low cell))
    (each_action : (i n place : ℕ) → IsActionOf k.plan i n (action_at (run_of k) i n place)) where
  abbrev c : RunConstants
  c = run_of k

  module _ (l : LoneView) (missed : Missed) (over : IsOverrunIn k l missed) (closed : ClosedView) (known : closed.constants ≡ Some k) (stand : StandAs l.seats closed.seats)
      (is : IsClosed k closed.words closed.seats) where
    abbrev i : ℕ
    i = missed.task.0

    abbrev s : ExecState
    s = is.last.0

    reads_at : ReadsAt c i over.seat.job over.seat.place over.instance over.slot.0
    reads_at = record { job = over.left; action = (missed.port, over.edge, over.reads) }

    -- where a task stands in the state
    stands_there : (j : ℕ) (u : JobSeatView) → slice_get l.seats j ≡ Some u → (u.job ≡ slice_index s.ended j) × (u.place ≡ slice_index s.places j)
    stands_there j u has =
        let then = stand.each j u has in
        let at = is.last.1.each j then.0 then.1 in
        (sym then.3.job ∙ at.0, sym then.3.place ∙ at.1)

    -- the half has the tag that was found
    tag_there : slice_index s.tags over.slot.0 ≡ missed.found
    tag_there =
        let given = laws.facts.provided i over.seat.job over.seat.place over.instance over.slot.0 reads_at in
        let j : ℕ = given.0 in
        let writes = given.3.writes in
        let writer : IsWriter c j over.slot.0 = λ a n place other w. laws.facts.writer a n place other j given.1 given.2 over.instance over.slot.0 w writes in
        let inside = writes.job.task in
        let tasks = stand.tasks in let all = is.tasks in
        let there = seat_there l.seats j (omega (arith, inside, tasks, all)) in
        let u = there.0 in
        let at = stands_there j u there.1 in
        let last = is.last.1 in
        let left = (laws.left last.events last.free).left j over.slot.0 writer in
        let led = last.state in
        let is_left : slice_index s.tags over.slot.0 ≡ last_tag c j over.slot.0 (slice_index s.ended j) (slice_index s.places j) =
        subst (λ (x : ExecState). slice_index x.tags over.slot.0 ≡ last_tag c j over.slot.0 (slice_index x.ended j) (slice_index x.places j)) (sym led) left in
        is_left ∙ (sym (ap (λ (n : ℕ). last_tag c j over.slot.0 n u.place) at.0 ∙ ap (last_tag c j over.slot.0 (slice_index s.ended j)) at.1) ∙ sym (over.holds j u writer there.1))

    -- what the read is, by the definitions of operands and cells
    its_read : IsActionOf k.plan i over.seat.job (actions.Read missed.port over.edge over.instance over.slot)
    its_read = subst (IsActionOf k.plan i over.seat.job) over.reads (each_action i over.seat.job over.seat.place)

    cell_is : cell_of k.plan over.edge.0 over.instance ≡ missed.cell.0
    cell_is = sym (over.cell ∙ half_of_cell (cell_of k.plan over.edge.0 over.instance) over.slot.0 its_read.4)

    -- the low half of the cell has this tag or a later one
    low_tag : missed.found ≤ slice_index s.tags (low missed.cell.0)
    low_tag = by_half its_read.4
      where
        by_half : IsHalfOf (cell_of k.plan over.edge.0 over.instance) over.slot.0 → missed.found ≤ slice_index s.tags (low missed.cell.0)
        by_half (inl is_low) =
            let same : slice_index s.tags (low missed.cell.0) ≡ slice_index s.tags over.slot.0 =
            ap (slice_index s.tags) (sym (is_low ∙ ap low cell_is)) in
            let tag = tag_there in
            omega (arith, same, tag)
        by_half (inr is_high) =
            let same : slice_index s.tags (high missed.cell.0) ≡ slice_index s.tags over.slot.0 =
            ap (slice_index s.tags) (sym (is_high ∙ ap high cell_is)) in
            let tag = tag_there in
            let last = is.last.1 in
            let keeps : IsTagged c s = subst (IsTagged c) (sym last.state) (tagged last.events last.free) in
            let less = halves s keeps missed.cell.0 in
            omega (arith, same, tag, less)

    low_inside : low missed.cell.0 < c.slots
    low_inside =
        let inside = laws.facts.read_cell i over.seat.job over.seat.place over.instance over.slot.0 reads_at in
        let cell = over.cell in
        let below : low missed.cell.0 ≤ over.slot.0 = omega (arith, cell) in
        omega (arith, inside, below)

    its_job : missed.job ≡ slice_index s.ended i
    its_job = over.job ∙ (stands_there i over.seat over.has).0

    -- the instance that was found is one that a horizon job gives to the edge
    given : (m : ℕ) → missed.found ≡ m + 1 → IsGivenTo k over.edge.0 m missed.cell.0
    unfolding reads_at
    given m tag =
        let w = over.written m tag in
        let j : ℕ = w.0 in let n : ℕ = w.1 in let place : ℕ = w.2 in
        let writes = w.3 in
        let write = writes.action in
        let its = subst (IsActionOf k.plan j n) write.1 (each_action j n place) in
        let same_edge : write.0.0 ≡ over.edge.0 = ap (λ (e : EdgeNo). e.0) (sym (laws.facts.edge i over.seat.job over.seat.place over.instance j n place m over.slot.0 reads_at writes)) in
        let own : n ≡ m = sym its.2 in
        let cell : cell_of k.plan write.0.0 n ≡ missed.cell.0 = sym (over.cell ∙ half_of_cell (cell_of k.plan write.0.0 n) over.slot.0 its.4) in
        record {
          job = (j, subst (λ (e : ℕ). ComesFrom (edge_at k.plan.graph e).from j) same_edge its.1, subst (IsJob c j) own writes.job);
          used = (let P : ℕ × ℕ → Type 0 = λ z. IsSome (place_on k.plan z.0 z.1) in subst P (λ h. (same_edge h, own h)) its.3);
          place = sym (ap (λ (e : ℕ). cell_of k.plan e m) same_edge) ∙ (ap (cell_of k.plan write.0.0) (sym own) ∙ cell);
        }

    abbrev stopped : Stopped
    stopped = record { closed = closed; task = missed.task; job = missed.job; port = missed.port; cell = missed.cell; wanted = missed.wanted; found = missed.found }

    pub has_stopped : HasStopped k stopped
    has_stopped =
        let last = is.last.1 in
        record {
          constants = known;
          is = is;
          gate = is_free k.gate over.free;
          job = subst (IsJob c i) (sym over.job) over.left;
          edge = over.edge.0;
          instance = over.instance;
          reads = record {
            edge = its_read.0;
            task = its_read.1;
            port = its_read.2;
            operand = ap (operand_of (edge_at k.plan.graph over.edge.0)) over.job ∙ its_read.3;
            place = cell_is;
          };
          wanted = over.wanted;
          later = over.later;
          given = given;
          tag = subst (λ (word : ℕ). missed.found ≤ word / 2 ^ 32) (sym (last.half (low missed.cell.0) low_inside))
              (tag_in (values_of k) (low missed.cell.0) missed.found (slice_index s.tags (low missed.cell.0)) low_tag);
          done = last.done i over.left.task ∙ sym its_job;
          at = λ seat has.
              let here = stands_there i over.seat over.has in let end = last.each i seat has in
              let Here : ℕ × ℕ → Type 0 = λ z. action_at c i z.0 z.1 ≡ actions.Read missed.port over.edge over.instance over.slot in
              let moved : over.seat.place ≡ seat.place = here.1 ∙ sym end.1 in
              (over.slot, over.cell, subst Here (λ h. (sym over.job h, moved h)) over.reads);
        }
