-- The worker of the task that acts: what its actions need, and what they leave.
use Rattle.prl_base.proofs.Standard.{◌≡◌, ◌≢◌, ◌+◌, ◌<◌, ◌≤◌, ◌⊎◌, ℕ, zero, suc, Bool, true, false, leb, List, [], ◌∷◌, length, map, get_or, set, Option, Some, inl, inr, refl, sym, ◌∙◌, ap, subst}
use Rattle.prl_base.proofs.Standard.{arith, slice_get, max, cases_lt, cases_eq, le-leb, leb-true, leb-false, length-map, get_or_past, slice_get_within}
use Rattle.std.proofs.lemmas.List.{length-set}
use Rattle.prl_base.specs.Values.{type_of}
use Rattle.prl_base.specs.declared.values.Value.{Value}
use Rattle.prl_body.specs.Vocabulary.{MachineState, body_named, body_step}
use Rattle.prl_body.specs.declared.bodies.CheckedBody.{CheckedBody}
use Rattle.prl_flow.specs.Vocabulary.{registers_before, Rows, rows_of}
use Rattle.prl_plan.specs.Vocabulary.{task_at, PlanView, reads_of, actions_of, completes, operands_in, operands_before}
use Rattle.prl_plan.specs.declared.events.Action.{Action}
use Rattle.prl_plan.specs.declared.graphs.Kind.{Kind}
use Rattle.prl_plan.specs.declared.events.Action.TheVariants as actions
use Rattle.prl_plan.specs.declared.graphs.Kind.TheVariants as kinds
use Rattle.prl_values.specs.Vocabulary.{place_of_run, port_types, JobValues, gives, at_most_one, step_outputs, reads_of_job, body_of_task}
use Rattle.prl_values.specs.Vocabulary.{Work, Worker, outs_of, outs_with, CanRun, IsReady, RunsTo, HasRun, HasKept, HasTaken, HasBegun, HasEnded, StepsTo, IsNewWork, IsNewWorker, HasLaws, IsWork}
use Rattle.prl_values.specs.Vocabulary.{HasGiven, once, IsWorker}
use Rattle.prl_values.specs.declared.workers.Work.TheVariants as works
use Rattle.prl_values.proofs.Operands.{Reads, operands_next, whole_reads, read_is_early, other_is_late, port_inside, last_operand, earlier_operand}
use Rattle.prl_values.proofs.PortReads.{reads_counted, same_lists}

-- lists with a place set, read by place
slice_get_set_same : {A : Type 0} (xs : List A) (i : ℕ) (v : A) → i < length xs → slice_get (set xs i v) i ≡ Some v
slice_get_set_same [] i v h = absurd (omega (arith, h))
slice_get_set_same (x ∷ xs) zero v h = refl
slice_get_set_same (x ∷ xs) (suc i) v h = slice_get_set_same xs i v (omega (arith, h))

slice_get_set_other : {A : Type 0} (xs : List A) (i j : ℕ) (v : A) → j ≢ i → slice_get (set xs i v) j ≡ slice_get xs j
slice_get_set_other [] i j v h = refl
slice_get_set_other (x ∷ xs) zero zero v h = absurd (h refl)
slice_get_set_other (x ∷ xs) zero (suc j) v h = refl
slice_get_set_other (x ∷ xs) (suc i) zero v h = refl
slice_get_set_other (x ∷ xs) (suc i) (suc j) v h = slice_get_set_other xs i j v (λ e. h (ap (λ n. suc n) e))

false_is_not_true : (b : Bool) → b ≡ false → b ≡ true → ⊥
false_is_not_true b off on = absurd (let e : false ≡ true = sym off ∙ on in cc)

before_run : (mark p : ℕ) → p < mark → leb mark p ≡ false
before_run mark p below = go (leb mark p) refl
  where
    go : (b : Bool) → leb mark p ≡ b → leb mark p ≡ false
    go false e = e
    go true e = absurd (omega (arith, leb-true mark p e, below))

after_run : (mark p : ℕ) → mark ≤ p → leb mark p ≡ true
after_run mark p within = le-leb mark p within

mark_of : (reads : ℕ) → (reads ≤ max reads 1) × (1 ≤ max reads 1) × ((reads ≡ 0) ⊎ (max reads 1 ≡ reads))
mark_of zero = (omega arith, omega arith, inl refl)
mark_of (suc r) = (omega arith, omega arith, inr (omega arith))

same_work : (plan : PlanView) (bodies : List CheckedBody) (until : ℕ) (v : JobValues) (i : ℕ) (a b : ℕ) (x y : Work) → a ≡ b → y ≡ x →
    IsWork plan bodies until v i a x → IsWork plan bodies until v i b y
same_work plan bodies until v i a b x y steps work is =
    subst (λ (w : Work). IsWork plan bodies until v i b w) (sym work) (subst (λ (k : ℕ). IsWork plan bodies until v i k x) steps is)

same_given : (v : JobValues) (i n : ℕ) (x y : Work) (a b : List Value) → y ≡ x → b ≡ a → HasGiven v i n a x → HasGiven v i n b y
same_given v i n x y a b work outputs is =
    subst (λ (w : Work). HasGiven v i n b w) (sym work) (subst (λ (l : List Value). HasGiven v i n l x) (sym outputs) is)

no_operands : (xs : List Action) → length xs ≡ 0 → xs ≡ []
no_operands [] h = refl
no_operands (x ∷ xs) h = absurd (omega (arith, h))

inside_rows : (rows : Rows) (k n : ℕ) (value : Value) → slice_get (rows_of rows k) n ≡ Some value → (k < length rows) × (n < length (rows_of rows k))
inside_rows rows k n value at =
    let within = slice_get_within (rows_of rows k) n value at in (
      elim (cases_lt k (length rows)) [
        | inl inside ↦ inside
        | inr past ↦ absurd (omega (arith, ap length (get_or_past rows k [] past), within))
      ],
      within,
    )

module _ (plan : PlanView) (bodies : List CheckedBody) (rows : Rows) (until : ℕ) (v : JobValues) (i n : ℕ) (laws : HasLaws plan bodies rows until v i n) where
  counted_reads : length (reads_of_job plan.graph v i n) ≡ length (port_types plan.graph.edges i)
  counted_reads = reads_counted v plan.graph.edges i n

  -- what a run on all operands needs
  can_run : (work : Work) → IsWork plan bodies until v i n work → (operands outputs : List Value) → operands ≡ reads_of_job plan.graph v i n → length outputs ≡ outs_of bodies work →
      ((k : ℕ) → (task_at plan.graph i).kind ≡ kinds.Actuator k → 0 < length (port_types plan.graph.edges i)) → CanRun rows bodies n operands outputs work
  can_run (works.Sensor k) is operands outputs whole room some =
      let row = laws.row k is in
      inside_rows rows k n row.0 row.1
  can_run (works.Node word machine) is operands outputs whole room some =
      let body : CheckedBody = is.2.0 in
      let named : body_named bodies word ≡ Some is.2.0 = ap (body_named bodies) is.1 ∙ is.2.1 in
      let fits = laws.fits is.0.0 is.0.1 is.2.0 is.2.1 in
      let steps : machine.steps ≡ n = ap (λ (m : MachineState). m.steps) is.2.2 in (
        is.2.0,
        named,
        record {
          registers = ap (λ (m : MachineState). map type_of m.registers) is.2.2 ∙ (laws.registers is.2.0 is.2.1 fits);
          inputs = ap (map type_of) whole ∙ laws.reads ∙ sym fits.inputs;
          room = room ∙ ap outs_with named;
          steps = omega (arith, steps, laws.small);
        },
      )
  can_run (works.Actuator column) is operands outputs whole room_ some =
      (omega (arith, is.1, laws.counted), omega (arith, ap length whole, counted_reads, some is.0.0 is.0.1))

  -- what a run on all operands leaves
  abbrev pub HasDone : List Value → Work → Type 0
  HasDone outputs work = (length outputs ≡ outs_of bodies work) × HasGiven v i n outputs work × IsWork plan bodies until v i (n + 1) work

  run_done : (before after : Work) (operands outputs : List Value) → IsWork plan bodies until v i n before → operands ≡ reads_of_job plan.graph v i n →
      RunsTo rows bodies n operands outputs before after → HasDone outputs after
  run_done (works.Sensor k) after operands outputs is whole runs =
      subst (λ (w : Work). HasDone outputs w) (sym runs.0) (
        ap length runs.1.2,
        runs.1.2 ∙ sym (laws.values
            ∙ ap (λ (x : Kind). gives x rows (body_of_task bodies (task_at plan.graph i)) (reads_of_job plan.graph v i) n) is
            ∙ ap at_most_one runs.1.1),
        is,
      )
  run_done (works.Node word machine) after operands outputs is whole runs =
      let named : body_named bodies word ≡ Some is.2.0 = ap (body_named bodies) is.1 ∙ is.2.1 in
      let same : runs.2.0 ≡ is.2.0 = (let e : Some runs.2.0 ≡ Some is.2.0 = sym runs.2.1 ∙ named in cc) in
      let steps_to : StepsTo is.2.0 operands machine runs.0 outputs = subst (λ (b : CheckedBody). StepsTo b operands machine runs.0 outputs) same runs.2.2 in
      let registers : machine.registers ≡ registers_before is.2.0 (reads_of_job plan.graph v i) n = ap (λ (m : MachineState). m.registers) is.2.2 in
      let steps : machine.steps ≡ n = ap (λ (m : MachineState). m.steps) is.2.2 in
      let next : suc n ≡ n + 1 = omega arith in
      let step = ap (λ (xs : List Value). body_step is.2.0 xs machine.registers) whole
      ∙ ap (λ (xs : List Value). body_step is.2.0 (reads_of_job plan.graph v i n) xs) registers in
      subst (λ (w : Work). HasDone outputs w) (sym runs.1) (
        sym (length-map outputs type_of) ∙ ap length steps_to.typed ∙ sym (ap outs_with named),
        steps_to.gives ∙ ap (λ s. s.outputs) step ∙ sym (laws.values
            ∙ ap (λ (x : Kind). gives x rows (body_of_task bodies (task_at plan.graph i)) (reads_of_job plan.graph v i) n) is.0.1
            ∙ ap (λ (b : Option CheckedBody). step_outputs b (reads_of_job plan.graph v i) n) is.2.1),
        (
          is.0,
          is.1,
          (
            is.2.0,
            is.2.1,
            steps_to.machine ∙ ap (λ s. record { registers = s.registers; steps = machine.steps + 1 }) step
                ∙ ap (λ (k : ℕ). record { registers = registers_before is.2.0 (reads_of_job plan.graph v i) (suc n); steps = k + 1 }) steps
                ∙ ap (λ (k : ℕ). record { registers = registers_before is.2.0 (reads_of_job plan.graph v i) k; steps = n + 1 }) next,
          ),
        ),
      )
  run_done (works.Actuator column) after operands outputs is whole runs =
      subst (λ (w : Work). HasDone outputs w) (sym runs.4) (
        runs.5,
        tt,
        (
          is.0,
          ap length runs.3 ∙ length-set column.items n runs.1 ∙ is.1,
          told,
        ),
      )
    where
      inside : n < length column.items
      inside = omega (arith, is.1, laws.counted)

      told : (m : ℕ) → m < n + 1 → slice_get (runs.0).items m ≡ slice_get (reads_of_job plan.graph v i m) 0
      told m below =
          elim (cases_eq m n) [
            | inl same ↦
                (ap (λ (xs : List Value). slice_get xs m) runs.3 ∙ ap (λ (k : ℕ). slice_get (set column.items n runs.1) k) same
                ∙ slice_get_set_same column.items n runs.1 inside ∙ sym runs.2 ∙ ap (λ (xs : List Value). slice_get xs 0) whole
                ∙ ap (λ (k : ℕ). slice_get (reads_of_job plan.graph v i k) 0) (sym same))
            | inr other ↦
                (ap (λ (xs : List Value). slice_get xs m) runs.3 ∙ slice_get_set_other column.items n m runs.1 other
                ∙ is.2 m (omega (arith, below, other)))
          ]

  -- the operands with the last one put in its place
  filled : (operands : List Value) (q : ℕ) (value : Value) → length operands ≡ length (port_types plan.graph.edges i) → q + 1 ≡ length operands →
      ((k : ℕ) → k < q → slice_get operands k ≡ slice_get (reads_of_job plan.graph v i n) k) → slice_get (reads_of_job plan.graph v i n) q ≡ Some value →
      set operands q value ≡ reads_of_job plan.graph v i n
  filled operands q value long last before its =
      same_lists (set operands q value) (reads_of_job plan.graph v i n) (omega (arith, counted_reads, length-set operands q value, long)) each
    where
      each : (k : ℕ) → k < length (set operands q value) → slice_get (set operands q value) k ≡ slice_get (reads_of_job plan.graph v i n) k
      each k below =
          elim (cases_eq k q) [
            | inl here ↦
                (ap (slice_get (set operands q value)) here ∙ slice_get_set_same operands q value (omega (arith, last)) ∙ sym its
                ∙ ap (slice_get (reads_of_job plan.graph v i n)) (sym here))
            | inr other ↦ slice_get_set_other operands q k value other ∙ before k (omega (arith, below, length-set operands q value, last, other))
          ]

  module _ (p : ℕ) (worker : Worker) (fit : IsWorker plan bodies until v i n p worker) where
    -- a worker whose job has a read to do has not run
    unrun : p < length (reads_of plan i n 0 plan.graph.edges) → worker.ran ≡ false
    unrun early =
        fit.ran ∙ before_run (place_of_run plan i n) p (omega (arith, early, (mark_of (length (reads_of plan i n 0 plan.graph.edges))).0))

    still_unrun : p + 1 < length (reads_of plan i n 0 plan.graph.edges) → worker.ran ≡ leb (place_of_run plan i n) (p + 1)
    still_unrun early =
        let least = (mark_of (length (reads_of plan i n 0 plan.graph.edges))).0 in
        unrun (omega (arith, early)) ∙ sym (before_run (place_of_run plan i n) (p + 1) (omega (arith, early, least)))

    now_work : worker.ran ≡ false → IsWork plan bodies until v i n worker.work
    now_work unrun = same_work plan bodies until v i (n + once worker.ran) n worker.work worker.work (omega (arith, ap once unrun)) refl fit.work

    -- a read of a low half
    pub low_passed : Reads (get_or (actions_of plan i n) p actions.End) → completes (get_or (actions_of plan i n) p actions.End) ≡ 0 →
        IsWorker plan bodies until v i n (p + 1) worker
    low_passed is none = record {
      ports = fit.ports;
      taken = λ q below. fit.taken q (omega (arith, operands_next (actions_of plan i n) p, none, below));
      room = fit.room;
      ran = still_unrun early;
      given = fit.given;
      work = fit.work;
    }
      where
        early : p + 1 < length (reads_of plan i n 0 plan.graph.edges)
        early = earlier_operand plan i n p is (λ all. omega (arith, all, none, port_inside plan i n p is))

    module _ (is : Reads (get_or (actions_of plan i n) p actions.End)) (whole : completes (get_or (actions_of plan i n) p actions.End) ≡ 1)
        (q : ℕ) (port : operands_before (actions_of plan i n) p ≡ q) (value : Value) (its : slice_get (reads_of_job plan.graph v i n) q ≡ Some value)
        (consumes : (k : ℕ) → (task_at plan.graph i).kind ≡ kinds.Sensor k → ⊥) where
      pub port_there : q < length worker.operands.items
      port_there = omega (arith, port_inside plan i n p is, fit.ports, port)

      before : (k : ℕ) → k < q → slice_get worker.operands.items k ≡ slice_get (reads_of_job plan.graph v i n) k
      before k below = fit.taken k (omega (arith, below, port))

      all_there : q + 1 ≡ length worker.operands.items → set worker.operands.items q value ≡ reads_of_job plan.graph v i n
      all_there last = filled worker.operands.items q value fit.ports last before its

      early : p < length (reads_of plan i n 0 plan.graph.edges)
      early = read_is_early plan i n p is

      pub ready_to_take : q + 1 ≡ length worker.operands.items → IsReady rows bodies n (set worker.operands.items q value) worker
      ready_to_take last = (
        fit.room,
        can_run worker.work (now_work (unrun early)) (set worker.operands.items q value) worker.outputs.items (all_there last) fit.room
            (λ k is_actuator. omega (arith, port_there, fit.ports)),
      )

      put : (k : ℕ) → k < operands_before (actions_of plan i n) (p + 1) →
          slice_get (set worker.operands.items q value) k ≡ slice_get (reads_of_job plan.graph v i n) k
      put k below =
          let next = operands_next (actions_of plan i n) p in
          elim (cases_eq k q) [
            | inl here ↦
                (ap (slice_get (set worker.operands.items q value)) here ∙ slice_get_set_same worker.operands.items q value port_there ∙ sym its
                ∙ ap (slice_get (reads_of_job plan.graph v i n)) (sym here))
            | inr other ↦ slice_get_set_other worker.operands.items q k value other ∙ before k (omega (arith, below, next, whole, port, other))
          ]

      pub operand_taken : (next : Worker) → HasTaken rows bodies q n value worker next → IsWorker plan bodies until v i n (p + 1) next
      operand_taken next takes =
          elim (cases_eq (q + 1) (length worker.operands.items)) [
            | inl last ↦ ran_on last (takes.last last)
            | inr other ↦ kept_on other (takes.other other)
          ]
        where
          ran_on : q + 1 ≡ length worker.operands.items → HasRun rows bodies n (set worker.operands.items q value) worker next → IsWorker plan bodies until v i n (p + 1) next
          ran_on last run =
              let done = run_done worker.work next.work (set worker.operands.items q value) next.outputs.items (now_work (unrun early)) (all_there last) run.runs in
              let l = fit.ports in
              let at_last : p + 1 ≡ length (reads_of plan i n 0 plan.graph.edges) = last_operand plan i n p is (omega (arith, whole, port, last, l)) in
              let m = (mark_of (length (reads_of plan i n 0 plan.graph.edges))).2 in
              record {
                ports = ap length run.taken ∙ length-set worker.operands.items q value ∙ fit.ports;
                taken = λ k below. ap (λ (xs : List Value). slice_get xs k) run.taken ∙ put k below;
                room = done.0;
                ran = run.ran ∙ sym (after_run (place_of_run plan i n) (p + 1) (elim m [
                  | inl none ↦ absurd (omega (arith, none, at_last))
                  | inr same ↦ omega (arith, same, at_last)
                ]));
                given = λ yes. done.1;
                work = same_work plan bodies until v i (n + 1) (n + once next.ran) next.work next.work (let o : once next.ran ≡ 1 = ap once run.ran in omega (arith, o)) refl done.2;
              }

          kept_on : q + 1 ≢ length worker.operands.items → HasKept (set worker.operands.items q value) worker next → IsWorker plan bodies until v i n (p + 1) next
          kept_on other kept =
              let l = fit.ports in
              let more : p + 1 < length (reads_of plan i n 0 plan.graph.edges) = earlier_operand plan i n p is (λ all. other (omega (arith, all, whole, port, l))) in
              record {
                ports = ap length kept.taken ∙ length-set worker.operands.items q value ∙ fit.ports;
                taken = λ k below. ap (λ (xs : List Value). slice_get xs k) kept.taken ∙ put k below;
                room = ap length kept.outputs ∙ fit.room ∙ ap (outs_of bodies) (sym kept.work);
                ran = kept.ran ∙ still_unrun more;
                given = λ yes. absurd (false_is_not_true worker.ran (unrun early) (sym kept.ran ∙ yes));
                work = same_work plan bodies until v i (n + once worker.ran) (n + once next.ran) worker.work next.work (let o = ap once kept.ran in omega (arith, o)) kept.work fit.work;
              }

    -- a write or an end
    module _ (never : Reads (get_or (actions_of plan i n) p actions.End) → ⊥)
        (some : (k : ℕ) → (task_at plan.graph i).kind ≡ kinds.Actuator k → 0 < length (port_types plan.graph.edges i)) where
      late : length (reads_of plan i n 0 plan.graph.edges) ≤ p
      late = other_is_late plan i n p never

      -- where the body has not run there is nothing to read
      nothing_read : worker.ran ≡ false → (length (reads_of plan i n 0 plan.graph.edges) ≡ 0) × (p ≡ 0)
      nothing_read unrun =
          let below = leb-false (place_of_run plan i n) p (sym fit.ran ∙ unrun) in
          elim (mark_of (length (reads_of plan i n 0 plan.graph.edges))).2 [
            | inl none ↦ (none, omega (arith, below, ap (λ (k : ℕ). max k 1) none))
            | inr same ↦ absurd (omega (arith, below, same, late))
          ]

      no_operand : worker.ran ≡ false → worker.operands.items ≡ reads_of_job plan.graph v i n
      no_operand unrun =
          let zero_count = ap operands_in (no_operands (reads_of plan i n 0 plan.graph.edges) ((nothing_read unrun).0)) in
          same_lists worker.operands.items (reads_of_job plan.graph v i n) (omega (arith, fit.ports, counted_reads))
          (λ k below. absurd (omega (arith, below, fit.ports, whole_reads plan i n 0 plan.graph.edges, zero_count)))

      pub ready_to_begin : worker.ran ≡ false → IsReady rows bodies n worker.operands.items worker
      ready_to_begin unrun = (fit.room, can_run worker.work (now_work unrun) worker.operands.items worker.outputs.items (no_operand unrun) fit.room some)

      -- the worker once its body has run
      pub record HasBody (next : Worker) : Type 0 where
        pub ports : length next.operands.items ≡ length (port_types plan.graph.edges i)
        pub same : next.operands.items ≡ worker.operands.items
        pub room : length next.outputs.items ≡ outs_of bodies next.work
        pub ran : next.ran ≡ true
        pub passed : leb (place_of_run plan i n) (p + 1) ≡ true
        pub given : HasGiven v i n next.outputs.items next.work
        pub work : IsWork plan bodies until v i (n + 1) next.work

      pub body_run : (next : Worker) → HasBegun rows bodies n worker next → HasBody next
      body_run next begun = go worker.ran refl
        where
          go : (b : Bool) → worker.ran ≡ b → HasBody next
          go false unrun =
              let run = begun.first unrun in
              let done = run_done worker.work next.work worker.operands.items next.outputs.items (now_work unrun) (no_operand unrun) run.runs in
              let none = (nothing_read unrun).0 in
              record {
                ports = ap length run.taken ∙ fit.ports;
                same = run.taken;
                room = done.0;
                ran = run.ran;
                passed = after_run (place_of_run plan i n) (p + 1) (let one : max (length (reads_of plan i n 0 plan.graph.edges)) 1 ≡ 1 = ap (λ (k : ℕ). max k 1) none in omega (arith, one));
                given = done.1;
                work = done.2;
              }
          go true was =
              let kept = begun.again was in
              let mark_passed = leb-true (place_of_run plan i n) p (sym fit.ran ∙ was) in
              record {
                ports = ap length kept.taken ∙ fit.ports;
                same = kept.taken;
                room = ap length kept.outputs ∙ fit.room ∙ ap (outs_of bodies) (sym kept.work);
                ran = kept.ran ∙ was;
                passed = after_run (place_of_run plan i n) (p + 1) (omega (arith, mark_passed));
                given = same_given v i n worker.work next.work worker.outputs.items next.outputs.items kept.work kept.outputs (fit.given was);
                work = same_work plan bodies until v i (n + once worker.ran) (n + 1) worker.work next.work (let o : once worker.ran ≡ 1 = ap once was in omega (arith, o)) kept.work fit.work;
              }

      pub instance_given : (next : Worker) → HasBody next → completes (get_or (actions_of plan i n) p actions.End) ≡ 0 → IsWorker plan bodies until v i n (p + 1) next
      instance_given next has none = record {
        ports = has.ports;
        taken = λ k below. ap (λ (xs : List Value). slice_get xs k) has.same ∙ fit.taken k (let more = operands_next (actions_of plan i n) p in omega (arith, more, none, below));
        room = has.room;
        ran = has.ran ∙ sym has.passed;
        given = λ yes. has.given;
        work = same_work plan bodies until v i (n + 1) (n + once next.ran) next.work next.work (let o : once next.ran ≡ 1 = ap once has.ran in omega (arith, o)) refl has.work;
      }

      pub job_ended : (begun next : Worker) → HasBody begun → HasEnded begun next → IsWorker plan bodies until v i (n + 1) 0 next
      job_ended begun next has ends =
          let m = (mark_of (length (reads_of plan i (n + 1) 0 plan.graph.edges))).1 in
          record {
            ports = ap length ends.operands ∙ has.ports;
            taken = λ k below. absurd (omega (arith, below));
            room = ap length ends.outputs ∙ has.room ∙ ap (outs_of bodies) (sym ends.work);
            ran = ends.ran ∙ sym (before_run (place_of_run plan i (n + 1)) 0 (omega (arith, m)));
            given = λ yes. absurd (false_is_not_true next.ran ends.ran yes);
            work = same_work plan bodies until v i (n + 1) (n + 1 + once next.ran) begun.work next.work (omega (arith, ap once ends.ran)) ends.work has.work;
          }

new_work : (plan : PlanView) (bodies : List CheckedBody) (until : ℕ) (v : JobValues) (i : ℕ) (work : Work) → IsNewWork plan bodies until i work →
    IsWork plan bodies until v i 0 work
new_work plan bodies until v i (works.Sensor k) is = is
new_work plan bodies until v i (works.Node word machine) is = (is.0, is.1, (is.2.0, is.2.1, is.2.2))
new_work plan bodies until v i (works.Actuator column) is = (is.0, is.1, λ m below. absurd (omega (arith, below)))

-- a new worker is one before the first action of its first job
pub new_worker : (plan : PlanView) (bodies : List CheckedBody) (until : ℕ) (v : JobValues) (i : ℕ) (worker : Worker) → IsNewWorker plan bodies until i worker →
    IsWorker plan bodies until v i 0 0 worker
new_worker plan bodies until v i worker is = record {
  ports = is.ports;
  taken = λ q below. absurd (omega (arith, below));
  room = is.room;
  ran = is.ran ∙ sym (before_run (place_of_run plan i 0) 0 (omega (arith, (mark_of (length (reads_of plan i 0 0 plan.graph.edges))).1)));
  given = λ yes. absurd (false_is_not_true worker.ran is.ran yes);
  work = same_work plan bodies until v i 0 (0 + once worker.ran) worker.work worker.work (omega (arith, ap once is.ran)) refl
      (new_work plan bodies until v i worker.work is.work);
}
