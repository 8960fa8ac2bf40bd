-- The values of a run hang together.
use Rattle.prl_base.proofs.Standard.{◌≡◌, ℕ, zero, suc, ◌+◌, ◌-◌, ◌/◌, ◌%◌, ◌<◌, ◌≤◌, List, [], ◌∷◌, ◌++◌, length, length-append, get_or, take, sum, refl, sym, ap, ◌∙◌, subst, inl, inr, arith, Bool}
use Rattle.prl_base.proofs.Standard.{true, false, cond, eqb, max, Option, Some, None, pos, mod-lt, cases_eq, nat_tests, slice_get-get_or, slice_get, unwrap_or}
use Rattle.std.proofs.lemmas.List.{append_assoc}
use Rattle.prl_base.specs.Values.{type_of}
use Rattle.prl_base.specs.declared.numbers.EdgeNo.{EdgeNo}
use Rattle.prl_base.specs.declared.values.Value.{Value}
use Rattle.prl_base.specs.declared.values.Value.TheVariants as values
use Rattle.prl_body.specs.declared.bodies.CheckedBody.{CheckedBody}
use Rattle.prl_plan.specs.Vocabulary.{HasCells, no_used, encoded_release, encoded_deadline, IsJob, AreInOrder, PortsFollow, task_at, IsHorizonJob, operand_of, operand_from, walk, PlanView, IsPlan}
use Rattle.prl_plan.specs.Vocabulary.{IsActionOf, IsAtPort, IsHalfOf, actions_of, cell_of, edge_at, no_edge, operands_before, operands_in, place_on, reading, reads_of, writes_of}
use Rattle.prl_plan.specs.declared.events.Action.{Action}
use Rattle.prl_plan.specs.declared.events.SlotNo.{SlotNo}
use Rattle.prl_plan.specs.declared.graphs.Edge.{Edge}
use Rattle.prl_plan.specs.declared.graphs.Kind.{Kind}
use Rattle.prl_plan.specs.declared.graphs.Producer.{Producer}
use Rattle.prl_plan.specs.declared.tables.Used.{Used}
use Rattle.prl_plan.specs.declared.walks.Operand.{Operand}
use Rattle.prl_plan.specs.declared.events.Action.TheVariants as actions
use Rattle.prl_plan.specs.declared.graphs.Kind.TheVariants as kinds
use Rattle.prl_plan.specs.declared.graphs.Producer.TheVariants as producers
use Rattle.prl_plan.specs.declared.walks.Operand.TheVariants as operands
use Rattle.prl_values.specs.Vocabulary.{place_of_run, JobValues, AreJobValues, body_of_task, gives, read_on, reads_of_job, reads_over, value_from, value_on}
use Rattle.prl_rule.specs.Vocabulary.{Constants, edge_in, instance_on, job_values_of, registers_of, run_in, run_of, run_with, values_of, HasValueFacts}
use Rattle.prl_rule.proofs.CellEdges.{edge_in_range}

eq_yes : (a b : ℕ) → a ≡ b → eqb a b ≡ true
eq_yes a b h = grind (arith, nat_tests)

eq_no : (a b : ℕ) → (a ≡ b → ⊥) → eqb a b ≡ false
eq_no a b h = grind (arith, nat_tests)

-- what a task reads at a port is what it reads on the edge of that port
module _ (v : JobValues) (i n : ℕ) where
  abbrev FoundFrom : ℕ → List Edge → Edge → Type 0
  FoundFrom q edges edge = (j : ℕ) × (edge.port ≡ q + j) × (slice_get (reads_over v edges i n) j ≡ Some (read_on v edge n))

  -- an edge into the task, before others
  with_edge : (y : Edge) (edges : List Edge) (edge : Edge) (j : ℕ) → y.to.0 ≡ i → slice_get (reads_over v edges i n) j ≡ Some (read_on v edge n) →
      slice_get (reads_over v (y ∷ edges) i n) (suc j) ≡ Some (read_on v edge n)
  with_edge y edges edge j to found =
      subst (λ (b : Bool). slice_get (cond b (read_on v y n ∷ reads_over v edges i n) (reads_over v edges i n)) (suc j) ≡ Some (read_on v edge n)) (sym (eq_yes y.to.0 i to)) found

  first_edge : (y : Edge) (edges : List Edge) → y.to.0 ≡ i → slice_get (reads_over v (y ∷ edges) i n) 0 ≡ Some (read_on v y n)
  first_edge y edges to =
      subst (λ (b : Bool). slice_get (cond b (read_on v y n ∷ reads_over v edges i n) (reads_over v edges i n)) 0 ≡ Some (read_on v y n)) (sym (eq_yes y.to.0 i to)) refl

  past_edge : (y : Edge) (edges : List Edge) (edge : Edge) (j : ℕ) → (y.to.0 ≡ i → ⊥) → slice_get (reads_over v edges i n) j ≡ Some (read_on v edge n) →
      slice_get (reads_over v (y ∷ edges) i n) j ≡ Some (read_on v edge n)
  past_edge y edges edge j to found =
      subst (λ (b : Bool). slice_get (cond b (read_on v y n ∷ reads_over v edges i n) (reads_over v edges i n)) j ≡ Some (read_on v edge n)) (sym (eq_no y.to.0 i to)) found

  none_at : (edge : Edge) (k : ℕ) → slice_get [] k ≡ Some edge → ⊥
  none_at edge zero e = cc
  none_at edge (suc k) e = cc

  found_after : (x : Edge) (edges : List Edge) → PortsFollow x.to.0 x.port edges → (q : ℕ) → (x.to.0 ≡ i → q ≡ x.port + 1) → (x.to.0 < i → q ≡ 0) →
      (k : ℕ) (edge : Edge) → slice_get edges k ≡ Some edge → edge.to.0 ≡ i → FoundFrom q edges edge
  found_after x [] follow q same less k edge at to = absurd (none_at edge k at)
  found_after x (y ∷ edges) follow q same less zero edge at to =
      let one : y ≡ edge = cc at in
      let here : y.to.0 ≡ i = ap (λ (z : Edge). z.to.0) one ∙ to in
      let port : y.port ≡ q = elim follow.0 [
        | inl next ↦ (let t = next.0 in let p = next.1 in let s = same (omega (arith, t, here)) in omega (arith, s, p))
        | inr later ↦ (let t = later.0 in let p = later.1 in let s = less (omega (arith, t, here)) in omega (arith, s, p))
      ] in
      let P : Edge → Type 0 = λ z. FoundFrom q (y ∷ edges) z in
      subst P one (0, omega (arith, port), first_edge y edges here)
  found_after x (y ∷ edges) follow q same less (suc k) edge at to =
      elim (cases_eq y.to.0 i) [
        | inl here ↦
            (let port : y.port ≡ q = elim follow.0 [
              | inl next ↦ (let t = next.0 in let p = next.1 in let s = same (omega (arith, t, here)) in omega (arith, s, p))
              | inr later ↦ (let t = later.0 in let p = later.1 in let s = less (omega (arith, t, here)) in omega (arith, s, p))
            ] in
            let rest = found_after y edges follow.1 (q + 1) (λ h. omega (arith, port)) (λ h. absurd (omega (arith, h, here))) k edge at to in
            (suc rest.0, (let r = rest.1 in omega (arith, r)), with_edge y edges edge rest.0 here rest.2))
        | inr other ↦
            (let rest = found_after y edges follow.1 q (λ h. absurd (other h))
            (λ under. elim follow.0 [
              | inl next ↦ (let t = next.0 in less (omega (arith, t, under)))
              | inr later ↦ (let t = later.0 in less (omega (arith, t, under)))
            ]) k edge at to in
            (rest.0, rest.1, past_edge y edges edge rest.0 other rest.2))
      ]

  found_all : (edges : List Edge) → AreInOrder edges → (k : ℕ) (edge : Edge) → slice_get edges k ≡ Some edge → edge.to.0 ≡ i → FoundFrom 0 edges edge
  found_all [] order k edge at to = absurd (none_at edge k at)
  found_all (y ∷ edges) order zero edge at to =
      let one : y ≡ edge = cc at in
      let here : y.to.0 ≡ i = ap (λ (z : Edge). z.to.0) one ∙ to in
      let P : Edge → Type 0 = λ z. FoundFrom 0 (y ∷ edges) z in
      subst P one (0, omega (arith, order.0), first_edge y edges here)
  found_all (y ∷ edges) order (suc k) edge at to =
      elim (cases_eq y.to.0 i) [
        | inl here ↦
            (let rest = found_after y edges order.1 1 (λ h. omega (arith, order.0)) (λ h. absurd (omega (arith, h, here))) k edge at to in
            (suc rest.0, (let r = rest.1 in omega (arith, r)), with_edge y edges edge rest.0 here rest.2))
        | inr other ↦
            (let rest = found_after y edges order.1 0 (λ h. absurd (other h)) (λ under. refl) k edge at to in
            (rest.0, rest.1, past_edge y edges edge rest.0 other rest.2))
      ]

-- how many operands the reads of a job complete
operands_of_two : (xs ys : List Action) → operands_in (xs ++ ys) ≡ operands_in xs + operands_in ys
operands_of_two [] ys = omega arith
operands_of_two (x ∷ xs) ys = let rest = operands_of_two xs ys in omega (arith, rest)

reading_one : (plan : PlanView) (e : ℕ) (edge : Edge) (operand : Operand) → operands_in (reading plan e edge operand) ≡ 1
reading_one plan e edge (operands.Const c) = refl
reading_one plan e edge (operands.From m) = omega arith

all_operands : (plan : PlanView) (v : JobValues) (i n e : ℕ) (edges : List Edge) → operands_in (reads_of plan i n e edges) ≡ length (reads_over v edges i n)
all_operands plan v i n e [] = refl
all_operands plan v i n e (edge ∷ edges) = go (all_operands plan v i n (e + 1) edges) (eqb edge.to.0 i)
  where
    go : operands_in (reads_of plan i n (e + 1) edges) ≡ length (reads_over v edges i n) → (b : Bool) →
        operands_in (cond b (reading plan e edge (operand_of edge n)) [] ++ reads_of plan i n (e + 1) edges)
        ≡ length (cond b (read_on v edge n ∷ reads_over v edges i n) (reads_over v edges i n))
    go rest true =
        let both = operands_of_two (reading plan e edge (operand_of edge n)) (reads_of plan i n (e + 1) edges) in omega (arith, rest, reading_one plan e edge (operand_of edge n), both)
    go rest false = rest

taken_all : (xs ys : List Action) (place : ℕ) → length xs ≤ place → operands_in xs ≤ operands_in (take place (xs ++ ys))
taken_all [] ys place long = omega arith
taken_all (x ∷ xs) ys zero long = absurd (omega (arith, long))
taken_all (x ∷ xs) ys (suc place) long = let rest = taken_all xs ys place (omega (arith, long)) in omega (arith, rest)

module _ (k : Constants) (plan : IsPlan k.plan)
    (horizon : (i n : ℕ) → IsJob (run_of k) i n → IsHorizonJob k.plan.graph k.horizon.until i n)
    (each : (i n place : ℕ) → IsActionOf k.plan i n (get_or (actions_of k.plan i n) place actions.End))
    (ports : (i n place port : ℕ) → IsAtPort port (get_or (actions_of k.plan i n) place actions.End) → operands_before (actions_of k.plan i n) place ≡ port)
    (ends : (i n place : ℕ) → get_or (actions_of k.plan i n) place actions.End ≡ actions.End → length (actions_of k.plan i n) ≤ place + 1)
    (jobs : AreJobValues k.plan.graph k.bodies k.sensors k.horizon.until (job_values_of k))
    (typed : (e n : ℕ) → e < length k.plan.graph.edges → IsHorizonJob k.plan.graph k.horizon.until (edge_at k.plan.graph e).to.0 n →
    (value : Value) × (value_on (job_values_of k) (edge_at k.plan.graph e) n ≡ Some value) × (type_of value ≡ (edge_at k.plan.graph e).ty)) where
  edge_is : (e : ℕ) → e < length k.plan.graph.edges → slice_get k.plan.graph.edges e ≡ Some (edge_at k.plan.graph e)
  edge_is e inside = slice_get-get_or k.plan.graph.edges e no_edge inside

  -- an edge on which an instance is read has cells, which follow those of the edges before it
  some_cells : (edge : Edge) (from : Producer) (w : Operand) (m before base count : ℕ) (used : Used) → operand_from from w ≡ operands.From m →
      HasCells edge from (encoded_release k.plan.graph k.plan.windows) (encoded_deadline k.plan.graph k.plan.windows) before base count used → (base ≡ before) × (1 ≤ count)
  some_cells edge (producers.Port task out) w m before base count used h cells = (cells.0, cells.2.some)
  some_cells edge (producers.Constant value) (operands.Const c) m before base count used h cells = absurd (cc h)
  some_cells edge (producers.Constant value) (operands.From l) m before base count used h cells = absurd (cc h)

  cell_is_of : (e n m : ℕ) → e < length k.plan.graph.edges → operand_of (edge_at k.plan.graph e) n ≡ operands.From m → edge_in k.plan.counts (cell_of k.plan e m) ≡ e
  cell_is_of e n m inside reads =
      let some = some_cells (edge_at k.plan.graph e) (edge_at k.plan.graph e).from (walk (edge_at k.plan.graph e).ops n) m (sum (take e k.plan.counts)) (get_or k.plan.bases e 0) (get_or k.plan.counts e 0)
      (get_or k.plan.used e no_used) reads (plan.cells.cells e (edge_at k.plan.graph e) (edge_is e inside)) in
      let base = some.0 in
      let less : unwrap_or (place_on k.plan e m) 0 % get_or k.plan.counts e 0 < get_or k.plan.counts e 0 = mod-lt (unwrap_or (place_on k.plan e m) 0) some.1 in
      edge_in_range k.plan.counts e (cell_of k.plan e m) (omega (arith, plan.cells.lengths.1, inside)) (omega (arith, base)) (omega (arith, base, less))

  -- the cell of a half
  cell_of_half : (cell slot : ℕ) → IsHalfOf cell slot → slot / 2 ≡ cell
  cell_of_half cell slot (inl low_) = omega (arith, low_)
  cell_of_half cell slot (inr high_) = omega (arith, high_)

  -- the value of an instance that a horizon job reads
  value_of_read : (e n m : ℕ) → e < length k.plan.graph.edges → IsHorizonJob k.plan.graph k.horizon.until (edge_at k.plan.graph e).to.0 n →
      operand_of (edge_at k.plan.graph e) n ≡ operands.From m →
      (type_of (instance_on k e m) ≡ (edge_at k.plan.graph e).ty) × (read_on (job_values_of k) (edge_at k.plan.graph e) n ≡ instance_on k e m)
  value_of_read e n m inside job reads =
      let t = typed e n inside job in
      let same : value_from (job_values_of k) (edge_at k.plan.graph e).from (operands.From m) ≡ Some t.0 =
      ap (λ (o : Operand). value_from (job_values_of k) (edge_at k.plan.graph e).from o) (sym reads) ∙ t.1 in (
        ap (λ (o : Option Value). type_of (unwrap_or o (values.Int (pos 0)))) same ∙ t.2,
        ap (λ (o : Operand). unwrap_or (value_from (job_values_of k) (edge_at k.plan.graph e).from o) (values.Int (pos 0))) reads,
      )

  abbrev stored_in : ℕ → ℕ → Value
  stored_in cell m = instance_on k (edge_in k.plan.counts cell) m

  stored_is : (e n m slot : ℕ) → e < length k.plan.graph.edges → operand_of (edge_at k.plan.graph e) n ≡ operands.From m → IsHalfOf (cell_of k.plan e m) slot →
      stored_in (slot / 2) m ≡ instance_on k e m
  stored_is e n m slot inside reads half =
      ap (λ (x : ℕ). instance_on k x m) (ap (edge_in k.plan.counts) (cell_of_half (cell_of k.plan e m) slot half) ∙ cell_is_of e n m inside reads)

  abbrev read_at : ℕ → ℕ → ℕ → Action
  read_at i n place = get_or (actions_of k.plan i n) place actions.End

  pub typed_read : (i n place port : ℕ) (e : EdgeNo) (m : ℕ) (slot : SlotNo) → IsJob (run_of k) i n → read_at i n place ≡ actions.Read port e m slot →
      type_of (stored_in (slot.0 / 2) m) ≡ (edge_at k.plan.graph e.0).ty
  typed_read i n place port e m slot job is =
      let a : IsActionOf k.plan i n (actions.Read port e m slot) = subst (IsActionOf k.plan i n) is (each i n place) in
      let here : IsHorizonJob k.plan.graph k.horizon.until (edge_at k.plan.graph e.0).to.0 n = subst (λ (x : ℕ). IsHorizonJob k.plan.graph k.horizon.until x n) (sym a.1) (horizon i n job) in
      ap type_of (stored_is e.0 n m slot.0 a.0 a.3 a.4) ∙ (value_of_read e.0 n m a.0 here a.3).0

  -- what a job reads on the edge that its action names
  pub named_read : (i n place port : ℕ) (e : EdgeNo) (m : ℕ) (slot : SlotNo) → IsJob (run_of k) i n → read_at i n place ≡ actions.Read port e m slot →
      ((edge_at k.plan.graph e.0).to.0 ≡ i) × ((edge_at k.plan.graph e.0).port ≡ port) × (operand_of (edge_at k.plan.graph e.0) n ≡ operands.From m)
      × (value_on (job_values_of k) (edge_at k.plan.graph e.0) n ≡ Some ((values_of k).stored (slot.0 / 2) m))
  unfolding values_of
  named_read i n place port e m slot job is =
      let a : IsActionOf k.plan i n (actions.Read port e m slot) = subst (IsActionOf k.plan i n) is (each i n place) in
      let here : IsHorizonJob k.plan.graph k.horizon.until (edge_at k.plan.graph e.0).to.0 n = subst (λ (x : ℕ). IsHorizonJob k.plan.graph k.horizon.until x n) (sym a.1) (horizon i n job) in
      let t = typed e.0 n a.0 here in
      let read : t.0 ≡ read_on (job_values_of k) (edge_at k.plan.graph e.0) n = sym (ap (λ (o : Option Value). unwrap_or o (values.Int (pos 0))) t.1) in (
        a.1,
        a.2,
        a.3,
        t.1 ∙ ap (λ (x : Value). Some x) (read ∙ ((value_of_read e.0 n m a.0 here a.3).1 ∙ sym (stored_is e.0 n m slot.0 a.0 a.3 a.4))),
      )

  -- what stands among the operands at a port
  at_port : (i n place port e : ℕ) → e < length k.plan.graph.edges → (edge_at k.plan.graph e).to.0 ≡ i → (edge_at k.plan.graph e).port ≡ port → IsAtPort port (read_at i n place) →
      slice_get (reads_of_job k.plan.graph (job_values_of k) i n) (operands_before (actions_of k.plan i n) place) ≡ Some (read_on (job_values_of k) (edge_at k.plan.graph e) n)
  at_port i n place port e inside to same is =
      let found = found_all (job_values_of k) i n k.plan.graph.edges plan.graph.order e (edge_at k.plan.graph e) (edge_is e inside) to in
      let place_is : operands_before (actions_of k.plan i n) place ≡ found.0 = omega (arith, ports i n place port is, same, found.1) in
      ap (λ (j : ℕ). slice_get (reads_of_job k.plan.graph (job_values_of k) i n) j) place_is ∙ found.2

  pub operand_read : (i n place port : ℕ) (e : EdgeNo) (m : ℕ) (slot : SlotNo) → IsJob (run_of k) i n → read_at i n place ≡ actions.Read port e m slot →
      slice_get (reads_of_job k.plan.graph (job_values_of k) i n) (operands_before (actions_of k.plan i n) place) ≡ Some (stored_in (slot.0 / 2) m)
  operand_read i n place port e m slot job is =
      let a : IsActionOf k.plan i n (actions.Read port e m slot) = subst (IsActionOf k.plan i n) is (each i n place) in
      let here : IsHorizonJob k.plan.graph k.horizon.until (edge_at k.plan.graph e.0).to.0 n = subst (λ (x : ℕ). IsHorizonJob k.plan.graph k.horizon.until x n) (sym a.1) (horizon i n job) in
      at_port i n place port e.0 a.0 a.1 a.2 (subst (IsAtPort port) (sym is) refl)
      ∙ ap (λ (x : Value). Some x) ((value_of_read e.0 n m a.0 here a.3).1 ∙ sym (stored_is e.0 n m slot.0 a.0 a.3 a.4))

  pub constant_read : (i n place port : ℕ) (value : Value) → read_at i n place ≡ actions.ReadConst port value →
      slice_get (reads_of_job k.plan.graph (job_values_of k) i n) (operands_before (actions_of k.plan i n) place) ≡ Some value
  constant_read i n place port value is =
      let a : IsActionOf k.plan i n (actions.ReadConst port value) = subst (IsActionOf k.plan i n) is (each i n place) in
      at_port i n place port a.0 a.1 a.2 a.3 (subst (IsAtPort port) (sym is) refl)
      ∙ ap (λ (o : Operand). Some (unwrap_or (value_from (job_values_of k) (edge_at k.plan.graph a.0).from o) (values.Int (pos 0)))) a.4

  pub first_run : (i n : ℕ) → 1 ≤ place_of_run k.plan i n
  first_run i n = at_least (length (reads_of k.plan i n 0 k.plan.graph.edges))
    where
      at_least : (a : ℕ) → 1 ≤ max a 1
      at_least a = omega arith

  reads_by : (i n place : ℕ) → place_of_run k.plan i n ≤ place → length (reads_of k.plan i n 0 k.plan.graph.edges) ≤ place
  reads_by i n place h = below (length (reads_of k.plan i n 0 k.plan.graph.edges)) place h
    where
      below : (a b : ℕ) → max a 1 ≤ b → a ≤ b
      below a b h = omega (arith, h)

  pub complete_run : (i n place : ℕ) → place_of_run k.plan i n ≤ place →
      length (reads_of_job k.plan.graph (job_values_of k) i n) ≤ operands_before (actions_of k.plan i n) place
  complete_run i n place h =
      let long = taken_all (reads_of k.plan i n 0 k.plan.graph.edges) (writes_of k.plan i n 0 k.plan.graph.edges ++ actions.End ∷ []) place (reads_by i n place h) in
      let same : operands_in (take place (reads_of k.plan i n 0 k.plan.graph.edges ++ (writes_of k.plan i n 0 k.plan.graph.edges ++ actions.End ∷ [])))
      ≡ operands_before (actions_of k.plan i n) place =
      ap (λ (l : List Action). operands_in (take place l)) (sym (append_assoc (reads_of k.plan i n 0 k.plan.graph.edges) (writes_of k.plan i n 0 k.plan.graph.edges) (actions.End ∷ []))) in
      omega (arith, all_operands k.plan (job_values_of k) i n 0 k.plan.graph.edges, long, same)

  pub run_by_end : (i n place : ℕ) → read_at i n place ≡ actions.End → place_of_run k.plan i n ≤ place + 1
  run_by_end i n place is =
      let split = length-append (reads_of k.plan i n 0 k.plan.graph.edges ++ writes_of k.plan i n 0 k.plan.graph.edges) (actions.End ∷ []) in
      let again = length-append (reads_of k.plan i n 0 k.plan.graph.edges) (writes_of k.plan i n 0 k.plan.graph.edges) in
      at_most (length (reads_of k.plan i n 0 k.plan.graph.edges)) place (omega (arith, ends i n place is, split, again))
    where
      at_most : (a b : ℕ) → a ≤ b → max a 1 ≤ b + 1
      at_most a b h = omega (arith, h)

  -- a step of the body is that of the job
  pub run_is : (i n : ℕ) → IsJob (run_of k) i n →
      run_in k i n (reads_of_job k.plan.graph (job_values_of k) i n)
      (registers_of (task_at k.plan.graph i).kind (body_of_task k.bodies (task_at k.plan.graph i)) (reads_of_job k.plan.graph (job_values_of k) i) n)
      ≡ record {
        outputs = job_values_of k i n;
        registers = registers_of (task_at k.plan.graph i).kind (body_of_task k.bodies (task_at k.plan.graph i)) (reads_of_job k.plan.graph (job_values_of k) i) (n + 1);
      }
  run_is i n job =
      let next : suc n ≡ n + 1 = omega arith in
      let give : gives (task_at k.plan.graph i).kind k.sensors (body_of_task k.bodies (task_at k.plan.graph i)) (reads_of_job k.plan.graph (job_values_of k) i) n ≡ job_values_of k i n =
      sym (jobs.each i n (horizon i n job)) in
      go (task_at k.plan.graph i).kind (body_of_task k.bodies (task_at k.plan.graph i))
      ∙ (λ h. record {
        outputs = give h;
        registers = registers_of (task_at k.plan.graph i).kind (body_of_task k.bodies (task_at k.plan.graph i)) (reads_of_job k.plan.graph (job_values_of k) i) (next h);
      })
    where
      go : (kind : Kind) (body : Option CheckedBody) →
          run_with kind k.sensors body n (reads_of_job k.plan.graph (job_values_of k) i n) (registers_of kind body (reads_of_job k.plan.graph (job_values_of k) i) n)
          ≡ record {
            outputs = gives kind k.sensors body (reads_of_job k.plan.graph (job_values_of k) i) n;
            registers = registers_of kind body (reads_of_job k.plan.graph (job_values_of k) i) (suc n);
          }
      go (kinds.Sensor j) body = refl
      go (kinds.Node j) (Some body) = refl
      go (kinds.Node j) None = refl
      go (kinds.Actuator j) body = refl

  pub run_values_facts : HasValueFacts (run_of k) (values_of k)
  unfolding values_of
  run_values_facts = record {
    typed = typed_read;
    operand = λ i n place port e m slot job is odd. operand_read i n place port e m slot job is;
    constant = λ i n place port value job is. constant_read i n place port value is;
    first = first_run;
    complete = λ i n place job h. complete_run i n place h;
    by_end = λ i n place job is. run_by_end i n place is;
    run = run_is;
  }
