-- The reads of a job are at its ports in order.
use Rattle.prl_base.proofs.Standard.{◌≡◌, ◌+◌, ◌%◌, ◌<◌, ◌++◌, ℕ, zero, suc, Bool, true, false, List, [], ◌∷◌, get_or, inl, inr, refl, sym, subst, arith, cond, eqb, is_some, cases_eq}
use Rattle.prl_plan.specs.Vocabulary.{Action, Edge, Producer, Operand, IsWellFormed, PortsFollow, AreInOrder, operand_of, PlanView, place_on, cell_of, low, high, both_writes, reading, reads_of}
use Rattle.prl_plan.specs.Vocabulary.{writing, writes_of, actions_of, operands_in, operands_before, IsAtPort}
use Rattle.prl_plan.specs.declared.events.Action.TheVariants as actions
use Rattle.prl_plan.specs.declared.graphs.Producer.TheVariants as producers
use Rattle.prl_plan.specs.declared.walks.Operand.TheVariants as operands
use Rattle.prl_plan.proofs.UsedLaws.{test_same, test_differs}

-- the reads of the list are at ports in order, from q on
abbrev PortsFrom : ℕ → List Action → Type 0
PortsFrom q [] = Unit {0}
PortsFrom q (actions.ReadConst port value ∷ xs) = (port ≡ q) × PortsFrom (q + 1) xs
PortsFrom q (actions.Read port edge m slot ∷ xs) = (port ≡ q) × PortsFrom (q + slot.0 % 2) xs
PortsFrom q (actions.Write edge m slot ∷ xs) = PortsFrom q xs
PortsFrom q (actions.End ∷ xs) = PortsFrom q xs

move : (xs : List Action) (q r : ℕ) → q ≡ r → PortsFrom q xs → PortsFrom r xs
move xs q r e h = subst (λ (z : ℕ). PortsFrom z xs) e h

both : (xs ys : List Action) (q : ℕ) → PortsFrom q xs → PortsFrom (q + operands_in xs) ys → PortsFrom q (xs ++ ys)
both [] ys q first second = move ys (q + 0) q (omega arith) second
both (actions.ReadConst port value ∷ xs) ys q first second = (first.0, both xs ys (q + 1) first.1 (move ys (q + (1 + operands_in xs)) (q + 1 + operands_in xs) (omega arith) second))
both (actions.Read port edge m slot ∷ xs) ys q first second =
    (first.0, both xs ys (q + slot.0 % 2) first.1 (move ys (q + (slot.0 % 2 + operands_in xs)) (q + slot.0 % 2 + operands_in xs) (omega arith) second))
both (actions.Write edge m slot ∷ xs) ys q first second = both xs ys q first (move ys (q + (0 + operands_in xs)) (q + operands_in xs) (omega arith) second)
both (actions.End ∷ xs) ys q first second = both xs ys q first (move ys (q + (0 + operands_in xs)) (q + operands_in xs) (omega arith) second)

-- so a read at a place is at the port that is the number of operands before it
at_port : (xs : List Action) (q r place : ℕ) → PortsFrom q xs → IsAtPort r (get_or xs place actions.End) → r ≡ q + operands_before xs place
at_port [] q r place h is = absurd is
at_port (actions.ReadConst port value ∷ xs) q r zero h is = omega (arith, h.0, is)
at_port (actions.Read port edge m slot ∷ xs) q r zero h is = omega (arith, h.0, is)
at_port (actions.Write edge m slot ∷ xs) q r zero h is = absurd is
at_port (actions.End ∷ xs) q r zero h is = absurd is
at_port (actions.ReadConst port value ∷ xs) q r (suc place) h is = omega (arith, at_port xs (q + 1) r place h.1 is)
at_port (actions.Read port edge m slot ∷ xs) q r (suc place) h is = omega (arith, at_port xs (q + slot.0 % 2) r place h.1 is)
at_port (actions.Write edge m slot ∷ xs) q r (suc place) h is = omega (arith, at_port xs q r place h is)
at_port (actions.End ∷ xs) q r (suc place) h is = omega (arith, at_port xs q r place h is)

module _ (plan : PlanView) (i n : ℕ) where
  even : (c : ℕ) → low c % 2 ≡ 0
  even c = omega arith

  odd : (c : ℕ) → high c % 2 ≡ 1
  odd c = omega arith

  reading_ports : (e : ℕ) (edge : Edge) (operand : Operand) (q : ℕ) → edge.port ≡ q → PortsFrom q (reading plan e edge operand)
  reading_ports e edge (operands.Const c) q at = (at, tt)
  reading_ports e edge (operands.From m) q at = (at, (omega (arith, at, even (cell_of plan e m)), tt))

  reading_one : (e : ℕ) (edge : Edge) (operand : Operand) → operands_in (reading plan e edge operand) ≡ 1
  reading_one e edge (operands.Const c) = refl
  reading_one e edge (operands.From m) = omega (arith, even (cell_of plan e m), odd (cell_of plan e m))

  -- the reads of one edge, before those of the others
  one_edge : (e : ℕ) (x : Edge) (edges : List Edge) (q : ℕ) → (x.to.0 ≡ i → q ≡ x.port) → (x.to.0 < i → q ≡ 0) →
      ((r : ℕ) → (x.to.0 ≡ i → r ≡ x.port + 1) → (x.to.0 < i → r ≡ 0) → PortsFrom r (reads_of plan i n (e + 1) edges)) → PortsFrom q (reads_of plan i n e (x ∷ edges))
  one_edge e x edges q same less rest =
      elim (cases_eq x.to.0 i) [
        | inl here ↦
            (let at = same here in
            subst (λ (b : Bool). PortsFrom q (cond b (reading plan e x (operand_of x n)) [] ++ reads_of plan i n (e + 1) edges)) (sym (test_same x.to.0 i here))
            (both (reading plan e x (operand_of x n)) (reads_of plan i n (e + 1) edges) q (reading_ports e x (operand_of x n) q (sym at))
            (let one = reading_one e x (operand_of x n) in
            rest (q + operands_in (reading plan e x (operand_of x n))) (λ h. omega (arith, one, at)) (λ h. absurd (omega (arith, h, here))))))
        | inr other ↦
            (subst (λ (b : Bool). PortsFrom q (cond b (reading plan e x (operand_of x n)) [] ++ reads_of plan i n (e + 1) edges)) (sym (test_differs x.to.0 i other))
            (rest q (λ h. absurd (other h)) less))
      ]

  rest_ports : (e : ℕ) (x : Edge) (edges : List Edge) → PortsFollow x.to.0 x.port edges → (q : ℕ) → (x.to.0 ≡ i → q ≡ x.port + 1) → (x.to.0 < i → q ≡ 0) →
      PortsFrom q (reads_of plan i n e edges)
  rest_ports e x [] follow q same less = tt
  rest_ports e x (y ∷ edges) follow q same less =
      one_edge e y edges q
      (λ at. elim follow.0 [
        | inl next ↦ omega (arith, same (omega (arith, next.0, at)), next.1)
        | inr later ↦ omega (arith, less (omega (arith, later.0, at)), later.1)
      ])
      (λ under. less (elim follow.0 [ inl next ↦ omega (arith, next.0, under) | inr later ↦ omega (arith, later.0, under) ]))
      (λ r. rest_ports (e + 1) y edges follow.1 r)

  all_ports : (edges : List Edge) → AreInOrder edges → PortsFrom 0 (reads_of plan i n 0 edges)
  all_ports [] order = tt
  all_ports (x ∷ edges) order = one_edge 0 x edges 0 (λ at. sym order.0) (λ under. refl) (λ r. rest_ports 1 x edges order.1 r)

  writing_ports : (e : ℕ) (from : Producer) (q : ℕ) → PortsFrom q (writing plan i n e from)
  writing_ports e (producers.Constant value) q = tt
  writing_ports e (producers.Port task out) q = go (eqb task.0 i) (is_some (place_on plan e n))
    where
      go : (a b : Bool) → PortsFrom q (cond a (cond b (both_writes plan e n) []) [])
      go true true = tt
      go true false = tt
      go false b = tt

  writes_ports : (e : ℕ) (edges : List Edge) (q : ℕ) → PortsFrom q (writes_of plan i n e edges)
  writes_ports e [] q = tt
  writes_ports e (edge ∷ edges) q =
      both (writing plan i n e edge.from) (writes_of plan i n (e + 1) edges) q (writing_ports e edge.from q)
      (writes_ports (e + 1) edges (q + operands_in (writing plan i n e edge.from)))

  actions_ports : AreInOrder plan.graph.edges → PortsFrom 0 (actions_of plan i n)
  actions_ports order =
      both (reads_of plan i n 0 plan.graph.edges ++ writes_of plan i n 0 plan.graph.edges) (actions.End ∷ []) 0
      (both (reads_of plan i n 0 plan.graph.edges) (writes_of plan i n 0 plan.graph.edges) 0 (all_ports plan.graph.edges order)
      (writes_ports 0 plan.graph.edges (0 + operands_in (reads_of plan i n 0 plan.graph.edges)))) tt

-- each read is at the port that is the number of operands which the actions before it complete
pub ports_in_order : (plan : PlanView) → IsWellFormed plan.graph → (i n place port : ℕ) → IsAtPort port (get_or (actions_of plan i n) place actions.End) →
    operands_before (actions_of plan i n) place ≡ port
ports_in_order plan good i n place port is = omega (arith, at_port (actions_of plan i n) 0 port place (actions_ports plan i n good.order) is)
