-- How the actions of a job complete its operands.
use Rattle.prl_base.proofs.Standard.{◌≡◌, ◌≢◌, ◌+◌, ◌-◌, ◌<◌, ◌≤◌, ◌++◌, ℕ, zero, suc, Bool, true, false, List, [], ◌∷◌, length, length-append, take, get_or, inl, inr, refl, sym, ◌∙◌, ap, subst}
use Rattle.prl_base.proofs.Standard.{arith, cond, eqb, is_some, cases_lt, cases_eq, take-append-le, get_or_append_left, take-append-add, take-length, get_or-append_right}
use Rattle.std.proofs.lemmas.List.{append_assoc}
use Rattle.prl_plan.specs.Vocabulary.{operand_of, PlanView, place_on, cell_of, both_writes, reading, reads_of, writing, writes_of, actions_of, completes, operands_in, operands_before}
use Rattle.prl_plan.specs.declared.events.Action.{Action}
use Rattle.prl_plan.specs.declared.graphs.Edge.{Edge}
use Rattle.prl_plan.specs.declared.graphs.Producer.{Producer}
use Rattle.prl_plan.specs.declared.walks.Operand.{Operand}
use Rattle.prl_plan.specs.declared.events.Action.TheVariants as actions
use Rattle.prl_plan.specs.declared.graphs.Producer.TheVariants as producers
use Rattle.prl_plan.specs.declared.walks.Operand.TheVariants as operands
use Rattle.prl_plan.proofs.StateLaws.{low_is_even, high_is_odd}
use Rattle.prl_plan.proofs.UsedLaws.{test_same, test_differs}
use Rattle.prl_values.specs.Fitting.{port_types}

-- the action reads
abbrev pub Reads : Action → Type 0
Reads (actions.ReadConst port value) = Unit {0}
Reads (actions.Read port edge m slot) = Unit {0}
Reads (actions.Write edge m slot) = ⊥
Reads actions.End = ⊥

abbrev at : List Action → ℕ → Action
at xs p = get_or xs p actions.End

operands_append : (xs ys : List Action) → operands_in (xs ++ ys) ≡ operands_in xs + operands_in ys
operands_append [] ys = omega arith
operands_append (x ∷ xs) ys = omega (arith, operands_append xs ys)

take_none : (n : ℕ) → ◌≡◌ {A = List Action} (take n []) []
take_none zero = refl
take_none (suc n) = refl

operands_after : (xs : List Action) (p : ℕ) → operands_in (take (suc p) xs) ≡ operands_in (take p xs) + completes (get_or xs p actions.End)
operands_after [] p =
    let past : completes (get_or [] p actions.End) ≡ 0 = refl in
    omega (arith, ap operands_in (take_none p), past)
operands_after (x ∷ xs) zero = omega arith
operands_after (x ∷ xs) (suc p) = omega (arith, operands_after xs p)

-- one action more
pub operands_next : (xs : List Action) (p : ℕ) → operands_in (take (p + 1) xs) ≡ operands_in (take p xs) + completes (get_or xs p actions.End)
operands_next xs p = (let more : p + 1 ≡ suc p = omega arith in ap (λ (k : ℕ). operands_in (take k xs)) more ∙ operands_after xs p)

-- of a list that completes one operand with its last action, and of another one after it
both_operands : (first rest : List Action) (ports p : ℕ) → ((k : ℕ) → k < length first → operands_in (take k first) ≡ 0) → operands_in first ≡ 1 →
    ((k : ℕ) → k < length rest → operands_in (take k rest) < ports) → p < length (first ++ rest) → operands_in (take p (first ++ rest)) < suc ports
both_operands first rest ports p part whole parts below =
    elim (cases_lt p (length first)) [
      | inl inside ↦
          omega (arith, ap operands_in (take-append-le p first rest (omega (arith, inside))), part p inside)
      | inr past ↦
          (let split : p ≡ length first + (p - length first) = omega (arith, past) in
          let sum = operands_append first (take (p - length first) rest) in
          let less = parts (p - length first) (omega (arith, below, length-append first rest, past)) in
          omega (arith, ap (λ (k : ℕ). operands_in (take k (first ++ rest))) split ∙ ap operands_in (take-append-add first rest (p - length first)), sum, whole, less))
    ]

both_read : (first rest : List Action) (p : ℕ) → ((k : ℕ) → k < length first → Reads (get_or first k actions.End)) →
    ((k : ℕ) → k < length rest → Reads (get_or rest k actions.End)) → p < length (first ++ rest) → Reads (get_or (first ++ rest) p actions.End)
both_read first rest p part parts below =
    elim (cases_lt p (length first)) [
      | inl inside ↦ subst Reads (sym (get_or_append_left first rest actions.End p inside)) (part p inside)
      | inr past ↦
          (subst Reads (sym (get_or-append_right first rest p actions.End past)) (parts (p - length first) (omega (arith, below, length-append first rest, past))))
    ]

module _ (plan : PlanView) (i n : ℕ) where
  -- the reads of an edge complete one operand, with the last of them
  part_of_reading : (e : ℕ) (edge : Edge) (operand : Operand) (p : ℕ) → p < length (reading plan e edge operand) → operands_in (take p (reading plan e edge operand)) ≡ 0
  part_of_reading e edge (operands.Const c) zero below = refl
  part_of_reading e edge (operands.Const c) (suc p) below = absurd (omega (arith, below))
  part_of_reading e edge (operands.From m) zero below = refl
  part_of_reading e edge (operands.From m) (suc zero) below = omega (arith, low_is_even (cell_of plan e m))
  part_of_reading e edge (operands.From m) (suc (suc p)) below = absurd (omega (arith, below))

  whole_reading : (e : ℕ) (edge : Edge) (operand : Operand) → operands_in (reading plan e edge operand) ≡ 1
  whole_reading e edge (operands.Const c) = refl
  whole_reading e edge (operands.From m) = omega (arith, low_is_even (cell_of plan e m), high_is_odd (cell_of plan e m))

  reading_reads : (e : ℕ) (edge : Edge) (operand : Operand) (p : ℕ) → p < length (reading plan e edge operand) → Reads (at (reading plan e edge operand) p)
  reading_reads e edge (operands.Const c) zero below = tt
  reading_reads e edge (operands.Const c) (suc p) below = absurd (omega (arith, below))
  reading_reads e edge (operands.From m) zero below = tt
  reading_reads e edge (operands.From m) (suc zero) below = tt
  reading_reads e edge (operands.From m) (suc (suc p)) below = absurd (omega (arith, below))

  -- all reads complete an operand a port
  pub whole_reads : (e : ℕ) (edges : List Edge) → operands_in (reads_of plan i n e edges) ≡ length (port_types edges i)
  whole_reads e [] = refl
  whole_reads e (edge ∷ edges) =
      let rest = whole_reads (e + 1) edges in
      elim (cases_eq edge.to.0 i) [
        | inl here ↦
            (subst (λ (b : Bool). operands_in (cond b (reading plan e edge (operand_of edge n)) [] ++ reads_of plan i n (e + 1) edges)
            ≡ length (cond b (edge.ty ∷ port_types edges i) (port_types edges i))) (sym (test_same edge.to.0 i here))
            omega (arith, operands_append (reading plan e edge (operand_of edge n)) (reads_of plan i n (e + 1) edges), whole_reading e edge (operand_of edge n), rest))
        | inr other ↦
            (subst (λ (b : Bool). operands_in (cond b (reading plan e edge (operand_of edge n)) [] ++ reads_of plan i n (e + 1) edges)
            ≡ length (cond b (edge.ty ∷ port_types edges i) (port_types edges i))) (sym (test_differs edge.to.0 i other)) rest)
      ]

  -- and fewer before the last of them
  pub part_of_reads : (e : ℕ) (edges : List Edge) (p : ℕ) → p < length (reads_of plan i n e edges) →
      operands_in (take p (reads_of plan i n e edges)) < length (port_types edges i)
  part_of_reads e [] p = λ below. absurd (omega (arith, below))
  part_of_reads e (edge ∷ edges) p =
      elim (cases_eq edge.to.0 i) [
        | inl here ↦
            (subst (λ (b : Bool). p < length (cond b (reading plan e edge (operand_of edge n)) [] ++ reads_of plan i n (e + 1) edges) →
            operands_in (take p (cond b (reading plan e edge (operand_of edge n)) [] ++ reads_of plan i n (e + 1) edges))
            < length (cond b (edge.ty ∷ port_types edges i) (port_types edges i))) (sym (test_same edge.to.0 i here))
            (both_operands (reading plan e edge (operand_of edge n)) (reads_of plan i n (e + 1) edges) (length (port_types edges i)) p
            (part_of_reading e edge (operand_of edge n)) (whole_reading e edge (operand_of edge n)) (part_of_reads (e + 1) edges)))
        | inr other ↦
            (subst (λ (b : Bool). p < length (cond b (reading plan e edge (operand_of edge n)) [] ++ reads_of plan i n (e + 1) edges) →
            operands_in (take p (cond b (reading plan e edge (operand_of edge n)) [] ++ reads_of plan i n (e + 1) edges))
            < length (cond b (edge.ty ∷ port_types edges i) (port_types edges i))) (sym (test_differs edge.to.0 i other)) (part_of_reads (e + 1) edges p))
      ]

  reads_read : (e : ℕ) (edges : List Edge) (p : ℕ) → p < length (reads_of plan i n e edges) → Reads (at (reads_of plan i n e edges) p)
  reads_read e [] p = λ below. absurd (omega (arith, below))
  reads_read e (edge ∷ edges) p =
      elim (cases_eq edge.to.0 i) [
        | inl here ↦
            (subst (λ (b : Bool). p < length (cond b (reading plan e edge (operand_of edge n)) [] ++ reads_of plan i n (e + 1) edges) →
            Reads (at (cond b (reading plan e edge (operand_of edge n)) [] ++ reads_of plan i n (e + 1) edges) p)) (sym (test_same edge.to.0 i here))
            (both_read (reading plan e edge (operand_of edge n)) (reads_of plan i n (e + 1) edges) p
            (reading_reads e edge (operand_of edge n)) (reads_read (e + 1) edges)))
        | inr other ↦
            (subst (λ (b : Bool). p < length (cond b (reading plan e edge (operand_of edge n)) [] ++ reads_of plan i n (e + 1) edges) →
            Reads (at (cond b (reading plan e edge (operand_of edge n)) [] ++ reads_of plan i n (e + 1) edges) p)) (sym (test_differs edge.to.0 i other)) (reads_read (e + 1) edges p))
      ]

  writing_none : (e : ℕ) (from : Producer) (p : ℕ) → Reads (at (writing plan i n e from) p) → ⊥
  writing_none e (producers.Constant value) p = λ is. is
  writing_none e (producers.Port task out) p = go (eqb task.0 i) (is_some (place_on plan e n)) p
    where
      go : (a b : Bool) (p : ℕ) → Reads (at (cond a (cond b (both_writes plan e n) []) []) p) → ⊥
      go true true zero is = is
      go true true (suc zero) is = is
      go true true (suc (suc zero)) is = is
      go true true (suc (suc (suc p))) is = is
      go true false zero is = is
      go true false (suc p) is = is
      go false b zero is = is
      go false b (suc p) is = is

  none_append : (xs ys : List Action) → ((p : ℕ) → Reads (at xs p) → ⊥) → ((p : ℕ) → Reads (at ys p) → ⊥) → (p : ℕ) → Reads (at (xs ++ ys) p) → ⊥
  none_append [] ys first second p is = second p is
  none_append (x ∷ xs) ys first second zero is = first 0 is
  none_append (x ∷ xs) ys first second (suc p) is = none_append xs ys (λ k r. first (suc k) r) second p is

  writes_none : (e : ℕ) (edges : List Edge) (p : ℕ) → Reads (at (writes_of plan i n e edges) p) → ⊥
  writes_none e [] zero is = is
  writes_none e [] (suc p) is = is
  writes_none e (edge ∷ edges) p is = none_append (writing plan i n e edge.from) (writes_of plan i n (e + 1) edges) (writing_none e edge.from) (writes_none (e + 1) edges) p is

  end_none : (p : ℕ) → Reads (at (actions.End ∷ []) p) → ⊥
  end_none zero is = is
  end_none (suc zero) is = is
  end_none (suc (suc p)) is = is

  split : actions_of plan i n ≡ reads_of plan i n 0 plan.graph.edges ++ (writes_of plan i n 0 plan.graph.edges ++ actions.End ∷ [])
  split = append_assoc (reads_of plan i n 0 plan.graph.edges) (writes_of plan i n 0 plan.graph.edges) (actions.End ∷ [])

  -- a read stands among the reads
  pub read_is_early : (p : ℕ) → Reads (at (actions_of plan i n) p) → p < length (reads_of plan i n 0 plan.graph.edges)
  read_is_early p is =
      elim (cases_lt p (length (reads_of plan i n 0 plan.graph.edges))) [
        | inl early ↦ early
        | inr late ↦
            absurd (none_append (writes_of plan i n 0 plan.graph.edges) (actions.End ∷ []) (writes_none 0 plan.graph.edges) end_none
            (p - length (reads_of plan i n 0 plan.graph.edges))
            (subst Reads (ap (λ (xs : List Action). at xs p) split
            ∙ get_or-append_right (reads_of plan i n 0 plan.graph.edges) (writes_of plan i n 0 plan.graph.edges ++ actions.End ∷ []) p actions.End late) is))
      ]

  -- what does not read stands after them
  pub other_is_late : (p : ℕ) → (Reads (at (actions_of plan i n) p) → ⊥) → length (reads_of plan i n 0 plan.graph.edges) ≤ p
  other_is_late p never =
      elim (cases_lt p (length (reads_of plan i n 0 plan.graph.edges))) [
        | inl early ↦
            absurd (never (subst Reads (sym (ap (λ (xs : List Action). at xs p) split
            ∙ get_or_append_left (reads_of plan i n 0 plan.graph.edges) (writes_of plan i n 0 plan.graph.edges ++ actions.End ∷ []) actions.End p early))
            (reads_read 0 plan.graph.edges p early)))
        | inr late ↦ late
      ]

  -- among the reads, operands are counted over the reads alone
  early_operands : (p : ℕ) → p ≤ length (reads_of plan i n 0 plan.graph.edges) →
      operands_before (actions_of plan i n) p ≡ operands_in (take p (reads_of plan i n 0 plan.graph.edges))
  early_operands p within =
      ap (λ (xs : List Action). operands_in (take p xs)) split
      ∙ ap operands_in (take-append-le p (reads_of plan i n 0 plan.graph.edges) (writes_of plan i n 0 plan.graph.edges ++ actions.End ∷ []) within)

  -- before a read some operand is left
  pub port_inside : (p : ℕ) → Reads (at (actions_of plan i n) p) → operands_before (actions_of plan i n) p < length (port_types plan.graph.edges i)
  port_inside p is =
      let early = read_is_early p is in
      omega (arith, early_operands p (omega (arith, early)), part_of_reads 0 plan.graph.edges p early)

  -- the last operand comes with the last read
  pub last_operand : (p : ℕ) → Reads (at (actions_of plan i n) p) →
      operands_before (actions_of plan i n) p + completes (at (actions_of plan i n) p) ≡ length (port_types plan.graph.edges i) →
      p + 1 ≡ length (reads_of plan i n 0 plan.graph.edges)
  last_operand p is all =
      elim (cases_lt (p + 1) (length (reads_of plan i n 0 plan.graph.edges))) [
        | inl before ↦
            absurd (let part = part_of_reads 0 plan.graph.edges (p + 1) before in
            omega (arith, operands_next (actions_of plan i n) p, early_operands (p + 1) (omega (arith, before)), part, all))
        | inr at_end ↦ omega (arith, read_is_early p is, at_end)
      ]

  -- and no other does
  pub earlier_operand : (p : ℕ) → Reads (at (actions_of plan i n) p) →
      operands_before (actions_of plan i n) p + completes (at (actions_of plan i n) p) ≢ length (port_types plan.graph.edges i) →
      p + 1 < length (reads_of plan i n 0 plan.graph.edges)
  earlier_operand p is some =
      let early = read_is_early p is in
      elim (cases_lt (p + 1) (length (reads_of plan i n 0 plan.graph.edges))) [
        | inl before ↦ before
        | inr at_end ↦
            (let here : p + 1 ≡ length (reads_of plan i n 0 plan.graph.edges) = omega (arith, early, at_end) in
            let next = operands_next (actions_of plan i n) p in
            let same = early_operands (p + 1) (omega (arith, here)) in
            let whole = ap (λ (k : ℕ). operands_in (take k (reads_of plan i n 0 plan.graph.edges))) here ∙ ap operands_in (take-length (reads_of plan i n 0 plan.graph.edges)) in
            let count = whole_reads 0 plan.graph.edges in
            absurd (some (omega (arith, next, same, whole, count))))
      ]
