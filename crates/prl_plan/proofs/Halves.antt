-- Before each high half stands the low half of the same read or write.
use Rattle.prl_base.proofs.Standard.{◌≡◌, ◌+◌, ◌-◌, ◌*◌, ◌++◌, ℕ, zero, suc, Bool, true, false, List, [], ◌∷◌, length, get_or, inl, inr, sym, ◌∙◌, ap, subst, arith, cond, eqb, is_some, cases_lt}
use Rattle.prl_base.proofs.Standard.{get_or_append_left, get_or-append-add}
use Rattle.prl_plan.specs.Vocabulary.{Action, Edge, Producer, Operand, operand_of, PlanView, place_on, cell_of, low, high, both_writes, IsHigh, low_of, reading, reads_of, writing, writes_of}
use Rattle.prl_plan.specs.Vocabulary.{actions_of}
use Rattle.prl_plan.specs.declared.events.Action.TheVariants as actions
use Rattle.prl_plan.specs.declared.graphs.Producer.TheVariants as producers
use Rattle.prl_plan.specs.declared.walks.Operand.TheVariants as operands

abbrev pub IsPaired : List Action → Type 0
IsPaired xs = (k : ℕ) → IsHigh (get_or xs k actions.End) → (j : ℕ) × (k ≡ j + 1) × (get_or xs j actions.End ≡ low_of (get_or xs k actions.End))

pub paired_both : (xs ys : List Action) → IsPaired xs → IsPaired ys → IsPaired (xs ++ ys)
paired_both xs ys first second k is =
    elim (cases_lt k (length xs)) [
      | inl below ↦
          (let e : get_or (xs ++ ys) k actions.End ≡ get_or xs k actions.End = get_or_append_left xs ys actions.End k below in
          let r = first k (subst (λ (a : Action). IsHigh a) e is) in
          (r.0, r.1, get_or_append_left xs ys actions.End r.0 (omega (arith, r.1, below)) ∙ r.2 ∙ ap (λ (a : Action). low_of a) (sym e)))
      | inr above ↦
          (let m : ℕ = k - length xs in
          let same : length xs + (k - length xs) ≡ k = omega (arith, above) in
          let e : get_or (xs ++ ys) k actions.End ≡ get_or ys (k - length xs) actions.End =
          subst (λ (x : ℕ). get_or (xs ++ ys) x actions.End ≡ get_or ys (k - length xs) actions.End) same (get_or-append-add xs ys (k - length xs) actions.End) in
          let r = second (k - length xs) (subst (λ (a : Action). IsHigh a) e is) in
          (length xs + r.0, omega (arith, r.1, above), get_or-append-add xs ys r.0 actions.End ∙ r.2 ∙ ap (λ (a : Action). low_of a) (sym e)))
    ]

paired_none : IsPaired []
paired_none k is = absurd is

paired_one : (x : Action) → (IsHigh x → ⊥) → IsPaired (x ∷ [])
paired_one x not zero is = absurd (not is)
paired_one x not (suc k) is = absurd is

paired_two : (x y : Action) → (IsHigh x → ⊥) → x ≡ low_of y → IsPaired (x ∷ y ∷ [])
paired_two x y not of zero is = absurd (not is)
paired_two x y not of (suc zero) is = (0, (let e : 1 ≡ 0 + 1 = omega arith in e), of)
paired_two x y not of (suc (suc k)) is = absurd is

paired_if : (b : Bool) (xs : List Action) → IsPaired xs → IsPaired (cond b xs [])
paired_if true xs is = is
paired_if false xs is = paired_none

not_odd : (cell : ℕ) → (other : ℕ) × (low cell ≡ high other) → ⊥
not_odd cell is = omega (arith, is.1)

module _ (plan : PlanView) (i n : ℕ) where
  paired_reading : (e : ℕ) (edge : Edge) (operand : Operand) → IsPaired (reading plan e edge operand)
  paired_reading e edge (operands.Const c) = paired_one (actions.ReadConst edge.port c) (λ x. x)
  paired_reading e edge (operands.From m) =
      paired_two (actions.Read edge.port (record { 0 = e }) m (record { 0 = low (cell_of plan e m) }))
      (actions.Read edge.port (record { 0 = e }) m (record { 0 = high (cell_of plan e m) })) (not_odd (cell_of plan e m))
      (ap (λ (x : ℕ). actions.Read edge.port (record { 0 = e }) m (record { 0 = x })) (let z : low (cell_of plan e m) ≡ high (cell_of plan e m) - 1 = omega arith in z))

  paired_reads : (e : ℕ) (edges : List Edge) → IsPaired (reads_of plan i n e edges)
  paired_reads e [] = paired_none
  paired_reads e (edge ∷ edges) =
      paired_both (cond (eqb edge.to.0 i) (reading plan e edge (operand_of edge n)) []) (reads_of plan i n (e + 1) edges)
      (paired_if (eqb edge.to.0 i) (reading plan e edge (operand_of edge n)) (paired_reading e edge (operand_of edge n))) (paired_reads (e + 1) edges)

  paired_writing : (e : ℕ) (from : Producer) → IsPaired (writing plan i n e from)
  paired_writing e (producers.Constant value) = paired_none
  paired_writing e (producers.Port task out) =
      paired_if (eqb task.0 i) (cond (is_some (place_on plan e n)) (both_writes plan e n) [])
      (paired_if (is_some (place_on plan e n)) (both_writes plan e n)
      (paired_two (actions.Write (record { 0 = e }) n (record { 0 = low (cell_of plan e n) }))
      (actions.Write (record { 0 = e }) n (record { 0 = high (cell_of plan e n) })) (not_odd (cell_of plan e n))
      (ap (λ (x : ℕ). actions.Write (record { 0 = e }) n (record { 0 = x })) (let z : low (cell_of plan e n) ≡ high (cell_of plan e n) - 1 = omega arith in z))))

  paired_writes : (e : ℕ) (edges : List Edge) → IsPaired (writes_of plan i n e edges)
  paired_writes e [] = paired_none
  paired_writes e (edge ∷ edges) =
      paired_both (writing plan i n e edge.from) (writes_of plan i n (e + 1) edges) (paired_writing e edge.from) (paired_writes (e + 1) edges)

  pub actions_paired : IsPaired (actions_of plan i n)
  actions_paired =
      paired_both (reads_of plan i n 0 plan.graph.edges ++ writes_of plan i n 0 plan.graph.edges) (actions.End ∷ [])
      (paired_both (reads_of plan i n 0 plan.graph.edges) (writes_of plan i n 0 plan.graph.edges)
      (paired_reads 0 plan.graph.edges) (paired_writes 0 plan.graph.edges)) (paired_one actions.End (λ x. x))
