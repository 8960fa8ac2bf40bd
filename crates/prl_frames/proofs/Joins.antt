-- Slots that are joined.
use Rattle.prl_base.proofs.Standard.{◌≡◌, ◌+◌, ◌*◌, ◌-◌, ◌/◌, ℕ, Bool, true, false, List, [], ◌∷◌, Option, Some, All, inl, inr, refl, sym, ◌∙◌, ap, subst, arith, cond, nat_tests, cases_Bool, All-cons, All-head, All-nil, All-tail}
use Rattle.prl_plan.specs.declared.graphs.TaskGraph.{TaskGraph}
use Rattle.prl_tables.specs.Vocabulary.{classes}
use Rattle.prl_frames.specs.declared.slots.Slot.{Slot}
use Rattle.prl_frames.specs.Frames.{goes_by, goes_on, has_tick, job_at, AreInOrder, AreJoined}
use Rattle.prl_frames.specs.code.Making.{join, join_onto, joined}

-- what it is that a slot goes on
pub record GoesOn (one next : Slot) : Type 0 where
  pub at : one.at + one.units ≡ next.at
  pub task : one.task.0 ≡ next.task.0
  pub job : one.job ≡ next.job
  pub from : one.from ≡ next.from

pub it_goes_on : (one next : Slot) → goes_on one next ≡ true → GoesOn one next
it_goes_on one next is = record {
  at = grind (arith, nat_tests, is);
  task = grind (arith, nat_tests, is);
  job = grind (arith, nat_tests, is);
  from = grind (arith, nat_tests, is);
}

by_yes : (one next : Slot) (slots : List Slot) → goes_on one next ≡ true → join_onto one (next ∷ slots) ≡ join_onto (joined one next) slots
by_yes one next slots is = ap (λ (b : Bool). cond b (join_onto (joined one next) slots) (one ∷ join_onto next slots)) is

by_no : (one next : Slot) (slots : List Slot) → goes_on one next ≡ false → join_onto one (next ∷ slots) ≡ one ∷ join_onto next slots
by_no one next slots is = ap (λ (b : Bool). cond b (join_onto (joined one next) slots) (one ∷ join_onto next slots)) is

module _ (graph : TaskGraph) (t : ℕ) where
  by_slot : (slot : Slot) (rest : List Slot) (b : Bool) → has_tick graph.hyper slot t ≡ b → goes_by graph (slot ∷ rest) t ≡ cond b (Some (job_at graph slot t)) (goes_by graph rest t)
  by_slot slot rest b is = ap (λ (x : Bool). cond x (Some (job_at graph slot t)) (goes_by graph rest t)) is

  abbrev the_job : ℕ → ℕ → ℕ → Option (ℕ × ℕ)
  the_job task job from = Some (task, job + (t / graph.hyper - from) * classes graph task)

  both : (one next : Slot) (rest : List Slot) → GoesOn one next → goes_by graph (joined one next ∷ rest) t ≡ goes_by graph (one ∷ next ∷ rest) t
  both one next rest on =
      let e_at = on.at in
      let e_from = on.from in
      elim (cases_Bool (has_tick graph.hyper one t)) [
        | inl has ↦
            (let whole : has_tick graph.hyper (joined one next) t ≡ true = grind (arith, nat_tests, has) in
            by_slot (joined one next) rest true whole ∙ sym (by_slot one (next ∷ rest) true has))
        | inr no_one ↦ elim (cases_Bool (has_tick graph.hyper next t)) [
          | inl has ↦
              (let whole : has_tick graph.hyper (joined one next) t ≡ true = grind (arith, nat_tests, has, e_at, e_from) in
              let same : ◌≡◌ {A = Option (ℕ × ℕ)} (Some (job_at graph one t)) (Some (job_at graph next t)) =
              ap (λ (x : ℕ). the_job x one.job one.from) on.task ∙ ap (λ (x : ℕ). the_job next.task.0 x one.from) on.job ∙ ap (λ (x : ℕ). the_job next.task.0 next.job x) on.from in
              by_slot (joined one next) rest true whole ∙ same ∙ sym (by_slot one (next ∷ rest) false no_one ∙ by_slot next rest true has))
          | inr no_next ↦
              (let whole : has_tick graph.hyper (joined one next) t ≡ false = grind (arith, nat_tests, no_one, no_next, e_at, e_from) in
              by_slot (joined one next) rest false whole ∙ sym (by_slot one (next ∷ rest) false no_one ∙ by_slot next rest false no_next))
        ]
      ]

  goes_onto : (one : Slot) (slots : List Slot) → goes_by graph (join_onto one slots) t ≡ goes_by graph (one ∷ slots) t
  goes_onto one [] = refl
  goes_onto one (next ∷ slots) = elim (cases_Bool (goes_on one next)) [
    | inl on ↦ ap (λ (l : List Slot). goes_by graph l t) (by_yes one next slots on) ∙ goes_onto (joined one next) slots ∙ both one next slots (it_goes_on one next on)
    | inr off ↦
        ap (λ (l : List Slot). goes_by graph l t) (by_no one next slots off)
        ∙ ap (λ (o : Option (ℕ × ℕ)). cond (has_tick graph.hyper one t) (Some (job_at graph one t)) o) (goes_onto next slots)
  ]

  pub goes_joined : (slots : List Slot) → goes_by graph (join slots) t ≡ goes_by graph slots t
  goes_joined [] = refl
  goes_joined (slot ∷ slots) = goes_onto slot slots

order_onto : (hyper from : ℕ) (one : Slot) (slots : List Slot) → AreInOrder hyper from (one ∷ slots) → AreInOrder hyper from (join_onto one slots)
order_onto hyper from one [] order = order
order_onto hyper from one (next ∷ slots) order = elim (cases_Bool (goes_on one next)) [
  | inl on ↦
      (let is = it_goes_on one next on in
      let at = is.at in
      let units = order.1 in
      let end = order.3.2 in
      let same : next.at + next.units ≡ one.at + (one.units + next.units) = omega (arith, at) in
      subst (AreInOrder hyper from) (sym (by_yes one next slots on))
      (order_onto hyper from (joined one next) slots
      (order.0, omega (arith, units), omega (arith, end, same), subst (λ (x : ℕ). AreInOrder hyper x slots) same order.3.3)))
  | inr off ↦ subst (AreInOrder hyper from) (sym (by_no one next slots off)) (order.0, order.1, order.2, order_onto hyper (one.at + one.units) next slots order.3)
]

pub order_joined : (hyper : ℕ) (slots : List Slot) → AreInOrder hyper 0 slots → AreInOrder hyper 0 (join slots)
order_joined hyper [] order = order
order_joined hyper (slot ∷ slots) order = order_onto hyper 0 slot slots order

-- the first of them begins as the slot does, with the same job
abbrev HasHead : Slot → List Slot → Type 0
HasHead next list = (head : Slot) × (rest : List Slot) × (list ≡ head ∷ rest) × ((one : Slot) → goes_on one head ≡ goes_on one next)

has_head : (next : Slot) (slots : List Slot) → HasHead next (join_onto next slots)
has_head next [] = (next, [], refl, (λ one. refl))
has_head next (other ∷ slots) = elim (cases_Bool (goes_on next other)) [
  | inl on ↦ (let h = has_head (joined next other) slots in (h.0, h.1, by_yes next other slots on ∙ h.2, (λ one. h.3 one)))
  | inr off ↦ (next, join_onto other slots, by_no next other slots off, (λ one. refl))
]

apart_onto : (one : Slot) (slots : List Slot) → AreJoined (join_onto one slots)
apart_onto one [] = tt
apart_onto one (next ∷ slots) = elim (cases_Bool (goes_on one next)) [
  | inl on ↦ subst AreJoined (sym (by_yes one next slots on)) (apart_onto (joined one next) slots)
  | inr off ↦
      (let h = has_head next slots in
      subst AreJoined (sym (by_no one next slots off ∙ ap (λ (l : List Slot). one ∷ l) h.2)) (h.3 one ∙ off, subst AreJoined h.2 (apart_onto next slots)))
]

pub all_joined : (slots : List Slot) → AreJoined (join slots)
all_joined [] = tt
all_joined (slot ∷ slots) = apart_onto slot slots

-- what each join keeps
module _ (P : Slot → Type 0) (keeps : (one next : Slot) → GoesOn one next → P one → P next → P (joined one next)) where
  each_onto : (one : Slot) (slots : List Slot) → P one → All P slots → All P (join_onto one slots)
  each_onto one [] here all = All-cons P one [] here (All-nil P)
  each_onto one (next ∷ slots) here all = elim (cases_Bool (goes_on one next)) [
    | inl on ↦
        subst (All P) (sym (by_yes one next slots on))
        (each_onto (joined one next) slots (keeps one next (it_goes_on one next on) here (All-head P next slots all)) (All-tail P next slots all))
    | inr off ↦ subst (All P) (sym (by_no one next slots off)) (All-cons P one (join_onto next slots) here (each_onto next slots (All-head P next slots all) (All-tail P next slots all)))
  ]

  pub each_joined : (slots : List Slot) → All P slots → All P (join slots)
  each_joined [] all = all
  each_joined (slot ∷ slots) all = each_onto slot slots (All-head P slot slots all) (All-tail P slot slots all)
