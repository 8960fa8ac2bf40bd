-- In each state that a free list reaches, a slot holds what its writer left.
use Rattle.std.proofs.Common.{◌≡◌, ◌≢◌, ◌+◌, ◌<◌, ◌≤◌, ℕ, zero, suc, Bool, List, [], ◌∷◌, length, get_or, set, take, replicate, inl, inr, refl, sym, ◌∙◌, ap, subst, arith, cond, eq-eqb, ne_eqb, get_or-set_other}
use Rattle.std.proofs.lemmas.Bool.{cases_eq, cases_lt}
use Rattle.std.proofs.lemmas.Grind.{get_or-set_at}
use Rattle.prl_plan.specs.Vocabulary.{Action, Event, RunConstants, ExecState, opening, action_at, next_action, after_action, after_event, after_events, HasJob, KeepsFree, IsFree, WritesAt}
use Rattle.prl_plan.specs.Vocabulary.{HasPlanFacts, IsTagged, tag_after, last_in, tag_of_jobs, last_tag, IsWriter, IsLeft}
use Rattle.prl_plan.specs.declared.events.Action.TheVariants as actions
use Rattle.prl_plan.specs.declared.events.Event.TheVariants as events
use Rattle.prl_plan.proofs.Places.{get_set}
use Rattle.prl_plan.proofs.Tagged.{tagged_event}

-- one more action
last_more : (slot tag : ℕ) (xs : List Action) (p : ℕ) → last_in slot tag (take (p + 1) xs) ≡ tag_after slot (last_in slot tag (take p xs)) (get_or xs p actions.End)
last_more slot tag xs p = subst (λ (q : ℕ). last_in slot tag (take q xs) ≡ tag_after slot (last_in slot tag (take p xs)) (get_or xs p actions.End)) (let e : suc p ≡ p + 1 = omega arith in e) (go tag xs p)
  where
    go : (tag : ℕ) (xs : List Action) (p : ℕ) → last_in slot tag (take (suc p) xs) ≡ tag_after slot (last_in slot tag (take p xs)) (get_or xs p actions.End)
    go tag [] zero = refl
    go tag [] (suc p) = refl
    go tag (x ∷ xs) zero = refl
    go tag (x ∷ xs) (suc p) = go (tag_after slot tag x) xs p

-- after the end nothing is written
last_all : (slot tag : ℕ) (xs : List Action) (p : ℕ) → ((k : ℕ) → p ≤ k → get_or xs k actions.End ≡ actions.End) → last_in slot tag xs ≡ last_in slot tag (take p xs)
last_all slot tag [] zero ends = refl
last_all slot tag [] (suc p) ends = refl
last_all slot tag (x ∷ xs) zero ends =
    ap (λ (t : ℕ). last_in slot t xs) (ap (tag_after slot tag) (ends 0 (omega arith))) ∙ last_all slot tag xs 0 (λ k h. ends (suc k) (omega arith))
last_all slot tag (x ∷ xs) (suc p) ends = last_all slot (tag_after slot tag x) xs p (λ k h. ends (suc k) (omega (arith, h)))

module _ (c : RunConstants) (facts : HasPlanFacts c) where
  same_left : (i slot n m p q : ℕ) → n ≡ m → p ≡ q → last_tag c i slot n p ≡ last_tag c i slot m q
  same_left i slot n m p q e f = (λ h. last_tag c i slot (e h) (f h))

  -- a move of task j's place past an action that leaves this slot
  moved_left : (s : ExecState) → IsLeft c s → (j : ℕ) → j < length s.places → (tags : List ℕ) → (i slot : ℕ) → IsWriter c i slot →
      (i ≡ j → get_or tags slot 0 ≡ tag_after slot (get_or s.tags slot 0) (next_action c s j)) → (i ≢ j → get_or tags slot 0 ≡ get_or s.tags slot 0) →
      get_or tags slot 0 ≡ last_tag c i slot (get_or s.ended i 0) (get_or (set s.places j (get_or s.places j 0 + 1)) i 0)
  moved_left s left j inside tags i slot writer here there =
      elim (get_set s.places j (get_or s.places j 0 + 1) i inside) [
        | inl same ↦
            (let now : get_or s.tags slot 0 ≡ last_tag c i slot (get_or s.ended i 0) (get_or s.places i 0) = left.left i slot writer in
            let place : get_or s.places j 0 ≡ get_or s.places i 0 = ap (λ (x : ℕ). get_or s.places x 0) (sym same.0) in
            here same.0
            ∙ (λ h. tag_after slot (now h) (next_action c s (sym same.0 h)))
            ∙ sym (last_more slot (tag_of_jobs c i slot (get_or s.ended i 0)) (c.actions i (get_or s.ended i 0)) (get_or s.places i 0))
            ∙ same_left i slot (get_or s.ended i 0) (get_or s.ended i 0) (get_or s.places i 0 + 1) (get_or (set s.places j (get_or s.places j 0 + 1)) i 0) refl (ap (λ (x : ℕ). x + 1) (sym place) ∙ sym same.1))
        | inr other ↦
            (there other.0 ∙ left.left i slot writer ∙ same_left i slot (get_or s.ended i 0) (get_or s.ended i 0) (get_or s.places i 0) (get_or (set s.places j (get_or s.places j 0 + 1)) i 0) refl (sym other.1))
      ]

  left_action : (s : ExecState) → IsTagged c s → IsLeft c s → (j : ℕ) → HasJob c s j → (action : Action) → next_action c s j ≡ action → IsLeft c (after_action s j action)
  left_action s tagged left j has (actions.ReadConst port value) is =
      let inside : j < length s.places = omega (arith, tagged.places, has.task) in
      record { left = λ i slot writer. moved_left s left j inside s.tags i slot writer (λ e. sym (ap (tag_after slot (get_or s.tags slot 0)) is)) (λ e. refl) }
  left_action s tagged left j has (actions.Read port e m h) is =
      let inside : j < length s.places = omega (arith, tagged.places, has.task) in
      record { left = λ i slot writer. moved_left s left j inside s.tags i slot writer (λ e. sym (ap (tag_after slot (get_or s.tags slot 0)) is)) (λ e. refl) }
  left_action s tagged left j has (actions.Write e m h) is =
      let inside : j < length s.places = (let l = tagged.places in let t = has.task in omega (arith, l, t)) in
      let writes : WritesAt c j (get_or s.ended j 0) (get_or s.places j 0) m h.0 = record { job = record { task = has.task; job = has.job }; action = (e, is) } in
      let in_tags : h.0 < length s.tags = (let l = tagged.tags in omega (arith, l, facts.write_cell j (get_or s.ended j 0) (get_or s.places j 0) m h.0 writes)) in
      record {
        left = λ i slot writer. moved_left s left j inside (set s.tags h.0 (m + 1)) i slot writer
            (λ at. elim (cases_eq h.0 slot) [
              | inl same ↦ get_or-set_at s.tags h.0 slot (m + 1) 0 (sym same) in_tags
                  ∙ sym (ap (tag_after slot (get_or s.tags slot 0)) is ∙ ap (λ (b : Bool). cond b (m + 1) (get_or s.tags slot 0)) (eq-eqb h.0 slot same))
              | inr other ↦ get_or-set_other s.tags h.0 slot (m + 1) 0 (λ x. other (sym x))
                  ∙ sym (ap (tag_after slot (get_or s.tags slot 0)) is ∙ ap (λ (b : Bool). cond b (m + 1) (get_or s.tags slot 0)) (ne_eqb h.0 slot other))
            ])
            (λ ne. get_or-set_other s.tags h.0 slot (m + 1) 0 (λ x. ne (sym (writer j (get_or s.ended j 0) (get_or s.places j 0) m (subst (λ (y : ℕ). WritesAt c j (get_or s.ended j 0) (get_or s.places j 0) m y) (sym x) writes)))));
      }
  left_action s tagged left j has actions.End is =
      let inside : j < length s.ended = (let l = tagged.ended in let t = has.task in omega (arith, l, t)) in
      let inside_places : j < length s.places = (let l = tagged.places in let t = has.task in omega (arith, l, t)) in
      record {
        left = λ i slot writer.
            elim (cases_eq i j) [
              | inl same ↦
                  (let ended : get_or (set s.ended j (get_or s.ended j 0 + 1)) i 0 ≡ get_or s.ended j 0 + 1 = get_or-set_at s.ended j i (get_or s.ended j 0 + 1) 0 same inside in
                  let place : get_or (set s.places j 0) i 0 ≡ 0 = get_or-set_at s.places j i 0 0 same inside_places in
                  let up : get_or s.ended j 0 + 1 ≡ suc (get_or s.ended j 0) = omega arith in
                  let whole : last_in slot (tag_of_jobs c j slot (get_or s.ended j 0)) (c.actions j (get_or s.ended j 0)) ≡ last_tag c j slot (get_or s.ended j 0) (get_or s.places j 0) =
                  last_all slot (tag_of_jobs c j slot (get_or s.ended j 0)) (c.actions j (get_or s.ended j 0)) (get_or s.places j 0)
                  (λ k h. elim (cases_eq k (get_or s.places j 0)) [
                    | inl at ↦ ap (λ (x : ℕ). action_at c j (get_or s.ended j 0) x) at ∙ is
                    | inr off ↦ facts.last j (get_or s.ended j 0) (get_or s.places j 0) k (record { task = has.task; job = has.job }) is
                        (elim (cases_lt (get_or s.places j 0) k) [ inl below ↦ below | inr above ↦ absurd (off (omega (arith, h, above))) ])
                  ]) in
                  left.left i slot writer
                  ∙ (λ h. last_tag c (same h) slot (get_or s.ended (same h) 0) (get_or s.places (same h) 0))
                  ∙ sym whole
                  ∙ same_left j slot (suc (get_or s.ended j 0)) (get_or s.ended j 0 + 1) 0 0 (sym up) refl
                  ∙ (λ h. last_tag c (sym same h) slot (sym ended h) (sym place h)))
              | inr other ↦
                  (left.left i slot writer ∙ same_left i slot (get_or s.ended i 0) (get_or (set s.ended j (get_or s.ended j 0 + 1)) i 0) (get_or s.places i 0) (get_or (set s.places j 0) i 0)
                  (sym (get_or-set_other s.ended j i (get_or s.ended j 0 + 1) 0 other)) (sym (get_or-set_other s.places j i 0 0 other)))
            ];
      }

  pub left_event : (s : ExecState) → IsTagged c s → IsLeft c s → (event : Event) → KeepsFree c s event → IsLeft c (after_event c s event)
  left_event s tagged left events.Tick keeps = record { left = left.left }
  left_event s tagged left (events.Act task) keeps = left_action s tagged left task.0 keeps.0 (next_action c s task.0) refl

  copies_or : (n i z : ℕ) → get_or (replicate n z) i z ≡ z
  copies_or zero i z = refl
  copies_or (suc n) zero z = refl
  copies_or (suc n) (suc i) z = copies_or n i z

  pub left_opening : IsLeft c (opening c)
  left_opening = record {
    left = λ i slot writer.
        copies_or c.slots slot 0 ∙ same_left i slot 0 (get_or (replicate {A = ℕ} c.tasks 0) i 0) 0 (get_or (replicate {A = ℕ} c.tasks 0) i 0) (sym (copies_or c.tasks i 0)) (sym (copies_or c.tasks i 0));
  }

  pub list_left : (s : ExecState) → IsTagged c s → IsLeft c s → (list : List Event) → IsFree c s list → IsLeft c (after_events c s list)
  list_left s tagged left [] free = left
  list_left s tagged left (event ∷ list) free = list_left (after_event c s event) (tagged_event c facts s tagged event free.0) (left_event s tagged left event free.0) list free.1
