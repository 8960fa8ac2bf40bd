-- The body of a task runs once a job.
use Rattle.prl_base.proofs.Standard.{◌≡◌, ◌+◌, ◌<◌, ◌≤◌, ◌++◌, ℕ, Bool, true, false, List, [], ◌∷◌, length, length-append, get_or, set, inl, inr, sym, ◌∙◌, ap, arith, eqb, leb, cond, max, slice_index}
use Rattle.prl_base.proofs.Standard.{slice_index_or, cases_lt, cases_eq, nat_tests}
use Rattle.std.proofs.lemmas.List.{get_or-set_same}
use Rattle.prl_plan.specs.Vocabulary.{constants_of, PlanView, reads_of, writes_of, actions_of, HasJob, ExecState, next_action, after_action, IsTagged}
use Rattle.prl_plan.specs.declared.events.Action.{Action}
use Rattle.prl_plan.specs.declared.horizons.Horizon.{Horizon}
use Rattle.prl_plan.specs.declared.events.Action.TheVariants as actions
use Rattle.prl_values.specs.BodyRuns.{place_of_run, steps_made, runs_next}

-- one where the test holds
abbrev one_if : Bool → ℕ
one_if b = cond b 1 0

leb_yes : (a b : ℕ) → a ≤ b → leb a b ≡ true
leb_yes a b h = grind (arith, nat_tests)

leb_no : (a b : ℕ) → b < a → leb a b ≡ false
leb_no a b h = grind (arith, nat_tests)

eqb_yes : (a b : ℕ) → a ≡ b → eqb a b ≡ true
eqb_yes a b h = grind (arith, nat_tests)

eqb_no : (a b : ℕ) → (a ≡ b → ⊥) → eqb a b ≡ false
eqb_no a b h = grind (arith, nat_tests)

-- a place further, the count of a mark passed is one more exactly where the mark is met
passed : (mark place : ℕ) → one_if (leb mark (place + 1)) ≡ one_if (leb mark place) + one_if (eqb (place + 1) mark)
passed mark place =
    elim (cases_lt place mark) [
      | inl below ↦
          (let no = ap one_if (leb_no mark place below) in
          elim (cases_eq (place + 1) mark) [
            | inl meets ↦
                (let a = ap one_if (leb_yes mark (place + 1) (omega (arith, meets))) in
                let b = ap one_if (eqb_yes (place + 1) mark meets) in
                omega (arith, a, b, no))
            | inr other ↦
                (let a = ap one_if (leb_no mark (place + 1) (omega (arith, below, other))) in
                let b = ap one_if (eqb_no (place + 1) mark other) in
                omega (arith, a, b, no))
          ])
      | inr above ↦
          (let yes = ap one_if (leb_yes mark place above) in
          let a = ap one_if (leb_yes mark (place + 1) (omega (arith, above))) in
          let b = ap one_if (eqb_no (place + 1) mark (λ e. omega (arith, e, above))) in
          omega (arith, a, b, yes))
    ]

-- where the mark is at most the next place, it is passed or met
passed_by_end : (mark place : ℕ) → mark ≤ place + 1 → one_if (leb mark place) + one_if (eqb (place + 1) mark) ≡ 1
passed_by_end mark place within = sym (passed mark place) ∙ ap one_if (leb_yes mark (place + 1) within)

mark_some : (reads : ℕ) → 1 ≤ max reads 1
mark_some reads = omega arith

none_passed : (mark : ℕ) → 1 ≤ mark → one_if (leb mark 0) ≡ 0
none_passed mark some = ap one_if (leb_no mark 0 (omega (arith, some)))

pub idle_steps : (plan : PlanView) (s : ExecState) (i : ℕ) → slice_index s.places i ≡ 0 → steps_made plan s i ≡ slice_index s.ended i
idle_steps plan s i idle =
    let mark : ℕ = place_of_run plan i (slice_index s.ended i) in
    let at : one_if (leb (place_of_run plan i (slice_index s.ended i)) (slice_index s.places i)) ≡ 0 =
    ap (λ (p : ℕ). one_if (leb (place_of_run plan i (slice_index s.ended i)) p)) idle ∙ none_passed (place_of_run plan i (slice_index s.ended i)) (mark_some _) in
    omega (arith, at)

module _ (plan : PlanView) (s : ExecState) (i : ℕ) where
  -- the state with the places of another
  abbrev at_place : ℕ → ℕ → ℕ
  at_place n place = n + one_if (leb (place_of_run plan i n) place)

  moves : (places : List ℕ) → get_or places i 0 ≡ slice_index s.places i + 1 →
      at_place (slice_index s.ended i) (get_or places i 0) ≡ steps_made plan s i + runs_next plan s i
  moves places is =
      let p = passed (place_of_run plan i (slice_index s.ended i)) (slice_index s.places i) in
      let a = ap (λ (x : ℕ). one_if (leb (place_of_run plan i (slice_index s.ended i)) x)) is in
      omega (arith, p, a)

  ends : (ended places : List ℕ) → get_or ended i 0 ≡ slice_index s.ended i + 1 → get_or places i 0 ≡ 0 →
      place_of_run plan i (slice_index s.ended i) ≤ slice_index s.places i + 1 →
      at_place (get_or ended i 0) (get_or places i 0) ≡ steps_made plan s i + runs_next plan s i
  ends ended places one none within =
      let p = passed_by_end (place_of_run plan i (slice_index s.ended i)) (slice_index s.places i) within in
      let a : one_if (leb (place_of_run plan i (get_or ended i 0)) (get_or places i 0)) ≡ 0 =
      ap (λ (x : ℕ). one_if (leb (place_of_run plan i (get_or ended i 0)) x)) none ∙ none_passed (place_of_run plan i (get_or ended i 0)) (mark_some _) in
      omega (arith, p, a, one)

pub step_counted : ((plan : PlanView) (i n place : ℕ) → slice_index_or (actions_of plan i n) place actions.End ≡ actions.End → length (actions_of plan i n) ≤ place + 1) →
    (plan : PlanView) (h : Horizon) (s : ExecState) → IsTagged (constants_of plan h) s → (i : ℕ) → HasJob (constants_of plan h) s i →
    (action : Action) → next_action (constants_of plan h) s i ≡ action → steps_made plan (after_action s i action) i ≡ steps_made plan s i + runs_next plan s i
step_counted end plan h s tagged i job action next = go action next
  where
    in_places : i < length s.places
    in_places = (let l = tagged.places in let t = job.task in omega (arith, l, t))

    in_ended : i < length s.ended
    in_ended = (let l = tagged.ended in let t = job.task in omega (arith, l, t))

    moved_place : get_or (set s.places i (slice_index s.places i + 1)) i 0 ≡ slice_index s.places i + 1
    moved_place = get_or-set_same s.places i (slice_index s.places i + 1) 0 in_places

    go : (action : Action) → next_action (constants_of plan h) s i ≡ action → steps_made plan (after_action s i action) i ≡ steps_made plan s i + runs_next plan s i
    go (actions.ReadConst port value) is = moves plan s i (set s.places i (slice_index s.places i + 1)) moved_place
    go (actions.Read port edge m slot) is = moves plan s i (set s.places i (slice_index s.places i + 1)) moved_place
    go (actions.Write edge m slot) is = moves plan s i (set s.places i (slice_index s.places i + 1)) moved_place
    go actions.End is =
        let n : ℕ = slice_index s.ended i in
        let late = end plan i (slice_index s.ended i) (slice_index s.places i) is in
        let whole : length (actions_of plan i (slice_index s.ended i)) ≡ length (reads_of plan i (slice_index s.ended i) 0 plan.graph.edges ++ writes_of plan i (slice_index s.ended i) 0 plan.graph.edges) + 1 =
        length-append (reads_of plan i (slice_index s.ended i) 0 plan.graph.edges ++ writes_of plan i (slice_index s.ended i) 0 plan.graph.edges) (actions.End ∷ []) in
        let parts = length-append (reads_of plan i (slice_index s.ended i) 0 plan.graph.edges) (writes_of plan i (slice_index s.ended i) 0 plan.graph.edges) in
        ends plan s i (set s.ended i (slice_index s.ended i + 1)) (set s.places i 0)
        (get_or-set_same s.ended i (slice_index s.ended i + 1) 0 in_ended) (get_or-set_same s.places i 0 0 in_places)
        (omega (arith, late, whole, parts))
