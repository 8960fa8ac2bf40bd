-- Each plan has a spread over the processors of its tasks.
use Rattle.prl_base.proofs.Standard.{◌≡◌, ◌+◌, ◌-◌, ◌*◌, ◌≤◌, ◌^◌, ◌⊎◌, ◌++◌, ℕ, zero, suc, List, [], ◌∷◌, length, sum, inl, inr, refl, sym, ◌∙◌, subst, arith, slice_index, cases_eq}
use Rattle.prl_plan.specs.Vocabulary.{IsWellFormed, jobs_in_hyperperiod, task_at, PlanView, IsPlan, IsSpread}
use Rattle.prl_plan.specs.declared.graphs.TaskGraph.{TaskGraph}
use Rattle.prl_plan.specs.declared.tables.Window.{Window}
use Rattle.prl_dates.specs.Vocabulary.{Lane, Bound, jobs_of, AreEachLane, bound_of, IsTablePart, AreRaisedAcross, AreEndsAcross, IsRising, IsLeastAbove, AreRound}
use Rattle.prl_dates.specs.declared.spreads.Bound.TheVariants as bounds
use Rattle.prl_dates.proofs.RoundSteps.{links_to}
use Rattle.prl_dates.proofs.SomeDates.{lane_here, some_raised, some_round, some_windows}
use Rattle.prl_dates.proofs.SomeLanes.{lanes_exist}
use Rattle.prl_dates.proofs.SpreadDates.{within, table_long, each_within, across_ceiling, ends_long, spread_made, windows_spread}
use Rattle.prl_dates.proofs.SpreadRounds.{across_begins, across_more, across_same, rising_begins, rising_more, rising_ends, rising_less}
use Rattle.prl_dates.proofs.SpreadSteps.{part_none, part_more, part_whole}

module _ (plan : PlanView) (bound : Bound) where
  -- the table of the first tasks, with the first jobs of the next
  part_of_task : (count : ℕ) (table : List ℕ) → IsTablePart plan bound count 0 table → (some : ℕ) → some ≤ jobs_of plan.graph count →
      (longer : List ℕ) × IsTablePart plan bound count some longer
  part_of_task count table part zero few = (table, part)
  part_of_task count table part (suc some) few =
      let before = part_of_task count table part some (omega (arith, few)) in
      let next : some + 1 ≡ suc some = omega arith in (
        before.0 ++ bound_of plan bound count some ∷ [],
        subst (λ (n : ℕ). IsTablePart plan bound count n (before.0 ++ bound_of plan bound count some ∷ [])) next
            (part_more plan bound count some before.0 (bound_of plan bound count some) before.1 refl (omega (arith, few))),
      )

  some_part : (count : ℕ) → (table : List ℕ) × IsTablePart plan bound count 0 table
  some_part zero = ([], part_none plan bound)
  some_part (suc count) =
      let before = some_part count in
      let whole = part_of_task count before.0 before.1 (jobs_of plan.graph count) (omega arith) in
      let next : count + 1 ≡ suc count = omega arith in
      (whole.0, subst (λ (n : ℕ). IsTablePart plan bound n 0 whole.0) next (part_whole plan bound count (jobs_of plan.graph count) whole.0 whole.1 refl))

lists_tell : (a b : List ℕ) → (a ≡ b) ⊎ (a ≡ b → ⊥)
lists_tell [] [] = inl refl
lists_tell [] (y ∷ b) = inr (λ same. cc)
lists_tell (x ∷ a) [] = inr (λ same. cc)
lists_tell (x ∷ a) (y ∷ b) = elim (cases_eq x y) [
  | inr apart ↦ inr (λ same. apart (let first : x ≡ y = cc in first))
  | inl first ↦ elim (lists_tell a b) [
    | inr apart ↦ inr (λ same. apart (let rest : a ≡ b = cc in rest))
    | inl rest ↦ inl (let same : x ∷ a ≡ y ∷ b = cc in same)
  ]
]

module _ (graph : TaskGraph) (good : IsWellFormed graph) (lanes : List Lane) (are : AreEachLane graph lanes) where
  -- what the first lanes across processors ask for
  some_across : (processors now old : List ℕ) → length old ≡ jobs_in_hyperperiod graph → (count : ℕ) → count ≤ length lanes →
      (new : List ℕ) × AreRaisedAcross graph lanes processors count now old new
  some_across processors now old long zero few = (old, across_begins graph lanes processors now old)
  some_across processors now old long (suc l) few =
      let before = some_across processors now old long l (omega (arith, few)) in
      let here = lane_here lanes l (omega (arith, few)) in
      let fits = links_to graph good here.0 (are l here.0 here.1) in
      let next : l + 1 ≡ suc l = omega arith in
      elim (cases_eq (slice_index processors here.0.from.0) (slice_index processors here.0.to.0)) [
        | inl together ↦ (
          before.0,
          subst (λ (n : ℕ). AreRaisedAcross graph lanes processors n now old before.0) next
              (across_same graph lanes processors l here.0 here.1 now old before.0 before.1 together),
        )
        | inr apart ↦
            (let raised = some_raised here.0 (task_at graph here.0.to.0).wcet now before.0 (let b = before.1.long in omega (arith, fits, b, long)) (length here.0.links) (omega arith) in (
              raised.0,
              subst (λ (n : ℕ). AreRaisedAcross graph lanes processors n now old raised.0) next
                  (across_more graph lanes processors l here.0 here.1 now old before.0 before.1 apart raised.0 raised.1),
            ))
      ]

  -- rounds until one changes nothing
  some_end : (old : List ℕ) (most : ℕ) (now : List ℕ) → length now * 2 ^ 31 - sum now ≤ most → length now ≡ jobs_in_hyperperiod graph → IsRising graph lanes old now →
      (ends : List ℕ) × IsLeastAbove graph lanes old ends
  some_end old zero now small long so_far =
      let round = some_round graph good lanes are now long (length lanes) (omega arith) in
      elim (lists_tell now round.0) [
        | inl same ↦ (now, rising_ends graph good lanes are old now so_far (subst (λ (xs : List ℕ). AreRound graph lanes (length lanes) now xs) (sym same) round.1))
        | inr other ↦ absurd (omega (arith, rising_less graph good lanes are now round.0 long so_far.ceiling round.1 other, small))
      ]
  some_end old (suc most) now small long so_far =
      let round = some_round graph good lanes are now long (length lanes) (omega arith) in
      elim (lists_tell now round.0) [
        | inl same ↦ (now, rising_ends graph good lanes are old now so_far (subst (λ (xs : List ℕ). AreRound graph lanes (length lanes) now xs) (sym same) round.1))
        | inr other ↦ some_end old most round.0
            omega (arith, rising_less graph good lanes are now round.0 long so_far.ceiling round.1 other, small)
            (round.1.long ∙ long) (rising_more graph good lanes are old now round.0 so_far round.1)
      ]

pub some_spread : (plan : PlanView) → IsPlan plan → (processors : List ℕ) → length processors ≡ length plan.graph.tasks →
    (windows : List (List Window)) × IsSpread plan (record { processors = processors; windows = windows })
some_spread plan is processors long =
    let lanes = lanes_exist plan.graph is.graph in
    let deadlines = some_part plan bounds.Deadline (length plan.graph.tasks) in
    let base = some_part plan bounds.End (length plan.graph.tasks) in
    let across = some_across plan.graph is.graph lanes.0 lanes.1.each processors deadlines.0 base.0 (table_long plan is bounds.End base.0 base.1) (length lanes.0) (omega arith) in
    let made : AreEndsAcross plan lanes.0 processors deadlines.0 across.0 = record { base = base.0; of_base = base.1; raised = across.1 } in
    let each = each_within plan is processors lanes.0 lanes.1 deadlines.0 deadlines.1 across.0 made in
    let ceiling = across_ceiling plan is processors lanes.0 lanes.1 deadlines.0 deadlines.1 across.0 made in
    let ends = some_end plan.graph is.graph (within processors lanes.0) each across.0 (length across.0 * 2 ^ 31 - sum across.0) across.0 (omega arith)
    (ends_long plan is processors lanes.0 lanes.1 deadlines.0 deadlines.1 across.0 made) (rising_begins plan.graph is.graph (within processors lanes.0) each across.0 ceiling) in
    let spread = spread_made plan is processors lanes.0 lanes.1 deadlines.0 deadlines.1 across.0 made ends.0 ends.1 in
    let windows = some_windows plan.graph is.graph ends.0 deadlines.0 (length plan.graph.tasks) (omega arith) in
    (windows.0, windows_spread plan is processors ends.0 deadlines.0 spread windows.0 windows.1 long)
