-- What the look-ups of a plan rest on.
use Rattle.prl_base.proofs.Standard.{◌≡◌, ◌+◌, ◌*◌, ◌<◌, ◌≤◌, ℕ, length, sum, take, Some, None, Option, inl, inr, refl, sym, ◌∙◌, ap, subst, arith, slice_get, slice_index, slice_index_or}
use Rattle.prl_base.proofs.Standard.{mul-le-mul_left, slice_get-get_or}
use Rattle.prl_plan.specs.Vocabulary.{Edge, Producer, Used, HasCells, IsUsed, no_used, IsOrdered, span_of, encoded_release, encoded_deadline, IsEdge, PlanView, IsPlan, edge_at, no_edge, place_on}
use Rattle.prl_plan.specs.Vocabulary.{ComesFrom, task_at}
use Rattle.prl_plan.specs.declared.graphs.Producer.TheVariants as producers
use Rattle.prl_plan.proofs.CellPeriods.{spans, inside_from}
use Rattle.prl_plan.proofs.RoundPeriods.{task_is}
use Rattle.prl_plan.proofs.PlaceLaws.{none_without_gaps}
use Rattle.prl_plan.proofs.UsedLaws.{sum_all, place_found, place_stands}
use Rattle.prl_plan.proofs.UsedPeriods.{gaps_within}
use Rattle.prl_plan.proofs.WalkLaws.{operand_walks}

module _ (plan : PlanView) (is : IsPlan plan) (e : ℕ) (inside : e < length plan.graph.edges) where
  abbrev edge : Edge
  edge = edge_at plan.graph e

  found : slice_get plan.graph.edges e ≡ Some (edge_at plan.graph e)
  found = slice_get-get_or plan.graph.edges e no_edge inside

  pub edge_fact : IsEdge plan.graph (edge_at plan.graph e)
  edge_fact = is.graph.edges e (edge_at plan.graph e) found

  -- what is known of its cells, by what it comes from
  abbrev pub CellsFrom : Producer → Type 0
  CellsFrom from = HasCells (edge_at plan.graph e) from (encoded_release plan.graph plan.windows) (encoded_deadline plan.graph plan.windows)
      (sum (take e plan.counts)) (slice_index plan.bases e) (slice_index plan.counts e) (slice_index_or plan.used e no_used)

  pub cells_from : (from : Producer) → (edge_at plan.graph e).from ≡ from → CellsFrom from
  cells_from from is_from = subst CellsFrom is_from (is.cells.cells e (edge_at plan.graph e) found)

  abbrev used : Used
  used = slice_index_or plan.used e no_used

  used_inside : e < length plan.used
  used_inside = omega (arith, is.cells.lengths.2, inside)

  pub used_ordered : IsOrdered (slice_index_or plan.used e no_used)
  used_ordered = go (edge_at plan.graph e).from refl
    where
      go : (from : Producer) → (edge_at plan.graph e).from ≡ from → IsOrdered (slice_index_or plan.used e no_used)
      go (producers.Constant value) is_from =
          (let h = cells_from (producers.Constant value) is_from in
          let none = h.3 in
          let l : length (slice_index_or plan.used e no_used).gaps ≡ 0 = ap length none in
          record { order = inl l; small = omega (arith, ap sum none) })
      go (producers.Port task out) is_from =
          (let h = cells_from (producers.Port task out) is_from in
          let comes : ComesFrom (edge_at plan.graph e).from task.0 = subst (λ (f : Producer). ComesFrom f task.0) (sym is_from) refl in
          let within = (gaps_within plan.graph is.graph (edge_at plan.graph e) edge_fact task.0 comes (slice_index_or plan.used e no_used) h.1 (is.short_gaps e used_inside)).1 in
          let some = (task_is plan.graph is.graph task.0 (inside_from plan.graph is.graph (edge_at plan.graph e) edge_fact task.0 comes)).period.0 in
          let up : span_of plan.graph (edge_at plan.graph e) * 1 ≤ span_of plan.graph (edge_at plan.graph e) * (task_at plan.graph task.0).clock.period = mul-le-mul_left (span_of plan.graph (edge_at plan.graph e)) some in
          let one : span_of plan.graph (edge_at plan.graph e) * 1 ≡ span_of plan.graph (edge_at plan.graph e) = omega arith in
          record { order = inr (edge_at plan.graph e, h.1); small = omega (arith, within, spans plan.graph is.graph (edge_at plan.graph e) edge_fact task.0 comes, up, one, is.graph.few_ticks) })

  -- an instance is used exactly where it has a place
  pub used_place : (m : ℕ) → IsUsed (edge_at plan.graph e) m → (k : ℕ) × (place_on plan e m ≡ Some k)
  used_place m h = go (edge_at plan.graph e).from refl
    where
      go : (from : Producer) → (edge_at plan.graph e).from ≡ from → (k : ℕ) × (place_on plan e m ≡ Some k)
      go (producers.Constant value) is_from =
          absurd (let w = operand_walks (edge_at plan.graph e) h.0 m h.1 in subst (λ (f : Producer). ComesFrom f w.0) is_from w.1)
      go (producers.Port task out) is_from =
          (let c = cells_from (producers.Port task out) is_from in
          let l = c.1.all m h in
          (l.0, place_found (edge_at plan.graph e) (slice_index_or plan.used e no_used) c.1 m l.0 l.1))

  pub place_used : (m k : ℕ) → place_on plan e m ≡ Some k → IsUsed (edge_at plan.graph e) m × (1 ≤ slice_index plan.counts e)
      × (slice_index plan.bases e + slice_index plan.counts e ≤ sum plan.counts)
  place_used m k h = go (edge_at plan.graph e).from refl
    where
      go : (from : Producer) → (edge_at plan.graph e).from ≡ from → IsUsed (edge_at plan.graph e) m × (1 ≤ slice_index plan.counts e)
          × (slice_index plan.bases e + slice_index plan.counts e ≤ sum plan.counts)
      go (producers.Constant value) is_from =
          (let none = none_without_gaps (slice_index_or plan.used e no_used) m (ap length (cells_from (producers.Constant value) is_from).3) in
          absurd (let s : ◌≡◌ {A = Option ℕ} None (Some k) = sym none ∙ h in cc))
      go (producers.Port task out) is_from =
          (let c = cells_from (producers.Port task out) is_from in (
            subst (λ (x : ℕ). IsUsed (edge_at plan.graph e) x) (place_stands (slice_index_or plan.used e no_used) m k h) (c.1.each k),
            c.2.some,
            omega (arith, c.0, sum_all plan.counts e (omega (arith, is.cells.lengths.1, inside))),
          ))
