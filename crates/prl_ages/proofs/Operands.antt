-- Operands rise with the number of the job, and come again a hyperperiod later.
use Rattle.prl_base.proofs.Standard.{◌≡◌, ◌+◌, ◌*◌, ◌≤◌, ℕ, refl, ◌∙◌, ap, arith, ints, ℤ, pos, ◌+ℤ◌, ◌≤ℤ◌}
use Rattle.prl_plan.specs.Vocabulary.{task_at, IsWellFormed, IsEdge, ComesFrom, operand_of, preceding}
use Rattle.prl_plan.specs.declared.graphs.Edge.{Edge}
use Rattle.prl_plan.specs.declared.graphs.TaskGraph.{TaskGraph}
use Rattle.prl_plan.specs.declared.walks.Operand.TheVariants as operands
use Rattle.prl_plan.proofs.DatePeriods.{jobs_are}
use Rattle.prl_plan.proofs.ReaderLaws.{reads_is, reads_from, preceding_rises}
use Rattle.prl_plan.proofs.RoundLaws.{source_inside}
use Rattle.prl_plan.proofs.RoundPeriods.{edge_precedes}
use Rattle.prl_plan.proofs.WalkLaws.{edge_back, operand_walks, walk_preceding}
use Rattle.prl_ages.specs.Reaching.{jobs_of}

module _ (graph : TaskGraph) (good : IsWellFormed graph) (edge : Edge) (is : IsEdge graph edge) (i : ℕ) (comes : ComesFrom edge.from i) where
  -- a later job reads a later instance, or the same
  pub operand_rises : (n j l : ℕ) → operand_of edge n ≡ operands.From j → n ≤ l → (later : ℕ) × (j ≤ later) × (operand_of edge l ≡ operands.From later)
  operand_rises n j l reads past =
      let first = (reads_is edge i comes is.operators n j).0 reads in
      let r = reads_from edge.ty edge.ops is.operators l (omega (arith, first.0, past)) in
      let at : preceding edge.ops (pos l) ≡ pos r.0 = walk_preceding edge.ops l r.0 r.1 in
      let up : preceding edge.ops (pos n) ≤ℤ preceding edge.ops (pos l) = preceding_rises edge.ty edge.ops is.operators (pos n) (pos l) (omega (arith, ints, past)) in
      (r.0, omega (arith, ints, first.1, at, up), (reads_is edge i comes is.operators l r.0).1 (omega (arith, first.0, past), at))

  -- a hyperperiod later, a job reads the instance a hyperperiod later
  pub operand_repeats : (n j : ℕ) → operand_of edge n ≡ operands.From j → operand_of edge (n + jobs_of graph edge.to.0) ≡ operands.From (j + jobs_of graph i)
  operand_repeats n j reads =
      let first = (reads_is edge i comes is.operators n j).0 reads in
      let again = edge_precedes graph good edge is i (jobs_of graph edge.to.0) (jobs_of graph i) comes (jobs_are graph good edge.to.0 is.to)
      (jobs_are graph good i (source_inside graph edge is edge.from refl i comes)) (pos n) in
      let at : preceding edge.ops (pos (n + jobs_of graph edge.to.0)) ≡ pos (j + jobs_of graph i) =
      again ∙ ap (λ (z : ℤ). z +ℤ pos (jobs_of graph i)) first.1 in
      (reads_is edge i comes is.operators (n + jobs_of graph edge.to.0) (j + jobs_of graph i)).1 (omega (arith, first.0), at)

  -- what is read is not released later
  pub operand_not_later : (n j : ℕ) → operand_of edge n ≡ operands.From j →
      (task_at graph i).clock.start + j * (task_at graph i).clock.period
      ≤ (task_at graph edge.to.0).clock.start + n * (task_at graph edge.to.0).clock.period
  operand_not_later n j reads =
      let w = operand_walks edge n j reads in
      edge_back graph edge is i comes n j w.2
