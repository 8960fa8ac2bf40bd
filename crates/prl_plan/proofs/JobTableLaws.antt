-- What a job reads is given by a job that stands earlier in the table.
use Rattle.prl_base.proofs.Standard.{◌≡◌, ◌<◌, ℕ, List, length, Some, inl, inr, sym, ◌∙◌, ap, subst, arith, slice_get, cases_lt}
use Rattle.prl_plan.specs.declared.walks.Operand.TheVariants as operands
use Rattle.prl_plan.specs.Vocabulary.{IsHorizonJob, TableRow, IsJobTable, operand_of, ComesFrom, PlanView, IsPlan, edge_at, release_at}
use Rattle.prl_plan.proofs.PlanFacts.{operand_horizon, along_at}
use Rattle.prl_plan.proofs.WalkLaws.{operand_walks}

pub reads_earlier : (plan : PlanView) → IsPlan plan → (until : ℕ) (table : List TableRow) → IsJobTable plan until table →
    (k : ℕ) (row : TableRow) → slice_get table k ≡ Some row → (e i m : ℕ) → e < length plan.graph.edges → (edge_at plan.graph e).to.0 ≡ row.task →
    ComesFrom (edge_at plan.graph e).from i → operand_of (edge_at plan.graph e) row.job ≡ operands.From m →
    (l : ℕ) × (earlier : TableRow) × (l < k) × (slice_get table l ≡ Some earlier) × (earlier.task ≡ i) × (earlier.job ≡ m)
reads_earlier plan is until table made k row at e i m inside to comes reads =
    let job : IsHorizonJob plan.graph until (edge_at plan.graph e).to.0 row.job =
    subst (λ (t : ℕ). IsHorizonJob plan.graph until t row.job) (sym to) (made.jobs k row at) in
    let found = made.all i m (operand_horizon plan.graph is.graph until e i row.job m inside comes job reads) in
    let l : ℕ = found.0 in
    let earlier : TableRow = found.1 in
    let dates : release_at plan i m < release_at plan (edge_at plan.graph e).to.0 row.job =
    (along_at plan is e i row.job m inside comes (operand_walks (edge_at plan.graph e) row.job m reads).2).0 in
    let mine : release_at plan i m < release_at plan row.task row.job = subst (λ (t : ℕ). release_at plan i m < release_at plan t row.job) to dates in
    let same : release_at plan earlier.task earlier.job ≡ release_at plan i m =
    ap (λ (t : ℕ). release_at plan t earlier.job) found.3 ∙ ap (λ (n : ℕ). release_at plan i n) found.4 in
    let before : l < k =
    elim (cases_lt l k) [
      | inl below ↦ below
      | inr above ↦ absurd
          (elim (cases_lt k l) [
            | inl below ↦
                elim (made.order k l row earlier below at found.2) [
                  | inl less ↦ omega (arith, less, mine, same)
                  | inr equal ↦ omega (arith, equal.0, mine, same)
                ]
            | inr under ↦
                (let one : l ≡ k = omega (arith, above, under) in
                let is_row : earlier ≡ row = cc in
                omega (arith, ap (λ (x : TableRow). release_at plan x.task x.job) is_row, mine, same))
          ])
    ] in
    (l, earlier, before, found.2, found.3, found.4)
