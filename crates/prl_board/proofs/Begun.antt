-- What a worker does, where its rows, bodies and job are known under other names.
use Rattle.std.proofs.Common.{◌≡◌, ◌+◌, ℕ, List, length, set, sym, subst, false}
use Rattle.prl_base.specs.declared.values.Value.{Value}
use Rattle.prl_body.specs.declared.bodies.CheckedBody.{CheckedBody}
use Rattle.prl_flow.specs.Rows.{Rows}
use Rattle.prl_values.specs.Workers.{HasBegun, HasTaken, IsReady}
use Rattle.prl_values.specs.declared.workers.Worker.{Worker}

module _ (rows rows' : Rows) (bodies bodies' : List CheckedBody) (n n' : ℕ) (r : rows' ≡ rows) (b : bodies' ≡ bodies) (j : n' ≡ n) where
  pub begun_with : (before after : Worker) → HasBegun rows' bodies' n' before after → HasBegun rows bodies n before after
  begun_with before after begun =
      let P : Rows × List CheckedBody × ℕ → Type 0 = λ z. HasBegun z.0 z.1 z.2 before after in subst P (λ h. (r h, b h, j h)) begun

  pub taken_with : (port : ℕ) (value value' : Value) → value' ≡ value → (before after : Worker) → HasTaken rows' bodies' port n' value' before after →
      HasTaken rows bodies port n value before after
  taken_with port value value' v before after taken =
      let P : Rows × List CheckedBody × ℕ × Value → Type 0 = λ z. HasTaken z.0 z.1 port z.2 z.3 before after in subst P (λ h. (r h, b h, j h, v h)) taken

  pub ready_with : (worker : Worker) → (worker.ran ≡ false → IsReady rows bodies n worker.operands.items worker) →
      worker.ran ≡ false → IsReady rows' bodies' n' worker.operands.items worker
  ready_with worker ready unrun =
      let P : Rows × List CheckedBody × ℕ → Type 0 = λ z. IsReady z.0 z.1 z.2 worker.operands.items worker in subst P (λ h. (sym r h, sym b h, sym j h)) (ready unrun)

  pub ready_when : (port : ℕ) (value value' : Value) → value' ≡ value → (worker : Worker) →
      (port + 1 ≡ length worker.operands.items → IsReady rows bodies n (set worker.operands.items port value) worker) →
      port + 1 ≡ length worker.operands.items → IsReady rows' bodies' n' (set worker.operands.items port value') worker
  ready_when port value value' v worker ready last =
      let P : Rows × List CheckedBody × ℕ × Value → Type 0 = λ z. IsReady z.0 z.1 z.2 (set worker.operands.items port z.3) worker in
      subst P (λ h. (sym r h, sym b h, sym j h, sym v h)) (ready last)
