-- A way along uses that leads back.
use Rattle.std.specs.Prelude.{ℕ}
use Rattle.prl_flow.specs.Uses.{Leads}

-- uses lead from some flow back to it
abbrev pub HasWayBack : (ℕ → ℕ → Type 0) → Type 0
HasWayBack U = (c : ℕ) × Leads U c c
