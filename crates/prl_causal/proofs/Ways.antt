-- Ways along uses, one after the other, and along uses of another kind.
use Rattle.std.proofs.Common.{ℕ}
use Rattle.prl_flow.specs.Uses.{Leads, once, then}

pub onward : (U : ℕ → ℕ → Type 0) (i m j : ℕ) → Leads U i m → Leads U m j → Leads U i j
onward U i m j (once a b u) second = then i m j u second
onward U i m j (then a b c u rest) second = then i b j u (onward U b m j rest second)

pub along : (U V : ℕ → ℕ → Type 0) → ((i j : ℕ) → U i j → V i j) → (i j : ℕ) → Leads U i j → Leads V i j
along U V maps i j (once a b u) = once i j (maps i j u)
along U V maps i j (then a b c u rest) = then i b j (maps i b u) (along U V maps b j rest)
