-- The limit on flows, where so many are needed.
use Rattle.std.specs.Prelude.{◌≡◌, ◌<◌, ◌≤◌, ◌+◌, ℕ}
use Rattle.prl_base.specs.declared.limits.What.TheVariants as what
use Rattle.prl_expand.specs.declared.counts.TheConstants.{MAX_FLOWS}
use Rattle.prl_expand.specs.declared.counts.ExpandFault.{ExpandFault}
use Rattle.prl_expand.specs.declared.counts.ExpandFault.TheVariants as faults
use Rattle.prl_expand.specs.declared.counts.Next.{Next}

-- of this many flows, more than 4,096, those up to the first past the limit are counted
abbrev pub IsPast : ℕ → ExpandFault → Type 0
IsPast count (faults.Limit limit) = (limit ≡ record { what = what.Flows; found = MAX_FLOWS + 1 }) × (MAX_FLOWS < count)
IsPast count faults.Memory = Unit {0}

-- at most as many flows as the limit, and no more applications or nodes than flows
pub record IsFew (s : Next) : Type 0 where
  pub flows : s.flow ≤ 4096
  pub apps : s.app ≤ s.flow
  pub nodes : s.node ≤ s.flow

-- where a node is entered, which has its number and not yet its flows
pub record IsFewBefore (s : Next) : Type 0 where
  pub flows : s.flow ≤ 4096
  pub apps : s.app ≤ s.flow
  pub nodes : s.node ≤ s.flow + 1
