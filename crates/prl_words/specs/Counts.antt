-- How many instances the flows on the way over an edge have in a hyperperiod.
use Rattle.std.specs.Prelude.{◌≡◌, ◌*◌, ◌≤◌, ℕ, List, [], ◌∷◌}
use Rattle.prl_base.specs.declared.operators.Op.{Op}
use Rattle.prl_base.specs.declared.operators.Op.TheVariants as operators
use Rattle.prl_plan.specs.declared.limits.TheConstants.{MAX_HYPER}

-- The operator's result has `count` instances in a hyperperiod, and the flow that it stands on has
-- `before`.
abbrev pub IsCountBefore : Op → ℕ → ℕ → Type 0
IsCountBefore (operators.Up k) count before = count ≡ k * before
IsCountBefore (operators.Down k) count before = before ≡ k * count
IsCountBefore (operators.Shift q) count before = before ≡ count
IsCountBefore operators.Tail count before = before ≡ count
IsCountBefore (operators.Cons c) count before = before ≡ count
IsCountBefore (operators.Fby c) count before = before ≡ count

-- a flow has some instances in a hyperperiod, and at most one a tick of the longest
abbrev pub IsCount : ℕ → Type 0
IsCount count = (1 ≤ count) × (count ≤ MAX_HYPER)

-- from the consumer's end on, the consumer with so many jobs in a hyperperiod
abbrev pub HaveCounts : List Op → ℕ → Type 0
HaveCounts [] count = IsCount count
HaveCounts (op ∷ ops) count =
    IsCount count × ((before : ℕ) × IsCountBefore op count before × HaveCounts ops before)
