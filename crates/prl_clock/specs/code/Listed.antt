-- Which flows are listed at a flow: all that stand over it, and maybe others.
use Rattle.std.specs.Prelude.{◌≡◌, ◌<◌, ◌++◌, ℕ, List, [], Contains, length, slice_index_or, slice_set}
use Rattle.prl_flow.specs.Standings.{standing_at}
use Rattle.prl_flow.specs.declared.standings.Standing.{Standing}

abbrev pub listed_at : List (List ℕ) → ℕ → List ℕ
listed_at lists r = slice_index_or lists r []

-- the lists with those at `high` at `low` as well
abbrev pub joint_list : ℕ → ℕ → List (List ℕ) → List (List ℕ)
joint_list high low lists = slice_set lists low (listed_at lists low ++ listed_at lists high)

-- Each flow is listed at the one that it stands over, and nothing is listed that is no flow.
pub record AreListed (st : List Standing) (lists : List (List ℕ)) : Type 0 where
  pub count : length lists ≡ length st
  pub all : (x : ℕ) → x < length st → Contains (listed_at lists (standing_at st x).root) x
  pub only : (x r : ℕ) → Contains (listed_at lists r) x → x < length st
