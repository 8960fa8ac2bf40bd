-- Cycles of flows that a refusal is about.
use Rattle.std.specs.Prelude.{◌≡◌, ℕ, List, [], ◌∷◌}
use Rattle.prl_flow.specs.declared.programs.Def.{Def}
use Rattle.prl_flow.specs.Programs.{FlatProgram}
use Rattle.prl_flow.specs.Uses.{NamesInside, NamesNow, UsesInside, UsesNow}
use Rattle.prl_ways.specs.declared.rounds.Round.{Round}
use Rattle.prl_ways.specs.declared.uses.Along.{Along}
use Rattle.prl_ways.specs.declared.uses.Along.TheVariants as along

-- the definition uses flow `j`: without a delay, or through no application
abbrev pub Names : FlatProgram → Along → Def → ℕ → Type 0
Names p along.Undelayed def j = NamesNow p def j
Names p along.Inside def j = NamesInside def j

-- flow `i` uses flow `j` so
abbrev pub Uses : FlatProgram → Along → ℕ → ℕ → Type 0
Uses p along.Undelayed i j = UsesNow p i j
Uses p along.Inside i j = UsesInside p i j

-- the first flow uses the first of the others, each of them the next, and the last uses the end
abbrev pub IsWay : FlatProgram → Along → ℕ → List ℕ → ℕ → Type 0
IsWay p by i [] end = Uses p by i end
IsWay p by i (j ∷ rest) end = Uses p by i j × IsWay p by j rest end

-- flow `i` uses the first of the others, each of them the next, and the last uses flow `i`
pub record IsRound (p : FlatProgram) (i : ℕ) (round : Round) : Type 0 where
  pub first : round.first ≡ i
  pub way : IsWay p round.along round.first round.rest round.first
