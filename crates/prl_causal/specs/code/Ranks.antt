-- Ranks of flows and of applications, by which no use leads up.
use Rattle.std.specs.Prelude.{◌≡◌, ◌≤◌, ℕ, List, Some, slice_get, slice_index_or}
use Rattle.prl_flow.specs.declared.programs.App.{App}
use Rattle.prl_flow.specs.declared.programs.Arg.{Arg}
use Rattle.prl_flow.specs.Programs.{FlatProgram}
use Rattle.prl_causal.specs.declared.causality.UseRanks.{UseRanks}
use Rattle.prl_causal.specs.declared.causality.Uses.{Uses}
use Rattle.prl_causal.specs.declared.ranks.Ranks.{Ranks}
use Rattle.prl_causal.specs.declared.sources.Source.{Source}
use Rattle.prl_causal.specs.declared.sources.Source.TheVariants as sources

abbrev pub rank_at : List ℕ → ℕ → ℕ
rank_at ranks i = slice_index_or ranks i 0

-- the rank of what a flow uses
abbrev pub source_rank : Ranks → Source → ℕ
source_rank r sources.Nothing = 0
source_rank r (sources.Flow of) = rank_at r.flows of.0
source_rank r (sources.Arguments k) = rank_at r.apps k

-- no argument has a higher rank than this
abbrev pub AreBelow : List Arg → List ℕ → ℕ → Type 0
AreBelow args ranks most = (j : ℕ) (arg : Arg) → slice_get args j ≡ Some arg → rank_at ranks arg.flow.0 ≤ most

-- no use leads up
pub record AreRanks (p : FlatProgram) (all : List Source) (r : Ranks) : Type 0 where
  pub sources_fall : (i : ℕ) (source : Source) → slice_get all i ≡ Some source → source_rank r source ≤ rank_at r.flows i
  pub arguments_fall : (k : ℕ) (app : App) → slice_get p.apps k ≡ Some app → AreBelow app.args r.flows (rank_at r.apps k)

-- along the uses of each kind
pub record AreUseRanks (uses : Uses) (ranks : UseRanks) : Type 0 where
  pub undelayed : AreRanks uses.flat.now uses.undelayed.now ranks.undelayed
  pub inside : AreRanks uses.flat.now uses.inside.now ranks.inside
