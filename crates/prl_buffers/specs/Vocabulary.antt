-- The words of this crate that clauses and proofs use, from one place.
pub use Rattle.prl_buffers.specs.CellFaults.{IsCellFault}
pub use Rattle.prl_numbers.specs.Counts.{AreOver, AreReleased, IsLeastTurn, at_turn}
pub use Rattle.prl_buffers.specs.code.Edges.{AreEnds, AreReleases, EndsFit, HasEdgeCells}
pub use Rattle.prl_buffers.specs.code.Edges.{HasLeastCount, HasTaskCells, IsCutOf, IsPlanned}
pub use Rattle.prl_buffers.specs.code.Edges.{ReleasesFit, base_of, deadline_in, jobs_of, release_in}
pub use Rattle.prl_buffers.specs.code.Tables.{AreListed, IsDated, bases_from}
pub use Rattle.prl_buffers.specs.code.Turns.{IsSteady, IsTurn}
pub use Rattle.prl_buffers.specs.declared.tables.CellFault.{CellFault}
