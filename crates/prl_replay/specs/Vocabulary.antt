-- The words of this crate that clauses and proofs use, from one place.
pub use Rattle.prl_replay.specs.Outputs.{out_flow, out_flows}
pub use Rattle.prl_replay.specs.Replays.{AddsFlow, AreFlowsBelow, IsFlowOf}
pub use Rattle.prl_replay.specs.Replays.{IsReplayFault, IsRunFault, IsTrace, IsWholeText, after_all}
pub use Rattle.prl_replay.specs.declared.faults.ReplayFault.{ReplayFault}
