use Rattle.std.proofs.Common.{sym, ◌∙◌}
use Rattle.prl_track.proofs.TrackSteps.{writes_own}
use Rattle.prl_track.proofs.tracks.Track.proceed.Goals as goal

pub write-requires-clause-writes : goal.write-requires-clause-writes
write-requires-clause-writes c = (
  c.in-Write.edge,
  writes_own c.args.self.now.plan c.args.self.now.placement c.args.self.now.horizon c.args.self.now.state c.args.task.0 c.args.job c.in-Write.edge c.in-Write.instance c.in-Write.slot c.requires.job
      (sym c.stop_of-stop.ensures.action ∙ c.in-Write.is),
)
