use Rattle.prl_endings.proofs.pipeline.kept_text.Goals as goal

pub returns-in-Replay : goal.returns-in-Replay
returns-in-Replay c = rw c.in-Replay.is c.replayed_text.ensures
