use Rattle.prl_clock.proofs.Fine.{reached_more, stopped_one}
use Rattle.prl_clock.proofs.constraints.rate_at.Goals as goal

pub returns-in-Ok-clause-reached : goal.returns-in-Ok-clause-reached
returns-in-Ok-clause-reached c =
    λ cs r. reached_more c.args.flat.now cs _ c.args.standings.now c.rate_flow.new.standings r c.in-Ok.ensures.count (c.in-Ok.ensures.solved cs c.args.at r.solved)

pub returns-in-Err-clause-stopped : goal.returns-in-Err-clause-stopped
returns-in-Err-clause-stopped c = λ cs r. stopped_one cs _ c.in-Err.refusal c.told.result r.fine (c.in-Err.ensures.refused cs c.args.at r.solved) c.told.ensures
