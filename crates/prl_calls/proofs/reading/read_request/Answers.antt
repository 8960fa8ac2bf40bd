use Rattle.prl_calls.proofs.reading.read_request.Goals as goal

pub returns-in-Err-clause-asks : goal.returns-in-Err-clause-asks
returns-in-Err-clause-asks g c = (6, c.in_ok-texts.ensures.asked)
