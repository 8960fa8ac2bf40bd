use Rattle.prl_replay.proofs.OneEnd.{whole_or_fault, whole_has_no_fault, whole_unbroken, one_fault}
use Rattle.prl_replay.proofs.laws.replays_end_one_way.Goals as goal

pub returns-clause-end : goal.returns-clause-end
returns-clause-end c = whole_or_fault (record { rules = c.events_are_decided.ensures.rules; complete = c.events_are_decided.ensures.complete })

pub returns-clause-not_both : goal.returns-clause-not_both
returns-clause-not_both c = whole_has_no_fault

pub returns-clause-one_fault : goal.returns-clause-one_fault
returns-clause-one_fault c = one_fault

pub returns-clause-whole : goal.returns-clause-whole
returns-clause-whole c = λ core events fault legal complete broken. whole_unbroken core events fault (legal, complete) broken
