use Rattle.prl_base.proofs.Standard.{inl, sym}
use Rattle.prl_times.proofs.Refusals.{at_none}
use Rattle.prl_times.proofs.asked.push_until.Goals as goal

pub returns-in_default-number_in-clause-refused : goal.returns-in_default-number_in-clause-refused
returns-in_default-number_in-clause-refused c =
    inl (c.in-Some.word.now, sym c.in-Some.ensures, at_none c.number_in.result c.number_in.ensures.none c.in_default-number_in.not-Some)
