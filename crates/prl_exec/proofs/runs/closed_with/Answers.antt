use Rattle.prl_base.proofs.Standard.{Option, subst, IfNone, IfSome}
use Rattle.prl_exec.specs.Vocabulary.{Missed, IsOver, IsOverrunIn}
use Rattle.prl_rule.specs.Known.{run_of}
use Rattle.prl_exec.proofs.Rounds.{all_ended}
use Rattle.prl_exec.proofs.Stopping.{has_stopped}
use Rattle.prl_exec.proofs.runs.closed_with.Goals as goal

pub returns-in-None-clause-ended : goal.returns-in-None-clause-ended
returns-in-None-clause-ended c = λ k s known last.
    all_ended k c.close-closed.result.words c.args.lone.seats c.close-closed.result.seats
    (subst (λ (o : Option Missed). IfNone o (IsOver c.args.lone)) c.in-None.is c.requires.over) c.close-closed.ensures.seats (c.stands.ensures k known) s last

pub returns-in-Some-clause-stopped : goal.returns-in-Some-clause-stopped
returns-in-Some-clause-stopped c =
    let k = c.args.board.known in
    let laws = c.run_laws.ensures in let tags = c.free_events_keep_tags.ensures in
    has_stopped k laws (tags.list (run_of k) laws.facts) (tags.halves (run_of k) laws.facts) (c.actions_are_as_defined.ensures.each k.plan) c.args.lone c.in-Some.missed
    (subst (λ (o : Option Missed). IfSome o (IsOverrunIn k c.args.lone)) c.in-Some.is c.requires.met) c.close-closed.result
    c.close-closed.ensures.known c.close-closed.ensures.seats (c.stands.ensures k c.close-closed.ensures.known)
