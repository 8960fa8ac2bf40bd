use Rattle.prl_base.proofs.Standard.{OnFalse_at, OnFalse_from, OnTrue_at}
use Rattle.std.proofs.lemmas.Bool.{OnTrue_from}
use Rattle.prl_track.specs.Tracks.{run_of}
use Rattle.prl_track.proofs.NextLaws.{due, has_deadline, in_time, known, none_due}
use Rattle.prl_track.proofs.tracks.Track.is_due.Goals as goal

pub is_due-requires : goal.is_due-requires
is_due-requires c =
    let k = known _ _ c.self.view_is c.self.invariant.facts in
    has_deadline (run_of c.args.self.now) k.facts c.args.self.now.state c.args.j.0 c.in-Some.first c.in-Some.ensures c.self.inside.now k.clock

pub returns-in-Some-clause-yes : goal.returns-in-Some-clause-yes
returns-in-Some-clause-yes c =
    let k = known _ _ c.self.view_is c.self.invariant.facts in
    OnTrue_from _ _ (λ tells. due (run_of c.args.self.now) k.facts c.args.self.now.state c.args.j.0 c.in-Some.first c.in-Some.ensures c.self.inside.now k.clock (OnTrue_at tells c.is_due.ensures.yes))

pub returns-in-Some-clause-no : goal.returns-in-Some-clause-no
returns-in-Some-clause-no c =
    let k = known _ _ c.self.view_is c.self.invariant.facts in
    OnFalse_from _ _ (λ tells. in_time (run_of c.args.self.now) k.facts c.args.self.now.state c.args.j.0 c.in-Some.first c.in-Some.ensures c.self.inside.now k.clock (OnFalse_at tells c.is_due.ensures.no))

pub returns-in-None-clause-no : goal.returns-in-None-clause-no
returns-in-None-clause-no c =
    let k = known _ _ c.self.view_is c.self.invariant.facts in
    none_due (run_of c.args.self.now) k.facts c.args.self.now.state c.args.j.0 c.in-None.ensures
