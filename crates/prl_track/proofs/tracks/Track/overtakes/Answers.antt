use Rattle.prl_base.proofs.Standard.{◌∙◌, sym, OnFalse_at, OnFalse_from, OnTrue_at}
use Rattle.std.proofs.lemmas.Bool.{OnTrue_from}
use Rattle.prl_track.specs.Tracks.{run_of}
use Rattle.prl_track.proofs.NextLaws.{known, none_earlier, overtakes, stays_after}
use Rattle.prl_track.proofs.tracks.Track.overtakes.Goals as goal

pub returns-then-processor-clause-no : goal.returns-then-processor-clause-no
returns-then-processor-clause-no c = λ n together left at. absurd (c.if-processor.true (c.processor.ensures ∙ together))

pub returns-in-Some-clause-yes : goal.returns-in-Some-clause-yes
returns-in-Some-clause-yes c =
    let k = known _ _ c.self.view_is c.self.invariant.facts in
    OnTrue_from _ _ (λ tells.
    (let goes = OnTrue_at tells c.goes_before.ensures.yes in
    overtakes (run_of c.args.self.now) k.facts c.args.self.now.state c.args.j.0 c.in-Some.first c.in-Some.ensures c.self.inside.now k.clock
    c.args.processor c.args.deadline (sym c.processor.ensures ∙ c.if-processor.false) goes.0 goes.1))

pub returns-in-Some-clause-no : goal.returns-in-Some-clause-no
returns-in-Some-clause-no c =
    let k = known _ _ c.self.view_is c.self.invariant.facts in
    OnFalse_from _ _ (λ tells. stays_after (run_of c.args.self.now) k.facts c.args.self.now.state c.args.j.0 c.in-Some.first c.in-Some.ensures c.self.inside.now k.clock
    c.args.processor c.args.deadline (OnFalse_at tells c.goes_before.ensures.no))

pub returns-in-None-clause-no : goal.returns-in-None-clause-no
returns-in-None-clause-no c =
    let k = known _ _ c.self.view_is c.self.invariant.facts in
    none_earlier (run_of c.args.self.now) k.facts c.args.self.now.state c.args.j.0 c.in-None.ensures c.args.processor c.args.deadline
