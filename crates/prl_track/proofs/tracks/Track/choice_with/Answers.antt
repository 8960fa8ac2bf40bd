use Rattle.std.proofs.Common.{arith, refl}
use Rattle.prl_track.specs.Tracks.{run_of}
use Rattle.prl_track.proofs.NextLaws.{known, choice_without, choice_unreleased, choice_kept, choice_first, choice_earlier}
use Rattle.prl_track.proofs.tracks.Track.choice_with.Goals as goal

pub returns-in_default : goal.returns-in_default
returns-in_default c =
    let k = known _ _ c.self.view_is c.self.invariant.facts in
    choice_without (run_of c.args.self.now) k.facts c.args.self.now.state c.args.j.0 c.args.best c.requires.best c.in_default.ensures

pub returns-then-self-first : goal.returns-then-self-first
returns-then-self-first c =
    let k = known _ _ c.self.view_is c.self.invariant.facts in
    choice_unreleased (run_of c.args.self.now) k.facts c.args.self.now.state c.args.j.0 c.in-Some.first c.in-Some.ensures c.args.best c.requires.best (omega (arith, c.if-self-first.true, k.clock))

pub returns-in-Some-best : goal.returns-in-Some-best
returns-in-Some-best c =
    let k = known _ _ c.self.view_is c.self.invariant.facts in
    choice_kept (run_of c.args.self.now) k.facts c.args.self.now.state c.args.j.0 c.in-Some.first c.in-Some.ensures c.in-Some-best.chosen (rw c.in-Some-best.is at c.requires.best) c.if-chosen-first.true

pub returns-in_default-best : goal.returns-in_default-best
returns-in_default-best c =
    let k = known _ _ c.self.view_is c.self.invariant.facts in
    choice_earlier (run_of c.args.self.now) k.facts c.args.self.now.state c.args.j.0 c.in-Some.first c.in-Some.ensures (omega (arith, c.if-self-first.false, k.clock)) _ refl refl c.in-Some-best.chosen
    (rw c.in-Some-best.is at c.requires.best) c.if-chosen-first.false

pub returns-in_default-best-2 : goal.returns-in_default-best-2
returns-in_default-best-2 c =
    let k = known _ _ c.self.view_is c.self.invariant.facts in
    choice_first (run_of c.args.self.now) k.facts c.args.self.now.state c.args.j.0 c.in-Some.first c.in-Some.ensures (omega (arith, c.if-self-first.false, k.clock)) _ refl refl (rw c.in_default-best.is at c.requires.best)
