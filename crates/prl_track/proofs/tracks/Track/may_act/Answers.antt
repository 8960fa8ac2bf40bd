use Rattle.std.proofs.Common.{◌≡◌, arith, ap}
use Rattle.prl_plan.specs.Rules.{first_unfinished}
use Rattle.prl_track.specs.Vocabulary.{TrackView, run_of, IsFirst}
use Rattle.prl_track.proofs.tracks.Track.may_act.Goals as goal

pub returns-then-is_overtaken : goal.returns-then-is_overtaken
returns-then-is_overtaken c =
    let is : IsFirst (run_of c.args.self.now) c.args.self.now.state c.args.task.0 c.in-Some.first = c.in-Some.ensures in
    let late = c.if-is_overtaken.ensures.yes in
    let due = is.deadline in
    let earlier = late.1.3 in
    let at_processor = c.processor.ensures in
    let at = is.release in
    let clock : c.self.inside.now ≡ c.args.self.now.state.now = ap (λ (v : TrackView). v.state.now) c.self.view_is in
    let shown = c.if-self-first.false in
    (is.left, omega (arith, at, clock, shown), (late.0, first_unfinished c.args.self.now.state late.0, (let e = late.1.0 in omega (arith, e, at_processor)), late.1.1, late.1.2, omega (arith, due, earlier)))

pub returns : goal.returns
returns c =
    let is : IsFirst (run_of c.args.self.now) c.args.self.now.state c.args.task.0 c.in-Some.first = c.in-Some.ensures in
    let due = is.deadline in
    let at = is.release in
    let clock : c.self.inside.now ≡ c.args.self.now.state.now = ap (λ (v : TrackView). v.state.now) c.self.view_is in
    let shown = c.if-self-first.false in
    let at_processor = c.processor.ensures in
    (is.job, (is.left, omega (arith, at, clock, shown), λ j n together left released. (let later = c.if-is_overtaken.ensures.no j left.task n (omega (arith, together, at_processor)) left released in omega (arith, later, due))))
