use Rattle.prl_base.proofs.Standard.{◌<◌, length, arith, refl, sym, subst, slice_get_read}
use Rattle.prl_track.specs.Vocabulary.{TrackView, run_of, IsFirstOf}
use Rattle.prl_track.proofs.TrackSteps.{first_of}
use Rattle.prl_track.proofs.tracks.Track.first.Goals as goal

pub returns : goal.returns
returns c =
    let track : TrackView = record {
      plan = c.self.inside.plan.now;
      placement = c.self.inside.placed;
      horizon = c.self.inside.horizon;
      state = record { now = c.self.inside.now; ended = c.self.inside.ended.items; places = c.self.inside.places.items; tags = c.self.inside.tags.items };
    } in
    let inside : c.args.j.0 < length track.plan.graph.tasks = subst (λ (v : TrackView). c.args.j.0 < length v.plan.graph.tasks) (sym c.self.view_is) c.requires in
    let l = c.self.invariant.first_jobs.tasks in
    subst (λ (v : TrackView). IsFirstOf (run_of v) v.state c.args.j.0 c.index.result.now) c.self.view_is
    (first_of (run_of track) track.state c.args.j.0 c.index.result.now inside
    (c.self.invariant.first_jobs.each c.args.j.0 c.index.result.now
    (slice_get_read c.self.inside.firsts.items (length c.self.inside.firsts.items) c.args.j.0 c.index.result.now refl (omega (arith, l, inside)) c.index.ensures)))
