use Rattle.std.proofs.Common.{◌≡◌, ◌*◌, length, replicate, ◌∙◌, ap}
use Rattle.prl_track.specs.declared.routes.Cursor.{Cursor}
use Rattle.prl_track.proofs.TrackSteps.{opened_at}
use Rattle.prl_track.proofs.tracks.Track.on.Goals as goal

pub invariant_of-result : goal.invariant_of-result
invariant_of-result c =
    let tasks : c.len-tasks.result ≡ length c.args.plan.now.graph.tasks = c.len-tasks.ensures ∙ ap (λ g. length g.tasks) c.graph.ensures.graph in
    let opened = c.in_ok-opened.opened in
    let start : Cursor = record { index = 0; rest = 0 } in
    opened_at c.args.plan.now c.args.placed c.args.horizon c.requires.horizon c.requires.windows c.requires.facts opened.0.items opened.1 c.in_ok-starts.starts.2.items
    c.in_ok-opened.ensures.firsts c.in_ok-opened.ensures.routes (c.in_ok-starts.ensures.cursors ∙ ap (λ n. replicate n start) tasks)
    c.in_ok-starts.starts.0.items c.in_ok-starts.starts.1.items c.in_ok-tags.tags.items
    (c.in_ok-starts.ensures.ended ∙ ap (λ n. replicate n 0) tasks) (c.in_ok-starts.ensures.places ∙ ap (λ n. replicate n 0) tasks)
    (c.in_ok-tags.ensures.items_if_clones_equal (λ y h. h) ∙ ap (λ n. replicate (2 * n) 0) c.total.ensures)
