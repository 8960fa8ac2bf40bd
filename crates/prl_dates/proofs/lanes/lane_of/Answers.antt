use Rattle.prl_base.proofs.Standard.{◌≡◌, List, length, Some, ap, subst, ◌∙◌, arith, ℤ, pos, slice_get, slice_index_or}
use Rattle.prl_dates.specs.Vocabulary.{Link, IsLinkOf}
use Rattle.prl_dates.proofs.LaneSteps.{joins_inside, lane_made}
use Rattle.prl_dates.proofs.lanes.lane_of.Goals as goal

pub links-requires-clause-from : goal.links-requires-clause-from
links-requires-clause-from c = (joins_inside c.args.graph.now c.requires.well c.args.from.0 c.args.to.0 c.args.e c.requires.joins).0

pub links-requires-clause-to : goal.links-requires-clause-to
links-requires-clause-to c = (joins_inside c.args.graph.now c.requires.well c.args.from.0 c.args.to.0 c.args.e c.requires.joins).1

pub jobs_before-requires-clause-tasks : goal.jobs_before-requires-clause-tasks
jobs_before-requires-clause-tasks c =
    omega (arith, (joins_inside c.args.graph.now c.requires.well c.args.from.0 c.args.to.0 c.args.e c.requires.joins).1)

pub returns-clause-lane : goal.returns-clause-lane
returns-clause-lane c =
    let graph = c.args.graph.now in
    let inside = joins_inside c.args.graph.now c.requires.well c.args.from.0 c.args.to.0 c.args.e c.requires.joins in
    let links : c.new.result ≡ c.in_ok-links.links.items = c.new.ensures in
    lane_made graph c.requires.well (record { from = c.args.from; to = c.args.to; first = c.jobs_before.result; links = c.new.result })
    inside.0 inside.1 c.jobs_before.ensures.jobs (ap (λ (xs : List Link). length xs) links ∙ c.in_ok-links.ensures.long) c.in_ok-numbers.numbers.items c.in_ok-numbers.ensures
    (λ n link at. subst (λ (xs : List ℤ). IsLinkOf graph c.args.from.0 c.args.to.0 (pos n) (slice_index_or xs n (pos 0)) link) c.as_slice.ensures.value
    (c.in_ok-links.ensures.each n link (subst (λ (xs : List Link). slice_get xs n ≡ Some link) links at)))
