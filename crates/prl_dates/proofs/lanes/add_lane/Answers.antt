use Rattle.prl_base.proofs.Standard.{◌≡◌, ◌+◌, ℕ, List, get_or, Some, sym, ap, subst, ◌∙◌, slice_get}
use Rattle.prl_plan.specs.Precedence.{ComesFrom}
use Rattle.prl_plan.specs.declared.graphs.Edge.{Edge}
use Rattle.prl_plan.specs.declared.graphs.Producer.{Producer}
use Rattle.prl_dates.specs.Vocabulary.{Lane, IsJoined, AreLanesOf}
use Rattle.prl_dates.proofs.Readings.{item_stands}
use Rattle.prl_dates.proofs.LaneSteps.{lanes_same, lanes_more}
use Rattle.prl_dates.proofs.lanes.add_lane.Goals as goal

pub returns-in_ok-push : goal.returns-in_ok-push
returns-in_ok-push c =
    let graph = c.args.graph.now in
    let edge = c.index-as_slice-e.result in
    let is : edge ≡ get_or graph.edges c.args.e edge = c.index-as_slice-e.is ∙ ap (λ (es : List Edge). get_or es c.args.e edge) c.as_slice.ensures in
    let stands : slice_get graph.edges c.args.e ≡ Some edge = item_stands graph.edges c.args.e edge c.requires.edge is in
    subst (λ (xs : List Lane). AreLanesOf graph (c.args.e + 1) xs) (sym c.in_ok-push.ensures.items)
    (lanes_more graph c.requires.well c.args.e edge stands c.args.lanes.now.items c.requires.lanes c.in_ok-lane.lane c.in_ok-lane.ensures.lane
    (λ i from. ((c.in_ok-lane.ensures.ends.0 ∙ (subst (λ (p : Producer). ComesFrom p i) c.in-Port.is from), c.in_ok-lane.ensures.ends.1))))

pub returns-else-not-is_joined : goal.returns-else-not-is_joined
returns-else-not-is_joined c =
    let graph = c.args.graph.now in
    let edge = c.index-as_slice-e.result in
    let is : edge ≡ get_or graph.edges c.args.e edge = c.index-as_slice-e.is ∙ ap (λ (es : List Edge). get_or es c.args.e edge) c.as_slice.ensures in
    let joined : IsJoined c.args.lanes.now.items c.in-Port.task.0 edge.to.0 =
    subst (λ (xs : List Lane). IsJoined xs c.in-Port.task.0 edge.to.0) c.as_slice-in-Port.ensures.value (c.is_joined.ensures.0 c.if-not-is_joined.false) in
    lanes_same graph c.requires.well c.args.e edge (item_stands graph.edges c.args.e edge c.requires.edge is) c.args.lanes.now.items c.requires.lanes
    (λ i from. subst (λ (x : ℕ). IsJoined c.args.lanes.now.items x edge.to.0) (subst (λ (p : Producer). ComesFrom p i) c.in-Port.is from) joined)

pub returns-in_default : goal.returns-in_default
returns-in_default c =
    let graph = c.args.graph.now in
    let edge = c.index-as_slice-e.result in
    let is : edge ≡ get_or graph.edges c.args.e edge = c.index-as_slice-e.is ∙ ap (λ (es : List Edge). get_or es c.args.e edge) c.as_slice.ensures in
    let stands : slice_get graph.edges c.args.e ≡ Some edge = item_stands graph.edges c.args.e edge c.requires.edge is in
    lanes_same graph c.requires.well c.args.e edge stands c.args.lanes.now.items c.requires.lanes (λ i from. absurd (subst (λ (p : Producer). ComesFrom p i) c.in_default.is from))
