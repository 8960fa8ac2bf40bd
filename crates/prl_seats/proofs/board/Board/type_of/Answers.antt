use Rattle.prl_base.proofs.Standard.{◌≡◌, List, get_or, ap, subst, ◌∙◌, get_or_default}
use Rattle.prl_plan.specs.declared.events.Action.TheVariants as actions
use Rattle.prl_plan.specs.Plans.{IsActionOf, PlanView, no_edge}
use Rattle.prl_plan.specs.declared.graphs.Edge.{Edge}
use Rattle.prl_plan.specs.declared.graphs.TaskGraph.{TaskGraph}
use Rattle.prl_seats.specs.Boards.{BoardView}
use Rattle.prl_rule.specs.Known.{values_of}
use Rattle.prl_seats.proofs.board.Board.type_of.Goals as goal

pub returns : goal.returns
unfolding values_of
returns c =
    let a = c.requires in
    let plan : c.self.inside.plan.now ≡ c.args.self.now.known.plan = ap (λ (d : BoardView). d.known.plan) c.self.view_is in
    let edges : c.as_slice.result.now ≡ c.args.self.now.known.plan.graph.edges =
    c.as_slice.ensures ∙ ap (λ (g : TaskGraph). g.edges) c.graph.ensures.graph ∙ ap (λ (p : PlanView). p.graph.edges) plan in
    let fits : IsActionOf c.args.self.now.known.plan a.0 a.1 (actions.Read a.3 c.args.edge a.4 a.5) =
    subst (IsActionOf c.args.self.now.known.plan a.0 a.1) a.6 (c.actions_are_as_defined.ensures.each c.args.self.now.known.plan a.0 a.1 a.2) in
    ap (λ (l : List Edge). (get_or l c.args.edge.0 c.index-as_slice-edge.result).ty) edges
    ∙ ap (λ (x : Edge). x.ty) (get_or_default c.args.self.now.known.plan.graph.edges c.args.edge.0 c.index-as_slice-edge.result no_edge fits.0)
