-- A text is that of one plan at most, and its graph is that plan's.
use Rattle.std.proofs.Common.{◌≡◌, ℕ, List, ap, sym, ◌∙◌, subst, Result, Ok, Err, MatchResult}
use Rattle.prl_plan.specs.Vocabulary.{IsWellFormed, IsPlan, PlanView}
use Rattle.prl_plan.specs.declared.graphs.TaskGraph.{TaskGraph}
use Rattle.prl_plantext.specs.PlanTexts.{plan_text}
use Rattle.prl_plantext.specs.ReadTexts.{IsTextFault, IsTextOf}
use Rattle.prl_plantext.specs.code.Graphs.{graph_of}
use Rattle.prl_plantext.specs.code.Planned.{IsGraphFault, IsOtherText}
use Rattle.prl_plantext.specs.declared.plans.PlanFault.{PlanFault}
use Rattle.prl_plantext.specs.declared.plans.PlanFault.TheVariants as faults
use Rattle.prl_plantext.proofs.RoundTrip.{text_tells_graph}

-- the graph that the text of a plan is read to is the plan's
pub graph_of_text : (text : List ℕ) (plan : PlanView) → IsTextOf plan text → plan.graph ≡ graph_of text
graph_of_text text plan is = sym (text_tells_graph plan is.planned is.held) ∙ ap graph_of is.printed

pub well_formed_of_text : (text : List ℕ) (plan : PlanView) (graph : TaskGraph) → graph ≡ graph_of text → IsTextOf plan text → IsWellFormed graph
well_formed_of_text text plan graph read is = subst IsWellFormed (graph_of_text text plan is ∙ sym read) is.planned.graph

abbrev OnePlan : Type 0
OnePlan = (a b : PlanView) → IsPlan a → IsPlan b → a.graph ≡ b.graph → a ≡ b

pub one_plan_of_text : (text : List ℕ) (a b : PlanView) → OnePlan → IsTextOf a text → IsTextOf b text → a ≡ b
one_plan_of_text text a b one is_a is_b = one a b is_a.planned is_b.planned (graph_of_text text a is_a ∙ sym (graph_of_text text b is_b))

-- the plan of the graph that a text is read to has the text, or no plan has
pub text_of_planned : (text : List ℕ) (made plan : PlanView) → OnePlan → IsPlan made → made.graph ≡ graph_of text → IsTextOf plan text → plan_text made ≡ text
text_of_planned text made plan one planned read is = ap plan_text (one made plan planned is.planned (read ∙ sym (graph_of_text text plan is))) ∙ is.printed

-- where no plan has the graph, none has the text
pub text_refused : (text : List ℕ) (graph : TaskGraph) (fault : PlanFault) → graph ≡ graph_of text → IsGraphFault graph fault → IsTextFault text fault
text_refused text graph faults.NotPlan read refused = λ plan is. refused plan is.planned (graph_of_text text plan is ∙ sym read)
text_refused text graph faults.Memory read refused = tt

-- what comes of the graph of a text comes of the text
pub outcome_of_text : (text : List ℕ) (graph : TaskGraph) (r : Result PlanView PlanFault) → graph ≡ graph_of text →
    MatchResult r (λ plan. IsPlan plan × (plan.graph ≡ graph)) (IsGraphFault graph) → MatchResult r (λ plan. IsPlan plan × (plan.graph ≡ graph_of text)) (IsTextFault text)
outcome_of_text text graph (Ok plan) read is = (is.0, is.1 ∙ read)
outcome_of_text text graph (Err fault) read is = text_refused text graph fault read is

-- a text that is not that of the plan of its graph is that of no plan
pub other_refused : (text : List ℕ) (made : PlanView) (fault : PlanFault) → OnePlan → IsPlan made → made.graph ≡ graph_of text → IsOtherText made text fault → IsTextFault text fault
other_refused text made faults.NotPlan one planned read other = λ plan is. other (text_of_planned text made plan one planned read is)
other_refused text made faults.Memory one planned read other = tt
