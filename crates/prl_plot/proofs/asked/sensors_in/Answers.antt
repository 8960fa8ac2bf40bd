use Rattle.prl_base.proofs.Standard.{◌≡◌, ℕ, List, map, subst, string_bytes, IfOk-weaker}
use Rattle.prl_plot.specs.declared.forms.Form.{Form}
use Rattle.prl_steps.specs.Flows.{FlowView}
use Rattle.prl_io.specs.Faults.{Folder}
use Rattle.prl_plot.specs.Asked.{AreFlows, AreSensors, IsFormAsked}
use Rattle.prl_plot.proofs.asked.sensors_in.Goals as goal

-- no file was changed before the rows were read
sensed : (before after : Folder) (form : Form) (words : List (List ℕ)) (flows : List FlowView) (name : List ℕ)
    → after ≡ before → IsFormAsked before words form → AreFlows after form flows name → AreSensors before words flows name
sensed before after form words flows name kept asked are = (form, asked, subst (λ (folder : Folder). AreFlows folder form flows name) kept are)

pub returns-clause-flows : goal.returns-clause-flows
returns-clause-flows g c =
    IfOk-weaker c.flows_in.result _ _
    (λ flows are. sensed _ _ c.in_ok-form.form (map string_bytes c.args.words.now) flows.items c.args.name.now c.in_ok-form.ensures.kept c.in_ok-form.ensures.form are)
    c.flows_in.ensures.flows
