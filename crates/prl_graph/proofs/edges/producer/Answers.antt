use Rattle.prl_base.proofs.Standard.{◌≡◌, ◌+◌, ◌<◌, ℕ, List, length, get_or, slice_get, refl, sym, ap, subst, ◌∙◌, arith, slice_get_within, get_or_from_slice_get}
use Rattle.prl_flow.specs.Programs.{FlatProgram}
use Rattle.prl_flow.specs.declared.programs.Def.{Def}
use Rattle.prl_flow.specs.declared.programs.Flow.{Flow}
use Rattle.prl_plan.specs.declared.graphs.Producer.{Producer}
use Rattle.prl_plan.specs.declared.graphs.Producer.TheVariants as producers
use Rattle.prl_graph.specs.Edges.{IsProducer}
use Rattle.prl_graph.specs.code.Steps.{HasProducer, GivesValues}
use Rattle.prl_graph.proofs.Lists.{same_length}
use Rattle.prl_graph.proofs.edges.producer.Goals as goal

within : (p : FlatProgram) (i : ℕ) (flows : List Flow) → flows ≡ p.flows → HasProducer p i → i < length flows
within p i flows same given = (let low = slice_get_within p.flows i given.1.flow given.1.found in let long = same_length flows p.flows same in omega (arith, low, long))

pub overflow_cast-result-in-Apply : goal.overflow_cast-result-in-Apply
overflow_cast-result-in-Apply c = (let long = same_length c.ins.result.now c.args.flat.now.ins c.ins.ensures in omega (arith, long, c.requires.few))

pub bounds : goal.bounds
bounds c = within c.args.flat.now c.args.source.0 c.flows.result.now c.flows.ensures.flows c.requires.source

pub bounds-flows-source : goal.bounds-flows-source
bounds-flows-source c = within c.args.flat.now c.args.source.0 c.flows.result.now c.flows.ensures.flows c.requires.source

pub bounds-value : goal.bounds-value
bounds-value c = within c.args.flat.now c.args.source.0 c.flows.result.now c.flows.ensures.flows c.requires.source

pub bounds-app : goal.bounds-app
bounds-app c = within c.args.flat.now c.args.source.0 c.flows.result.now c.flows.ensures.flows c.requires.source

pub bounds-out : goal.bounds-out
bounds-out c = within c.args.flat.now c.args.source.0 c.flows.result.now c.flows.ensures.flows c.requires.source

gives : (p : FlatProgram) (i : ℕ) (flows : List Flow) (d : Flow) (def : Def) (from : Producer) → flows ≡ p.flows → HasProducer p i → (get_or flows i d).def ≡ def → IsProducer p def from →
    GivesValues p i from
gives p i flows d def from same given is made =
    let known = given.1 in
    let flow_is = get_or_from_slice_get flows i known.flow d (ap (λ (l : List Flow). slice_get l i) same ∙ known.found) in
    record {
      flow = known.flow;
      found = known.found;
      produces = subst (λ (e : Def). IsProducer p e from) (sym is ∙ ap (λ (f : Flow). f.def) flow_is) made;
    }

pub returns-in-Sensor : goal.returns-in-Sensor
returns-in-Sensor c = gives c.args.flat.now c.args.source.0 c.flows.result.now _ _ _ c.flows.ensures.flows c.requires.source c.in-Sensor.is refl

pub returns-in-Const : goal.returns-in-Const
returns-in-Const c = gives c.args.flat.now c.args.source.0 c.flows.result.now _ _ _ c.flows.ensures.flows c.requires.source c.in-Const.is refl

pub returns-in-Apply : goal.returns-in-Apply
returns-in-Apply c =
    gives c.args.flat.now c.args.source.0 c.flows.result.now _ _ _ c.flows.ensures.flows c.requires.source c.in-Apply.is
    (ap (λ (n : ℕ). producers.Port (record { 0 = n + c.in-Apply.app }) c.in-Apply.out) (same_length c.ins.result.now c.args.flat.now.ins c.ins.ensures))
