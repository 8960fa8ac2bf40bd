-- What the ports of a flat program are.
use Rattle.std.proofs.Common.{◌≡◌, ◌<◌, ◌+◌, ◌⊎◌, ℕ, zero, suc, List, [], ◌∷◌, length, slice_get, Some, refl, sym, ◌∙◌, ap, subst, arith, inl, inr, ⊎_elim}
use Rattle.prl_base.specs.declared.numbers.FlowNo.{FlowNo}
use Rattle.prl_flow.specs.Programs.{FlatProgram, IsFlat}
use Rattle.prl_flow.specs.declared.programs.App.{App}
use Rattle.prl_flow.specs.declared.programs.Arg.{Arg}
use Rattle.prl_graph.specs.Ports.{InputPort, actuator_no, actuator_ports, application_ports, argument_ports, node_no, ports_of}
use Rattle.prl_graph.proofs.Lists.{append_cases}

-- the port is that of an argument of an application
pub record IsArgumentPort (p : FlatProgram) (port : InputPort) : Type 0 where
  pub number : ℕ
  pub app : App
  pub applied : slice_get p.apps number ≡ Some app
  pub task : port.task ≡ node_no p number
  pub arg : Arg
  pub found : slice_get app.args port.port ≡ Some arg
  pub flow : port.flow ≡ arg.flow.0

-- the port is that of an actuator
pub record IsActuatorPort (p : FlatProgram) (port : InputPort) : Type 0 where
  pub number : ℕ
  pub flow_no : FlowNo
  pub found : slice_get p.outs number ≡ Some flow_no
  pub task : port.task ≡ actuator_no p number
  pub port_is : port.port ≡ 0
  pub flow : port.flow ≡ flow_no.0

argument_port : (i j : ℕ) (args : List Arg) (e : ℕ) (port : InputPort) → slice_get (argument_ports i j args) e ≡ Some port
    → (arg : Arg) × (slice_get args e ≡ Some arg) × (port ≡ record { task = i; port = j + e; flow = arg.flow.0 })
argument_port i j [] e port h = cc
argument_port i j (arg ∷ args) zero port h =
    let e : j + 0 ≡ j = omega arith in
    let is : record { task = i; port = j; flow = arg.flow.0 } ≡ port = cc in
    (arg, refl, sym is ∙ ap (λ n. record { task = i; port = n; flow = arg.flow.0 }) (sym e))
argument_port i j (arg ∷ args) (suc e) port h =
    let more = argument_port i (j + 1) args e port h in
    let same : (j + 1) + e ≡ j + suc e = omega arith in
    (more.0, more.1, more.2 ∙ ap (λ n. record { task = i; port = n; flow = more.0.flow.0 }) same)

application_port : (i : ℕ) (apps : List App) (e : ℕ) (port : InputPort) → slice_get (application_ports i apps) e ≡ Some port
    → (k : ℕ) × (app : App) × (slice_get apps k ≡ Some app) × (port.task ≡ i + k) × ((arg : Arg) × (slice_get app.args port.port ≡ Some arg) × (port.flow ≡ arg.flow.0))
application_port i [] e port h = cc
application_port i (app ∷ apps) e port h =
    ⊎_elim
    (λ a.
    (let here = argument_port i 0 app.args e port a in
    let task : port.task ≡ i + 0 = ap (λ (x : InputPort). x.task) here.2 ∙ (let e : i ≡ i + 0 = omega arith in e) in
    let number : port.port ≡ e = ap (λ (x : InputPort). x.port) here.2 ∙ (let z : 0 + e ≡ e = omega arith in z) in
    (zero, app, refl, task, (here.0, subst (λ n. slice_get app.args n ≡ Some here.0) (sym number) here.1, ap (λ (x : InputPort). x.flow) here.2))))
    (λ b.
    (let more = application_port (i + 1) apps b.0 port b.2 in
    let task : port.task ≡ i + suc more.0 = more.3 ∙ (let e : (i + 1) + more.0 ≡ i + suc more.0 = omega arith in e) in
    (suc more.0, more.1, more.2, task, more.4)))
    (append_cases (argument_ports i 0 app.args) (application_ports (i + 1) apps) e port h)

actuator_port : (i : ℕ) (flows : List FlowNo) (e : ℕ) (port : InputPort) → slice_get (actuator_ports i flows) e ≡ Some port
    → (flow : FlowNo) × (slice_get flows e ≡ Some flow) × (port ≡ record { task = i + e; port = 0; flow = flow.0 })
actuator_port i [] e port h = cc
actuator_port i (flow ∷ flows) zero port h =
    let e : i + 0 ≡ i = omega arith in
    let is : record { task = i; port = 0; flow = flow.0 } ≡ port = cc in
    (flow, refl, sym is ∙ ap (λ n. record { task = n; port = 0; flow = flow.0 }) (sym e))
actuator_port i (flow ∷ flows) (suc e) port h =
    let more = actuator_port (i + 1) flows e port h in
    let same : (i + 1) + e ≡ i + suc e = omega arith in
    (more.0, more.1, more.2 ∙ ap (λ n. record { task = n; port = 0; flow = more.0.0 }) same)

-- each port is of an argument or of an actuator
pub port_is : (p : FlatProgram) (e : ℕ) (port : InputPort) → slice_get (ports_of p) e ≡ Some port → IsArgumentPort p port ⊎ IsActuatorPort p port
port_is p e port h =
    ⊎_elim
    (λ a.
    (let here = application_port (node_no p 0) p.apps e port a in
    let task : port.task ≡ node_no p here.0 = here.3 ∙ (let z : length p.ins + 0 + here.0 ≡ length p.ins + here.0 = omega arith in z) in
    inl (record { number = here.0; app = here.1; applied = here.2; task = task; arg = here.4.0; found = here.4.1; flow = here.4.2 })))
    (λ b.
    (let here = actuator_port (actuator_no p 0) p.outs b.0 port b.2 in
    let task : port.task ≡ actuator_no p b.0 = ap (λ (x : InputPort). x.task) here.2 ∙ (let z : length p.ins + length p.apps + 0 + b.0 ≡ length p.ins + length p.apps + b.0 = omega arith in z) in
    inr (record { number = b.0; flow_no = here.0; found = here.1; task = task; port_is = ap (λ (x : InputPort). x.port) here.2; flow = ap (λ (x : InputPort). x.flow) here.2 })))
    (append_cases (application_ports (node_no p 0) p.apps) (actuator_ports (actuator_no p 0) p.outs) e port h)

-- the flow of a port is there
pub port_within : (p : FlatProgram) → IsFlat p → (e : ℕ) (port : InputPort) → slice_get (ports_of p) e ≡ Some port → port.flow < length p.flows
port_within p flat e port h =
    ⊎_elim
    (λ (a : IsArgumentPort p port). subst (λ n. n < length p.flows) (sym a.flow) ((flat.apps a.number a.app a.applied).args port.port a.arg a.found))
    (λ (b : IsActuatorPort p port). subst (λ n. n < length p.flows) (sym b.flow) (flat.outs b.number b.flow_no b.found))
    (port_is p e port h)

-- each actuator has its port
pub find_actuator : (i : ℕ) (flows : List FlowNo) (k : ℕ) (flow : FlowNo) → slice_get flows k ≡ Some flow
    → slice_get (actuator_ports i flows) k ≡ Some (record { task = i + k; port = 0; flow = flow.0 })
find_actuator i [] k flow h = cc
find_actuator i (f ∷ flows) zero flow h =
    let same : f ≡ flow = cc in
    (let e : i ≡ i + 0 = omega arith in λ q. Some (record { task = e q; port = 0; flow = (same q).0 }))
find_actuator i (f ∷ flows) (suc k) flow h =
    find_actuator (i + 1) flows k flow h ∙ (let e : (i + 1) + k ≡ i + suc k = omega arith in λ q. Some (record { task = e q; port = 0; flow = flow.0 }))
