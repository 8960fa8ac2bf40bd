-- Edges stand in the order of their ports.
use Rattle.std.proofs.Common.{◌≡◌, ◌<◌, ◌≤◌, ◌+◌, ◌⊎◌, ℕ, zero, suc, List, [], ◌∷◌, ◌++◌, length, slice_get, Some, refl, sym, ◌∙◌, ap, subst, arith, inl, inr, ⊎_elim, append_assoc}
use Rattle.prl_base.specs.declared.numbers.FlowNo.{FlowNo}
use Rattle.prl_flow.specs.Programs.{FlatProgram}
use Rattle.prl_flow.specs.declared.programs.App.{App}
use Rattle.prl_flow.specs.declared.programs.Arg.{Arg}
use Rattle.prl_plan.specs.Graphs.{AreInOrder, PortsFollow}
use Rattle.prl_plan.specs.declared.graphs.Edge.{Edge}
use Rattle.prl_graph.specs.Ports.{InputPort, actuator_no, actuator_ports, application_ports, argument_ports, node_no, ports_of}

-- after this port of this task, the ports stand by task and then by number
abbrev Follow : ℕ → ℕ → List InputPort → Type 0
Follow task port [] = Unit {0}
Follow task port (next ∷ ports) =
    (((next.task ≡ task) × (next.port ≡ port + 1)) ⊎ ((task < next.task) × (next.port ≡ 0))) × Follow next.task next.port ports

-- the ports begin with port 0 of a task from `i` on, and follow one another
abbrev Begin : ℕ → List InputPort → Type 0
Begin i [] = Unit {0}
Begin i (port ∷ ports) = (i ≤ port.task) × (port.port ≡ 0) × Follow port.task port.port ports

begin_later : (i j : ℕ) (ports : List InputPort) → j ≤ i → Begin i ports → Begin j ports
begin_later i j [] later begin = tt
begin_later i j (port ∷ ports) later begin = (let low = begin.0 in let e : j ≤ port.task = omega arith in (e, begin.1, begin.2))

-- ports that begin with a later task follow
begin_follow : (task port i : ℕ) (ports : List InputPort) → task < i → Begin i ports → Follow task port ports
begin_follow task port i [] later begin = tt
begin_follow task port i (next ∷ ports) later begin = (let low = begin.0 in let e : task < next.task = omega arith in (inr (e, begin.1), begin.2))

arguments_follow : (i j : ℕ) (args : List Arg) (rest : List InputPort) → Begin (i + 1) rest → Follow i j (argument_ports i (j + 1) args ++ rest)
arguments_follow i j [] rest begin = begin_follow i j (i + 1) rest (omega arith) begin
arguments_follow i j (arg ∷ args) rest begin = (inl (refl, refl), arguments_follow i (j + 1) args rest begin)

arguments_begin : (i : ℕ) (args : List Arg) (rest : List InputPort) → Begin (i + 1) rest → Begin i (argument_ports i 0 args ++ rest)
arguments_begin i [] rest begin = begin_later (i + 1) i rest (omega arith) begin
arguments_begin i (arg ∷ args) rest begin = (let e : i ≤ i = omega arith in (e, refl, arguments_follow i 0 args rest begin))

applications_begin : (i : ℕ) (apps : List App) (rest : List InputPort) → Begin (i + length apps) rest → Begin i (application_ports i apps ++ rest)
applications_begin i [] rest begin = (let e : i ≤ i + 0 = omega arith in begin_later (i + 0) i rest e begin)
applications_begin i (app ∷ apps) rest begin =
    let e : i + suc (length apps) ≡ (i + 1) + length apps = omega arith in
    rw append_assoc (arguments_begin i app.args (application_ports (i + 1) apps ++ rest)
    (applications_begin (i + 1) apps rest (subst (λ n. Begin n rest) e begin)))

actuators_begin : (i : ℕ) (flows : List FlowNo) → Begin i (actuator_ports i flows)
actuators_begin i [] = tt
actuators_begin i (flow ∷ flows) = (let e : i ≤ i = omega arith in let l : i < i + 1 = omega arith in (e, refl, begin_follow i 0 (i + 1) (actuator_ports (i + 1) flows) l (actuators_begin (i + 1) flows)))

ports_begin : (p : FlatProgram) → Begin (node_no p 0) (ports_of p)
ports_begin p =
    let e : actuator_no p 0 ≡ node_no p 0 + length p.apps = omega arith in
    applications_begin (node_no p 0) p.apps (actuator_ports (actuator_no p 0) p.outs)
    (subst (λ n. Begin n (actuator_ports (actuator_no p 0) p.outs)) e (actuators_begin (actuator_no p 0) p.outs))

-- edges into ports, one for one
abbrev pub Match : List InputPort → List Edge → Type 0
Match ports edges = (length edges ≡ length ports) × ((e : ℕ) (port : InputPort) (edge : Edge) → slice_get ports e ≡ Some port → slice_get edges e ≡ Some edge → (edge.to.0 ≡ port.task) × (edge.port ≡ port.port))

follows : (task port task' port' : ℕ) (ports : List InputPort) (edges : List Edge) → task' ≡ task → port' ≡ port → Match ports edges → Follow task port ports → PortsFollow task' port' edges
follows task port task' port' [] [] t p match follow = tt
follows task port task' port' [] (edge ∷ edges) t p match follow = absurd (omega (arith, match.0))
follows task port task' port' (next ∷ ports) [] t p match follow = absurd (omega (arith, match.0))
follows task port task' port' (next ∷ ports) (edge ∷ edges) t p match follow =
    let here = match.1 zero next edge refl refl in
    let count : length edges ≡ length ports = omega (arith, match.0) in (
      ⊎_elim
          (λ a. inl (here.0 ∙ a.0 ∙ sym t, here.1 ∙ a.1 ∙ ap (λ n. n + 1) (sym p)))
          (λ b. inr ((let x = b.0 in let y = here.0 in let l : task' < edge.to.0 = omega arith in l), here.1 ∙ b.1))
          follow.0,
      follows next.task next.port edge.to.0 edge.port ports edges here.0 here.1 (count, λ e x y g h. match.1 (suc e) x y g h) follow.1,
    )

pub edges_in_order : (p : FlatProgram) (edges : List Edge) → Match (ports_of p) edges → AreInOrder edges
edges_in_order p edges match = go (ports_of p) edges (ports_begin p) match
  where
    go : (ports : List InputPort) (edges : List Edge) → Begin (node_no p 0) ports → Match ports edges → AreInOrder edges
    go [] [] begin match = tt
    go [] (edge ∷ edges) begin match = absurd (omega (arith, match.0))
    go (port ∷ ports) [] begin match = absurd (omega (arith, match.0))
    go (port ∷ ports) (edge ∷ edges) begin match =
        let here = match.1 zero port edge refl refl in
        let count : length edges ≡ length ports = omega (arith, match.0) in (
          here.1 ∙ begin.1,
          follows port.task port.port edge.to.0 edge.port ports edges here.0 here.1 (count, λ e x y g h. match.1 (suc e) x y g h) begin.2,
        )
