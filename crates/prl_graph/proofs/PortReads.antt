-- What a task reads over its edges: the values of its ports' flows.
use Rattle.std.proofs.Common.{◌≡◌, ◌≢◌, ◌<◌, ◌≤◌, ◌+◌, ◌⊎◌, ℕ, zero, suc, Bool, true, false, cond, eqb, List, [], ◌∷◌, ◌++◌, length, map, slice_get, Some, refl, sym, ◌∙◌, ap, arith, inl, inr, ⊎_elim}
use Rattle.std.proofs.lemmas.Bool.{eqb-true, eq-eqb, ne_eqb}
use Rattle.prl_base.specs.declared.numbers.FlowNo.{FlowNo}
use Rattle.prl_base.specs.declared.operators.Clock.{Clock}
use Rattle.prl_base.specs.declared.values.Value.{Value}
use Rattle.prl_flow.specs.Programs.{FlatProgram}
use Rattle.prl_flow.specs.declared.programs.App.{App}
use Rattle.prl_flow.specs.declared.programs.Arg.{Arg}
use Rattle.prl_plan.specs.declared.graphs.Edge.{Edge}
use Rattle.prl_values.specs.JobValues.{JobValues, read_on, reads_over}
use Rattle.prl_graph.specs.Vocabulary.{InputPort, actuator_no, actuator_ports, application_ports, argument_ports, node_no, ports_of, value_or_none}
use Rattle.prl_graph.proofs.Order.{Match}

-- the flows that task `i` reads, in the order of its ports
abbrev pub flows_read : List InputPort → ℕ → List FlowNo
flows_read [] i = []
flows_read (port ∷ ports) i = cond (eqb port.task i) (record { 0 = port.flow } ∷ flows_read ports i) (flows_read ports i)

-- what is read is the values of these flows, where that holds at each port
pub reads_are : (clocks : List Clock) (flows : List (List Value)) (v : JobValues) (i n : ℕ) (ports : List InputPort) (edges : List Edge) → Match ports edges
    → ((e : ℕ) (port : InputPort) (edge : Edge) → slice_get ports e ≡ Some port → slice_get edges e ≡ Some edge → port.task ≡ i → read_on v edge n ≡ value_or_none clocks flows n (record { 0 = port.flow }))
    → reads_over v edges i n ≡ map (value_or_none clocks flows n) (flows_read ports i)
reads_are clocks flows v i n [] [] match each = refl
reads_are clocks flows v i n [] (edge ∷ edges) match each = absurd (let c = match.0 in omega arith)
reads_are clocks flows v i n (port ∷ ports) [] match each = absurd (let c = match.0 in omega arith)
reads_are clocks flows v i n (port ∷ ports) (edge ∷ edges) match each =
    go (eqb port.task i) refl
    (reads_are clocks flows v i n ports edges ((let c = match.0 in let e : length edges ≡ length ports = omega arith in e), λ e x y g h. match.1 (suc e) x y g h) (λ e x y g h. each (suc e) x y g h))
  where
    to : edge.to.0 ≡ port.task
    to = (match.1 zero port edge refl refl).0

    go : (t : Bool) → eqb port.task i ≡ t → reads_over v edges i n ≡ map (value_or_none clocks flows n) (flows_read ports i)
        → cond (eqb edge.to.0 i) (read_on v edge n ∷ reads_over v edges i n) (reads_over v edges i n)
        ≡ map (value_or_none clocks flows n) (cond (eqb port.task i) (record { 0 = port.flow } ∷ flows_read ports i) (flows_read ports i))
    go true test rest =
        ap (λ x. cond (eqb x i) (read_on v edge n ∷ reads_over v edges i n) (reads_over v edges i n)) to
        ∙ ap (λ t. cond t (read_on v edge n ∷ reads_over v edges i n) (reads_over v edges i n)) test
        ∙ ap (λ x. x ∷ reads_over v edges i n) (each zero port edge refl refl (eqb-true port.task i test))
        ∙ ap (λ l. value_or_none clocks flows n (record { 0 = port.flow }) ∷ l) rest
        ∙ ap (λ t. map (value_or_none clocks flows n) (cond t (record { 0 = port.flow } ∷ flows_read ports i) (flows_read ports i))) (sym test)
    go false test rest =
        ap (λ x. cond (eqb x i) (read_on v edge n ∷ reads_over v edges i n) (reads_over v edges i n)) to
        ∙ ap (λ t. cond t (read_on v edge n ∷ reads_over v edges i n) (reads_over v edges i n)) test
        ∙ rest
        ∙ ap (λ t. map (value_or_none clocks flows n) (cond t (record { 0 = port.flow } ∷ flows_read ports i) (flows_read ports i))) (sym test)

read_append : (xs ys : List InputPort) (i : ℕ) → flows_read (xs ++ ys) i ≡ flows_read xs i ++ flows_read ys i
read_append [] ys i = refl
read_append (x ∷ xs) ys i = go (eqb x.task i) (read_append xs ys i) refl
  where
    go : (t : Bool) → flows_read (xs ++ ys) i ≡ flows_read xs i ++ flows_read ys i → eqb x.task i ≡ t
        → cond (eqb x.task i) (record { 0 = x.flow } ∷ flows_read (xs ++ ys) i) (flows_read (xs ++ ys) i) ≡ cond (eqb x.task i) (record { 0 = x.flow } ∷ flows_read xs i) (flows_read xs i) ++ flows_read ys i
    go true rest test =
        ap (λ t. cond t (record { 0 = x.flow } ∷ flows_read (xs ++ ys) i) (flows_read (xs ++ ys) i)) test ∙ ap (λ l. record { 0 = x.flow } ∷ l) rest
        ∙ ap (λ t. cond t (record { 0 = x.flow } ∷ flows_read xs i) (flows_read xs i) ++ flows_read ys i) (sym test)
    go false rest test =
        ap (λ t. cond t (record { 0 = x.flow } ∷ flows_read (xs ++ ys) i) (flows_read (xs ++ ys) i)) test ∙ rest
        ∙ ap (λ t. cond t (record { 0 = x.flow } ∷ flows_read xs i) (flows_read xs i) ++ flows_read ys i) (sym test)

-- the ports of an application, read by its task and by another
own_arguments : (i j : ℕ) (args : List Arg) → flows_read (argument_ports i j args) i ≡ map (λ (arg : Arg). arg.flow) args
own_arguments i j [] = refl
own_arguments i j (arg ∷ args) =
    ap (λ t. cond t (record { 0 = arg.flow.0 } ∷ flows_read (argument_ports i (j + 1) args) i) (flows_read (argument_ports i (j + 1) args) i)) (eq-eqb i i refl)
    ∙ ap (λ l. arg.flow ∷ l) (own_arguments i (j + 1) args)

other_arguments : (i k j : ℕ) (args : List Arg) → k ≢ i → flows_read (argument_ports k j args) i ≡ []
other_arguments i k j [] apart = refl
other_arguments i k j (arg ∷ args) apart =
    ap (λ t. cond t (record { 0 = arg.flow.0 } ∷ flows_read (argument_ports k (j + 1) args) i) (flows_read (argument_ports k (j + 1) args) i)) (ne_eqb k i apart)
    ∙ other_arguments i k (j + 1) args apart

-- tasks before the applications, and after them, read nothing there
other_applications : (i t : ℕ) (apps : List App) → (i < t) ⊎ (t + length apps ≤ i) → flows_read (application_ports t apps) i ≡ []
other_applications i t [] far = refl
other_applications i t (app ∷ apps) far =
    let apart : t ≢ i = λ e. ⊎_elim (λ a. omega arith) (λ b. omega arith) far in
    read_append (argument_ports t 0 app.args) (application_ports (t + 1) apps) i
    ∙ ap (λ l. l ++ flows_read (application_ports (t + 1) apps) i) (other_arguments i t 0 app.args apart)
    ∙ other_applications i (t + 1) apps (⊎_elim (λ a. inl (omega arith)) (λ b. inr (omega arith)) far)

own_application : (t k : ℕ) (apps : List App) (app : App) → slice_get apps k ≡ Some app → flows_read (application_ports t apps) (t + k) ≡ map (λ (arg : Arg). arg.flow) app.args
own_application t k [] app h = cc
own_application t zero (x ∷ apps) app h =
    let same : x ≡ app = cc in
    let e : t + 0 ≡ t = omega arith in
    ap (flows_read (application_ports t (x ∷ apps))) e
    ∙ read_append (argument_ports t 0 x.args) (application_ports (t + 1) apps) t
    ∙ ap (λ l. flows_read (argument_ports t 0 x.args) t ++ l) (other_applications t (t + 1) apps (inl (omega arith)))
    ∙ ap (λ l. l ++ []) (own_arguments t 0 x.args)
    ∙ append_nil (map (λ (arg : Arg). arg.flow) x.args)
    ∙ ap (λ (a : App). map (λ (arg : Arg). arg.flow) a.args) same
  where
    append_nil : (xs : List FlowNo) → xs ++ [] ≡ xs
    append_nil [] = refl
    append_nil (y ∷ ys) = ap (λ l. y ∷ l) (append_nil ys)
own_application t (suc k) (x ∷ apps) app h =
    let apart : t ≢ t + suc k = λ e. omega arith in
    let same : (t + 1) + k ≡ t + suc k = omega arith in
    read_append (argument_ports t 0 x.args) (application_ports (t + 1) apps) (t + suc k)
    ∙ ap (λ l. l ++ flows_read (application_ports (t + 1) apps) (t + suc k)) (other_arguments (t + suc k) t 0 x.args apart)
    ∙ ap (flows_read (application_ports (t + 1) apps)) (sym same)
    ∙ own_application (t + 1) k apps app h

other_actuators : (i t : ℕ) (flows : List FlowNo) → i < t → flows_read (actuator_ports t flows) i ≡ []
other_actuators i t [] before = refl
other_actuators i t (flow ∷ flows) before =
    let apart : t ≢ i = λ e. omega arith in
    ap (λ c. cond c (record { 0 = flow.0 } ∷ flows_read (actuator_ports (t + 1) flows) i) (flows_read (actuator_ports (t + 1) flows) i)) (ne_eqb t i apart)
    ∙ other_actuators i (t + 1) flows (omega arith)

own_actuator : (t k : ℕ) (flows : List FlowNo) (flow : FlowNo) → slice_get flows k ≡ Some flow → flows_read (actuator_ports t flows) (t + k) ≡ flow ∷ []
own_actuator t k [] flow h = cc
own_actuator t zero (x ∷ flows) flow h =
    let same : x ≡ flow = cc in
    let e : t ≡ t + 0 = omega arith in
    let before : t + 0 < t + 1 = omega arith in
    ap (λ c. cond c (record { 0 = x.0 } ∷ flows_read (actuator_ports (t + 1) flows) (t + 0)) (flows_read (actuator_ports (t + 1) flows) (t + 0))) (eq-eqb t (t + 0) e)
    ∙ ap (λ l. x ∷ l) (other_actuators (t + 0) (t + 1) flows before)
    ∙ ap (λ (f : FlowNo). f ∷ []) same
own_actuator t (suc k) (x ∷ flows) flow h =
    let apart : t ≢ t + suc k = λ e. omega arith in
    let same : (t + 1) + k ≡ t + suc k = omega arith in
    ap (λ c. cond c (record { 0 = x.0 } ∷ flows_read (actuator_ports (t + 1) flows) (t + suc k)) (flows_read (actuator_ports (t + 1) flows) (t + suc k))) (ne_eqb t (t + suc k) apart)
    ∙ ap (flows_read (actuator_ports (t + 1) flows)) (sym same)
    ∙ own_actuator (t + 1) k flows flow h

-- an application reads its arguments, an actuator its flow
pub node_reads : (p : FlatProgram) (k : ℕ) (app : App) → slice_get p.apps k ≡ Some app → k < length p.apps → flows_read (ports_of p) (node_no p k) ≡ map (λ (arg : Arg). arg.flow) app.args
node_reads p k app found below =
    let e : node_no p 0 + k ≡ node_no p k = omega arith in
    let before : node_no p k < actuator_no p 0 = omega arith in
    read_append (application_ports (node_no p 0) p.apps) (actuator_ports (actuator_no p 0) p.outs) (node_no p k)
    ∙ ap (λ l. flows_read (application_ports (node_no p 0) p.apps) (node_no p k) ++ l) (other_actuators (node_no p k) (actuator_no p 0) p.outs before)
    ∙ append_nil (flows_read (application_ports (node_no p 0) p.apps) (node_no p k))
    ∙ ap (flows_read (application_ports (node_no p 0) p.apps)) (sym e)
    ∙ own_application (node_no p 0) k p.apps app found
  where
    append_nil : (xs : List FlowNo) → xs ++ [] ≡ xs
    append_nil [] = refl
    append_nil (y ∷ ys) = ap (λ l. y ∷ l) (append_nil ys)

pub actuator_reads : (p : FlatProgram) (k : ℕ) (flow : FlowNo) → slice_get p.outs k ≡ Some flow → flows_read (ports_of p) (actuator_no p k) ≡ flow ∷ []
actuator_reads p k flow found =
    let e : actuator_no p 0 + k ≡ actuator_no p k = omega arith in
    let after : (actuator_no p k < node_no p 0) ⊎ (node_no p 0 + length p.apps ≤ actuator_no p k) = inr (omega arith) in
    read_append (application_ports (node_no p 0) p.apps) (actuator_ports (actuator_no p 0) p.outs) (actuator_no p k)
    ∙ ap (λ l. l ++ flows_read (actuator_ports (actuator_no p 0) p.outs) (actuator_no p k)) (other_applications (actuator_no p k) (node_no p 0) p.apps after)
    ∙ ap (flows_read (actuator_ports (actuator_no p 0) p.outs)) (sym e)
    ∙ own_actuator (actuator_no p 0) k p.outs flow found
