-- Edges, one after another.
use Rattle.prl_base.proofs.Standard.{◌≡◌, ◌≤◌, ◌+◌, ℕ, zero, suc, List, [], ◌∷◌, ◌++◌, length, take, slice_get, Some, refl, sym, ◌∙◌, ap, subst, arith, ⊎_elim, append_assoc, add-one, length-append}
use Rattle.prl_base.proofs.Standard.{length_push, take_all, slice_get_within}
use Rattle.prl_base.specs.declared.numbers.FlowNo.{FlowNo}
use Rattle.prl_base.specs.declared.operators.Clock.{Clock}
use Rattle.prl_base.specs.declared.operators.Op.{Op}
use Rattle.prl_flow.specs.Vocabulary.{FlatProgram, clock_of}
use Rattle.prl_flow.specs.declared.programs.App.{App}
use Rattle.prl_flow.specs.declared.programs.Arg.{Arg}
use Rattle.prl_flow.specs.declared.programs.Flow.{Flow}
use Rattle.prl_plan.specs.declared.graphs.Edge.{Edge}
use Rattle.prl_graph.specs.Vocabulary.{AreEdgesOf, IsEdgeOf, LeadsBack, InputPort, actuator_no, actuator_ports, node_no, ports_of, application_ports, argument_ports, AddsEdges, AreArgumentsOf, EndsAt}
use Rattle.prl_graph.specs.Vocabulary.{GivesValues}
use Rattle.prl_graph.proofs.Lists.{push_cases}

one_edge : (p : FlatProgram) (clocks : List Clock) (ports : List InputPort) (edges : List Edge) (port : InputPort) (edge : Edge) → AreEdgesOf p clocks ports edges → IsEdgeOf p clocks port edge
    → AreEdgesOf p clocks (ports ++ port ∷ []) (edges ++ edge ∷ [])
one_edge p clocks ports edges port edge made is =
    record {
      count = length_push edges edge ∙ ap (λ n. n + 1) made.count ∙ sym (length_push ports port);
      each = λ e x y at found. ⊎_elim
          (λ old_port. ⊎_elim
          (λ old. made.each e x y old_port old)
          (λ last. absurd (let low = slice_get_within ports e x old_port in let h = last.0 in omega arith))
          (push_cases edges edge e y found))
          (λ new_port. ⊎_elim
          (λ old. absurd (let low = slice_get_within edges e y old in let h = new_port.0 in omega arith))
          (λ last. subst (λ (w : Edge). IsEdgeOf p clocks x w) last.1 (subst (λ (v : InputPort). IsEdgeOf p clocks v edge) new_port.1 is))
          (push_cases edges edge e y found))
          (push_cases ports port e x at);
    }

-- the edge that is made of a way back and what gives values at its end
pub edge_of : (p : FlatProgram) (clocks : List Clock) (task port flow source : ℕ) (ops : List Op) (edge : Edge) → EndsAt p flow ops source → GivesValues p source edge.from
    → edge.to.0 ≡ task → edge.port ≡ port → edge.ops ≡ ops → edge.period ≡ (clock_of clocks source).period → ((f : Flow) → slice_get p.flows source ≡ Some f → edge.ty ≡ f.ty)
    → IsEdgeOf p clocks (record { task = task; port = port; flow = flow }) edge
edge_of p clocks task port flow source ops edge ends gives to at same period ty = record {
  to = to;
  port_is = at;
  source = source;
  flow = gives.flow;
  leads = subst (λ o. LeadsBack p flow o source) (sym same) ends.leads;
  found = gives.found;
  from = gives.produces;
  period = period;
  ty = ty gives.flow gives.found;
}

pub adds_one : (p : FlatProgram) (clocks : List Clock) (port : InputPort) (edge : Edge) (old new : List Edge) → IsEdgeOf p clocks port edge → new ≡ old ++ edge ∷ [] → AddsEdges p clocks (port ∷ []) old new
adds_one p clocks port edge old new is same = λ before made.
    subst (AreEdgesOf p clocks (before ++ port ∷ [])) (sym same) (one_edge p clocks before old port edge made is)

pub adds_none : (p : FlatProgram) (clocks : List Clock) (edges : List Edge) → AddsEdges p clocks [] edges edges
adds_none p clocks edges = λ before made. subst (λ l. AreEdgesOf p clocks l edges) (sym (append_nil before)) made
  where
    append_nil : (xs : List InputPort) → xs ++ [] ≡ xs
    append_nil [] = refl
    append_nil (x ∷ xs) = ap (λ l. x ∷ l) (append_nil xs)

pub adds_both : (p : FlatProgram) (clocks : List Clock) (first second both : List InputPort) (old middle new : List Edge) → both ≡ first ++ second → AddsEdges p clocks first old middle → AddsEdges p clocks second middle new → AddsEdges p clocks both old new
adds_both p clocks first second both old middle new same one two = λ before made.
    subst (λ l. AreEdgesOf p clocks l new) (append_assoc before first second ∙ ap (λ l. before ++ l) (sym same)) (two (before ++ first) (one before made))

-- ports, one more
arguments_push : (i j : ℕ) (args : List Arg) (arg : Arg) → argument_ports i j (args ++ arg ∷ []) ≡ argument_ports i j args ++ record { task = i; port = j + length args; flow = arg.flow.0 } ∷ []
arguments_push i j [] arg = (let e : j ≡ j + 0 = omega arith in ap (λ n. record { task = i; port = n; flow = arg.flow.0 } ∷ []) e)
arguments_push i j (x ∷ args) arg =
    let e : (j + 1) + length args ≡ j + suc (length args) = omega arith in
    ap (λ l. record { task = i; port = j; flow = x.flow.0 } ∷ l) (arguments_push i (j + 1) args arg ∙ ap (λ n. argument_ports i (j + 1) args ++ record { task = i; port = n; flow = arg.flow.0 } ∷ []) e)

applications_push : (i : ℕ) (apps : List App) (app : App) → application_ports i (apps ++ app ∷ []) ≡ application_ports i apps ++ argument_ports (i + length apps) 0 app.args
applications_push i [] app = (let e : i ≡ i + 0 = omega arith in append_nil (argument_ports i 0 app.args) ∙ ap (λ n. argument_ports n 0 app.args) e)
  where
    append_nil : (xs : List InputPort) → xs ++ [] ≡ xs
    append_nil [] = refl
    append_nil (x ∷ xs) = ap (λ l. x ∷ l) (append_nil xs)
applications_push i (x ∷ apps) app =
    let e : (i + 1) + length apps ≡ i + suc (length apps) = omega arith in
    ap (λ l. argument_ports i 0 x.args ++ l) (applications_push (i + 1) apps app ∙ ap (λ n. application_ports (i + 1) apps ++ argument_ports n 0 app.args) e)
    ∙ sym (append_assoc (argument_ports i 0 x.args) (application_ports (i + 1) apps) (argument_ports (i + suc (length apps)) 0 app.args))

actuators_push : (i : ℕ) (flows : List FlowNo) (flow : FlowNo) → actuator_ports i (flows ++ flow ∷ []) ≡ actuator_ports i flows ++ record { task = i + length flows; port = 0; flow = flow.0 } ∷ []
actuators_push i [] flow = (let e : i ≡ i + 0 = omega arith in ap (λ n. record { task = n; port = 0; flow = flow.0 } ∷ []) e)
actuators_push i (x ∷ flows) flow =
    let e : (i + 1) + length flows ≡ i + suc (length flows) = omega arith in
    ap (λ l. record { task = i; port = 0; flow = x.0 } ∷ l) (actuators_push (i + 1) flows flow ∙ ap (λ n. actuator_ports (i + 1) flows ++ record { task = n; port = 0; flow = flow.0 } ∷ []) e)

-- the first elements of a list, and one more
pub take_one : {A : Type 0} (xs : List A) (n : ℕ) (x : A) → slice_get xs n ≡ Some x → (take (n + 1) xs ≡ take n xs ++ x ∷ []) × (length (take n xs) ≡ n)
take_one [] n x h = cc
take_one (y ∷ xs) zero x h = (let same : y ≡ x = cc in (ap (λ z. z ∷ []) same, refl))
take_one (y ∷ xs) (suc n) x h = (let rest = take_one xs n x h in (rw add-one (ap (λ l. y ∷ l) (rw add-one at rest.0)), ap suc rest.1))

pub one_argument : (task : ℕ) (args : List Arg) (j : ℕ) (arg : Arg) → slice_get args j ≡ Some arg
    → argument_ports task 0 (take (j + 1) args) ≡ argument_ports task 0 (take j args) ++ record { task = task; port = j; flow = arg.flow.0 } ∷ []
one_argument task args j arg found =
    let at = take_one args j arg found in
    let e : 0 + length (take j args) ≡ j = (let l = at.1 in omega arith) in
    ap (argument_ports task 0) at.0 ∙ arguments_push task 0 (take j args) arg ∙ ap (λ n. argument_ports task 0 (take j args) ++ record { task = task; port = n; flow = arg.flow.0 } ∷ []) e

pub one_application : (task : ℕ) (apps : List App) (k : ℕ) (app : App) → slice_get apps k ≡ Some app
    → application_ports task (take (k + 1) apps) ≡ application_ports task (take k apps) ++ argument_ports (task + k) 0 app.args
one_application task apps k app found =
    let at = take_one apps k app found in
    ap (application_ports task) at.0 ∙ applications_push task (take k apps) app ∙ ap (λ n. application_ports task (take k apps) ++ argument_ports (task + n) 0 app.args) at.1

pub one_output : (task : ℕ) (flows : List FlowNo) (k : ℕ) (flow : FlowNo) → slice_get flows k ≡ Some flow
    → actuator_ports task (take (k + 1) flows) ≡ actuator_ports task (take k flows) ++ record { task = task + k; port = 0; flow = flow.0 } ∷ []
one_output task flows k flow found =
    let at = take_one flows k flow found in
    ap (actuator_ports task) at.0 ∙ actuators_push task (take k flows) flow ∙ ap (λ n. actuator_ports task (take k flows) ++ record { task = task + n; port = 0; flow = flow.0 } ∷ []) at.1

-- all elements are taken
pub arguments_taken : (task n : ℕ) (args : List Arg) → length args ≤ n → argument_ports task 0 (take n args) ≡ argument_ports task 0 args
arguments_taken task n args most = ap (argument_ports task 0) (take_all n args most)

pub applications_taken : (task n : ℕ) (apps : List App) → length apps ≤ n → application_ports task (take n apps) ≡ application_ports task apps
applications_taken task n apps most = ap (application_ports task) (take_all n apps most)

pub outputs_taken : (task n : ℕ) (flows : List FlowNo) → length flows ≤ n → actuator_ports task (take n flows) ≡ actuator_ports task flows
outputs_taken task n flows most = ap (actuator_ports task) (take_all n flows most)

pub same_ports : (p : FlatProgram) (clocks : List Clock) (ports others : List InputPort) (old new : List Edge) → ports ≡ others → AddsEdges p clocks ports old new → AddsEdges p clocks others old new
same_ports p clocks ports others old new same adds = subst (λ l. AddsEdges p clocks l old new) same adds

-- ports are made of ports of one application
pub arguments_length : (i j : ℕ) (args : List Arg) → length (argument_ports i j args) ≡ length args
arguments_length i j [] = refl
arguments_length i j (arg ∷ args) = ap suc (arguments_length i (j + 1) args)

application_few : (i : ℕ) (apps : List App) (k : ℕ) (app : App) → slice_get apps k ≡ Some app → length app.args ≤ length (application_ports i apps)
application_few i [] k app h = cc
application_few i (x ∷ apps) zero app h =
    let same : x ≡ app = cc in
    let len = arguments_length i 0 x.args in
    let both = length-append (argument_ports i 0 x.args) (application_ports (i + 1) apps) in
    let e : length x.args ≤ length (application_ports i (x ∷ apps)) = omega arith in
    subst (λ (a : App). length a.args ≤ length (application_ports i (x ∷ apps))) same e
application_few i (x ∷ apps) (suc k) app h =
    let rest = application_few (i + 1) apps k app h in
    let both = length-append (argument_ports i 0 x.args) (application_ports (i + 1) apps) in
    omega arith

pub few_arguments : (p : FlatProgram) (k most : ℕ) (app : App) → slice_get p.apps k ≡ Some app → length (ports_of p) ≤ most → length app.args ≤ most
few_arguments p k most app found few =
    let part = application_few (node_no p 0) p.apps k app found in
    let both = length-append (application_ports (node_no p 0) p.apps) (actuator_ports (actuator_no p 0) p.outs) in
    omega arith

-- the ports of one application more
pub adds_application : (p : FlatProgram) (clocks : List Clock) (k task : ℕ) (args : List Arg) (old middle new : List Edge) → task ≡ length p.ins + k → AreArgumentsOf p k args
    → AddsEdges p clocks (application_ports (node_no p 0) (take k p.apps)) old middle → AddsEdges p clocks (argument_ports task 0 args) middle new
    → AddsEdges p clocks (application_ports (node_no p 0) (take (k + 1) p.apps)) old new
adds_application p clocks k task args old middle new number are one two =
    let e : node_no p 0 + k ≡ task = omega arith in
    let same : argument_ports (node_no p 0 + k) 0 are.app.args ≡ argument_ports task 0 args = ap (λ n. argument_ports n 0 are.app.args) e ∙ ap (argument_ports task 0) are.are in
    adds_both p clocks (application_ports (node_no p 0) (take k p.apps)) (argument_ports task 0 args) (application_ports (node_no p 0) (take (k + 1) p.apps)) old middle new
    (one_application (node_no p 0) p.apps k are.app are.found ∙ ap (λ l. application_ports (node_no p 0) (take k p.apps) ++ l) same) one two

-- the port of one actuator more
pub adds_output : (p : FlatProgram) (clocks : List Clock) (k task : ℕ) (flow : FlowNo) (old middle new : List Edge) → task ≡ length p.ins + length p.apps + k → slice_get p.outs k ≡ Some flow
    → AddsEdges p clocks (actuator_ports (actuator_no p 0) (take k p.outs)) old middle → AddsEdges p clocks (record { task = task; port = 0; flow = flow.0 } ∷ []) middle new
    → AddsEdges p clocks (actuator_ports (actuator_no p 0) (take (k + 1) p.outs)) old new
adds_output p clocks k task flow old middle new number found one two =
    let e : actuator_no p 0 + k ≡ task = omega arith in
    adds_both p clocks (actuator_ports (actuator_no p 0) (take k p.outs)) (record { task = task; port = 0; flow = flow.0 } ∷ []) (actuator_ports (actuator_no p 0) (take (k + 1) p.outs)) old middle new
    (one_output (actuator_no p 0) p.outs k flow found ∙ ap (λ n. actuator_ports (actuator_no p 0) (take k p.outs) ++ record { task = n; port = 0; flow = flow.0 } ∷ []) e) one two

-- all edges, from none
no_edges : (p : FlatProgram) (clocks : List Clock) → AreEdgesOf p clocks [] []
no_edges p clocks = record { count = refl; each = λ e port edge at found. cc }

pub all_made : (p : FlatProgram) (clocks : List Clock) (none middle edges : List Edge) → none ≡ [] → AddsEdges p clocks (application_ports (node_no p 0) p.apps) none middle
    → AddsEdges p clocks (actuator_ports (actuator_no p 0) p.outs) middle edges → AreEdgesOf p clocks (ports_of p) edges
all_made p clocks none middle edges empty one two =
    two (application_ports (node_no p 0) p.apps) (one [] (subst (λ l. AreEdgesOf p clocks [] l) (sym empty) (no_edges p clocks)))
