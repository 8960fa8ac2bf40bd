-- Numbers of ports and of jobs.
use Rattle.prl_base.proofs.Standard.{◌≡◌, ◌<◌, ◌≤◌, ◌+◌, ◌*◌, ◌/◌, ◌^◌, ℕ, suc, List, [], ◌∷◌, ◌++◌, length, map, sum, take, slice_get, Some, refl, sym, ◌∙◌, ap, arith, length-append}
use Rattle.prl_base.proofs.Standard.{mul-le-mul_right, take_all, sum-map, sum_by-append, sum_by-cons}
use Rattle.std.specs.List.{sum_by}
use Rattle.prl_base.specs.declared.numbers.FlowNo.{FlowNo}
use Rattle.prl_flow.specs.Programs.{FlatProgram}
use Rattle.prl_flow.specs.declared.programs.App.{App}
use Rattle.prl_plan.specs.declared.graphs.Task.{Task}
use Rattle.prl_graph.specs.Vocabulary.{actuator_no, actuator_ports, application_ports, argument_ports, node_no, ports_of, jobs_within}
use Rattle.prl_graph.proofs.Edging.{arguments_length, one_application, take_one}

outputs_length : (i : ℕ) (flows : List FlowNo) → length (actuator_ports i flows) ≡ length flows
outputs_length i [] = refl
outputs_length i (flow ∷ flows) = ap suc (outputs_length (i + 1) flows)

applications_length : (i j : ℕ) (apps : List App) → length (application_ports i apps) ≡ length (application_ports j apps)
applications_length i j [] = refl
applications_length i j (app ∷ apps) =
    let rest = applications_length (i + 1) (j + 1) apps in
    let a = length-append (argument_ports i 0 app.args) (application_ports (i + 1) apps) in
    let b = length-append (argument_ports j 0 app.args) (application_ports (j + 1) apps) in
    let c = arguments_length i 0 app.args in
    let d = arguments_length j 0 app.args in
    omega arith

-- the ports of one application more
pub ports_more : (apps : List App) (k : ℕ) (app : App) → slice_get apps k ≡ Some app → length (application_ports 0 (take (k + 1) apps)) ≡ length (application_ports 0 (take k apps)) + length app.args
ports_more apps k app found =
    ap length (one_application 0 apps k app found) ∙ length-append (application_ports 0 (take k apps)) (argument_ports (0 + k) 0 app.args)
    ∙ ap (λ n. length (application_ports 0 (take k apps)) + n) (arguments_length (0 + k) 0 app.args)

pub all_ports : (p : FlatProgram) (n : ℕ) → length p.apps ≤ n → length (ports_of p) ≡ length p.outs + length (application_ports 0 (take n p.apps))
all_ports p n most =
    let both = length-append (application_ports (node_no p 0) p.apps) (actuator_ports (actuator_no p 0) p.outs) in
    let first = applications_length (node_no p 0) 0 p.apps in
    let second = outputs_length (actuator_no p 0) p.outs in
    let taken = ap (λ l. length (application_ports 0 l)) (take_all n p.apps most) in
    omega arith

-- the jobs of one task more
pub jobs_more : (hyper : ℕ) (tasks : List Task) (k : ℕ) (task : Task) → slice_get tasks k ≡ Some task → jobs_within hyper (take (k + 1) tasks) ≡ jobs_within hyper (take k tasks) + hyper / task.clock.period
jobs_more hyper tasks k task found =
    let f : Task → ℕ = λ (t : Task). hyper / t.clock.period in
    let at = take_one tasks k task found in
    let one : sum_by f (task ∷ []) ≡ f task = (let e = sum_by-cons f task [] in let z : f task + sum_by f [] ≡ f task = omega arith in e ∙ z) in
    ap (λ l. sum (map f l)) at.0 ∙ sum-map f (take k tasks ++ task ∷ []) ∙ sum_by-append f (take k tasks) (task ∷ []) ∙ ap (λ n. sum_by f (take k tasks) + n) one ∙ ap (λ n. n + f task) (sym (sum-map f (take k tasks)))

pub jobs_all : (hyper : ℕ) (tasks : List Task) (n : ℕ) → length tasks ≤ n → jobs_within hyper (take n tasks) ≡ jobs_within hyper tasks
jobs_all hyper tasks n most = ap (jobs_within hyper) (take_all n tasks most)

pub few_more : (jobs k hyper period : ℕ) → jobs ≤ k * hyper → 1 ≤ period → jobs + hyper / period ≤ (k + 1) * hyper
few_more jobs k hyper period few some = (let d : hyper / period ≤ hyper = grind arith in let e : (k + 1) * hyper ≡ k * hyper + hyper = omega arith in omega arith)

pub jobs_fit : (jobs k hyper period : ℕ) → jobs ≤ k * hyper → k < 64 → hyper ≤ 10000000 → 1 ≤ period → jobs + hyper / period < 2 ^ 64
jobs_fit jobs k hyper period few low within some =
    let most : (k + 1) * hyper ≤ 64 * hyper = mul-le-mul_right hyper (let e : k + 1 ≤ 64 = omega arith in e) in
    omega arith
