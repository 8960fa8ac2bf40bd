-- The flows of main's outputs, from those of a state.
use Rattle.prl_base.proofs.Standard.{◌≡◌, ℕ, zero, suc, ◌+◌, List, [], ◌∷◌, length, map, drop, Option, Some, None, refl, ap, arith, slice_index_or, AllByRecursion}
use Rattle.std.proofs.Math.ListN.{get_or-map}
use Rattle.prl_base.specs.Clocks.{IsClock}
use Rattle.prl_ast.specs.Trees.{NodeTree, ProgramTree}
use Rattle.prl_ast.specs.declared.declarations.Device.{Device}
use Rattle.prl_ast.specs.declared.declarations.Param.{Param}
use Rattle.prl_causal.specs.Vocabulary.{Entered, flows_in, right_flows, mark_entered, outputs_of, IsText, HasVariables, node_at, node_or}
use Rattle.prl_causal.specs.Annotations.{entered}
use Rattle.prl_causal.proofs.Elements.{all_first, all_second, head_same, tail_same}
use Rattle.prl_expand.specs.Flats.{devices_of, flow_no, wcet_named}
use Rattle.prl_flow.specs.Vocabulary.{IsUpTo, name_of, clock_of, values_of, IsTimed, State, Timed, flow_at}
use Rattle.prl_flow.specs.declared.programs.OutFlow.{OutFlow}
use Rattle.prl_flow.specs.Programs as flats
use Rattle.prl_causal.specs.Conditions.{clocks_in, values_in}
use Rattle.prl_stages.specs.Runs.{named_flows}
use Rattle.prl_replay.specs.Outputs.{out_flows}

-- the first that is left of a list stands at its number, and those after it are left after it
first_left : {A : Type 0} (xs : List A) (k : ℕ) (d x : A) (rest : List A) → drop k xs ≡ x ∷ rest → slice_index_or xs k d ≡ x
first_left [] zero d x rest e = cc
first_left [] (suc k) d x rest e = cc
first_left (y ∷ ys) zero d x rest e = head_same y x ys rest e
first_left (y ∷ ys) (suc k) d x rest e = first_left ys k d x rest e

rest_left : {A : Type 0} (xs : List A) (k : ℕ) (x : A) (rest : List A) → drop k xs ≡ x ∷ rest → drop (k + 1) xs ≡ rest
rest_left [] zero x rest e = cc
rest_left [] (suc k) x rest e = cc
rest_left (y ∷ ys) zero x rest e = tail_same y x ys rest e
rest_left (y ∷ ys) (suc k) x rest e = let same : suc k + 1 ≡ suc (k + 1) = omega arith in rw same (rest_left ys k x rest e)

abbrev nothing : Timed
nothing = record { clock = record { period = 1; start = 0 }; values = [] }

-- put together from the clocks and the values of a state, they are the state's flows with the names of the variables
pub outs_named : (ds : List Device) (s : State) (devices : List flats.Device) (k : ℕ) (qs : List Param) (ns : List ℕ) → drop k devices ≡ devices_of ds qs
    → length ns ≡ length qs → out_flows devices (clocks_in s) (values_in s) k (map flow_no ns) ≡ named_flows qs (map (flow_at s) ns)
outs_named ds s devices k [] [] left same = refl
outs_named ds s devices k [] (n ∷ ns) left same = absurd (omega (arith, same))
outs_named ds s devices k (q ∷ qs) [] left same = absurd (omega (arith, same))
outs_named ds s devices k (q ∷ qs) (n ∷ ns) left same =
    let name : name_of devices k ≡ q.name = ap (λ (d : flats.Device). d.0) (first_left devices k ([], 0) (q.name, wcet_named ds q.name) (devices_of ds qs) left) in
    let clock : clock_of (clocks_in s) n ≡ (flow_at s n).clock = get_or-map (λ (f : Timed). f.clock) s.flows n nothing in
    let values : values_of (values_in s) n ≡ (flow_at s n).values = get_or-map (λ (f : Timed). f.values) s.flows n nothing in
    let rest = outs_named ds s devices (k + 1) qs ns (rest_left devices k (q.name, wcet_named ds q.name) (devices_of ds qs) left) (omega (arith, same)) in
    rw (name, clock, values, rest) refl

-- the outputs of a text with other things at its places
pub outputs_marked : {F R N G S M : Type 0} (f : F → G) (r : R → S) (n : N → M) (e : Entered F R N) → outputs_of (mark_entered f r n e) ≡ map f (outputs_of e)
outputs_marked f r n (entered ins outs locals rights) = refl

count_of_outputs : (o : Option NodeTree) (ins outs locals : ℕ) → HasVariables o ins outs locals → outs ≡ length (node_or o).outs
count_of_outputs None ins outs locals h = absurd h
count_of_outputs (Some n) ins outs locals h = h.1

-- a text has as many outputs as its node
pub outputs_counted : (p : ProgramTree) (main : ℕ) (e : Entered ℕ ℕ ℕ) → IsText p main e → length (outputs_of e) ≡ length (node_at p main).outs
outputs_counted p main (entered ins outs locals rights) h = count_of_outputs _ (length ins) (length outs) (length locals) h.0

-- what holds of all flows of a text holds of its outputs
pub outputs_all : {F R N : Type 0} (P : F → Type 0) (e : Entered F R N) → AllByRecursion P (flows_in e) → AllByRecursion P (outputs_of e)
outputs_all P (entered ins outs locals rights) h =
    all_second P ins outs (all_first P _ locals (all_first P _ (right_flows rights) h))

pub named_up_to : (until : ℕ) (qs : List Param) (fs : List Timed) → AllByRecursion (IsTimed until) fs
    → AllByRecursion (λ (out : OutFlow). IsClock out.clock × IsUpTo until out.clock out.values) (named_flows qs fs)
named_up_to until [] fs h = tt
named_up_to until (q ∷ qs) [] h = tt
named_up_to until (q ∷ qs) (f ∷ fs) h = (h.0, named_up_to until qs fs h.1)
