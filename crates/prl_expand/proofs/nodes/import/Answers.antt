use Rattle.prl_base.proofs.Standard.{◌≤◌, ◌+◌, ◌∙◌, ap, length, map, range_with_len}
use Rattle.prl_expand.specs.Vocabulary.{Next, types_of, arg_of, flow_of}
use Rattle.prl_expand.proofs.Adding.{import_adds, output_flows_of, output_types_of}
use Rattle.prl_expand.proofs.Expressions.{next_of}
use Rattle.prl_expand.proofs.Within.{import_few}
use Rattle.prl_expand.proofs.nodes.import.Goals as goal

pub returns-clause-given : goal.returns-clause-given
returns-clause-given c =
    ap (map flow_of) c.in_ok-outs.ensures ∙ output_flows_of c.as_slice-ports.result.now c.in_ok-first.first c.args.at
    ∙ ap (λ n. range_with_len n (length c.as_slice-ports.result.now)) c.in_ok-first.ensures.first
    ∙ ap (λ ps. range_with_len c.args.made.now.next.flow (length ps)) c.as_slice-ports.ensures

pub returns-clause-types : goal.returns-clause-types
returns-clause-types c =
    ap types_of c.in_ok-outs.ensures ∙ output_types_of c.as_slice-ports.result.now c.in_ok-first.first c.args.at ∙ ap (λ ps. map (λ q. q.ty) ps) c.as_slice-ports.ensures

pub returns-clause-made : goal.returns-clause-made
returns-clause-made c =
    let taken = c.in_ok-first.ensures.next in
    let app = c.take_app-app.ensures.app ∙ ap (λ (x : Next). x.app) taken in
    let ports = c.as_slice-ports.ensures in
    let numbers = c.take_app-app.ensures.next ∙ ap (λ (x : Next). next_of x.flow (x.app + 1) x.node) taken ∙ ap (λ ps. next_of (c.args.made.now.next.flow + length ps) (c.args.made.now.next.app + 1) c.args.made.now.next.node) ports in
    let below : c.args.made.now.next.flow + length c.args.import.now.outs ≤ 4096 = rw ports at c.in_ok-first.ensures.few in
    let few = import_few c.args.made.now.next (length c.args.import.now.outs) below c.requires.some c.requires.few in
    import_adds c.args.name.now c.args.import.now.wcet c.args.at c.args.made.now _ _ _ c.args.import.now.outs c.as_slice-ports.result.now c.in_ok-first.first c.take_app-app.result c.in_ok-outs.outs.items _ _
    ports c.in_ok-first.ensures.first app c.in_ok-push_outputs.ensures c.in_ok-outs.ensures c.as_slice-2.ensures.value (ap (map arg_of) c.as_slice.ensures.value) c.in_ok-push_app.ensures numbers few
