use Rattle.prl_base.proofs.Standard.{◌∙◌, List, ℕ, true, false, ap, sym, append-nil}
use Rattle.std.specs.Option.{is_some}
use Rattle.prl_plot.specs.Places.{at_bytes}
use Rattle.prl_plot.proofs.Parts.{kept_more}
use Rattle.prl_plot.proofs.chosen.kept.Goals as goal

pub loop-flow-preserved-in-Continue-branch-2 : goal.loop-flow-preserved-in-Continue-branch-2
loop-flow-preserved-in-Continue-branch-2 c =
    kept_more c.args.names.now _ c.loop-flow.kept.items c.push.new.self.items c.in-Some.flow true c.loop-flow.invariant
    (sym (c.in_ok-named.ensures c.in-Some.flow.name) ∙ ap (λ (n : List ℕ). is_some (at_bytes c.in_ok-named.named n)) (sym c.name.ensures) ∙ sym c.contains_key.ensures ∙ c.if-contains_key.true)
    c.in_ok-push.ensures.items

pub loop-flow-preserved : goal.loop-flow-preserved
loop-flow-preserved c =
    kept_more c.args.names.now _ c.loop-flow.kept.items c.loop-flow.kept.items c.in-Some.flow false c.loop-flow.invariant
    (sym (c.in_ok-named.ensures c.in-Some.flow.name) ∙ ap (λ (n : List ℕ). is_some (at_bytes c.in_ok-named.named n)) (sym c.name.ensures) ∙ sym c.contains_key.ensures ∙ c.if-contains_key.false)
    (sym (append-nil c.loop-flow.kept.items))
