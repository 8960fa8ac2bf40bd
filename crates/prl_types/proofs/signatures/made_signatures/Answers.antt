use Rattle.prl_base.proofs.Standard.{◌≡◌, ◌+◌, ◌∙◌, ℕ, Some, ap, arith, sym, map-range_with_len_more}
use Rattle.prl_ast.specs.Trees.{program_tree}
use Rattle.prl_names.specs.declared.lookups.Callee.{Callee}
use Rattle.prl_types.specs.declared.signatures.Signature.{Signature}
use Rattle.prl_types.specs.Flows.{inputs_of, outputs_of}
use Rattle.prl_types.specs.code.Signatures.{callee_at, signature_of}
use Rattle.prl_types.proofs.Signed.{same_signature}
use Rattle.prl_types.proofs.signatures.made_signatures.Goals as goal

pub loop-k-preserved : goal.loop-k-preserved
loop-k-preserved c =
    let p = program_tree c.args.context.now in
    let k = c.loop-k.k in
    let start : 0 + k ≡ k = omega arith in
    let signature : ℕ → Signature = λ j. signature_of p (callee_at c.args.are_nodes j) in
    let ins = c.in_ok-signature.ensures.ins ∙ ap (λ (of : Callee). inputs_of p (Some of)) c.callee_at.ensures in
    let outs = c.in_ok-signature.ensures.outs ∙ ap (λ (of : Callee). outputs_of p (Some of)) c.callee_at.ensures in
    let made = same_signature c.in_ok-signature.signature (signature k) ins outs in
    rw (c.in_ok-push.ensures.items, c.loop-k.invariant, made) (sym (map-range_with_len_more signature 0 k k start))
