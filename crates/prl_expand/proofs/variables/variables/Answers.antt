use Rattle.std.proofs.Common.{refl}
use Rattle.prl_ast.specs.Trees.{program_tree}
use Rattle.prl_expand.proofs.TermLists.{flows_more, types_more}
use Rattle.prl_expand.proofs.variables.variables.Goals as goal

pub loop-j-preserved : goal.loop-j-preserved
loop-j-preserved c = record {
  flows = rw c.in_ok-push.ensures.items (flows_more c.loop-j.terms.items _ c.args.first c.loop-j.j c.loop-j.invariant.flows refl);
  types = rw c.in_ok-push.ensures.items (types_more (program_tree c.args.typed.now.program) c.args.typed.now.types c.args.k c.loop-j.j c.loop-j.terms.items _ c.loop-j.invariant.types c.ty.ensures);
}
