use Rattle.std.proofs.Common.{◌+◌, ap, length-append}
use Rattle.prl_ast.specs.Trees.{program_tree}
use Rattle.prl_names.proofs.Rowing.{rows_step}
use Rattle.prl_names.proofs.applications.rows.Goals as goal

pub loop-k-preserved : goal.loop-k-preserved
loop-k-preserved c =
    let pushed = c.in_ok-push.ensures.items in
    record {
      rows = rw pushed (rows_step (program_tree c.args.names.now) c.loop-k.rows.items c.in_ok-row.row.items c.new.result c.loop-k.k c.loop-k.invariant.rows c.loop-k.invariant.len
          c.in_ok-row.ensures c.new.ensures);
      len = rw pushed (simp length-append (ap (λ n. n + 1) c.loop-k.invariant.len));
    }
