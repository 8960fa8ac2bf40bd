use Rattle.prl_table.specs.code.Ticks.{HasTicks}
use Rattle.prl_edf.specs.Pieces.{run_of}
use Rattle.std.proofs.Common.{sym, subst}
use Rattle.prl_table.proofs.making.steady_table.Goals as goal

pub unsteady-requires-clause-at : goal.unsteady-requires-clause-at
unsteady-requires-clause-at c =
    c.in-Some.ensures.some (run_of c.args.timed.now.pieces) (subst (λ xs. HasTicks (run_of c.args.timed.now.pieces) xs) (sym c.deref.ensures.value) c.in-Ok.ensures.ticks)
