use Rattle.prl_names.proofs.Params.{names_of_placed}
use Rattle.prl_names.proofs.tables.indices_of.Goals as goal

pub returns : goal.returns
returns g c =
    let placed = rw (← c.as_slice.ensures.value) at c.in_ok-list.ensures in
    rw (names_of_placed g.T.Mentioned.placed c.as_slice.result.now c.args.all.now placed) at c.indices.ensures
