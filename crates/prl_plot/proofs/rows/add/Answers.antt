use Rattle.prl_plot.proofs.Placing.{gave, place_is, then_so, went_places}
use Rattle.prl_plot.proofs.rows.add.Goals as goal

pub returns-in-Some-clause-places : goal.returns-in-Some-clause-places
returns-in-Some-clause-places c =
    then_so c.go_on.result _ _ (gave c.go_on.result _ _ c.go_on.ensures)
    (went_places c.args.found.now.places c.args.number c.args.found.now.flows.items c.go_on.new.flows.items c.in-Some.k _ c.requires
    (place_is c.args.found.now.places c.args.found.now.flows.items c.args.entry.0.now c.in-Some.k c.place_in.result c.requires c.place_in.ensures c.in-Some.is).1)
