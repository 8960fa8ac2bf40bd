use Rattle.prl_base.proofs.Standard.{sym, ◌∙◌, slice_get_within}
use Rattle.prl_sensors.proofs.finders.Finder.find.Goals as goal

pub returns-in-Some-clause-within : goal.returns-in-Some-clause-within
returns-in-Some-clause-within c =
    let names = c.self.inside.names.now in
    rw (← c.self.view_is) (slice_get_within names c.in-Some.k c.args.name.now
    (c.index_has_the_name.ensures names c.args.name.now c.in-Some.k (sym (c.found-found.ensures ∙ c.self.invariant.indices c.args.name.now) ∙ c.in-Some.is)))
