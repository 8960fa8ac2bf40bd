use Rattle.prl_body.proofs.Lookups.{port_type_found}
use Rattle.prl_body.proofs.scopes.Scope.output_type.Goals as goal

pub returns-in-Some : goal.returns-in-Some
returns-in-Some c = rw (← c.self.view_is) (port_type_found c.self.inside.outs.now c.args.name.now _ c.in-Some.ensures)

pub returns-in-None : goal.returns-in-None
returns-in-None c = rw (← c.self.view_is) (port_type_found c.self.inside.outs.now c.args.name.now _ c.in-None.ensures)
