use Rattle.prl_body.proofs.Lookups.{register_type_found}
use Rattle.prl_body.proofs.scopes.Scope.register_type.Goals as goal

pub returns-in-Some : goal.returns-in-Some
returns-in-Some c = rw (← c.self.view_is, c.ty.ensures) (register_type_found c.self.inside.registers.now c.args.name.now _ c.in-Some.ensures)

pub returns-in-None : goal.returns-in-None
returns-in-None c = rw (← c.self.view_is) (register_type_found c.self.inside.registers.now c.args.name.now _ c.in-None.ensures)
