use Rattle.prl_body.proofs.Lookups.{register_found}
use Rattle.prl_body.proofs.scopes.Scope.register.Goals as goal

pub returns-in-Some : goal.returns-in-Some
returns-in-Some c = rw (← c.self.view_is, c.ty.ensures) (register_found c.self.inside.registers.now c.args.name.now _ c.in-Some.ensures)

pub returns-in-None : goal.returns-in-None
returns-in-None c = rw (← c.self.view_is) (register_found c.self.inside.registers.now c.args.name.now _ c.in-None.ensures)
