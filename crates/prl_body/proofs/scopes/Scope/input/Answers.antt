use Rattle.prl_body.proofs.Lookups.{input_found}
use Rattle.prl_body.proofs.scopes.Scope.input.Goals as goal

pub returns-in-Some : goal.returns-in-Some
returns-in-Some c = rw (← c.self.view_is) (input_found c.self.inside.ins.now c.args.name.now _ c.in-Some.ensures)

pub returns-in-None : goal.returns-in-None
returns-in-None c = rw (← c.self.view_is) (input_found c.self.inside.ins.now c.args.name.now _ c.in-None.ensures)
