use Rattle.std.proofs.Common.{Ok}
use Rattle.prl_body.specs.Texts.{text_trees}
use Rattle.prl_bodytext.proofs.WholeTexts.{given, given_fault}
use Rattle.prl_bodytext.proofs.parsing.parse_bodies.Goals as goal

pub returns-in-Ok-clause-found : goal.returns-in-Ok-clause-found
returns-in-Ok-clause-found c = given c.args.text.now (Ok (text_trees c.in-Ok.bodies)) c.in-Ok.ensures

pub returns-in-Err-clause-fault : goal.returns-in-Err-clause-fault
returns-in-Err-clause-fault c = given_fault c.args.text.now c.in-Err.fault c.of_text.result c.of_text.ensures c.in-Err.ensures
