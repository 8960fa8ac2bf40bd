use Rattle.std.proofs.Common.{◌≡◌, drop}
use Rattle.std.specs.Option.{is_some}
use Rattle.prl_names.specs.Vocabulary.{found, absent_by}
use Rattle.prl_names.proofs.absences.absent.Given as goal

abbrev pub invariant-loop-param : goal.invariant-loop-param
invariant-loop-param l = absent_by (λ name. is_some (found l.table name)) (drop l.param-index l.params) ≡ absent_by (λ name. is_some (found l.table name)) l.params
