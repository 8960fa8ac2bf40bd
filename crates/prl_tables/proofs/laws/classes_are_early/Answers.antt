use Rattle.prl_tables.proofs.Early.{class_is_early, hyper_small, some_period}
use Rattle.prl_tables.proofs.Shifts.{some_classes}
use Rattle.prl_tables.proofs.laws.classes_are_early.Goals as goal

pub returns-clause-job : goal.returns-clause-job
returns-clause-job _ = class_is_early

pub returns-clause-small : goal.returns-clause-small
returns-clause-small _ = hyper_small

pub returns-clause-period : goal.returns-clause-period
returns-clause-period _ = some_period

pub returns-clause-some : goal.returns-clause-some
returns-clause-some _ = some_classes
