-- What private functions say of faults.
use Rattle.std.specs.Prelude.{◌<◌, ℕ}
use Rattle.prl_replay.specs.declared.faults.ReplayFault.{ReplayFault}
use Rattle.prl_replay.specs.declared.faults.ReplayFault.TheVariants as causes
use Rattle.prl_tables.specs.declared.reading.TableFault.{TableFault}
use Rattle.prl_tables.specs.declared.reading.TableFault.TheVariants as checking

-- an unfinished job is of one of so many tasks
abbrev pub IsOfTask : ℕ → ReplayFault → Type 0
IsOfTask tasks (causes.Syntax line) = Unit {0}
IsOfTask tasks (causes.Illegal line rule) = Unit {0}
IsOfTask tasks (causes.Unfinished task job) = task.0 < tasks
IsOfTask tasks causes.Memory = Unit {0}

-- units that are not the WCET are of one of so many tasks
abbrev pub AreOfTask : ℕ → TableFault → Type 0
AreOfTask tasks (checking.Syntax line) = Unit {0}
AreOfTask tasks (checking.Piece line) = Unit {0}
AreOfTask tasks (checking.Units task job) = task.0 < tasks
AreOfTask tasks (checking.Clash first second) = Unit {0}
AreOfTask tasks (checking.Order edge job) = Unit {0}
AreOfTask tasks checking.Memory = Unit {0}
