use Rattle.std.proofs.Common.{◌≡◌, take}
use Rattle.prl_names.specs.Mentions.{names_in}
use Rattle.prl_sensors.proofs.finders.table_of.Given as goal

abbrev pub invariant-loop-name : goal.invariant-loop-name
invariant-loop-name l = names_in l.mentions.items ≡ take l.name-index l.names
