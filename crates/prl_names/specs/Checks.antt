-- The main node of a program whose names are right, or the first fault.
use Rattle.std.specs.Prelude.{ℕ, zero, suc, List, map, length, slice_get, Option, Some, None, Result, Ok, Err}
use Rattle.prl_base.specs.Reading.{◌>>=◌}
use Rattle.prl_ast.specs.declared.declarations.Device.{Device}
use Rattle.prl_ast.specs.declared.declarations.Placed.{Placed}
use Rattle.prl_ast.specs.Trees.{NodeTree, ProgramTree}
use Rattle.prl_names.specs.declared.checks.NameFault.{NameFault}
use Rattle.prl_names.specs.declared.checks.NameFault.TheVariants as faults
use Rattle.prl_names.specs.declared.checks.Wrong.{Wrong}
use Rattle.prl_names.specs.declared.checks.Wrong.TheVariants as wrongs
use Rattle.prl_names.specs.Applications.{recursive_of}
use Rattle.prl_names.specs.Lookups.{index_of, node_names}
use Rattle.prl_names.specs.Repeats.{repeat_of}
use Rattle.prl_names.specs.Unknowns.{either_name, unknown_of, undefined_of, absent_from}

-- the fault of a name with which this is wrong
abbrev pub fault_of : Wrong → List ℕ → NameFault
fault_of wrongs.Twice name = faults.Twice name
fault_of wrongs.Unknown name = faults.Unknown name
fault_of wrongs.Undefined name = faults.Undefined name
fault_of wrongs.Recursive name = faults.Recursive name

abbrev pub refused : (List ℕ → NameFault) → Option (List ℕ) → Result (Unit {0}) NameFault
refused fault None = Ok tt
refused fault (Some name) = Err (fault name)

abbrev pub name_of : Option Placed → Option (List ℕ)
name_of None = None
name_of (Some p) = Some p.name

abbrev pub main_or : Option ℕ → Result ℕ NameFault
main_or None = Err faults.NoMain
main_or (Some node) = Ok node

abbrev pub last_index : ℕ → Option ℕ
last_index zero = None
last_index (suc k) = Some k

-- the node of the name that is asked for, or the last one
abbrev pub main_of : ProgramTree → Option (List ℕ) → Option ℕ
main_of p None = last_index (length p.nodes)
main_of p (Some name) = index_of (node_names p) name

abbrev pub device_names : List Device → List (List ℕ)
device_names devices = map (λ (d : Device). d.name) devices

-- the first input of the node that has no sensor, or output that has no actuator
abbrev pub without_device : ProgramTree → Option NodeTree → Option (List ℕ)
without_device p None = None
without_device p (Some node) = either_name (absent_from (device_names p.sensors) node.ins) (absent_from (device_names p.actuators) node.outs)

unfoldable pub names_of : ProgramTree → Option (List ℕ) → Result ℕ NameFault
names_of p main = do
  _ ← refused faults.Twice (name_of (repeat_of p))
  _ ← refused faults.Unknown (unknown_of p)
  _ ← refused faults.Undefined (undefined_of p)
  _ ← refused faults.Recursive (recursive_of p)
  node ← main_or (main_of p main)
  _ ← refused faults.Unknown (without_device p (slice_get p.nodes node))
  Ok node
