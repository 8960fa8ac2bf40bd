-- What the first three files of a command give, and the later three.
use Rattle.std.specs.Prelude.{ℕ, List, Option, Ok}
use Rattle.prl_arguments.specs.declared.arguments.Command.{Command}
use Rattle.prl_stages.specs.declared.faults.InputFile.TheVariants as parts
use Rattle.prl_stages.specs.Given.{Folder, IsContent}

pub record AreFirst (told : Option Folder) (c : Command) (p b s : List ℕ) : Type 0 where
  pub program : IsContent told parts.Program c.program (Ok p)
  pub bodies : IsContent told parts.Bodies c.bodies (Ok b)
  pub sensors : IsContent told parts.Sensors c.sensors (Ok s)

pub record AreLater (told : Option Folder) (c : Command) (e t k : List ℕ) : Type 0 where
  pub schedule : IsContent told parts.Schedule c.schedule (Ok e)
  pub table : IsContent told parts.Table c.table (Ok t)
  pub cores : IsContent told parts.Cores c.cores (Ok k)
