-- What a mode needs of the bodies of a text.
use Rattle.std.specs.Prelude.{List, map}
use Rattle.prl_arguments.specs.declared.arguments.Mode.{Mode}
use Rattle.prl_arguments.specs.declared.arguments.Mode.TheVariants as modes
use Rattle.prl_body.specs.declared.bodies.CheckedBody.{CheckedBody}
use Rattle.prl_body.specs.Checks.{body_tree}
use Rattle.prl_stages.specs.Given.{Given}
use Rattle.prl_stages.specs.Parts.{AreBodies}

-- the mode runs the bodies of imported nodes
abbrev pub RunsBodies : Mode → Type 0
RunsBodies modes.Print = ⊥
RunsBodies modes.Plan = ⊥
RunsBodies modes.Check = ⊥
RunsBodies modes.Flows = Unit {0}
RunsBodies modes.Schedule = ⊥
RunsBodies modes.Edf = ⊥
RunsBodies modes.Table = ⊥
RunsBodies modes.Replay = Unit {0}
RunsBodies modes.Cores = Unit {0}
RunsBodies modes.Run = Unit {0}
RunsBodies modes.Generate = Unit {0}
RunsBodies modes.Cycle = Unit {0}

-- where the mode runs bodies, those of the text, as a program holds them
abbrev pub HoldsBodies : Given → Mode → Type 0
HoldsBodies g mode = RunsBodies mode → (bodies : List CheckedBody) × AreBodies g (map body_tree bodies)
