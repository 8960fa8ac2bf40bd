-- What private functions say of modes.
use Rattle.prl_arguments.specs.declared.arguments.Mode.{Mode}
use Rattle.prl_arguments.specs.declared.arguments.Mode.TheVariants as modes

-- the mode runs nothing, and keeps the texts of its files to its end
abbrev pub KeepsTexts : Mode → Type 0
KeepsTexts modes.Flows = ⊥
KeepsTexts modes.Run = ⊥
KeepsTexts modes.Generate = ⊥
KeepsTexts modes.Cycle = ⊥
KeepsTexts mode = Unit {0}

-- the texts of the mode are those of files
abbrev pub HasFiles : Mode → Type 0
HasFiles modes.Generate = ⊥
HasFiles mode = Unit {0}
