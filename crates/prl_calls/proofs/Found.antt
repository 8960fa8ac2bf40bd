-- What the first stages find, as the parts of the program.
use Rattle.std.proofs.Common.{◌≡◌, ℕ, List, Option, Ok}
use Rattle.prl_base.specs.declared.values.Ty.{Ty}
use Rattle.prl_ast.specs.Trees.{ProgramTree}
use Rattle.prl_expand.specs.Expanding.{IsExpanded}
use Rattle.prl_flow.specs.Programs.{FlatProgram}
use Rattle.prl_names.specs.Vocabulary.{names_of, IsNamed}
use Rattle.prl_types.specs.Typing.{IsTyped}
use Rattle.prl_stages.specs.Vocabulary.{Given, IsProgram, IsMain, IsFlattened}

abbrev pub NamesLaw : Type 0
NamesLaw = (p : ProgramTree) (main : Option (List ℕ)) (node : ℕ) → names_of p main ≡ Ok node → IsNamed p node

-- a program with these types has this main node
pub main_with : NamesLaw → (g : Given) (p : ProgramTree) (main : ℕ) (types : List Ty) → IsProgram g p → IsTyped p g.node main types → IsMain g p main
main_with law g p main types program typed =
    record { program = program; types = types; typed = typed; below = (law p g.node main typed.names).main_below }

-- and this flat program is that of its expansion
pub flattened_with : NamesLaw → (g : Given) (p : ProgramTree) (main : ℕ) (types : List Ty) (flat : FlatProgram) → IsProgram g p → IsTyped p g.node main types
    → IsExpanded p main types flat → IsFlattened g flat
unfolding main_with
flattened_with law g p main types flat program typed expanded =
    record { program = p; main = main; is_main = main_with law g p main types program typed; expanded = expanded }
