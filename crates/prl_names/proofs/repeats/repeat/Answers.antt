use Rattle.prl_base.proofs.Standard.{◌≡◌, subst, Option, IfOk, option_map, map-map}
use Rattle.prl_ast.specs.Trees.{node_tree, program_tree}
use Rattle.prl_ast.specs.declared.declarations.Placed.{Placed}
use Rattle.prl_names.specs.Mentions.{placed_of}
use Rattle.prl_names.specs.Repeats.{flow_space}
use Rattle.prl_names.proofs.Repeating.{spaces_in_turn}
use Rattle.prl_names.proofs.repeats.repeat.Goals as goal

pub returns : goal.returns
returns c =
    let p = program_tree c.args.names.now in
    let ports = rw (c.as_slice.ensures, c.program-program.ensures) at c.in_ok-first-2.ensures in
    let flows = rw (c.as_slice-2.ensures, c.program-program.ensures, ← map-map flow_space node_tree c.args.names.now.nodes) at c.in_ok-first-3.ensures in
    let P : Option Placed → Type 0 = λ x. IfOk c.repeat_in_definitions.result (λ repeat. option_map placed_of repeat ≡ x) in
    subst P (spaces_in_turn p (option_map placed_of c.in_ok-first.first) (option_map placed_of c.in_ok-first-2.first) (option_map placed_of c.in_ok-first-3.first)
    c.in_ok-first.ensures ports flows) c.repeat_in_definitions.ensures
