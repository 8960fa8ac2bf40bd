-- What is told of names, from its parts.
use Rattle.std.proofs.Common.{◌≡◌, ◌≤◌, ℕ, List, [], Ok, inl, inr}
use Rattle.prl_ast.specs.declared.declarations.Program.{Program}
use Rattle.prl_ast.specs.Trees.{program_tree}
use Rattle.prl_syntax.specs.Parsing.{IsParsed}
use Rattle.prl_nearest.specs.Nearest.{IsDeclared, IsNear, IsNearTold, IsNodesTold, mean_text, names_text}

pub near_is : (text word name told : List ℕ) (program : Program) (most : ℕ) → IsParsed text (Ok (program_tree program)) → IsDeclared program name → most ≤ 2
    → IsNear most word name → told ≡ mean_text name → IsNearTold text word told
near_is text word name told program most parsed declared small near is =
    inr (name, record { program = program; parsed = parsed; declared = declared; most = most; small = small; near = near }, is)

pub no_near : (text word told : List ℕ) → told ≡ [] → IsNearTold text word told
no_near text word told is = inl is

pub nodes_are : (text told : List ℕ) (program : Program) → IsParsed text (Ok (program_tree program)) → told ≡ names_text program.nodes → IsNodesTold text told
nodes_are text told program parsed is = inr (record { program = program; parsed = parsed; is = is })

pub no_nodes : (text told : List ℕ) → told ≡ [] → IsNodesTold text told
no_nodes text told is = inl is
