-- The expansion of a program: the text of its main node, with that of each node that is entered, and a number at each place
-- that makes a flow, at each application of an import and at each node that is entered. Each kind is counted from 0.
use Rattle.std.specs.Prelude.{◌≡◌, ℕ, List, length}
use Rattle.std.specs.List.{range_with_len}
use Rattle.prl_ast.specs.Trees.{ProgramTree}
use Rattle.prl_causal.specs.Annotations.{Entered, flows_in, imports_in, nodes_in}
use Rattle.prl_causal.specs.Texts.{IsText}

abbrev pub Expansion : Type 0
Expansion = Entered ℕ ℕ ℕ

-- 0, 1, 2 and so on
abbrev pub AreCounted : List ℕ → Type 0
AreCounted ns = ns ≡ range_with_len 0 (length ns)

-- each kind is counted in the order in which the things are made
pub record IsExpansion (p : ProgramTree) (main : ℕ) (e : Expansion) : Type 0 where
  pub text : IsText p main e
  pub flows : AreCounted (flows_in e)
  pub imports : AreCounted (imports_in e)
  pub nodes : AreCounted (nodes_in e)
