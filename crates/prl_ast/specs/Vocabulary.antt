-- The words of this crate that clauses and proofs use, from one place.
pub use Rattle.prl_ast.specs.InRange.{AreTreesInRange, IfThere, IsCount, IsDue, IsEquationInRange}
pub use Rattle.prl_ast.specs.InRange.{IsImportInRange, IsInRange, IsNodeInRange, IsParamInRange}
pub use Rattle.prl_ast.specs.InRange.{IsPostfix, IsPrefix, IsRate, IsRootInRange, IsShift}
pub use Rattle.prl_ast.specs.InRange.{IsTreeInRange}
pub use Rattle.prl_ast.specs.Trees.{EquationTree, NodeTree, ProgramTree, Root, Tree, Trees, apply}
pub use Rattle.prl_ast.specs.Trees.{const, equation_tree, group, more, none}
pub use Rattle.prl_ast.specs.Trees.{program_tree, tree_of, var}
