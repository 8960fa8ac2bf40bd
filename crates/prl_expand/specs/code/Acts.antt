-- An expression as a list of steps.
use Rattle.std.specs.Prelude.{List, [], ◌∷◌, ◌++◌, map, Option, Some, None}
use Rattle.prl_ast.specs.Trees.{Tree, tree, Root, const, var, apply, group, Trees, none, more, tree_of}
use Rattle.prl_expand.specs.declared.steps.Step.{Step}
use Rattle.prl_expand.specs.declared.steps.Step.TheVariants as kinds

-- that the parts of an expression begin, or the expression whose parts are all past
abbrev pub Act : Type 0
Act = Option Tree

abbrev pub act_of : Step → Act
act_of kinds.Open = None
act_of (kinds.Close e) = Some (tree_of e.now)

abbrev pub acts_of : List Step → List Act
acts_of steps = map act_of steps

abbrev mutual
  pub steps_of : Tree → List Act
  steps_of (tree pre root post at) = None ∷ (root_steps root ++ Some (tree pre root post at) ∷ [])

  -- through the parts
  pub root_steps : Root → List Act
  root_steps (const v) = []
  root_steps (var name) = []
  root_steps (apply name at args) = all_steps args
  root_steps (group parts) = all_steps parts

  pub all_steps : Trees → List Act
  all_steps none = []
  all_steps (more t ts) = steps_of t ++ all_steps ts
