-- The trees of bodies as definitions see them, with where their names and operators stand.
use Rattle.std.specs.Prelude.{ℕ, List, [], ◌∷◌, map}
use Rattle.prl_base.specs.declared.places.Span.{Span}
use Rattle.prl_base.specs.declared.values.Value.{Value}
use Rattle.prl_base.specs.declared.body_operators.Operator.{Operator}
use Rattle.prl_base.specs.declared.body_operators.Prefix.{Prefix}
use Rattle.prl_body.specs.declared.texts.Expr.{Expr, Const, Name, Run', Series', If', Row_of-ExprRight, end_of-ExprRight, more_of-ExprRight}
use Rattle.prl_body.specs.declared.texts.ExprRight.{ExprRight}
use Rattle.prl_body.specs.declared.texts.RegisterText.{RegisterText}
use Rattle.prl_body.specs.declared.texts.Statement.{Statement}
use Rattle.prl_body.specs.declared.texts.BodyText.{BodyText}
use Rattle.prl_body.specs.declared.texts.BodyTexts.{BodyTexts}

mutual
  pub data Tree : Type 0 where
    constant : Value → Tree
    name : List ℕ → Span → Tree
    -- the same operator before the operand, the outermost first
    run : Prefix → List Span → Tree → Tree
    -- the first operand, and the others with the operator before each
    series : Tree → TreeRights → Tree
    -- if(c, a, b)
    choice : Span → Tree → Tree → Tree → Tree

  pub data TreeRights : Type 0 where
    none : TreeRights
    more : Operator → Span → Tree → TreeRights → TreeRights

abbrev mutual
  pub tree_of : Expr → Tree
  tree_of (Const value) = constant value
  tree_of (Name n at) = name n at
  tree_of (Run' prefix ats p of) = run prefix ats (tree_of of)
  tree_of (Series' p first shape rights) = series (tree_of first) (tree_rights rights)
  tree_of (If' at p test q chosen r other) = choice at (tree_of test) (tree_of chosen) (tree_of other)

  pub tree_rights : {m : _} → Row_of-ExprRight m → TreeRights
  tree_rights end_of-ExprRight = none
  tree_rights (more_of-ExprRight operator at right rest) = more operator at (tree_of right) (tree_rights rest)

-- of a list of operators with their right operands
abbrev pub pair_trees : List ExprRight → TreeRights
pair_trees [] = none
pair_trees (pair ∷ rights) = more pair.operator pair.at (tree_of pair.right) (pair_trees rights)

pub record StatementTree : Type 0 where
  pub left : List ℕ
  pub right : Tree
  -- the left name
  pub at : Span

pub record TextTree : Type 0 where
  pub name : List ℕ
  -- the name
  pub at : Span
  pub registers : List RegisterText
  pub statements : List StatementTree

abbrev pub statement_tree : Statement → StatementTree
statement_tree s = record { left = s.left; right = tree_of s.right; at = s.at }

abbrev pub text_tree : BodyText → TextTree
text_tree b = record { name = b.name; at = b.at; registers = b.registers; statements = map statement_tree b.statements }

abbrev pub text_trees : BodyTexts → List TextTree
text_trees t = map text_tree t.bodies
