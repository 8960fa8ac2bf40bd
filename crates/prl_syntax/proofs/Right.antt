-- One token of look-ahead decides in programs: the test computes.
use Rattle.std.proofs.Common.{◌≡◌, ◌<◌, List, length, Ok, refl}
use Rattle.prl_ast.specs.Trees.{Tree}
use Rattle.prl_lex.specs.Vocabulary.{Lexeme, ◌⊳◌, many, inner_of, read_at, IsApart, shape}
use Rattle.prl_lex.proofs.Loops.{Steps, steps as text_steps}
use Rattle.prl_lex.proofs.Nesting.{IsRight, text_fewer}
use Rattle.prl_syntax.specs.declared.words.Fixed.TheVariants as fixed
use Rattle.prl_syntax.specs.code.Links.{Step, AfterLink, ConstantLink, NextLink}
use Rattle.prl_syntax.specs.Grammar.{Grammar, the, Const, Ratio, Postfix, Expr, Exprs, Base, Prefix, AfterConst, Stem, programs, Name, Names, Left, Equation, TypeName, Rate, Due, Note, Item, Run, Params, EndedRun, Locals, PortGroup, NextGroup, Ports, Wcet, Import, Device, Node, Declaration, Program}

pub right : IsRight programs
unfolding programs Stem Base Prefix AfterConst Const Expr Exprs Postfix Ratio
right = record { apart = refl; guarded = refl; founded = refl; nullable = refl; first = refl; more = refl }

pub program_apart : IsApart (inner_of programs) Program
unfolding Program Declaration Import Device Wcet Node Equation Left Names programs Stem Base Prefix AfterConst Const Expr Exprs Postfix Ratio Locals EndedRun Params Run Item Name Note Due Rate TypeName Ports NextGroup PortGroup
program_apart = refl

-- what loops and calls need

pub expr_fewer : (ts : List Lexeme) (t : Tree) (rest : List Lexeme) → read_at programs Expr ts ≡ Ok (t, rest) → length rest < length ts
unfolding programs Stem Base Prefix AfterConst Const Expr Exprs Postfix Ratio
expr_fewer = text_fewer programs right Expr refl

pub link_fewer : (ts : List Lexeme) (l : Step) (rest : List Lexeme) → read_at programs NextLink ts ≡ Ok (l, rest) → length rest < length ts
unfolding NextLink ConstantLink AfterLink programs Stem Base Prefix AfterConst Const Expr Exprs Postfix Ratio
link_fewer = text_fewer programs right NextLink refl

abbrev Loop : {A : Type 0} → Grammar A → Type 0
Loop g = Steps (shape (inner_of programs) g).first (read_at programs g)

steps : {A : Type 0} (g : Grammar A) → IsApart (inner_of programs) (many g) → Loop g
steps g apart = text_steps right g apart

pub comma_name_steps : Loop (the fixed.Comma ⊳ Name)
unfolding Name
comma_name_steps = steps (the fixed.Comma ⊳ Name) refl

pub comma_item_steps : Loop (the fixed.Comma ⊳ Item)
unfolding Item Name Note Due Rate Ratio TypeName
comma_item_steps = steps (the fixed.Comma ⊳ Item) refl

pub semicolon_run_steps : Loop (the fixed.Semicolon ⊳ Run)
unfolding Run Item Name Note Due Rate Ratio TypeName
semicolon_run_steps = steps (the fixed.Semicolon ⊳ Run) refl

pub ended_run_steps : Loop EndedRun
unfolding EndedRun Run Item Name Note Due Rate Ratio TypeName
ended_run_steps = steps EndedRun refl

pub next_group_steps : Loop NextGroup
unfolding NextGroup PortGroup Names Name TypeName
next_group_steps = steps NextGroup refl

pub postfix_steps : Loop Postfix
unfolding Postfix Ratio
postfix_steps = steps Postfix refl

pub comma_expr_steps : Loop (the fixed.Comma ⊳ Expr)
unfolding programs Stem Base Prefix AfterConst Const Expr Exprs Postfix Ratio
comma_expr_steps = steps (the fixed.Comma ⊳ Expr) refl

pub equation_steps : Loop Equation
unfolding Equation Left Names Name programs Stem Base Prefix AfterConst Const Expr Exprs Postfix Ratio
equation_steps = steps Equation refl

pub declaration_steps : Loop Declaration
unfolding Declaration Import Device Wcet Node Equation Left Names programs Stem Base Prefix AfterConst Const Expr Exprs Postfix Ratio Locals EndedRun Params Run Item Name Note Due Rate TypeName Ports NextGroup PortGroup
declaration_steps = steps Declaration refl
