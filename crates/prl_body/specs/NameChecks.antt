-- The first name of a body that it may not have there, in the order of the text.
use Rattle.std.specs.Prelude.{ℕ, Bool, not, ◌&&◌, ◌||◌, List, [], ◌∷◌, ◌++◌, Option, Some, None, if◌then◌else◌}
use Rattle.std.specs.List.{list_any}
use Rattle.std.specs.Str.{bytes_eq}
use Rattle.prl_ast.specs.declared.declarations.Port.{Port}
use Rattle.prl_body.specs.declared.texts.RegisterText.{RegisterText}
use Rattle.prl_body.specs.Texts.{Tree, constant, name, run, series, choice, TreeRights, none, more, StatementTree, TextTree}

abbrev pub has_port : List Port → List ℕ → Bool
has_port ports n = list_any (λ (p : Port). bytes_eq p.name n) ports

abbrev pub has_register : List RegisterText → List ℕ → Bool
has_register registers n = list_any (λ (r : RegisterText). bytes_eq r.name n) registers

abbrev pub has_statement : List StatementTree → List ℕ → Bool
has_statement statements n = list_any (λ (s : StatementTree). bytes_eq s.left n) statements

-- the first fault of two
abbrev pub either_fault : Option ℕ → Option ℕ → Option ℕ
either_fault None other = other
either_fault (Some at) other = Some at

-- a register whose name is taken: by a port, or by a register before it
abbrev pub register_fault : List Port → List Port → List RegisterText → List RegisterText → Option ℕ
register_fault ins outs earlier [] = None
register_fault ins outs earlier (r ∷ rs) =
    if has_port ins r.name || has_port outs r.name || has_register earlier r.name then Some r.at.at
    else register_fault ins outs (earlier ++ r ∷ []) rs

abbrev mutual
  -- a name that stands for neither an input nor a register
  pub unknown_name : List Port → List RegisterText → Tree → Option ℕ
  unknown_name ins registers (constant v) = None
  unknown_name ins registers (name n at) = if has_port ins n || has_register registers n then None else Some at.at
  unknown_name ins registers (run prefix ats of) = unknown_name ins registers of
  unknown_name ins registers (series first rights) = either_fault (unknown_name ins registers first) (unknown_name_in ins registers rights)
  unknown_name ins registers (choice at test chosen other) =
      either_fault (unknown_name ins registers test) (either_fault (unknown_name ins registers chosen) (unknown_name ins registers other))

  pub unknown_name_in : List Port → List RegisterText → TreeRights → Option ℕ
  unknown_name_in ins registers none = None
  unknown_name_in ins registers (more operator at right rights) =
      either_fault (unknown_name ins registers right) (unknown_name_in ins registers rights)

-- a name on the left that is neither an output nor a register, or that was set before; or a name on the right that nothing has
abbrev pub statement_fault : List Port → List Port → List RegisterText → List StatementTree → List StatementTree → Option ℕ
statement_fault ins outs registers earlier [] = None
statement_fault ins outs registers earlier (s ∷ ss) =
    if (has_port outs s.left || has_register registers s.left) && not (has_statement earlier s.left)
    then either_fault (unknown_name ins registers s.right) (statement_fault ins outs registers (earlier ++ s ∷ []) ss)
    else Some s.at.at

-- where the first name stands that a body may not have there, for an import with these inputs and outputs
abbrev pub name_fault : List Port → List Port → TextTree → Option ℕ
name_fault ins outs body =
    either_fault (register_fault ins outs [] body.registers) (statement_fault ins outs body.registers [] body.statements)
