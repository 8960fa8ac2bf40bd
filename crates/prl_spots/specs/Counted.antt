-- How many inputs and outputs a node declares that a program names at a byte or behind it.
use Rattle.std.specs.Prelude.{◌≡◌, ◌≤◌, ◌++◌, ◌⊎◌, ℕ, List, [], Ok, Some, length, slice_get, codes, decimal}
use Rattle.prl_ast.specs.declared.declarations.Import.{Import}
use Rattle.prl_ast.specs.declared.declarations.Node.{Node}
use Rattle.prl_ast.specs.declared.declarations.Program.{Program}
use Rattle.prl_ast.specs.Trees.{program_tree}
use Rattle.prl_lex.specs.declared.tokens.Token.{Token}
use Rattle.prl_lex.specs.Lexing.{token_text, tokens_of}
use Rattle.prl_syntax.specs.Parsing.{IsParsed}
use Rattle.prl_spots.specs.declared.counts.Counts.{Counts}

-- one of these has this name, and so many inputs and outputs
pub record IsOf {A : Type 0} (name_of : A → List ℕ) (ins_of outs_of : A → ℕ) (all : List A) (name : List ℕ) (counts : Counts) : Type 0 where
  pub index : ℕ
  pub one : A
  pub found : slice_get all index ≡ Some one
  pub named : name_of one ≡ name
  pub ins : counts.ins ≡ ins_of one
  pub outs : counts.outs ≡ outs_of one

abbrev pub IsOfImport : List Import → List ℕ → Counts → Type 0
IsOfImport = IsOf (λ (import : Import). import.name) (λ import. length import.ins) (λ import. length import.outs)

abbrev pub IsOfNode : List Node → List ℕ → Counts → Type 0
IsOfNode = IsOf (λ (node : Node). node.name) (λ node. length node.ins) (λ node. length node.outs)

abbrev pub Declares : Program → List ℕ → Counts → Type 0
Declares program name counts = IsOfImport program.imports name counts ⊎ IsOfNode program.nodes name counts

-- one of the tokens begins at the byte or behind it, and is the name of what declares these
pub record IsNamedFrom (text : List ℕ) (tokens : List Token) (program : Program) (at : ℕ) (token : Token) (counts : Counts) : Type 0 where
  pub index : ℕ
  pub found : slice_get tokens index ≡ Some token
  pub from : at ≤ token.span.at
  pub declares : Declares program (token_text text token) counts

-- the same of a text
pub record IsOfText (text : List ℕ) (at : ℕ) (name : List ℕ) (counts : Counts) : Type 0 where
  pub program : Program
  pub parsed : IsParsed text (Ok (program_tree program))
  pub tokens : List Token
  pub lexed : tokens_of text ≡ Ok tokens
  pub token : Token
  pub named : IsNamedFrom text tokens program at token counts
  pub spelt : token_text text token ≡ name

unfoldable pub who_text : List ℕ → List ℕ
who_text name = codes "`" ++ name ++ codes "`, which is named there or behind, declares so many inputs: "

unfoldable pub counts_text : List ℕ → Counts → List ℕ
counts_text name counts = who_text name ++ decimal counts.ins ++ codes "; and so many outputs: " ++ decimal counts.outs ++ codes ".\n"

-- what is told: nothing, or what one declares
abbrev pub IsCounted : List ℕ → ℕ → List ℕ → Type 0
IsCounted text at told =
    (told ≡ []) ⊎ ((name : List ℕ) × (counts : Counts) × IsOfText text at name counts × (told ≡ counts_text name counts))
