-- What is declared of a name, and what is told of it.
use Rattle.prl_base.proofs.Standard.{◌≡◌, ◌≤◌, ℕ, List, [], Ok, Some, inl, inr, refl, slice_get}
use Rattle.prl_ast.specs.Trees.{program_tree}
use Rattle.prl_ast.specs.declared.declarations.Program.{Program}
use Rattle.prl_lex.specs.Lexing.{token_text, tokens_of}
use Rattle.prl_lex.specs.declared.tokens.Token.{Token}
use Rattle.prl_syntax.specs.Parsing.{IsParsed}
use Rattle.prl_spots.specs.declared.counts.Counts.{Counts}
use Rattle.prl_spots.specs.Counted.{Declares, IsCounted, IsNamedFrom, IsOf, IsOfImport, IsOfNode, counts_text}

pub is_of : {A : Type 0} (name_of : A → List ℕ) (ins_of outs_of : A → ℕ) (all : List A) (name : List ℕ) (counts : Counts) (index : ℕ) (one : A)
    → slice_get all index ≡ Some one → name_of one ≡ name → counts.ins ≡ ins_of one → counts.outs ≡ outs_of one → IsOf name_of ins_of outs_of all name counts
is_of name_of ins_of outs_of all name counts index one found named ins outs = record { index = index; one = one; found = found; named = named; ins = ins; outs = outs }

pub named_is : (text : List ℕ) (tokens : List Token) (program : Program) (at : ℕ) (token : Token) (counts : Counts) (index : ℕ)
    → slice_get tokens index ≡ Some token → at ≤ token.span.at → Declares program (token_text text token) counts
    → IsNamedFrom text tokens program at token counts
named_is text tokens program at token counts index found from declares = record { index = index; found = found; from = from; declares = declares }

pub by_import : (program : Program) (name : List ℕ) (counts : Counts) → IsOfImport program.imports name counts → Declares program name counts
by_import program name counts is = inl is

pub by_node : (program : Program) (name : List ℕ) (counts : Counts) → IsOfNode program.nodes name counts → Declares program name counts
by_node program name counts is = inr is

-- what is told of a name
pub counted_is : (text : List ℕ) (at : ℕ) (program : Program) (tokens : List Token) (token : Token) (counts : Counts) (told : List ℕ)
    → tokens_of text ≡ Ok tokens → IsParsed text (Ok (program_tree program)) → IsNamedFrom text tokens program at token counts
    → told ≡ counts_text (token_text text token) counts → IsCounted text at told
counted_is text at program tokens token counts told lexed parsed named is =
    inr (
      token_text text token,
      counts,
      record { program = program; parsed = parsed; tokens = tokens; lexed = lexed; token = token; named = named; spelt = refl },
      is,
    )

pub nothing_is : (text : List ℕ) (at : ℕ) (told : List ℕ) → told ≡ [] → IsCounted text at told
nothing_is text at told is = inl is
