-- The tree that a text has, or its first fault, as a function.
use Rattle.std.specs.Prelude.{◌≡◌, ℕ, false, List, length, Option, Some, None, Result, Ok, Err}
use Rattle.prl_base.specs.Reading.{◌>>=◌}
use Rattle.prl_lex.specs.Lexing.{tokens_of}
use Rattle.prl_lex.specs.declared.reading.Stop.{Stop as Stopped}
use Rattle.prl_lex.specs.declared.reading.Stop.TheVariants as stops
use Rattle.prl_lex.specs.declared.texts.TextFault.{TextFault}
use Rattle.prl_lex.specs.declared.texts.TextFault.TheVariants as faults
use Rattle.prl_lex.specs.Lexemes.{Lexeme}
use Rattle.prl_lex.specs.Classes.{lexemes_of}
use Rattle.prl_lex.specs.Ranges.{out_of_range}
use Rattle.prl_lex.specs.Texts.{Texts}
use Rattle.prl_lex.specs.Whole.{place_of}
use Rattle.prl_lex.specs.code.Languages.{read_at}
use Rattle.prl_lex.specs.code.Readers.{Stop, Stuck, Deep}
use Rattle.prl_lex.specs.code.Whole.{told, all_at}

abbrev pub of_stop : List Lexeme → ℕ → Stop → TextFault
of_stop ts end (Stuck left) = faults.Unexpected (place_of ts left end)
of_stop ts end Deep = faults.Memory

-- what the code tells where its reader stopped
abbrev pub FaultOfStop : List Lexeme → ℕ → Stopped → TextFault → Type 0
FaultOfStop ts end (stops.Unexpected left) fault = fault ≡ faults.Unexpected (place_of ts left end)
FaultOfStop ts end stops.Memory fault = fault ≡ faults.Memory

abbrev pub ranged : {A : Type 0} → Option ℕ → A → Result A TextFault
ranged None tree = Ok tree
ranged (Some at) tree = Err (faults.NumberRange at)

unfoldable pub tree_of_tokens : {R A : Type 0} → Texts R A → List Lexeme → ℕ → Result A TextFault
tree_of_tokens s ts end = do
  tree ← told (of_stop ts end) (all_at (read_at s.language s.whole) ts)
  ranged (out_of_range s.ranges false 0 ts) tree

unfoldable pub tree_of_text : {R A : Type 0} → Texts R A → List ℕ → Result A TextFault
tree_of_text s text = do
  tokens ← told faults.Lexical (tokens_of text)
  tree_of_tokens s (lexemes_of s.vocabulary text tokens) (length text)
