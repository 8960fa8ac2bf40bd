-- What a call of the parser answers.
use Rattle.std.specs.Prelude.{List, Result}
use Rattle.prl_base.specs.Reading.{Gives}
use Rattle.prl_body.specs.Texts.{Tree}
use Rattle.prl_lex.specs.code.Languages.{read_at}
use Rattle.prl_lex.specs.Lexemes.{Lexeme}
use Rattle.prl_lex.specs.Productions.{Grammar}
use Rattle.prl_lex.specs.code.Stops.{stop_of}
use Rattle.prl_lex.specs.declared.reading.Stop.{Stop}
use Rattle.prl_bodytext.specs.Grammar.{bodies}

-- what the grammar reads, seen by `view`, and the tokens after it
abbrev pub Parses : {X Y : Type 0} → (X → Y) → Grammar Tree Y → Result X Stop → List Lexeme → List Lexeme → Type 0
Parses view g result before after = Gives (λ x. (view x, after)) stop_of result (read_at bodies g before)
