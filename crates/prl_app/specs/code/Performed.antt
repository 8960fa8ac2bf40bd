-- What private functions say of a command before its line is told.
use Rattle.std.specs.Prelude.{◌≡◌, ◌⊎◌, ℕ, List, Option}
use Rattle.prl_io.specs.Views.{Appends, AppendsLess, FolderView, SinkView}
use Rattle.prl_endings.specs.declared.endings.Ending.{Ending}
use Rattle.prl_endings.specs.declared.endings.Ending.TheVariants as endings
use Rattle.prl_stages.specs.declared.ran.Ran.{Ran}
use Rattle.prl_arguments.specs.declared.arguments.Command.{Command}
use Rattle.prl_arguments.specs.Arguments.{command_of}
use Rattle.prl_endings.specs.ErrorLines.{line_of}
use Rattle.prl_app.specs.Endings.{Ends}

-- the ending has its cause, whatever err is
abbrev pub Performs : List (List ℕ) → FolderView → FolderView → SinkView → SinkView → Ending → Type 0
Performs words files_old files_new out_old out_new ending =
    (err_old err_new : SinkView) → Ends words (record { files = files_old; out = out_old; err = err_old })
    (record { files = files_new; out = out_new; err = err_new }) ending

-- the line is told by the command that was read as by the command of the words
abbrev pub line_is : List (List ℕ) → Option Command → Ending → Type 0
line_is words command ending = line_of command ending ≡ line_of (command_of words) ending

-- the text is in out, or a front of it where a fault was counted
abbrev pub IsWrittenBy : SinkView → SinkView → List ℕ → Ran → Ending → Type 0
IsWrittenBy old new text ran ending =
    ((ending ≡ endings.Done ran) × Appends old new text) ⊎ ((ending ≡ endings.Unwritten ran) × AppendsLess old new text)
