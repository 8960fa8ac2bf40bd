-- The explanation of a line of `prelude`.
use Rattle.std.specs.Prelude.{◌≡◌, ◌++◌, ◌⊎◌, ℕ, Bool, false, true, List, [], ◌∷◌, Option, Some, None, Result, IfOk, IfErr, codes, decimal}
use Rattle.std.specs.Bool.{OnFalse, OnTrue}
use Rattle.std.specs.Str.{bytes_eq}
use Rattle.prl_base.specs.Decimals.{decimal_of}
use Rattle.prl_spots.specs.Counted.{IsCounted}
use Rattle.prl_hints.specs.Hints.{IsHintTold}
use Rattle.prl_io.specs.Views.{FolderView, SinkView}
use Rattle.prl_io.specs.declared.endings.Stop.{Stop}
use Rattle.prl_io.specs.declared.endings.Stop.TheVariants as stops
use Rattle.prl_io.specs.Endings.{Ends}
use Rattle.prl_io.specs.Pairs.{are_pairs, value_of}
use Rattle.prl_plan.specs.Plans.{PlanView}
use Rattle.prl_schedules.specs.ScheduleTexts.{task_names}
use Rattle.prl_sentences.specs.declared.kinds.Detail.{Detail}
use Rattle.prl_sentences.specs.declared.kinds.Detail.TheVariants as details
use Rattle.prl_sentences.specs.declared.kinds.Kind.{Kind}
use Rattle.prl_sentences.specs.declared.kinds.Part.{Part}
use Rattle.prl_sentences.specs.declared.kinds.Part.TheVariants as parts
use Rattle.prl_sentences.specs.declared.kinds.Target.{Target}
use Rattle.prl_sentences.specs.declared.kinds.Target.TheVariants as targets
use Rattle.prl_sentences.specs.Kinds.{IsLineOf, argument_of, rest_of}
use Rattle.prl_sentences.specs.Sentences.{sentence_text, word_at}
use Rattle.prl_explain.specs.declared.explanations.TheConstants.{HELP, VERSION}
use Rattle.prl_explain.specs.declared.texts.Texts.{Texts}
use Rattle.prl_explain.specs.Details.{IsLeftIn, IsOfSchedule, IsOverloadIn, IsPlacingIn, IsPlanFrom, IsTableIn}
use Rattle.prl_nearest.specs.Nearest.{IsNearTold, IsNodesTold}
use Rattle.prl_tablefaults.specs.LoadTexts.{IsUnsteadyTold}
use Rattle.prl_spots.specs.Places.{lead, line_front, line_rest, place_of}
use Rattle.prl_shown.specs.Shown.{shown}
use Rattle.prl_explain.specs.Placings.{tasks_text}
use Rattle.prl_spots.specs.Spots.{IsSpot, byte_at}
use Rattle.prl_explain.specs.Texts.{AreNamed, Folder, IsStopOfFile, option_of, text_in}
use Rattle.prl_spots.specs.Twice.{IsTwice}
use Rattle.prl_spots.specs.Unexpected.{IsUnexpectedAt, IsWordTold}
use Rattle.prl_arguments.specs.Dashes.{before_dashes, from_dashes}
use Rattle.prl_arguments.specs.WrongTexts.{words_text}
use Rattle.prl_waytext.specs.Ways.{IsChainTold, IsCircleTold, IsClashTold, IsCycleTold}

-- the file in which a place is told
abbrev pub part_of : Target → Option Part
part_of targets.Nowhere = None
part_of (targets.Byte part) = Some part
part_of (targets.Line part) = Some part
part_of targets.Word = Some parts.Program
part_of targets.Task = Some parts.Program
part_of targets.Flow = Some parts.Program
part_of targets.Variable = Some parts.Program

abbrev pub all_options : List (List ℕ)
all_options =
    codes "--program" ∷ codes "--bodies" ∷ codes "--sensors" ∷ codes "--schedule" ∷ codes "--table" ∷ codes "--cores" ∷ codes "--plan" ∷ codes "--node" ∷ []

-- NAME:LINE:COLUMN
abbrev pub place_text : List ℕ → List ℕ → ℕ → List ℕ
place_text name source at =
    name ++ codes ":" ++ decimal (place_of source at).line ++ codes ":" ++ decimal (place_of source at).column ++ codes "\n"

-- a line that begins so, as it is shown, and goes on so, and below it a mark under what goes on
abbrev pub marked_line : List ℕ → List ℕ → List ℕ
marked_line front rest = front ++ shown true rest ++ codes "\n" ++ lead front ++ codes "^\n"

-- the line of a byte, and below it a mark under the byte
abbrev pub marked : List ℕ → ℕ → List ℕ
marked source at = marked_line (shown true (line_front source at)) (line_rest source at)

-- the line, its place in a file, and what is said of it
abbrev pub shown_text : Kind → List ℕ → List ℕ → List ℕ → ℕ → List ℕ
shown_text kind line name source at = line ++ place_text name source at ++ marked source at ++ sentence_text kind line

-- the line, where the file has its place that one, what is said of the line, and a hint that may be given at the place
abbrev pub IsTextAt : Kind → List ℕ → List ℕ → List ℕ → Option ℕ → List ℕ → Type 0
IsTextAt kind line name source None text = text ≡ line ++ sentence_text kind line
IsTextAt kind line name source (Some at) text =
    (hint : List ℕ) × IsHintTold source at hint × (text ≡ shown_text kind line name source at ++ hint)

-- the explanation of a line of a kind by a file: with the place that the line tells, where the file has it
abbrev pub IsByFile : Kind → List ℕ → List ℕ → List ℕ → List ℕ → Type 0
IsByFile kind line name source text =
    (found : Option ℕ) × IsSpot kind.target (argument_of kind line) source found
    × IsTextAt kind line name source found text

-- by the name and the bytes of the file, where both are there
abbrev pub IsByNamed : Kind → List ℕ → Option (List ℕ) → Option (List ℕ) → List ℕ → Type 0
IsByNamed kind line None source text = text ≡ line ++ sentence_text kind line
IsByNamed kind line (Some name) None text = text ≡ line ++ sentence_text kind line
IsByNamed kind line (Some name) (Some source) text = IsByFile kind line name source text

-- by the file in which the line tells a place, where it tells one
abbrev pub IsByPart : Kind → List ℕ → List (List ℕ) → Texts → Option Part → List ℕ → Type 0
IsByPart kind line words texts None text = text ≡ line ++ sentence_text kind line
IsByPart kind line words texts (Some part) text = IsByNamed kind line (value_of (option_of part) words) (text_in texts part) text

-- the line with its place and its sentence
abbrev pub IsFront : Kind → List ℕ → List (List ℕ) → Texts → List ℕ → Type 0
IsFront kind line words texts text = IsByPart kind line words texts (part_of kind.target) text

abbrev pub program_in : Texts → Option (List ℕ)
program_in texts = text_in texts parts.Program

-- what is told by the plan, where there is one
abbrev pub IfPlan : Option PlanView → (PlanView → List ℕ → Type 0) → List ℕ → Type 0
IfPlan None told text = text ≡ []
IfPlan (Some plan) told text = told plan text

abbrev pub IsByPlan : Texts → (PlanView → List ℕ → Type 0) → List ℕ → Type 0
IsByPlan texts told text =
    (found : Option PlanView) × IsPlanFrom (text_in texts parts.Plan) (program_in texts) texts.node found × IfPlan found told text

abbrev pub IsUnexpectedIn : Part → Option (List ℕ) → List ℕ → List ℕ → Type 0
IsUnexpectedIn part None number text = text ≡ []
IsUnexpectedIn parts.Program (Some source) number text = IsUnexpectedAt source (byte_at source number) text
IsUnexpectedIn part (Some source) number text = IsWordTold source (byte_at source number) text

abbrev pub IsTwiceIn : Option (List ℕ) → List ℕ → List ℕ → Type 0
IsTwiceIn None name text = text ≡ []
IsTwiceIn (Some source) name text = IsTwice source name text

-- what is told of numbers of flows that differ at a byte, where there is one
abbrev pub IsCountedAt : List ℕ → Option ℕ → List ℕ → Type 0
IsCountedAt source None text = text ≡ []
IsCountedAt source (Some at) text = IsCounted source at text

abbrev pub IsCountedIn : Option (List ℕ) → List ℕ → List ℕ → Type 0
IsCountedIn None number text = text ≡ []
IsCountedIn (Some source) number text = IsCountedAt source (decimal_of number) text

-- what is told of a name that the program does not know
abbrev pub IsNearIn : Option (List ℕ) → List ℕ → List ℕ → Type 0
IsNearIn None name text = text ≡ []
IsNearIn (Some source) name text = IsNearTold source name text

-- what is told where no node is main
abbrev pub AreNodesIn : Option (List ℕ) → List ℕ → Type 0
AreNodesIn None text = text ≡ []
AreNodesIn (Some source) text = IsNodesTold source text

-- how to ask which word of a command is wrong
unfoldable pub ask_text : List ℕ
ask_text =
    codes "Give the words of the command after `--`, as in `prelude_explain -- " ++ codes "check --program FILE`, and it is told which one is wrong.\n"

-- what is told of the words of the command that was refused, where they are given
abbrev pub words_told : Option (List (List ℕ)) → List ℕ
words_told None = ask_text
words_told (Some words) = words_text words

-- what is told beside, where this stands after the front of the line
abbrev pub IsDetail : Texts → Option (List (List ℕ)) → Detail → List ℕ → List ℕ → Type 0
IsDetail texts command details.Nothing rest text = text ≡ []
IsDetail texts command details.Words rest text = text ≡ words_told command
IsDetail texts command details.Twice rest text = IsTwiceIn (program_in texts) (word_at 0 rest) text
IsDetail texts command (details.Unexpected part) rest text = IsUnexpectedIn part (text_in texts part) (word_at 0 rest) text
IsDetail texts command details.Numbers rest text = IsCountedIn (program_in texts) (word_at 0 rest) text
IsDetail texts command (details.Broken rule) rest text =
    IsByPlan texts (λ plan told. IsOfSchedule plan (text_in texts parts.Schedule) (word_at 0 rest) rule told) text
IsDetail texts command details.Left rest text =
    IsByPlan texts (λ plan told. IsLeftIn plan (text_in texts parts.Schedule) (word_at 0 rest) (word_at 1 rest) told) text
IsDetail texts command details.Tasks rest text = IsByPlan texts (λ plan told. told ≡ tasks_text (task_names plan)) text
IsDetail texts command details.Placing rest text =
    IsByPlan texts (λ plan told. IsPlacingIn plan (text_in texts parts.Cores) (word_at 0 rest) told) text
IsDetail texts command details.Cycle rest text = IsCycleTold (program_in texts) texts.node (word_at 0 rest) text
IsDetail texts command details.Clocks rest text = IsClashTold (program_in texts) texts.node (word_at 0 rest) text
IsDetail texts command details.Chain rest text =
    IsChainTold (program_in texts) texts.node (word_at 0 rest) (word_at 1 rest) (word_at 3 rest) text
IsDetail texts command details.Circle rest text = IsCircleTold (program_in texts) texts.node text
IsDetail texts command details.Overload rest text =
    IsByPlan texts (λ plan told. IsOverloadIn plan (word_at 0 rest) (word_at 1 rest) (word_at 3 rest) told) text
IsDetail texts command details.Load rest text = IsByPlan texts (λ plan told. IsUnsteadyTold plan told) text
IsDetail texts command details.Table rest text = IsByPlan texts (λ plan told. IsTableIn plan (text_in texts parts.Table) told) text
IsDetail texts command details.Near rest text = IsNearIn (program_in texts) (word_at 0 rest) text
IsDetail texts command details.Nodes rest text = AreNodesIn (program_in texts) text

-- the explanation of a line of a kind, by the files that were read
abbrev pub IsOfKind : List (List ℕ) → Option (List (List ℕ)) → Texts → Kind → List ℕ → List ℕ → Type 0
IsOfKind words command texts kind line text =
    (front : List ℕ) × IsFront kind line words texts front
    × (detail : List ℕ) × IsDetail texts command kind.detail (rest_of kind line) detail
    × (text ≡ front ++ detail)

-- files are needed for what is told of a line: it tells a place, or something beside that is not of the command's words
abbrev pub needs_files : Target → Detail → Bool
needs_files targets.Nowhere details.Nothing = false
needs_files targets.Nowhere details.Words = false
needs_files target detail = true

-- the explanation of a line, by the files that the words name, where they are needed, and by those of the command that was refused,
-- as a terminal may show it
pub record IsExplanation (folder : Folder) (words : List (List ℕ)) (command : Option (List (List ℕ))) (line text : List ℕ) : Type 0 where
  pub kind : Kind
  pub is_line : IsLineOf kind line
  pub texts : Texts
  pub are_named : OnTrue (needs_files kind.target kind.detail) (AreNamed folder words texts)
  pub told : List ℕ
  pub is_told : IsOfKind words command texts kind line told
  pub is_text : text ≡ shown true told

-- what the options mean, behind the program's name and version
unfoldable pub help_text : List ℕ
help_text = codes "prelude_explain " ++ VERSION.now ++ codes "\n" ++ HELP.now

-- without words it may be what the options mean
abbrev pub IsAnswer : Folder → List (List ℕ) → Option (List (List ℕ)) → List ℕ → List ℕ → Type 0
IsAnswer folder words command line text = ((words ≡ []) × (text ≡ help_text)) ⊎ IsExplanation folder words command line text

-- why there is no explanation
abbrev pub IsStop : FolderView → FolderView → List (List ℕ) → Stop → Type 0
IsStop old new words (stops.Words form) = (are_pairs all_options words ≡ false) × (new.failed ≡ old.failed)
IsStop old new words (stops.Refused what) = new.failed ≡ old.failed
IsStop old new words (stops.Absent name) = IsStopOfFile old new words (stops.Absent name)
IsStop old new words (stops.TooLong name) = IsStopOfFile old new words (stops.TooLong name)
IsStop old new words (stops.Unread name) = IsStopOfFile old new words (stops.Unread name)
IsStop old new words stops.Memory = new.failed ≡ old.failed

-- the words ask for what the options mean
abbrev pub asks_help : List (List ℕ) → Bool
asks_help [] = false
asks_help (word ∷ []) = bytes_eq word (codes "--help")
asks_help (word ∷ other ∷ words) = false

-- what a call answers: its outcome, and how it ends
pub record Answers (words : List (List ℕ)) (line : List ℕ) (files files' : FolderView) (out out' err err' : SinkView)
    (code : ℕ) : Type 0 where
  pub outcome : Result (List ℕ) Stop
  pub ends : Ends (λ text. text) outcome out out' err err' code
  pub text : OnFalse (asks_help words) (IfOk outcome (IsAnswer files.folder (before_dashes words) (from_dashes words) line))
  pub stop : IfErr outcome (IsStop files files' (before_dashes words))
