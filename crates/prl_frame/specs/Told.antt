-- What is told: the frame of a good table.
use Rattle.std.specs.Prelude.{◌≡◌, ℕ, Bool, List, Ok, Some, IfSome, codes, cond}
use Rattle.prl_io.specs.Faults.{Folder}
use Rattle.prl_io.specs.Pairs.{value_of}
use Rattle.prl_plan.specs.Plans.{PlanView}
use Rattle.prl_plantext.specs.ReadTexts.{IsTextOf}
use Rattle.prl_overlaps.specs.declared.entries.Entry.{Entry}
use Rattle.prl_tables.specs.Tables.{IsGood}
use Rattle.prl_tables.specs.TableTexts.{entries_of}
use Rattle.prl_forever.specs.TableRuns.{goes_to}
use Rattle.prl_frames.specs.Frames.{IsFrame}
use Rattle.prl_frames.specs.declared.slots.Slot.{Slot}
use Rattle.prl_frametext.specs.Objects.{json_text}
use Rattle.prl_frametext.specs.Texts.{frame_text}
use Rattle.prl_frame.specs.Options.{asks_json, file_of, other_words}

-- the file that the words name for this option has this text
abbrev pub HasText : Folder → List (List ℕ) → List ℕ → List ℕ → Type 0
HasText folder words option source = (value_of option words ≡ Some (file_of option words)) × IfSome folder (λ f. f (file_of option words) ≡ Some source)

-- the text of the frame of these entries, which are good, as lines or as JSON
abbrev pub IsFrameText : PlanView → List Entry → Bool → List ℕ → Type 0
IsFrameText plan entries json text =
    (slots : List Slot) × IsGood plan entries × IsFrame plan.graph (goes_to plan.graph entries) slots
    × (text ≡ cond json (json_text plan.graph slots) (frame_text plan.graph slots))

-- of the table that a text tells of a plan
abbrev pub IsToldOf : PlanView → List ℕ → Bool → List ℕ → Type 0
IsToldOf plan source json text = (entries : List Entry) × (entries_of plan.graph.hyper source ≡ Ok entries) × IsFrameText plan entries json text

-- of the table that the file has
abbrev pub IsTableTold : Folder → List (List ℕ) → PlanView → Bool → List ℕ → Type 0
IsTableTold folder words plan json text = (source : List ℕ) × HasText folder words (codes "--table") source × IsToldOf plan source json text

-- and of the plan that the file has
abbrev pub IsToldBy : Bool → Folder → List (List ℕ) → List ℕ → Type 0
IsToldBy json folder words text =
    (source : List ℕ) × (plan : PlanView) × HasText folder words (codes "--plan") source × IsTextOf plan source × IsTableTold folder words plan json text

-- what the words ask for, as lines, or as JSON where they ask for it
abbrev pub IsTold : Folder → List (List ℕ) → List ℕ → Type 0
IsTold folder words text = IsToldBy (asks_json words) folder (other_words words) text
