-- Which readings are asked for, one file after another.
use Rattle.prl_base.proofs.Standard.{◌≡◌, ◌++◌, ℕ, Bool, true, false, List, [], ◌∷◌, take, Option, Some, None, refl, sym, ap, ◌∙◌, subst, inl, inr, append_assoc}
use Rattle.prl_arguments.specs.declared.arguments.Command.{Command}
use Rattle.prl_io.specs.Views.{FolderView}
use Rattle.prl_arguments.specs.declared.arguments.Mode.{Mode}
use Rattle.prl_arguments.specs.declared.arguments.Mode.TheVariants as modes
use Rattle.prl_stages.specs.Vocabulary.{Given, all_files, file_of, named_first, names_of, stages_after, up_to}
use Rattle.prl_stages.specs.declared.faults.Fault.{Fault}
use Rattle.prl_stages.specs.declared.faults.InputFile.{InputFile}
use Rattle.prl_stages.specs.declared.faults.InputFile.TheVariants as parts
use Rattle.prl_stages.specs.declared.stages.Stage.{Stage}
use Rattle.prl_stages.specs.declared.stages.Stage.TheVariants as stages
use Rattle.prl_stages.specs.declared.stages.Stop.{Stop}
use Rattle.prl_stages.specs.declared.stages.Stop.TheVariants as stops
use Rattle.prl_calls.specs.Stops.{AsksAt, AsksFor, AsksForFirst, AsksTo, IsFileStop, StopsIn}

first_of : (name : Option (List ℕ)) (names : List (List ℕ)) → named_first name names ≡ named_first name [] ++ names
first_of None names = refl
first_of (Some name) names = refl

names_of_two : (c : Command) (first rest : List InputFile) → names_of c (first ++ rest) ≡ names_of c first ++ names_of c rest
names_of_two c [] rest = refl
names_of_two c (part ∷ first) rest =
    ap (named_first (file_of c part)) (names_of_two c first rest)
    ∙ first_of (file_of c part) (names_of c first ++ names_of c rest)
    ∙ sym (append_assoc (named_first (file_of c part) []) (names_of c first) (names_of c rest))
    ∙ ap (λ (names : List (List ℕ)). names ++ names_of c rest) (sym (first_of (file_of c part) (names_of c first)))

-- files one after the other
pub asks_two : (old mid new : FolderView) (c : Command) (first rest : List InputFile) → AsksFor old mid c first → AsksFor mid new c rest → AsksFor old new c (first ++ rest)
asks_two old mid new c first rest one two =
    two ∙ ap (λ (names : List (List ℕ)). names ++ names_of c rest) one
    ∙ append_assoc old.asked (names_of c first) (names_of c rest)
    ∙ ap (λ (names : List (List ℕ)). old.asked ++ names) (sym (names_of_two c first rest))

-- how many files are read up to one
count_of : (part : InputFile) → (count : ℕ) × (up_to part ≡ take count all_files)
count_of parts.Program = (1, refl)
count_of parts.Bodies = (2, refl)
count_of parts.Sensors = (3, refl)
count_of parts.Schedule = (4, refl)
count_of parts.Table = (5, refl)
count_of parts.Cores = (6, refl)

-- the reading of one of the files stops, when those up to it were asked for
pub asks_to : (old mid new : FolderView) (c : Command) (part : InputFile) (name : Option (List ℕ)) (stop : Stop) → IsFileStop mid new part name stop
    → AsksFor old new c (up_to part) → AsksTo old new c stop
asks_to old mid new c part name (stops.Unread at) h asked = subst (λ (p : InputFile). AsksFor old new c (up_to p)) (sym h.0) asked
asks_to old mid new c part name (stops.Refused stage fault) h asked = subst (λ (s : Stage). AsksTo old new c (stops.Refused s fault)) (sym h.0) asked
asks_to old mid new c part name stops.Memory h asked = let n = count_of part in (n.0, subst (AsksFor old new c) n.1 asked)

-- stages after the files
abbrev pub AreLater : List Stage → Type 0
AreLater [] = Unit {0}
AreLater (stages.File part ∷ rest) = ⊥
AreLater (_ ∷ rest) = AreLater rest

both_later : (stage : Stage) (rest : List Stage) → AreLater (stage ∷ rest) → AreLater (stage ∷ []) × AreLater rest
both_later (stages.File part) rest k = absurd k
both_later _ rest k = (tt, k)

asks_at : (old new : FolderView) (c : Command) (stage : Stage) → AreLater (stage ∷ []) → AsksFor old new c all_files → AsksAt old new c stage
asks_at old new c (stages.File part) k h = absurd k
asks_at old new c _ k h = h

-- a stage of a list after the files stops, when all files were read
pub asks_after : (old new : FolderView) (c : Command) (g : Given) (list : List Stage) → AreLater list → (stop : Stop) → StopsIn g list stop
    → AsksFor old new c all_files → AsksTo old new c stop
asks_after old new c g [] k stop h asked = absurd h
asks_after old new c g (stage ∷ rest) k (stops.Unread part) h asked = elim h [
  | inl x ↦ absurd x
  | inr x ↦ asks_after old new c g rest (both_later stage rest k).1 (stops.Unread part) x.1 asked
]
asks_after old new c g (stage ∷ rest) k (stops.Refused at fault) h asked = elim h [
  | inl x ↦ subst (AsksAt old new c) (sym x.0) (asks_at old new c stage (both_later stage rest k).0 asked)
  | inr x ↦ asks_after old new c g rest (both_later stage rest k).1 (stops.Refused at fault) x.1 asked
]
asks_after old new c g (stage ∷ rest) k stops.Memory h asked = (6, asked)

-- those of a mode are
pub later_stages : (mode : Mode) (named : Bool) → AreLater (stages_after mode named)
later_stages modes.Print named = tt
later_stages modes.Plan named = tt
later_stages modes.Check true = tt
later_stages modes.Check false = tt
later_stages modes.Flows named = tt
later_stages modes.Schedule named = tt
later_stages modes.Edf named = tt
later_stages modes.Table named = tt
later_stages modes.Replay named = tt
later_stages modes.Cores named = tt
later_stages modes.Run named = tt
later_stages modes.Generate named = tt
later_stages modes.Cycle named = tt
