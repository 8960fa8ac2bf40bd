-- What answers a command: its files, its stages, and what its mode means.
use Rattle.prl_base.proofs.Standard.{◌≡◌, ◌++◌, ℕ, Bool, List, ◌∷◌, Option, Some, None, Result, Ok, Err, IfErr, refl, sym, ap, ◌∙◌, subst, append_assoc, append-nil, is_some}
use Rattle.prl_io.specs.Views.{FolderView}
use Rattle.prl_stages.specs.Vocabulary.{IsMeant, IsMeantIn, IsSummary, Folder, Given, IsGiven, IsGivenIn, generated, Comes, all_files, files, front, ran, stages_after, stages_of}
use Rattle.prl_stages.specs.declared.stages.Stage.{Stage}
use Rattle.prl_stages.specs.declared.stages.Stop.{Stop}
use Rattle.prl_stages.specs.declared.ran.Ran.{Ran}
use Rattle.prl_stages.specs.declared.stages.Stage.TheVariants as stages
use Rattle.prl_stages.specs.declared.stages.Stop.TheVariants as stops
use Rattle.prl_calls.specs.declared.reading.Request.{Request}
use Rattle.prl_arguments.specs.declared.arguments.Command.{Command}
use Rattle.prl_arguments.specs.declared.arguments.Mode.{Mode}
use Rattle.prl_arguments.specs.declared.arguments.Mode.TheVariants as modes
use Rattle.prl_executions.specs.declared.running.Outcome.{Outcome}
use Rattle.prl_executions.specs.declared.running.Outcome.TheVariants as outcomes
use Rattle.prl_endings.specs.Vocabulary.{AsksBy, IsAnswer, IsAnswerOf, IsAnswerStop, HasFiles, files_of}
use Rattle.prl_calls.specs.Stops.{AsksFor, AsksTo, IsReached, given_of, IsRequestOf, StopsIn, AllHold, IsStopOfFiles}
use Rattle.prl_executions.specs.Ready.{IsOutcome}
use Rattle.prl_calls.proofs.Stops.{stops_comes, stops_unread, hold_comes, after_holds, first_refused}

-- a stage that is reached in the first of two lists is reached in both
first_reached : (g : Given) (first rest : List Stage) (stage : Stage) → IsReached g first stage → IsReached g (first ++ rest) stage
first_reached g first rest stage r = record {
  before = r.before;
  after = r.after ++ rest;
  stands = ap (λ (list : List Stage). list ++ rest) r.stands ∙ append_assoc r.before (stage ∷ r.after) rest;
  hold = r.hold;
}

-- the files of a command whose texts are read
files_hold : (r : Request) → AllHold (given_of r) files
files_hold r = ((r.texts.program.items, refl), ((r.texts.bodies.items, refl), ((r.texts.sensors.items, refl), ((r.texts.schedule.items, refl), ((r.texts.table.items, refl), ((r.texts.cores.items, refl), tt))))))

-- texts of files are what is given to a command in a mode that has files
pub given_to : (mode : Mode) → HasFiles mode → (told : Option Folder) (c : Command) (g : Given) → IsGiven told c g → IsGivenIn mode told c g
given_to modes.Check h told c g is = is
given_to modes.Cores h told c g is = is
given_to modes.Cycle h told c g is = is
given_to modes.Edf h told c g is = is
given_to modes.Flows h told c g is = is
given_to modes.Plan h told c g is = is
given_to modes.Print h told c g is = is
given_to modes.Replay h told c g is = is
given_to modes.Run h told c g is = is
given_to modes.Schedule h told c g is = is
given_to modes.Table h told c g is = is
given_to modes.Generate h told c g is = absurd h

-- the stages after the files hold
pub files_answered : (told : Option Folder) (c : Command) (r : Request) → IsRequestOf told c r
    → AllHold (given_of r) (stages_after c.mode r.named) → Comes (given_of r) (stages_of c) None
files_answered told c r is hold =
    let list = stages_after c.mode (is_some c.bodies) in
    let hold : AllHold (given_of r) list = subst (λ (b : Bool). AllHold (given_of r) (stages_after c.mode b)) is.named hold in
    after_holds (given_of r) files list None (files_hold r) (hold_comes (given_of r) list hold)

-- what the command means answers it
pub answered : (told : Option Folder) (c : Command) (r : Request) → HasFiles c.mode → IsRequestOf told c r → (text : List ℕ) (done : Ran) → IsMeant (given_of r) c text done
    → AllHold (given_of r) (stages_after c.mode r.named) → IsAnswer told c text done
answered told c r mode is text done means hold = (given_of r, given_to c.mode mode told c (given_of r) is.given, files_answered told c r is hold, means)

-- what several workers have come to answers it
pub outcome_answered : (told : Option Folder) (c : Command) → c.mode ≡ modes.Run → (r : Request) → IsRequestOf told c r → (outcome : Outcome) → IsOutcome (given_of r) c.clock outcome
    → AllHold (given_of r) (front ++ ran) → IsAnswerOf told c outcome
outcome_answered told c mode r is (outcomes.Ended text done) means hold =
    answered told c r (subst HasFiles (sym mode) tt) is text.items done (subst (λ (m : Mode). IsMeantIn m (given_of r) c text.items done) (sym mode) means)
    (subst (λ (m : Mode). AllHold (given_of r) (stages_after m r.named)) (sym mode) hold)
outcome_answered told c mode r is (outcomes.Overrun plan stopped) means hold = (
  given_of r,
  given_to c.mode (subst HasFiles (sym mode) tt) told c (given_of r) is.given,
  files_answered told c r is (subst (λ (m : Mode). AllHold (given_of r) (stages_after m r.named)) (sym mode) hold),
  means,
)

-- the stages after the files stop
pub answer_stop : (old new : FolderView) (c : Command) (r : Request) (stop : Stop) → HasFiles c.mode → IsRequestOf old.folder c r
    → new.failed ≡ old.failed → StopsIn (given_of r) (stages_after c.mode r.named) stop → IsAnswerStop old new c stop
answer_stop old new c r (stops.Unread part) mode is none k = absurd (stops_unread (given_of r) (stages_after c.mode r.named) part k)
answer_stop old new c r (stops.Refused stage fault) mode is none k =
    let comes = stops_comes (given_of r) (stages_after c.mode r.named) stage fault k in
    let comes : Comes (given_of r) (stages_after c.mode (is_some c.bodies)) (Some (stage, fault)) =
    subst (λ (b : Bool). Comes (given_of r) (stages_after c.mode b) (Some (stage, fault))) is.named comes in
    ((given_of r, given_to c.mode mode old.folder c (given_of r) is.given, after_holds (given_of r) files (stages_after c.mode (is_some c.bodies)) (Some (stage, fault)) (files_hold r) comes), none)
answer_stop old new c r stops.Memory mode is none k = none

-- the files stop
pub files_stop : (old new : FolderView) (c : Command) (stop : Stop) → HasFiles c.mode → IsStopOfFiles old new c stop → IsAnswerStop old new c stop
files_stop old new c (stops.Unread part) mode h =
    let reached = first_reached h.0.0 files (stages_after c.mode (is_some c.bodies)) (stages.File part) h.0.2 in
    ((h.0.0, given_to c.mode mode old.folder c h.0.0 h.0.1, reached), h.1, h.2, h.3)
files_stop old new c (stops.Refused stage fault) mode h =
    ((h.0.0, given_to c.mode mode old.folder c h.0.0 h.0.1, first_refused h.0.0 files (stages_after c.mode (is_some c.bodies)) (stage, fault) h.0.2), h.1)
files_stop old new c stops.Memory mode h = h

-- generated texts answer the command, or a stage refuses them
pub generated_answered : (told : Option Folder) (c : Command) → c.mode ≡ modes.Generate → (r : Request) → given_of r ≡ generated c.seed c.size
    → (text : List ℕ) (done : Ran) → IsSummary (given_of r) c.seed c.size text done → AllHold (given_of r) (front ++ ran) → IsAnswer told c text done
generated_answered told c mode r given text done means hold =
    let g = given_of r in (
      g,
      subst (λ (m : Mode). IsGivenIn m told c g) (sym mode) given,
      subst (λ (m : Mode). Comes g (files ++ stages_after m (is_some c.bodies)) None) (sym mode)
          (after_holds g files (front ++ ran) None (files_hold r) (hold_comes g (front ++ ran) hold)),
      subst (λ (m : Mode). IsMeantIn m g c text done) (sym mode) means,
    )

pub generated_stop : (c : Command) → c.mode ≡ modes.Generate → (r : Request) → given_of r ≡ generated c.seed c.size → (stop : Stop)
    → StopsIn (given_of r) (front ++ ran) stop → (old : FolderView) → IsAnswerStop old old c stop
generated_stop c mode r given (stops.Unread part) k old = absurd (stops_unread (given_of r) (front ++ ran) part k)
generated_stop c mode r given (stops.Refused stage fault) k old =
    let g = given_of r in
    let comes = after_holds g files (front ++ ran) (Some (stage, fault)) (files_hold r) (stops_comes g (front ++ ran) stage fault k) in (
      (
        g,
        subst (λ (m : Mode). IsGivenIn m old.folder c g) (sym mode) given,
        subst (λ (m : Mode). Comes g (files ++ stages_after m (is_some c.bodies)) (Some (stage, fault))) (sym mode) comes,
      ),
      refl,
    )
generated_stop c mode r given stops.Memory k old = refl

-- a mode that has files reads all of them
pub asked_by_files : (mode : Mode) → HasFiles mode → (old new : FolderView) (c : Command) → AsksFor old new c all_files → AsksFor old new c (files_of mode)
asked_by_files modes.Check has old new c h = h
asked_by_files modes.Cores has old new c h = h
asked_by_files modes.Cycle has old new c h = h
asked_by_files modes.Edf has old new c h = h
asked_by_files modes.Flows has old new c h = h
asked_by_files modes.Plan has old new c h = h
asked_by_files modes.Print has old new c h = h
asked_by_files modes.Replay has old new c h = h
asked_by_files modes.Run has old new c h = h
asked_by_files modes.Schedule has old new c h = h
asked_by_files modes.Table has old new c h = h
asked_by_files modes.Generate has old new c h = absurd has

pub asks_by_files : (mode : Mode) → HasFiles mode → (old new : FolderView) (c : Command) (stop : Stop) → AsksTo old new c stop → AsksBy mode old new c stop
asks_by_files modes.Check has old new c stop h = h
asks_by_files modes.Cores has old new c stop h = h
asks_by_files modes.Cycle has old new c stop h = h
asks_by_files modes.Edf has old new c stop h = h
asks_by_files modes.Flows has old new c stop h = h
asks_by_files modes.Plan has old new c stop h = h
asks_by_files modes.Print has old new c stop h = h
asks_by_files modes.Replay has old new c stop h = h
asks_by_files modes.Run has old new c stop h = h
asks_by_files modes.Schedule has old new c stop h = h
asks_by_files modes.Table has old new c stop h = h
asks_by_files modes.Generate has old new c stop h = absurd has

-- `generate` reads none
pub none_asked : (mode : Mode) → mode ≡ modes.Generate → (old : FolderView) (c : Command) → AsksFor old old c (files_of mode)
none_asked mode is old c = subst (λ (m : Mode). AsksFor old old c (files_of m)) (sym is) (sym (append-nil old.asked))

pub none_asks : (mode : Mode) → mode ≡ modes.Generate → (old : FolderView) (c : Command) (stop : Stop) → AsksBy mode old old c stop
none_asks mode is old c stop = subst (λ (m : Mode). AsksBy m old old c stop) (sym is) (sym (append-nil old.asked))

-- what holds of faults
pub err_map : {X F : Type 0} (r : Result X F) (P Q : F → Type 0) → ((e : F) → P e → Q e) → IfErr r P → IfErr r Q
err_map (Ok x) P Q f h = tt
err_map (Err e) P Q f h = f e h
