-- What a command comes to over known files is how its call ends.
use Rattle.std.proofs.Common.{◌≡◌, ◌≤◌, ◌++◌, ℕ, Bool, List, [], ◌∷◌, drop, Option, Some, None, Result, refl, sym, ap, ◌∙◌, inl, inr, subst, arith}
use Rattle.std.proofs.lemmas.List.{append-nil}
use Rattle.prl_calls.specs.Stops.{AsksFor}
use Rattle.prl_endings.specs.Vocabulary.{AsksBy, files_of, IsAnswerOf, IsAnswerStop, IsTold, line_of, ran_of, status_of}
use Rattle.prl_endings.specs.declared.endings.Ending.{Ending}
use Rattle.prl_endings.specs.declared.endings.Status.{Status}
use Rattle.prl_app.specs.Vocabulary.{Answers, Outside, Ends, HasRead, IsEndOf, IsExact, IsOverrunOf, IsWrittenBy, Means, NoFault, NoneFailed, ReadsBy, line_is}
use Rattle.prl_app.specs.code.Performed.{Performs}
use Rattle.prl_endings.specs.declared.endings.Ending.TheVariants as endings
use Rattle.prl_stages.specs.Vocabulary.{Folder, Given, IsContent, IsGiven, IsGivenIn, IsGivenTo, content_of, file_of, Comes, stages_of, HasOverrun}
use Rattle.prl_stages.specs.declared.faults.Fault.{Fault}
use Rattle.prl_stages.specs.declared.faults.InputFile.{InputFile}
use Rattle.prl_stages.specs.declared.stages.Stage.{Stage}
use Rattle.prl_stages.specs.declared.stages.Stop.{Stop}
use Rattle.prl_stages.specs.declared.ran.Ran.{Ran}
use Rattle.prl_stages.specs.declared.faults.InputFile.TheVariants as parts
use Rattle.prl_stages.specs.declared.stages.Stop.TheVariants as stops
use Rattle.prl_arguments.specs.Arguments.{command_of}
use Rattle.prl_arguments.specs.declared.arguments.Command.{Command}
use Rattle.prl_arguments.specs.declared.arguments.Mode.{Mode}
use Rattle.prl_arguments.specs.declared.arguments.Mode.TheVariants as modes
use Rattle.prl_io.specs.Views.{FolderView, SinkView}
use Rattle.prl_exec.specs.declared.runs.Stopped.{Stopped}
use Rattle.prl_executions.specs.declared.running.Outcome.TheVariants as outcomes
use Rattle.prl_plan.specs.Plans.{PlanView}
use Rattle.prl_rule.specs.declared.views.Gate.{Gate}
use Rattle.prl_rule.specs.declared.views.Gate.TheVariants as gates

abbrev Content : Type 0
Content = Result (List ℕ) Fault

abbrev given_with : Content → Content → Content → Content → Content → Content → Bool → Option (List ℕ) → ℕ → Given
given_with program bodies sensors schedule table cores listed node until =
    record { program = program; bodies = bodies; sensors = sensors; schedule = schedule; table = table; cores = cores; listed = listed; node = node; until = until }

same_given : (a b : Given) → ((part : InputFile) → content_of a part ≡ content_of b part) → a.listed ≡ b.listed → a.node ≡ b.node → a.until ≡ b.until → a ≡ b
same_given a b c l n u =
    ap (λ x. given_with x a.bodies a.sensors a.schedule a.table a.cores a.listed a.node a.until) (c parts.Program)
    ∙ ap (λ x. given_with b.program x a.sensors a.schedule a.table a.cores a.listed a.node a.until) (c parts.Bodies)
    ∙ ap (λ x. given_with b.program b.bodies x a.schedule a.table a.cores a.listed a.node a.until) (c parts.Sensors)
    ∙ ap (λ x. given_with b.program b.bodies b.sensors x a.table a.cores a.listed a.node a.until) (c parts.Schedule)
    ∙ ap (λ x. given_with b.program b.bodies b.sensors b.schedule x a.cores a.listed a.node a.until) (c parts.Table)
    ∙ ap (λ x. given_with b.program b.bodies b.sensors b.schedule b.table x a.listed a.node a.until) (c parts.Cores)
    ∙ ap (λ x. given_with b.program b.bodies b.sensors b.schedule b.table b.cores x a.node a.until) l
    ∙ ap (λ x. given_with b.program b.bodies b.sensors b.schedule b.table b.cores b.listed x a.until) n
    ∙ ap (λ x. given_with b.program b.bodies b.sensors b.schedule b.table b.cores b.listed b.node x) u

one_content : (folder : Folder) (part : InputFile) (name : Option (List ℕ)) (x y : Content) → IsContent (Some folder) part name x → IsContent (Some folder) part name y → x ≡ y
one_content folder part None x y h k = h ∙ sym k
one_content folder part (Some name) x y h k = h ∙ sym k

-- known files give one thing
one_given : (folder : Folder) (c : Command) (a b : Given) → IsGiven (Some folder) c a → IsGiven (Some folder) c b → a ≡ b
one_given folder c a b h k =
    same_given a b (λ part. one_content folder part (file_of c part) (content_of a part) (content_of b part) (h.contents part) (k.contents part))
    (h.listed ∙ sym k.listed) (h.node ∙ sym k.node) (h.until ∙ sym k.until)

one_given_in : (mode : Mode) (folder : Folder) (c : Command) (a b : Given) → IsGivenIn mode (Some folder) c a → IsGivenIn mode (Some folder) c b → a ≡ b
one_given_in modes.Check folder c a b h k = one_given folder c a b h k
one_given_in modes.Cores folder c a b h k = one_given folder c a b h k
one_given_in modes.Cycle folder c a b h k = one_given folder c a b h k
one_given_in modes.Edf folder c a b h k = one_given folder c a b h k
one_given_in modes.Flows folder c a b h k = one_given folder c a b h k
one_given_in modes.Plan folder c a b h k = one_given folder c a b h k
one_given_in modes.Print folder c a b h k = one_given folder c a b h k
one_given_in modes.Replay folder c a b h k = one_given folder c a b h k
one_given_in modes.Run folder c a b h k = one_given folder c a b h k
one_given_in modes.Schedule folder c a b h k = one_given folder c a b h k
one_given_in modes.Table folder c a b h k = one_given folder c a b h k
one_given_in modes.Generate folder c a b h k = h ∙ sym k

some_same : (o : Option Command) (a b : Command) → o ≡ Some a → o ≡ Some b → a ≡ b
some_same o a b h k = cc

none_some : (o : Option Command) (a : Command) → o ≡ None → o ≡ Some a → ⊥
none_some o a h k = cc

abbrev outside : FolderView → SinkView → SinkView → Outside
outside files out err = record { files = files; out = out; err = err }

-- the law of the stages
abbrev pub OneEnd : Type 0
OneEnd = (g : Given) (list : List Stage) (a b : Option (Stage × Fault)) → Comes g list a → Comes g list b → a ≡ b

module _ (law : OneEnd) (words : List (List ℕ)) (told : Option Folder) (folder : Folder) (known : told ≡ Some folder) where
  one_way : (c d : Command) → command_of words ≡ Some c → command_of words ≡ Some d → (g h : Given) → IsGivenTo told c g → IsGivenTo (Some folder) d h
      → (a b : Option (Stage × Fault)) → Comes g (stages_of c) a → Comes h (stages_of d) b → a ≡ b
  one_way c d ac ad g h gg gh a b ca cb =
      let same = some_same (command_of words) c d ac ad in
      let given : IsGivenTo (Some folder) c g = subst (λ (t : Option Folder). IsGivenTo t c g) known gg in
      let given : IsGivenTo (Some folder) d g = subst (λ (x : Command). IsGivenTo (Some folder) x g) same given in
      let comes : Comes g (stages_of d) a = subst (λ (x : Command). Comes g (stages_of x) a) same ca in
      let comes : Comes h (stages_of d) a = subst (λ (x : Given). Comes x (stages_of d) a) (one_given_in d.mode folder d g h given gh) comes in
      law h (stages_of d) a b comes cb

-- a list with a name more is another one
one_more : (names : List (List ℕ)) (name : List ℕ) → names ++ (name ∷ []) ≡ names → ⊥
one_more [] name e = cc
one_more (first ∷ rest) name e = one_more rest name (ap (drop 1) e)

same_files : (old new : Outside) (end : Option (Stage × Fault)) → NoFault old new end → NoneFailed old new
same_files old new None h = h.0
same_files old new (Some end) h = h

pub exact_by : OneEnd → (words : List (List ℕ)) (old new : Outside) (ending : Ending) → Ends words old new ending → IsExact words old new ending
exact_by law words old new (endings.Done ran) cause folder known d asked h given end comes none =
    let m = cause.1 in
    let same = one_way law words old.files.folder folder known m.command d m.asked asked m.given h m.is_given given None end m.comes comes in
    inl (subst (λ (e : Option (Stage × Fault)). IsEndOf e (endings.Done ran)) same (ran, refl))
exact_by law words old new (endings.Unwritten ran) cause folder known d asked h given end comes none =
    let m = cause.1 in
    let e = one_way law words old.files.folder folder known m.command d m.asked asked m.given h m.is_given given None end m.comes comes in
    let still : NoFault old new None = subst (NoFault old new) (sym e) none in
    let same = still.1 in
    let more = cause.2.counted in absurd (omega (arith, same, more))
exact_by law words old new endings.Words cause folder known d asked h given end comes none = absurd (none_some (command_of words) d cause.0 asked)
exact_by law words old new (endings.Stopped (stops.Unread part)) cause folder known d asked h given end comes none =
    let same = same_files old new end none in
    absurd (one_more old.files.failed cause.0.name (sym cause.0.failed ∙ same))
exact_by law words old new (endings.Stopped (stops.Refused stage fault)) cause folder known d asked h given end comes none =
    let m = cause.0 in
    let same = one_way law words old.files.folder folder known m.command d m.asked asked m.given h m.is_given given (Some (stage, fault)) end m.comes comes in
    inl (subst (λ (e : Option (Stage × Fault)). IsEndOf e (endings.Stopped (stops.Refused stage fault))) same refl)
exact_by law words old new (endings.Stopped stops.Memory) cause folder known d asked h given end comes none = inr (inl refl)
exact_by law words old new (endings.Overrun plan stopped) cause folder known d asked h given end comes none =
    let m = cause.0 in
    let same = one_way law words old.files.folder folder known m.asks.command d m.asks.asked asked m.given h m.is_given given None end m.comes comes in
    let mine = some_same (command_of words) m.asks.command d m.asks.asked asked in
    inr (inr (sym same, subst (λ (c : Command). IsOverrunOf c (endings.Overrun plan stopped)) mine (m.asks.mode, m.asks.several, m.clock, plan, stopped, refl)))

-- what a call says, from how it ended
pub answers_by : OneEnd → (words : List (List ℕ)) (old new : Outside) (status : Status) (command : Option Command) (ending : Ending)
    → status.code ≡ status_of ending → status.ran ≡ ran_of ending → Ends words old new ending → line_is words command ending
    → IsTold old.err new.err (line_of command ending) → HasRead words old.files new.files ending → new.files.folder ≡ old.files.folder → Answers words old new status
answers_by law words old new status command ending code ran ends line told read folder = record {
  ending = ending;
  code = code;
  ran = ran;
  ends = ends;
  told = subst (IsTold old.err new.err) line told;
  exact = exact_by law words old new ending ends;
  read = read;
  folder = folder;
}

-- what a command has written
pub written_ends : (words : List (List ℕ)) (old new : Outside) (text : List ℕ) (ran : Ran) (ending : Ending) → Means words old.files.folder text ran
    → IsWrittenBy old.out new.out text ran ending → NoneFailed old new → Ends words old new ending
written_ends words old new text ran ending means (inl h) none = subst (Ends words old new) (sym h.0) (text, means, h.1, none)
written_ends words old new text ran ending means (inr h) none = subst (Ends words old new) (sym h.0) (text, means, h.1, none)

-- why there is no text
stop_ends : (words : List (List ℕ)) (old new : Outside) (c : Command) → command_of words ≡ Some c → (stop : Stop) → IsAnswerStop old.files new.files c stop
    → new.out ≡ old.out → Ends words old new (endings.Stopped stop)
stop_ends words old new c asked (stops.Unread part) h same =
    let at = h.0.2 in (
      record {
        command = c;
        asked = asked;
        name = h.1;
        named = h.2;
        failed = h.3;
        given = h.0.0;
        is_given = h.0.1;
        before = at.before;
        after = at.after;
        stands = at.stands;
        hold = at.hold;
      },
      same,
    )
stop_ends words old new c asked (stops.Refused stage fault) h same =
    (record { command = c; asked = asked; given = h.0.0; is_given = h.0.1; comes = h.0.2 }, same, h.1)
stop_ends words old new c asked stops.Memory h same = (same, h)

pub stop_performs : (words : List (List ℕ)) (old new : FolderView) (out : SinkView) (c : Command) → command_of words ≡ Some c → (stop : Stop)
    → IsAnswerStop old new c stop → Performs words old new out out (endings.Stopped stop)
stop_performs words old new out c asked stop h err_old err_new = stop_ends words (outside old out err_old) (outside new out err_new) c asked stop h refl

-- a run that was overrun
pub overrun_ends : (words : List (List ℕ)) (old new : Outside) (c : Command) → command_of words ≡ Some c → c.mode ≡ modes.Run → 2 ≤ c.workers → (plan : PlanView) (stopped : Stopped)
    → IsAnswerOf old.files.folder c (outcomes.Overrun plan stopped) → new.out ≡ old.out → NoneFailed old new → Ends words old new (endings.Overrun plan stopped)
overrun_ends words old new c asked mode several plan stopped of same none =
    let overrun = of.3 in
    let free : c.clock ≡ gates.Free = overrun.run.gate in (
      record {
        asks = record { command = c; asked = asked; mode = mode; several = several };
        clock = free;
        given = of.0;
        is_given = of.1;
        comes = of.2;
        overrun = subst (λ (gate : Gate). HasOverrun of.0 gate plan stopped) free overrun;
      },
      same,
      none,
    )

-- what a command has read whose text was written
pub written_reads : (c : Command) (old new : FolderView) (out out' : SinkView) (text : List ℕ) (ran : Ran) (ending : Ending) → IsWrittenBy out out' text ran ending
    → AsksFor old new c (files_of c.mode) → ReadsBy c old new ending
written_reads c old new out out' text ran ending (inl h) asked = subst (ReadsBy c old new) (sym h.0) asked
written_reads c old new out out' text ran ending (inr h) asked = subst (ReadsBy c old new) (sym h.0) asked

-- the command of the words has read so
pub read_by : (words : List (List ℕ)) (c : Command) → command_of words ≡ Some c → (old new : FolderView) (ending : Ending) → ReadsBy c old new ending → HasRead words old new ending
read_by words c asked old new ending h = record {
  none = λ none. absurd (none_some (command_of words) c none asked);
  some = λ d is. subst (λ (x : Command). ReadsBy x old new ending) (some_same (command_of words) c d asked is) h;
}

-- words that are no command have read nothing
pub read_none : (words : List (List ℕ)) → command_of words ≡ None → (old : FolderView) (ending : Ending) → HasRead words old old ending
read_none words none old ending = record { none = λ _. refl; some = λ c is. absurd (none_some (command_of words) c none is) }

nothing_asked : (mode : Mode) (old : FolderView) (c : Command) → AsksBy mode old old c stops.Memory
nothing_asked modes.Check old c = (0, sym (append-nil old.asked))
nothing_asked modes.Cores old c = (0, sym (append-nil old.asked))
nothing_asked modes.Cycle old c = (0, sym (append-nil old.asked))
nothing_asked modes.Edf old c = (0, sym (append-nil old.asked))
nothing_asked modes.Flows old c = (0, sym (append-nil old.asked))
nothing_asked modes.Plan old c = (0, sym (append-nil old.asked))
nothing_asked modes.Print old c = (0, sym (append-nil old.asked))
nothing_asked modes.Replay old c = (0, sym (append-nil old.asked))
nothing_asked modes.Run old c = (0, sym (append-nil old.asked))
nothing_asked modes.Schedule old c = (0, sym (append-nil old.asked))
nothing_asked modes.Table old c = (0, sym (append-nil old.asked))
nothing_asked modes.Generate old c = sym (append-nil old.asked)

-- nothing was read before memory ran out
pub read_nothing : (words : List (List ℕ)) (old : FolderView) → HasRead words old old (endings.Stopped stops.Memory)
read_nothing words old = record { none = λ _. refl; some = λ c is. nothing_asked c.mode old c }
