-- The files of a command, as they are read one after another.
use Rattle.prl_base.proofs.Standard.{◌≡◌, ◌++◌, ℕ, List, [], ◌∷◌, take, drop, Option, Some, None, Result, Ok, Err, refl, sym, ap, ◌∙◌, inl, inr, subst, arith, is_some}
use Rattle.prl_arguments.specs.declared.arguments.Command.{Command}
use Rattle.prl_io.specs.Views.{FolderView}
use Rattle.prl_stages.specs.Vocabulary.{Folder, Given, IsContent, IsGiven, file_of, content_of, read_as, Comes, Refuses, files}
use Rattle.prl_stages.specs.declared.faults.Fault.{Fault}
use Rattle.prl_stages.specs.declared.faults.InputFile.{InputFile}
use Rattle.prl_stages.specs.declared.stages.Stage.{Stage}
use Rattle.prl_stages.specs.declared.stages.Stop.{Stop}
use Rattle.prl_stages.specs.declared.faults.InputFile.TheVariants as parts
use Rattle.prl_stages.specs.declared.stages.Stage.TheVariants as stages
use Rattle.prl_stages.specs.declared.stages.Stop.TheVariants as stops
use Rattle.prl_calls.specs.Stops.{IsReached, IsFileStop, IsStopOfFiles}

-- what a file may give
abbrev Content : Option Folder → Command → InputFile → Type 0
Content told c part = (content : Result (List ℕ) Fault) × IsContent told part (file_of c part) content

-- each file gives something
some_of : (told : Option Folder) (part : InputFile) (name : Option (List ℕ)) → (content : Result (List ℕ) Fault) × IsContent told part name content
some_of told part None = (Ok [], refl)
some_of (Some folder) part (Some name) = (read_as part (folder name), refl)
some_of None part (Some name) = (Ok [], omega arith)

some : (told : Option Folder) (c : Command) (part : InputFile) → Content told c part
some told c part = some_of told part (file_of c part)

-- the files give these
abbrev each : (told : Option Folder) (c : Command) → Content told c parts.Program → Content told c parts.Bodies → Content told c parts.Sensors
    → Content told c parts.Schedule → Content told c parts.Table → Content told c parts.Cores → (part : InputFile) → Content told c part
each told c p b s e t k parts.Program = p
each told c p b s e t k parts.Bodies = b
each told c p b s e t k parts.Sensors = s
each told c p b s e t k parts.Schedule = e
each told c p b s e t k parts.Table = t
each told c p b s e t k parts.Cores = k

abbrev given : (told : Option Folder) (c : Command) → ((part : InputFile) → Content told c part) → Given
given told c of = record {
  program = (of parts.Program).0;
  bodies = (of parts.Bodies).0;
  sensors = (of parts.Sensors).0;
  schedule = (of parts.Schedule).0;
  table = (of parts.Table).0;
  cores = (of parts.Cores).0;
  listed = is_some c.schedule;
  node = c.node;
  until = c.until;
}

contents : (told : Option Folder) (c : Command) (of : (part : InputFile) → Content told c part) (part : InputFile)
    → IsContent told part (file_of c part) (content_of (given told c of) part)
contents told c of parts.Program = (of parts.Program).1
contents told c of parts.Bodies = (of parts.Bodies).1
contents told c of parts.Sensors = (of parts.Sensors).1
contents told c of parts.Schedule = (of parts.Schedule).1
contents told c of parts.Table = (of parts.Table).1
contents told c of parts.Cores = (of parts.Cores).1

is_given : (told : Option Folder) (c : Command) (of : (part : InputFile) → Content told c part) → IsGiven told c (given told c of)
is_given told c of = record { contents = contents told c of; listed = refl; node = refl; until = refl }

-- the file gives these bytes
abbrev pub Gives : Option Folder → Command → InputFile → List ℕ → Type 0
Gives told c part bytes = IsContent told part (file_of c part) (Ok bytes)

-- and the same of a folder that was kept
pub kept : {old new : Option Folder} (c : Command) (part : InputFile) (bytes : List ℕ) → new ≡ old → Gives new c part bytes → Gives old c part bytes
kept c part bytes same h = subst (λ (told : Option Folder). Gives told c part bytes) same h

-- the files before this one are read, and this one gives this
abbrev pub Reaches : Option Folder → Command → InputFile → Result (List ℕ) Fault → Type 0
Reaches told c part content = (g : Given) × IsGiven told c g × (content_of g part ≡ content) × IsReached g files (stages.File part)

-- the same of all that it may give
abbrev pub IsNext : Option Folder → Command → InputFile → Type 0
IsNext told c part = (content : Result (List ℕ) Fault) → IsContent told part (file_of c part) content → Reaches told c part content

pub program_next : (told : Option Folder) (c : Command) → IsNext told c parts.Program
program_next told c x hx =
    let of = each told c (x, hx) (some told c parts.Bodies) (some told c parts.Sensors) (some told c parts.Schedule) (some told c parts.Table) (some told c parts.Cores) in
    (given told c of, is_given told c of, refl, record { before = take 0 files; after = drop 1 files; stands = refl; hold = refl })

module _ (told : Option Folder) (c : Command) (p : List ℕ) (hp : Gives told c parts.Program p) where
  pub bodies_next : IsNext told c parts.Bodies
  bodies_next x hx =
      let of = each told c (Ok p, hp) (x, hx) (some told c parts.Sensors) (some told c parts.Schedule) (some told c parts.Table) (some told c parts.Cores) in
      (given told c of, is_given told c of, refl, record { before = take 1 files; after = drop 2 files; stands = refl; hold = inl ((p, refl), refl) })

  module _ (b : List ℕ) (hb : Gives told c parts.Bodies b) where
    pub sensors_next : IsNext told c parts.Sensors
    sensors_next x hx =
        let of = each told c (Ok p, hp) (Ok b, hb) (x, hx) (some told c parts.Schedule) (some told c parts.Table) (some told c parts.Cores) in
        (given told c of, is_given told c of, refl, record { before = take 2 files; after = drop 3 files; stands = refl; hold = inl ((p, refl), inl ((b, refl), refl)) })

    module _ (s : List ℕ) (hs : Gives told c parts.Sensors s) where
      pub schedule_next : IsNext told c parts.Schedule
      schedule_next x hx =
          let of = each told c (Ok p, hp) (Ok b, hb) (Ok s, hs) (x, hx) (some told c parts.Table) (some told c parts.Cores) in
          (given told c of, is_given told c of, refl, record { before = take 3 files; after = drop 4 files; stands = refl; hold = inl ((p, refl), inl ((b, refl), inl ((s, refl), refl))) })

      module _ (e : List ℕ) (he : Gives told c parts.Schedule e) where
        pub table_next : IsNext told c parts.Table
        table_next x hx =
            let of = each told c (Ok p, hp) (Ok b, hb) (Ok s, hs) (Ok e, he) (x, hx) (some told c parts.Cores) in
            (given told c of, is_given told c of, refl, record { before = take 4 files; after = drop 5 files; stands = refl; hold = inl ((p, refl), inl ((b, refl), inl ((s, refl), inl ((e, refl), refl)))) })

        module _ (t : List ℕ) (ht : Gives told c parts.Table t) where
          pub cores_next : IsNext told c parts.Cores
          cores_next x hx =
              let of = each told c (Ok p, hp) (Ok b, hb) (Ok s, hs) (Ok e, he) (Ok t, ht) (x, hx) in
              (given told c of, is_given told c of, refl, record { before = take 5 files; after = drop 6 files; stands = refl; hold = inl ((p, refl), inl ((b, refl), inl ((s, refl), inl ((e, refl), inl ((t, refl), refl))))) })

none_some : (e : Stage × Fault) → None ≡ Some e → ⊥
none_some e h = cc

-- all stages of a list hold, and then comes this
comes_after : (g : Given) (first rest : List Stage) (end : Option (Stage × Fault)) → Comes g first None → Comes g rest end → Comes g (first ++ rest) end
comes_after g [] rest end h k = k
comes_after g (stage ∷ first) rest end h k = elim h [
  | inl x ↦ inl (x.0, comes_after g first rest end x.1 k)
  | inr x ↦ absurd (none_some (stage, x.0) x.2)
]

-- a file that is reached and refused is the command's refusal
refused_at : (g : Given) (list : List Stage) (stage : Stage) (fault : Fault) → IsReached g list stage → Refuses g stage fault → Comes g list (Some (stage, fault))
refused_at g list stage fault r h =
    subst (λ (all : List Stage). Comes g all (Some (stage, fault))) (sym r.stands) (comes_after g r.before (stage ∷ r.after) (Some (stage, fault)) r.hold (inr (fault, h, refl)))

-- the reading of one of the files stops
pub file_stop : (old mid new : FolderView) (c : Command) (part : InputFile) (stop : Stop) → mid.folder ≡ old.folder → mid.failed ≡ old.failed
    → IsNext old.folder c part → IsFileStop mid new part (file_of c part) stop → IsStopOfFiles old new c stop
file_stop old mid new c part (stops.Unread at) folder failed next h =
    let content = some old.folder c part in
    let r = next content.0 content.1 in
    subst (λ (p : InputFile). IsStopOfFiles old new c (stops.Unread p)) (sym h.0)
    ((r.0, r.1, r.3), h.1, h.2, h.3 ∙ ap (λ (names : List (List ℕ)). names ++ (h.1 ∷ [])) failed)
file_stop old mid new c part (stops.Refused stage fault) folder failed next h =
    let r = next (Err fault) (subst (λ (told : Option Folder). IsContent told part (file_of c part) (Err fault)) folder h.1) in
    subst (λ (s : Stage). IsStopOfFiles old new c (stops.Refused s fault)) (sym h.0)
    ((r.0, r.1, refused_at r.0 files (stages.File part) fault r.3 r.2), h.2 ∙ failed)
file_stop old mid new c part stops.Memory folder failed next h = h ∙ failed

-- the same of files that are read after others, none of whose readings failed
pub stop_after : (old mid new : FolderView) (c : Command) (stop : Stop) → mid.folder ≡ old.folder → mid.failed ≡ old.failed
    → IsStopOfFiles mid new c stop → IsStopOfFiles old new c stop
stop_after old mid new c (stops.Unread part) folder failed h = (
  (h.0.0, subst (λ (told : Option Folder). IsGiven told c h.0.0) folder h.0.1, h.0.2),
  h.1,
  h.2,
  h.3 ∙ ap (λ (names : List (List ℕ)). names ++ (h.1 ∷ [])) failed,
)
stop_after old mid new c (stops.Refused stage fault) folder failed h =
    ((h.0.0, subst (λ (told : Option Folder). IsGiven told c h.0.0) folder h.0.1, h.0.2), h.1 ∙ failed)
stop_after old mid new c stops.Memory folder failed h = h ∙ failed
