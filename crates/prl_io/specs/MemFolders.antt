-- Files in memory.
use Rattle.std.specs.Prelude.{◌++◌, ℕ, Bool, List, [], ◌∷◌, Option, Some, None, Result, Err, if◌then◌else◌}
use Rattle.std.specs.Str.{bytes_eq}
use Rattle.prl_io.specs.declared.reading.FileFault.{FileFault}
use Rattle.prl_io.specs.declared.reading.FileFault.TheVariants as faults
use Rattle.prl_io.specs.Numbering.{following, fails_at}
use Rattle.prl_io.specs.Folders.{reading_of}

-- the files by name and bytes, the numbers of the calls that fail, the number of the next call, the names of all readings, in
-- order, and the names of those that failed
pub record MemFolder : Type 0 where
  pub entries : List (List ℕ × List ℕ)
  pub fails : List ℕ
  pub next : Option ℕ
  pub asked : List (List ℕ)
  pub failed : List (List ℕ)

abbrev pub fresh_folder : List (List ℕ × List ℕ) → List ℕ → MemFolder
fresh_folder entries fails = record { entries = entries; fails = fails; next = Some 0; asked = []; failed = [] }

-- the bytes of the first entry of this name
abbrev pub held : List (List ℕ × List ℕ) → List ℕ → Option (List ℕ)
held [] name = None
held (entry ∷ entries) name = if bytes_eq entry.0 name then Some entry.1 else held entries name

-- whether the next reading fails
abbrev pub refuses : MemFolder → Bool
refuses folder = fails_at folder.fails folder.next

-- the answer to a reading of this name
abbrev pub read_in : MemFolder → List ℕ → ℕ → Result (List ℕ) FileFault
read_in folder name most =
    if refuses folder then Err faults.Failed else reading_of (held folder.entries name) most

-- the folder after a reading of this name
abbrev pub after_read : MemFolder → List ℕ → MemFolder
after_read folder name =
    record folder {
      next = following folder.next;
      asked = folder.asked ++ (name ∷ []);
      failed = folder.failed ++ (if refuses folder then name ∷ [] else []);
    }
