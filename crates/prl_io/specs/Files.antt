-- The files that the words name.
use Rattle.std.specs.Prelude.{◌≡◌, ◌<◌, ◌++◌, ℕ, false, List, [], ◌∷◌, length, Some, None, IfSome}
use Rattle.prl_shown.specs.Shown.{shown}
use Rattle.prl_io.specs.Views.{FolderView}
use Rattle.prl_io.specs.declared.endings.Stop.{Stop}
use Rattle.prl_io.specs.declared.endings.Stop.TheVariants as stops

-- why a file of this name was not read: it is not there, it has more bytes than may be read, its reading failed, or memory
-- ran out
abbrev pub IsFileStop : FolderView → FolderView → List ℕ → ℕ → Stop → Type 0
IsFileStop old new name most (stops.Absent file) =
    (file ≡ shown false name) × IfSome old.folder (λ folder. folder name ≡ None) × (new.failed ≡ old.failed)
IsFileStop old new name most (stops.TooLong file) =
    (file ≡ shown false name)
    × IfSome old.folder (λ folder. (bytes : List ℕ) × (folder name ≡ Some bytes) × (most < length bytes))
    × (new.failed ≡ old.failed)
IsFileStop old new name most (stops.Unread file) = (file ≡ shown false name) × (new.failed ≡ old.failed ++ name ∷ [])
IsFileStop old new name most stops.Memory = new.failed ≡ old.failed
IsFileStop old new name most (stops.Words form) = ⊥
IsFileStop old new name most (stops.Refused what) = ⊥
