-- Stops at a file that is read after another one.
use Rattle.prl_base.proofs.Standard.{◌≡◌, ◌++◌, ℕ, List, [], ◌∷◌, Option, None, Some, length, ◌<◌, ◌∙◌, ap, inl, inr, subst, IfSome}
use Rattle.prl_io.specs.Views.{FolderView}
use Rattle.prl_io.specs.declared.endings.Stop.{Stop}
use Rattle.prl_io.specs.declared.endings.Stop.TheVariants as stops
use Rattle.prl_io.specs.Files.{IsFileStop}
use Rattle.prl_sentences.specs.declared.kinds.Part.{Part}
use Rattle.prl_explain.specs.Texts.{Folder, IsNamed, IsStopOfFile}

-- what a file gives does not change with the name of the folder's facts
pub named_from : (old mid : Folder) (words : List (List ℕ)) (part : Part) (text : Option (List ℕ)) → mid ≡ old → IsNamed mid words part text → IsNamed old words part text
named_from old mid words part text same is = subst (λ (f : Folder). IsNamed f words part text) same is

module _ (old mid new : FolderView) (folder : mid.folder ≡ old.folder) (failed : mid.failed ≡ old.failed) where
  file_stop_from : (name : List ℕ) (most : ℕ) (stop : Stop) → IsFileStop mid new name most stop → IsFileStop old new name most stop
  file_stop_from name most (stops.Absent file) h =
      (h.0, subst (λ (f : Folder). IfSome f (λ folder. folder name ≡ None)) folder h.1, h.2 ∙ failed)
  file_stop_from name most (stops.TooLong file) h =
      (h.0, subst (λ (f : Folder). IfSome f (λ folder. (bytes : List ℕ) × (folder name ≡ Some bytes) × (most < length bytes))) folder h.1, h.2 ∙ failed)
  file_stop_from name most (stops.Unread file) h = (h.0, h.1 ∙ ap (λ (l : List (List ℕ)). l ++ name ∷ []) failed)
  file_stop_from name most stops.Memory h = h ∙ failed
  file_stop_from name most (stops.Words form) h = absurd h
  file_stop_from name most (stops.Refused what) h = absurd h

  pub stop_from : (words : List (List ℕ)) (stop : Stop) → IsStopOfFile mid new words stop → IsStopOfFile old new words stop
  stop_from words stop h = elim h [
    | inl k ↦ inl (k.0, k.1, k.2, file_stop_from k.1 _ stop k.3)
    | inr m ↦ inr (m.0, m.1 ∙ failed)
  ]
