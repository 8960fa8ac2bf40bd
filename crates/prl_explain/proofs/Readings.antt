-- A file that was read by its name, and one that was not.
use Rattle.prl_base.proofs.Standard.{◌≡◌, ◌≤◌, ℕ, List, Some, inl, length, subst, sym, IfSome}
use Rattle.prl_io.specs.Views.{FolderView}
use Rattle.prl_io.specs.declared.endings.Stop.{Stop}
use Rattle.prl_io.specs.Files.{IsFileStop}
use Rattle.prl_io.specs.Pairs.{value_of}
use Rattle.prl_sentences.specs.declared.kinds.Part.{Part}
use Rattle.prl_explain.specs.Texts.{Folder, IsNamed, IsStopOfFile, most_of, option_of}

module _ (words : List (List ℕ)) (part : Part) (option name : List ℕ) (most : ℕ) where
  named : option ≡ option_of part → Some name ≡ value_of option words → value_of (option_of part) words ≡ Some name
  named same found = subst (λ (o : List ℕ). value_of o words ≡ Some name) same (sym found)

  pub named_is : (folder : Folder) (bytes : List ℕ) → option ≡ option_of part → Some name ≡ value_of option words → most ≡ most_of part
      → IfSome folder (λ f. f name ≡ Some bytes) → length bytes ≤ most → IsNamed folder words part (Some bytes)
  named_is folder bytes same found limit content few = (name, named same found, content, subst (λ (n : ℕ). length bytes ≤ n) limit few)

  pub file_stop_is : (old new : FolderView) (stop : Stop) → option ≡ option_of part → Some name ≡ value_of option words → most ≡ most_of part
      → IsFileStop old new name most stop → IsStopOfFile old new words stop
  file_stop_is old new stop same found limit is = inl (part, name, named same found, subst (λ (n : ℕ). IsFileStop old new name n stop) limit is)
