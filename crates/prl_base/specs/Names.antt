-- Words and names.
use Rattle.std.specs.Prelude.{◌≡◌, ◌==◌, ◌<◌, ◌≤◌, ◌&&◌, ◌||◌, ℕ, Bool, false, List, [], ◌∷◌, length, IsTrue}
use Rattle.std.specs.Char.{is_ascii_alphabetic, is_ascii_alphanumeric}
use Rattle.std.specs.List.{list_all}
use Rattle.prl_base.specs.declared.names.TheConstants.{MAX_NAME}
use Rattle.prl_base.specs.declared.names.NameFault.{NameFault}
use Rattle.prl_base.specs.declared.names.NameFault.TheVariants as faults

-- an ASCII letter or `_`
abbrev pub is_word_start : ℕ → Bool
is_word_start b = is_ascii_alphabetic b || (b == 95)

-- an ASCII letter, a digit or `_`
abbrev pub is_word_byte : ℕ → Bool
is_word_byte b = is_ascii_alphanumeric b || (b == 95)

abbrev pub is_word : List ℕ → Bool
is_word [] = false
is_word (b ∷ bs) = is_word_start b && list_all is_word_byte bs

-- a word that is not too long
abbrev pub IsName : List ℕ → Type 0
IsName bytes = IsTrue (is_word bytes) × (length bytes ≤ MAX_NAME)

-- when the bytes are refused so
abbrev pub IsNameFault : List ℕ → NameFault → Type 0
IsNameFault bytes faults.Shape = is_word bytes ≡ false
IsNameFault bytes (faults.Long n) = IsTrue (is_word bytes) × (n ≡ length bytes) × (MAX_NAME < n)
IsNameFault bytes faults.Memory = Unit {0}
