-- What a reader of records has left.
use Rattle.std.specs.Prelude.{◌≡◌, ◌+◌, ℕ, Bool, true, false, List, [], ◌∷◌, length, Some}
use denote.Ref.{Bor}
use Rattle.csv.specs.Reading.{Ready, default_config, reader_config, reader_state, reader_trim, records_from, source_of}
use Rattle.csv.specs.declared.reader.Reader.{Reader}
use Rattle.csv.specs.declared.reader.Trim.TheVariants as trims

-- a reader over bytes that has not failed and takes records as they are, and the records that it still gives
pub record HasLeft (reader : Reader (Bor (List ℕ))) (left : List (List (List ℕ))) : Type 0 where
  pub trim : reader_trim reader ≡ trims.None
  pub ready : Ready reader
  pub config : reader_config reader ≡ default_config
  pub bytes : List ℕ
  pub source : source_of (λ s. Some s.now) reader ≡ Some bytes
  pub records : left ≡ records_from default_config (length bytes + 1) (reader_state reader) bytes

-- what was read of the records left: none where there was none, and else the first
abbrev pub Reads : List (List (List ℕ)) → Bool → List (List ℕ) → Reader (Bor (List ℕ)) → Type 0
Reads left false fields reader = left ≡ []
Reads left true fields reader = (rest : List (List (List ℕ))) × (left ≡ fields ∷ rest) × HasLeft reader rest
