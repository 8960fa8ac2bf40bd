-- How a call ends.
use Rattle.std.specs.Prelude.{◌≡◌, ◌⊎◌, ℕ, List, [], ◌∷◌, Result, Ok, Err, codes}
use Rattle.std.specs.List.{concat}
use Rattle.prl_io.specs.Views.{SinkView, Appends, AppendsLess}
use Rattle.prl_io.specs.declared.endings.Stop.{Stop}
use Rattle.prl_io.specs.declared.endings.Stop.TheVariants as stops

-- 2: the words are no command. 1: a text is refused. 7: a file is absent or too long. 3: a reading failed. 6: memory ran
-- out.
abbrev pub status_of : Stop → ℕ
status_of (stops.Words form) = 2
status_of (stops.Refused what) = 1
status_of (stops.Absent name) = 7
status_of (stops.TooLong name) = 7
status_of (stops.Unread name) = 3
status_of stops.Memory = 6

-- a line of two parts
abbrev pub line_of : List ℕ → List ℕ → List ℕ
line_of front name = concat (front ∷ name ∷ codes "\n" ∷ [])

-- the line that tells why there is no text
abbrev pub line_of_stop : Stop → List ℕ
line_of_stop (stops.Words form) = line_of (codes "usage: ") form.now
line_of_stop (stops.Refused what) = line_of (codes "refused: ") what.now
line_of_stop (stops.Absent name) = line_of (codes "absent ") name
line_of_stop (stops.TooLong name) = line_of (codes "too long ") name
line_of_stop (stops.Unread name) = line_of (codes "read fault ") name
line_of_stop stops.Memory = line_of (codes "memory") []

-- the line was appended, or a front of it where a fault was counted
abbrev pub IsTold : SinkView → SinkView → List ℕ → Type 0
IsTold old new line = Appends old new line ⊎ AppendsLess old new line

-- The text is in out, at status 0; or a front of it where a fault was counted, at status 4; or nothing, at the status of
-- the stop. At every status but 0 a line is in err. A text is seen by `view`.
abbrev pub Ends : {A : Type 0} → (A → List ℕ) → Result A Stop → SinkView → SinkView → SinkView → SinkView → ℕ → Type 0
Ends view (Ok text) out out' err err' code =
    ((code ≡ 0) × Appends out out' (view text) × (err' ≡ err))
    ⊎ ((code ≡ 4) × AppendsLess out out' (view text) × IsTold err err' (line_of (codes "write fault") []))
Ends view (Err stop) out out' err err' code =
    (code ≡ status_of stop) × (out' ≡ out) × IsTold err err' (line_of_stop stop)
