-- Fields and rows in plain form.
use Rattle.std.specs.Prelude.{◌≡◌, ◌≢◌, ℕ, Bool, false, List, Option, Some, None, Result, Ok, Err, nat_le}
use Rattle.std.specs.List.{list_any}

-- A comma or a byte below it. All bytes that end a plain field or make it none are such: commas, quotes, returns and line feeds.
abbrev pub is_mark : ℕ → Bool
is_mark b = nat_le b 44

abbrev pub IsPlain : List ℕ → Type 0
IsPlain field = list_any is_mark field ≡ false

-- What a call read, seen by `view`, is what is meant, where it read all; and so is its error, unless that is `memory`.
abbrev pub GivesIf : {X Y E : Type 0} → E → (X → Y) → Result (Option X) E → Result Y E → Type 0
GivesIf memory view (Ok None) meant = Unit {0}
GivesIf memory view (Ok (Some x)) meant = meant ≡ Ok (view x)
GivesIf memory view (Err e) meant = e ≢ memory → meant ≡ Err e
