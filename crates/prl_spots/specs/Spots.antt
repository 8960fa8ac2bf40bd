-- The byte of a file that a line of `prelude` speaks of.
use Rattle.std.specs.Prelude.{◌≡◌, ◌≢◌, ◌≤◌, ℕ, List, length, Option, Some, None, nat_le, if◌then◌else◌}
use Rattle.std.specs.List.{after_first, before_first}
use Rattle.std.specs.Str.{byte}
use Rattle.prl_base.specs.Decimals.{decimal_of}
use Rattle.prl_sentences.specs.declared.kinds.Target.{Target}
use Rattle.prl_sentences.specs.declared.kinds.Target.TheVariants as targets
use Rattle.prl_spots.specs.Names.{Used, Declared, InNode, flow_asked, is_byte, named_at}
use Rattle.prl_spots.specs.Places.{IsLineStart, place_of}

abbrev pub if_inside : List ℕ → Option ℕ → Option ℕ
if_inside text None = None
if_inside text (Some at) = if nat_le at (length text) then Some at else None

-- the index that a number writes, where it is one of the text or its end
abbrev pub byte_at : List ℕ → List ℕ → Option ℕ
byte_at text number = if_inside text (decimal_of number)

-- where the line of a number begins; none where there is no number, or no such line
abbrev pub IsStart : List ℕ → Option ℕ → Option ℕ → Type 0
IsStart text None found = found ≡ None
IsStart text (Some line) (Some at) = IsLineStart text line at
IsStart text (Some line) None = (at : ℕ) → at ≤ length text → (place_of text at).line ≢ line

abbrev pub IsLineAt : List ℕ → List ℕ → Option ℕ → Type 0
IsLineAt text number found = IsStart text (decimal_of number) found

-- the byte of the file that the argument of a line tells
abbrev pub IsSpot : Target → List ℕ → List ℕ → Option ℕ → Type 0
IsSpot targets.Nowhere argument text found = found ≡ None
IsSpot (targets.Byte part) argument text found = found ≡ byte_at text argument
IsSpot (targets.Line part) argument text found = IsLineAt text argument found
IsSpot targets.Word argument text found = found ≡ named_at text (Used argument)
IsSpot targets.Task argument text found = found ≡ named_at text (Declared (before_first (is_byte (byte "@")) argument))
IsSpot targets.Flow argument text found = found ≡ named_at text (flow_asked argument)
IsSpot targets.Variable argument text found =
    found ≡ named_at text (InNode (before_first (is_byte (byte ".")) argument) (after_first (is_byte (byte ".")) argument))
