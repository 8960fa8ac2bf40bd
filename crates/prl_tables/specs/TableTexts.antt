-- The text of a table, and the table that a text tells.
use Rattle.std.specs.Prelude.{◌≡◌, ◌==◌, ◌<◌, ◌+◌, ◌++◌, ◌^◌, ◌&&◌, ◌||◌, ℕ, Bool, true, false, List, [], ◌∷◌, length, take, drop, Option, Some, None, Result}
use Rattle.std.specs.Prelude.{Ok, Err, nat_lt, nat_le, if◌then◌else◌, codes}
use Rattle.std.specs.Fmt.{decimal}
use Rattle.std.specs.List.{flat_map, before_first, after_first}
use Rattle.std.specs.Option.{option_and_then}
use Rattle.std.specs.Str.{bytes_eq}
use Rattle.prl_base.specs.Decimals.{decimal_of}
use Rattle.prl_base.specs.Lines.{lines_of}
use Rattle.prl_base.specs.Reading.{◌>>=◌}
use Rattle.prl_tables.specs.declared.reading.TableFault.{TableFault}
use Rattle.prl_tables.specs.declared.reading.TableFault.TheVariants as faults
use Rattle.prl_overlaps.specs.declared.entries.Entry.{Entry}

-- the line of an entry, without its end
abbrev pub entry_line : Entry → List ℕ
entry_line entry =
    codes "at " ++ (decimal entry.at ++ (codes " task " ++ (decimal entry.task.0 ++ (codes " job " ++ (decimal entry.job
    ++ (codes " units " ++ decimal entry.units))))))

abbrev pub entry_text : Entry → List ℕ
entry_text entry = entry_line entry ++ codes "\n"

-- the text of a table for this hyperperiod
abbrev pub text_of : ℕ → List Entry → List ℕ
text_of hyper entries = codes "table 1\nhyperperiod " ++ (decimal hyper ++ (codes "\n" ++ flat_map entry_text entries))

-- the number that a word spells as it is printed
abbrev pub number_if : List ℕ → ℕ → Option ℕ
number_if word n = if bytes_eq (decimal n) word then Some n else None

abbrev pub number_of : List ℕ → Option ℕ
number_of word = option_and_then (number_if word) (decimal_of word)

abbrev pub is_blank : ℕ → Bool
is_blank b = b == 32

-- what stands after these words at the front of a text
abbrev pub after_words : List ℕ → List ℕ → Option (List ℕ)
after_words words text = if bytes_eq (take (length words) text) words then Some (drop (length words) text) else None

-- the number up to a blank, and what stands after that
abbrev pub cut_number : List ℕ → Option (ℕ × List ℕ)
cut_number text = option_and_then (λ n. Some (n, after_first is_blank text)) (number_of (before_first is_blank text))

-- the number after these words, and what stands after it
abbrev pub field : List ℕ → List ℕ → Option (ℕ × List ℕ)
field words text = option_and_then cut_number (after_words words text)

-- the number after these words, at the end of a line
abbrev pub last_field : List ℕ → List ℕ → Option ℕ
last_field words text = option_and_then number_of (after_words words text)

-- the entry of these numbers, whose task is numbered by 32 bits
abbrev pub entry_if : ℕ → ℕ → ℕ → ℕ → Option Entry
entry_if at task job units =
    if nat_lt task (2 ^ 32) then Some (record { at = at; task = record { 0 = task }; job = job; units = units }) else None

-- the entry that a line tells
abbrev pub entry_of : List ℕ → Option Entry
entry_of line =
    option_and_then (λ at. option_and_then (λ task. option_and_then (λ job. option_and_then (λ units.
    entry_if at.0 task.0 job.0 units)
    (last_field (codes "units ") job.1)) (field (codes "job ") task.1)) (field (codes "task ") at.1)) (field (codes "at ") line)

-- in the order of time, then of tasks, then of classes
abbrev pub comes_after : Entry → Entry → Bool
comes_after last entry =
    nat_lt last.at entry.at
    || ((last.at == entry.at) && (nat_lt last.task.0 entry.task.0 || ((last.task.0 == entry.task.0) && nat_le last.job entry.job)))

abbrev pub keeps_order : Option Entry → Entry → Bool
keeps_order None entry = true
keeps_order (Some last) entry = comes_after last entry

-- the entry of a line, where it does not come before the last one
abbrev pub next_entry : Option Entry → List ℕ → Option Entry
next_entry last line = option_and_then (λ entry. if keeps_order last entry then Some entry else None) (entry_of line)

abbrev pub or_line : ℕ → Option Entry → Result Entry TableFault
or_line k None = Err (faults.Syntax k)
or_line k (Some entry) = Ok entry

-- after the last line feed stands nothing
abbrev pub no_more : ℕ → List ℕ → Result (List Entry) TableFault
no_more k [] = Ok []
no_more k (b ∷ bs) = Err (faults.Syntax k)

-- the entries of the lines from line k on, after an entry
abbrev pub entries_from : ℕ → Option Entry → List (List ℕ) → Result (List Entry) TableFault
entries_from k last [] = Ok []
entries_from k last (line ∷ []) = no_more k line
entries_from k last (line ∷ next ∷ lines) = do
  entry ← or_line k (next_entry last line)
  entries ← entries_from (k + 1) (Some entry) (next ∷ lines)
  Ok (entry ∷ entries)

-- what stands after line k, where it passes the test
abbrev pub after_line : ℕ → (List ℕ → Bool) → List (List ℕ) → Result (List (List ℕ)) TableFault
after_line k test [] = Err (faults.Syntax k)
after_line k test (line ∷ []) = Err (faults.Syntax k)
after_line k test (line ∷ next ∷ lines) = if test line then Ok (next ∷ lines) else Err (faults.Syntax k)

abbrev pub is_header : List ℕ → Bool
is_header line = bytes_eq line (codes "table 1")

abbrev pub is_number : ℕ → Option ℕ → Bool
is_number n None = false
is_number n (Some m) = m == n

abbrev pub tells_hyper : ℕ → List ℕ → Bool
tells_hyper hyper line = is_number hyper (last_field (codes "hyperperiod ") line)

-- The entries that a text tells for this hyperperiod; else the first line that is not of the text, or not there.
abbrev pub entries_of : ℕ → List ℕ → Result (List Entry) TableFault
entries_of hyper text = do
  after ← after_line 1 is_header (lines_of text)
  lines ← after_line 2 (tells_hyper hyper) after
  entries_from 3 None lines

-- each entry does not come before the one before it
abbrev pub AreOrdered : Option Entry → List Entry → Type 0
AreOrdered last [] = Unit {0}
AreOrdered last (entry ∷ entries) = (keeps_order last entry ≡ true) × AreOrdered (Some entry) entries

-- the numbers of an entry have 64 bits, that of its task 32
pub record FitsEntry (entry : Entry) : Type 0 where
  pub at : entry.at < 2 ^ 64
  pub task : entry.task.0 < 2 ^ 32
  pub job : entry.job < 2 ^ 64
  pub units : entry.units < 2 ^ 64
