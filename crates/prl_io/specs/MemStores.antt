-- A sink in memory.
use Rattle.std.specs.Prelude.{◌+◌, ◌-◌, ◌++◌, ◌||◌, ℕ, Bool, List, [], length, min, nat_le, Option, Some, Result, Ok, Err, if◌then◌else◌}
use Rattle.prl_io.specs.declared.writing.Failed.{Failed}
use Rattle.prl_io.specs.Numbering.{following, fails_at}
use Rattle.prl_io.specs.Growth.{taken}

-- the bytes, the room for them, the most that a write takes, the numbers of the writes that fail, the number of the
-- next write, and the count of faults
pub record MemStore : Type 0 where
  pub bytes : List ℕ
  pub room : ℕ
  pub most : ℕ
  pub fails : List ℕ
  pub next : Option ℕ
  pub faults : ℕ

abbrev pub empty_store : ℕ → ℕ → List ℕ → MemStore
empty_store room most fails =
    record { bytes = []; room = room; most = most; fails = fails; next = Some 0; faults = 0 }

-- whether the next write fails
abbrev pub refuses : MemStore → Bool
refuses store = fails_at store.fails store.next || nat_le store.room (length store.bytes)

-- the answer to a write of the piece
abbrev pub write_in : MemStore → List ℕ → Result ℕ Failed
write_in store piece =
    if refuses store then Err (record {}) else Ok (min (min store.most (store.room - length store.bytes)) (length piece))

-- the store after a write of the piece
abbrev pub after_write : MemStore → List ℕ → MemStore
after_write store piece =
    record store {
      bytes = store.bytes ++ taken (write_in store piece) piece;
      next = following store.next;
      faults = store.faults + (if refuses store then 1 else 0);
    }
