-- What a reading of a file answers.
use Rattle.std.specs.Prelude.{ℕ, List, length, Option, Some, None, Result, Ok, Err, nat_le, if◌then◌else◌}
use Rattle.prl_io.specs.declared.reading.FileFault.{FileFault}
use Rattle.prl_io.specs.declared.reading.FileFault.TheVariants as faults

-- the answer for a file that holds these bytes, or that is not there, where at most so many bytes are read
abbrev pub reading_of : Option (List ℕ) → ℕ → Result (List ℕ) FileFault
reading_of None most = Err faults.Absent
reading_of (Some bytes) most = if nat_le (length bytes) most then Ok bytes else Err faults.TooLong

-- the faults that the bytes decide; a failure and want of memory may come at any file
abbrev pub told_fault : FileFault → Option FileFault
told_fault faults.Absent = Some faults.Absent
told_fault faults.TooLong = Some faults.TooLong
told_fault faults.Failed = None
told_fault faults.Memory = None

-- the faults but want of memory, which may come at any reading
abbrev pub file_fault : FileFault → Option FileFault
file_fault faults.Absent = Some faults.Absent
file_fault faults.TooLong = Some faults.TooLong
file_fault faults.Failed = Some faults.Failed
file_fault faults.Memory = None
