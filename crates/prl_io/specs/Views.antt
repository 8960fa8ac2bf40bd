-- What is seen of a folder and of a sink at one moment.
use Rattle.std.specs.Prelude.{◌≡◌, ◌≤◌, ◌<◌, ◌+◌, ℕ, List, Option}
use Rattle.prl_io.specs.Growth.{appended, AppendsFront}

-- the bytes of each file by its name, where that is known; the names of the readings that were asked for, in order; and the
-- names of those that failed
pub record FolderView : Type 0 where
  pub folder : Option (List ℕ → Option (List ℕ))
  pub asked : List (List ℕ)
  pub failed : List (List ℕ)

-- the bytes that were written, where they are known; and how many faults there were
pub record SinkView : Type 0 where
  pub written : Option (List ℕ)
  pub faults : ℕ

-- the text was appended, and no count fell
pub record Appends (old new : SinkView) (text : List ℕ) : Type 0 where
  pub written : new.written ≡ appended old.written text
  pub counted : old.faults ≤ new.faults

-- only a front of the text was appended, and a fault was counted
pub record AppendsLess (old new : SinkView) (text : List ℕ) : Type 0 where
  pub written : AppendsFront old.written new.written text
  pub counted : old.faults < new.faults
