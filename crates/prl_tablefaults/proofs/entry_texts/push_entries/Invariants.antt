use Rattle.std.specs.Prelude.{◌≡◌, ◌++◌}
use Rattle.prl_overloads.specs.ShareTexts.{texts_below}
use Rattle.prl_tablefaults.specs.EntryTexts.{entry_of}
use Rattle.prl_tablefaults.proofs.entry_texts.push_entries.Given as goal

-- the entries so far stand in the text
abbrev pub invariant-loop-k : goal.invariant-loop-k
invariant-loop-k l = l.text.items ≡ l.initial.text.items ++ texts_below (entry_of l.plan l.entries l.i.0 l.c) l.k
