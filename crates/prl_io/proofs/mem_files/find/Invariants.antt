use Rattle.std.proofs.Common.{◌≡◌, map, drop}
use Rattle.prl_io.specs.MemFolders.{held}
use Rattle.prl_io.proofs.mem_files.find.Given as goal

-- the entries so far have another name
abbrev pub invariant-loop-entry : goal.invariant-loop-entry
invariant-loop-entry l =
    held (map (λ entry. (entry.0, entry.1.items)) (drop l.entry-index l.entries)) l.name
    ≡ held (map (λ entry. (entry.0, entry.1.items)) l.entries) l.name
