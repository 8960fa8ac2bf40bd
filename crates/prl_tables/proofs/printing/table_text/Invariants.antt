use Rattle.prl_base.proofs.Standard.{◌≡◌, ◌++◌, codes, take, flat_map}
use Rattle.std.specs.Fmt.{decimal}
use Rattle.prl_tables.specs.TableTexts.{entry_text}
use Rattle.prl_tables.proofs.printing.table_text.Given as goal

-- the lines of the entries so far
abbrev pub invariant-loop-entry : goal.invariant-loop-entry
invariant-loop-entry l =
    l.text.items ≡ codes "table 1\nhyperperiod " ++ decimal l.plan.graph.hyper ++ codes "\n" ++ flat_map entry_text (take l.entry-index l.table.entries)
