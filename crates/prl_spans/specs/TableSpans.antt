-- The span of each job by a table.
use Rattle.std.specs.Prelude.{◌+◌, ◌*◌, ◌/◌, ◌%◌, ℕ, List, [], ◌∷◌, min, if◌then◌else◌}
use Rattle.prl_plan.specs.declared.graphs.TaskGraph.{TaskGraph}
use Rattle.prl_overlaps.specs.declared.entries.Entry.{Entry}
use Rattle.prl_tables.specs.Tables.{classes, end_of, is_of, last_unit}
use Rattle.prl_tables.specs.Unrolled.{Placing}

-- where the first unit of the class begins; `none` where it has no entry
abbrev pub begin_of : ℕ → List Entry → ℕ → ℕ → ℕ
begin_of none [] i c = none
begin_of none (entry ∷ entries) i c = if is_of i c entry then min entry.at (begin_of none entries i c) else begin_of none entries i c

-- the tick of the first unit of each job: that of its class, moved by the hyperperiods before it
abbrev pub first_unit : TaskGraph → List Entry → Placing
first_unit graph entries i n =
    begin_of (end_of entries i (n % classes graph i)) entries i (n % classes graph i) + n / classes graph i * graph.hyper

-- the end of the last unit
abbrev pub after_last_unit : TaskGraph → List Entry → Placing
after_last_unit graph entries i n = last_unit graph entries i n + 1
