-- What limits count, as it is written.
use Rattle.std.specs.Prelude.{ℕ, List, codes}
use Rattle.prl_base.specs.declared.limits.What.{What}
use Rattle.prl_base.specs.declared.limits.What.TheVariants as whats

abbrev pub what_text : What → List ℕ
what_text whats.Name = codes "name"
what_text whats.Depth = codes "depth"
what_text whats.Nodes = codes "nodes"
what_text whats.Flows = codes "flows"
what_text whats.Clock = codes "clock"
what_text whats.Tasks = codes "tasks"
what_text whats.Edges = codes "edges"
what_text whats.Hyperperiod = codes "hyperperiod"
what_text whats.PeriodJobs = codes "period-jobs"
what_text whats.Prefix = codes "prefix"
what_text whats.Cells = codes "cells"
what_text whats.Jobs = codes "jobs"
what_text whats.Events = codes "events"
what_text whats.Values = codes "values"
