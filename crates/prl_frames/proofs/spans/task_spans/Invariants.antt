use Rattle.std.specs.Prelude.{◌≡◌, ◌-◌, length, drop}
use Rattle.prl_tables.specs.Tables as tables
use Rattle.prl_frames.specs.code.Making.{HasSpans}
use Rattle.prl_frames.proofs.spans.task_spans.Given as goal

-- the spans of the last entries
abbrev pub invariant-loop-back : goal.invariant-loop-back
invariant-loop-back l = record {
  classes : length l.list.items ≡ tables.classes l.plan.graph l.task.0;
  spans : HasSpans (drop (length l.entries - l.back) l.entries) l.task.0 l.list.items;
}
