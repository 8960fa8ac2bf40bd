use Rattle.std.specs.Prelude.{◌≡◌, ℕ, List, Some, length, map, slice_get, vec_items}
use Rattle.prl_frames.specs.declared.spans.Span.{Span}
use Rattle.prl_frames.specs.code.Making.{AreTaskSpans}
use Rattle.prl_frames.proofs.spans.all_spans.Given as goal

-- the lists of the tasks so far
abbrev pub invariant-loop-i : goal.invariant-loop-i
invariant-loop-i l = record {
  tasks : length (map vec_items l.lists.items) ≡ l.i;
  each : (i : ℕ) (list : List Span) → slice_get (map vec_items l.lists.items) i ≡ Some list → AreTaskSpans l.plan l.entries i list;
}
