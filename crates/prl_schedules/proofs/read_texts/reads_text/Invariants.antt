use Rattle.prl_base.proofs.Standard.{◌≡◌, take, flat_map}
use Rattle.prl_schedules.specs.Vocabulary.{task_names, read_line}
use Rattle.prl_schedules.proofs.read_texts.reads_text.Given as goal

-- the lines of the reads so far
abbrev pub invariant-loop-seen : goal.invariant-loop-seen
invariant-loop-seen l = l.text.items ≡ flat_map (read_line (task_names l.plan)) (take l.seen-index l.reads)
