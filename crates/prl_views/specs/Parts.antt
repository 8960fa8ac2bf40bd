-- The parts of ticks at which tasks that act are drawn, in the rows of processors.
use Rattle.std.specs.Prelude.{◌≡◌, ◌+◌, ◌-◌, ◌==◌, ◌≤◌, ℕ, Bool, List, [], ◌∷◌, All, map, slice_index, if◌then◌else◌}
use Rattle.std.specs.List.{flat_map, position_or_len, range_with_len}
use Rattle.prl_drawing.specs.declared.rows.TheConstants.{GAP}
use Rattle.prl_drawing.specs.declared.scales.Scale.{Scale}
use Rattle.prl_drawing.specs.Boxes.{mark_text}
use Rattle.prl_drawing.specs.Rows.{row_of}
use Rattle.prl_drawing.specs.Scales.{is_seen, x_within}
use Rattle.prl_shapes.specs.declared.acts.Act.{Act}
use Rattle.prl_views.specs.declared.parts.Part.{Part}
use Rattle.prl_views.specs.declared.parts.TheConstants.{MOST_PROCESSORS}
use Rattle.prl_views.specs.declared.verdicts.TheConstants.{HIGH}
use Rattle.prl_shapes.specs.Acts.{is_in}

-- the processor, where it has tasks
abbrev pub used_one : List ℕ → ℕ → List ℕ
used_one processors p = if is_in processors p then p ∷ [] else []

-- the processors that have tasks, in order
abbrev pub used_of : List ℕ → List ℕ
used_of processors = flat_map (used_one processors) (range_with_len 0 MOST_PROCESSORS)

-- the row of a task's processor: below those of so many tasks, one for each processor that has tasks
abbrev pub processor_row : ℕ → List ℕ → ℕ → ℕ
processor_row rows processors task =
    rows + position_or_len (λ p. p == slice_index processors task) (used_of processors)

-- how wide a tick is drawn there
abbrev pub tick_width : Scale → ℕ → ℕ
tick_width scale tick = x_within scale (tick + 1) - x_within scale tick

-- the tick of an act is drawn
abbrev pub is_act_seen : Scale → Act → Bool
is_act_seen scale act = is_seen scale act.tick (act.tick + 1)

-- the act, where its tick is drawn
abbrev pub seen_one : Scale → Act → List Act
seen_one scale act = if is_act_seen scale act then act ∷ [] else []

-- it lies within the tick of its act
pub record IsWithin (scale : Scale) (part : Part) : Type 0 where
  pub left : x_within scale part.act.tick ≤ part.left
  pub right : part.left + part.width ≤ x_within scale part.act.tick + tick_width scale part.act.tick

-- they are parts of the ticks of these acts, one for each that is drawn, in order
pub record ArePartsOf (scale : Scale) (acts : List Act) (parts : List Part) : Type 0 where
  pub each : map (λ (part : Part). part.act) parts ≡ flat_map (seen_one scale) acts
  pub within : All (IsWithin scale) parts

-- a mark where it begins, in the row of its processor
abbrev pub part_text : ℕ → List ℕ → Part → List ℕ
part_text rows processors part =
    mark_text part.act.task.0 part.left (row_of (processor_row rows processors part.act.task.0) + GAP) HIGH
