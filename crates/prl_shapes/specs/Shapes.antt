-- The jobs that a picture shows, and where they stand in it.
use Rattle.std.specs.Prelude.{◌+◌, ◌*◌, ◌&&◌, ℕ, List, if◌then◌else◌, length, map, nat_le, slice_index}
use Rattle.std.specs.List.{flat_map, range_with_len}
use Rattle.prl_plan.specs.Jobs.{task_at}
use Rattle.prl_plan.specs.Plans.{PlanView, deadline_at}
use Rattle.prl_drawing.specs.declared.shapes.Shape.{Shape}
use Rattle.prl_drawing.specs.Cuts.{cut_of}
use Rattle.prl_drawing.specs.Scales.{x_of, x_within}
use Rattle.prl_drawing.specs.declared.scales.Scale.{Scale}
use Rattle.prl_shapes.specs.declared.kinds.Shown.{Shown}
use Rattle.prl_shapes.specs.declared.views.View.{View}
use Rattle.prl_shapes.specs.JobsShown.{drawn_jobs}
use Rattle.prl_shapes.specs.Shown.{released_at}

-- where an own date stands: where the encoded one does, if the scale does not reach it
abbrev pub own_x : Scale → ℕ → ℕ → ℕ
own_x scale tick x = if nat_le scale.from tick && nat_le tick (scale.from + scale.span) then x_of scale tick else x

-- job n of the task of a row, where the scale puts its dates: a date behind the last tick, or before the first one, stands where that does
abbrev pub shape_of : PlanView → Shown → View → ℕ → ℕ → Shape
shape_of plan shown view row n =
    let i = slice_index view.rows row in
    let task = task_at plan.graph i in
    let own = task.clock.start + n * task.clock.period in
    record {
      row = row;
      task = i;
      job = n;
      release = released_at plan shown i n;
      deadline = deadline_at plan i n;
      left = x_within view.scale (released_at plan shown i n);
      right = x_within view.scale (deadline_at plan i n);
      cut = cut_of view.scale (released_at plan shown i n) (deadline_at plan i n);
      bar = x_within view.scale (released_at plan shown i n + task.wcet);
      bar_cut = cut_of view.scale (released_at plan shown i n) (released_at plan shown i n + task.wcet);
      own_left = own_x view.scale own (x_within view.scale (released_at plan shown i n));
      own_right = own_x view.scale (own + task.due) (x_within view.scale (deadline_at plan i n));
    }

abbrev pub shapes_of_row : PlanView → Shown → View → ℕ → List Shape
shapes_of_row plan shown view row = map (shape_of plan shown view row) (drawn_jobs plan view (slice_index view.rows row))

-- each job that is shown of the task of each row, once
abbrev pub shapes_of : PlanView → Shown → View → List Shape
shapes_of plan shown view = flat_map (shapes_of_row plan shown view) (range_with_len 0 (length view.rows))
