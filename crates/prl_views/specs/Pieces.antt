-- The pieces of a run or a table, where they stand, and the marks at which jobs are done.
use Rattle.std.specs.Prelude.{◌≡◌, ◌+◌, ◌*◌, ◌/◌, ◌%◌, ◌==◌, ◌++◌, ℕ, List, [], ◌∷◌, length, nat_lt, slice_index, if◌then◌else◌}
use Rattle.std.specs.List.{flat_map, range_with_len}
use Rattle.prl_plan.specs.declared.events.Event.{Event}
use Rattle.prl_plan.specs.declared.graphs.TaskGraph.{TaskGraph}
use Rattle.prl_plan.specs.Plans.{PlanView}
use Rattle.prl_edf.specs.declared.analysis.Verdict.TheVariants as verdicts
use Rattle.prl_edf.specs.declared.pieces.Piece.{Piece}
use Rattle.prl_cores.specs.Spreads.{SpreadView}
use Rattle.prl_overlaps.specs.declared.entries.Entry.{Entry}
use Rattle.prl_tables.specs.Tables.{classes, last_unit}
use Rattle.prl_drawing.specs.declared.rows.TheConstants.{GAP}
use Rattle.prl_drawing.specs.declared.scales.Scale.{Scale}
use Rattle.prl_drawing.specs.Boxes.{box_text, mark_text}
use Rattle.prl_drawing.specs.Rows.{row_of}
use Rattle.prl_drawing.specs.Scales.{is_seen, x_within}
use Rattle.prl_views.specs.declared.parts.Part.{Part}
use Rattle.prl_shapes.specs.declared.kinds.Shown.{Shown}
use Rattle.prl_shapes.specs.declared.kinds.Shown.TheVariants as kinds
use Rattle.prl_shapes.specs.declared.views.View.{View}
use Rattle.prl_views.specs.declared.verdicts.TheConstants.{BELOW, HIGH, LOW}
use Rattle.prl_shapes.specs.Acts.{acts_of}
use Rattle.prl_shapes.specs.JobsShown.{drawn_jobs}
use Rattle.prl_views.specs.Parts.{ArePartsOf, part_text}
use Rattle.prl_shapes.specs.Views.{row_in}

-- what stands over the ticks of a piece, in the colour of its task
abbrev pub box_of : Scale → Piece → ℕ → ℕ → List ℕ
box_of scale piece top height = box_text scale piece.task.0 piece.from piece.to top height

-- a piece below the windows of its task, where that has a row
abbrev pub low_text : View → Piece → List ℕ
low_text view piece =
    if nat_lt (row_in view.rows piece.task.0) (length view.rows)
    then box_of view.scale piece (row_of (row_in view.rows piece.task.0) + BELOW) LOW
    else []

-- a piece in the row of the processor, below those of the tasks
abbrev pub high_text : View → Piece → List ℕ
high_text view piece = box_of view.scale piece (row_of (length view.rows) + GAP) HIGH

-- a piece of a run: below the windows of its task, and in the row of the processor
abbrev pub piece_text : View → Piece → List ℕ
piece_text view piece = if is_seen view.scale piece.from piece.to then low_text view piece ++ high_text view piece else []

-- an entry of a table as a piece of job n of its class: later by the hyperperiods before that job
abbrev pub piece_of : TaskGraph → Entry → ℕ → Piece
piece_of graph entry n =
    let later = n / classes graph entry.task.0 * graph.hyper in
    record { task = entry.task; job = n; from = entry.at + later; to = entry.at + entry.units + later }

-- the same, where job n is of that class
abbrev pub piece_if : TaskGraph → Entry → ℕ → List Piece
piece_if graph entry n = if n % classes graph entry.task.0 == entry.job then piece_of graph entry n ∷ [] else []

-- an entry in each hyperperiod: a piece of each job of its class that is shown
abbrev pub entry_pieces : PlanView → View → Entry → List Piece
entry_pieces plan view entry = flat_map (piece_if plan.graph entry) (drawn_jobs plan view entry.task.0)

abbrev pub table_pieces : PlanView → View → List Entry → List Piece
table_pieces plan view entries = flat_map (entry_pieces plan view) entries

-- a mark below the window of job n of the task of a row where its last unit begins in a table, where that tick is drawn
abbrev pub done_text : PlanView → View → List Entry → ℕ → ℕ → List ℕ
done_text plan view entries row n =
    let i = slice_index view.rows row in
    let tick = last_unit plan.graph entries i n in
    if is_seen view.scale tick (tick + 1) then mark_text i (x_within view.scale tick) (row_of row + BELOW) LOW else []

-- those of the jobs of a row that are shown
abbrev pub row_marks : PlanView → View → List Entry → ℕ → List ℕ
row_marks plan view entries row = flat_map (done_text plan view entries row) (drawn_jobs plan view (slice_index view.rows row))

abbrev pub marks_text : PlanView → View → List Entry → List ℕ
marks_text plan view entries = flat_map (row_marks plan view entries) (range_with_len 0 (length view.rows))

-- the parts of ticks in which tasks act in a run, each once, in the rows of their processors
abbrev pub IsPartsText : View → SpreadView → List Event → List ℕ → Type 0
IsPartsText view spread events text =
    (parts : List Part) × ArePartsOf view.scale (acts_of events) parts
    × (text ≡ flat_map (part_text (length view.rows) spread.placement.processors) parts)

-- the pieces of the run, each once; or those of the table in each hyperperiod, and a mark where each job that is shown is done
abbrev pub IsPiecesText : PlanView → View → Shown → List ℕ → Type 0
IsPiecesText plan view (kinds.Verdict horizon (verdicts.Run timed)) text = text ≡ flat_map (piece_text view) timed.pieces
IsPiecesText plan view (kinds.Verdict horizon (verdicts.Overload from to demand)) text = text ≡ []
IsPiecesText plan view (kinds.Events events) text = text ≡ []
IsPiecesText plan view (kinds.Cores spread events) text = IsPartsText view spread events.items text
IsPiecesText plan view (kinds.Table table) text =
    text ≡ flat_map (piece_text view) (table_pieces plan view table.entries) ++ marks_text plan view table.entries
