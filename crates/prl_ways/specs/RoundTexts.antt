-- How a cycle of flows is written.
use Rattle.std.specs.Prelude.{◌++◌, ℕ, List, [], codes, slice_get, Option, Some, None, if◌then◌else◌}
use Rattle.std.specs.List.{flat_map}
use Rattle.prl_flow.specs.declared.programs.Flow.{Flow}
use Rattle.prl_flow.specs.Programs.{FlatProgram}
use Rattle.prl_flow.specs.Uses.{is_made}
use Rattle.prl_ways.specs.declared.rounds.Round.{Round}

abbrev pub label_of : Option Flow → List ℕ
label_of None = []
label_of (Some flow) = flow.label

-- the label of a flow
abbrev pub flow_label : FlatProgram → ℕ → List ℕ
flow_label p i = label_of (slice_get p.flows i)

-- words and a label
unfoldable pub quoted : List ℕ → List ℕ → List ℕ
quoted front label = front ++ label ++ codes "`"

-- that a flow is needed, where it has a name in the program
unfoldable pub need_text : FlatProgram → ℕ → List ℕ
need_text p i = if is_made (flow_label p i) then [] else quoted (codes " needs `") (flow_label p i) ++ codes ", which"

-- the first flow, and those that have names after it
unfoldable pub way_text : FlatProgram → Round → List ℕ
way_text p round = quoted (codes "Round the cycle: `") (flow_label p round.first) ++ flat_map (need_text p) round.rest

-- back to the first flow
unfoldable pub back_text : FlatProgram → Round → List ℕ
back_text p round = quoted (codes " needs `") (flow_label p round.first) ++ codes ".\n"

-- the flows that have names, one after another, back to the first
abbrev pub round_text : FlatProgram → Round → List ℕ
round_text p round = way_text p round ++ back_text p round
