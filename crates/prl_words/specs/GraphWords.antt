-- Why a task graph has no words.
use Rattle.std.specs.Prelude.{◌≡◌, ◌<◌, ℕ, sum_by}
use Rattle.prl_base.specs.declared.limits.What.TheVariants as whats
use Rattle.prl_plan.specs.declared.graphs.Edge.{Edge}
use Rattle.prl_plan.specs.declared.graphs.TaskGraph.{TaskGraph}
use Rattle.prl_plan.specs.declared.limits.TheConstants.{MAX_PREFIX}
use Rattle.prl_plan.specs.FirstReaders.{first_reader}
use Rattle.prl_words.specs.declared.graphs.WordFault.{WordFault}
use Rattle.prl_words.specs.declared.graphs.WordFault.TheVariants as faults

-- how many jobs read constants at first: on each edge those before the first that reads an instance
abbrev pub constant_reads : TaskGraph → ℕ
constant_reads graph = sum_by (λ (edge : Edge). first_reader edge.ops) graph.edges

-- the limit is passed by this many constants; want of memory is free
abbrev pub IsWordFault : TaskGraph → WordFault → Type 0
IsWordFault graph (faults.Limit limit) =
    (limit ≡ record { what = whats.Prefix; found = constant_reads graph })
    × (MAX_PREFIX < constant_reads graph)
IsWordFault graph faults.Memory = Unit {0}
