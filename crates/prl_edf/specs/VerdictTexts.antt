-- The line that tells what the analysis of a plan has found.
use Rattle.std.specs.Prelude.{◌-◌, ℕ, List, [], ◌∷◌, length, codes}
use Rattle.std.specs.List.{concat}
use Rattle.std.specs.Fmt.{decimal}
use Rattle.prl_edf.specs.declared.analysis.Verdict.{Verdict}
use Rattle.prl_edf.specs.declared.analysis.Verdict.TheVariants as verdicts
use Rattle.prl_edf.specs.Pieces.{ticks_of}

-- how many jobs the run has, how many pieces, and for how many ticks the processor is busy
abbrev pub run_line : ℕ → ℕ → ℕ → List ℕ
run_line jobs pieces ticks =
    concat (
    codes "feasible jobs " ∷ decimal jobs ∷ codes " slices " ∷ decimal pieces ∷ codes " busy " ∷ decimal ticks ∷ codes "\n" ∷ []
    )

-- the overloaded interval, its demand, and how many ticks it has
abbrev pub overload_line : ℕ → ℕ → ℕ → List ℕ
overload_line from to demand =
    concat (
    codes "overload " ∷ decimal from ∷ codes " " ∷ decimal to ∷ codes " demand " ∷ decimal demand ∷ codes " has " ∷ decimal (to - from)
    ∷ codes "\n" ∷ []
    )

-- of a horizon with so many jobs
abbrev pub verdict_line : ℕ → Verdict → List ℕ
verdict_line jobs (verdicts.Run timed) = run_line jobs (length timed.pieces) (ticks_of timed.pieces)
verdict_line jobs (verdicts.Overload from to demand) = overload_line from to demand
