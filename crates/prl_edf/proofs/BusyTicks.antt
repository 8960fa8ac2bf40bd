-- The pieces of a run that meets all windows have as many ticks together as the jobs have units.
use Rattle.std.proofs.Common.{◌≡◌, ◌+◌, ◌-◌, ℕ, zero, suc, List, [], ◌∷◌, Option, Some, None, Bool, cond, min, inl, inr, refl, ap, arith}
use Rattle.prl_plan.specs.Vocabulary.{HasPlanFacts, sum_below, RunConstants}
use Rattle.prl_edf.specs.Vocabulary.{Piece, sum_of_jobs, units_before, IsTimedRun, MeetsAllWindows, lies_in, run_of, ticks_of, AreLongest, EndBy}
use Rattle.prl_edf.proofs.PieceLists.{lies, lies_not, end_later}
use Rattle.prl_edf.proofs.Skips.{run_in, run_out, none_between, in_or_out}
use Rattle.prl_overlaps.proofs.Sums.{sum_plus, jobs_none, jobs_rise, jobs_grow, jobs_by_one}
use Rattle.prl_edf.proofs.Units.{some_or_none, units_rise, unit_not, unit_none, unit_more, unit_at_most, never_more}

-- 1 where a tick goes to a job
abbrev busy_in : Option (ℕ × ℕ) → ℕ
busy_in None = 0
busy_in (Some job) = 1

-- how many of the ticks before t go to some job
abbrev busy_before : (ℕ → Option (ℕ × ℕ)) → ℕ → ℕ
busy_before run t = sum_below (λ k. busy_in (run k)) t

-- how many of these lie in a piece
abbrev one_if : Bool → ℕ
one_if b = cond b 1 0

abbrev in_before : Piece → ℕ → ℕ
in_before p t = sum_below (λ k. one_if (lies_in p k)) t

lies_before : (p : Piece) (t : ℕ) → in_before p t ≡ min t p.to - p.from
lies_before p zero = omega arith
lies_before p (suc t) =
    let rest = lies_before p t in
    elim (in_or_out p t) [
      | inl inside ↦ (let from = inside.0 in let to = inside.1 in let e = ap one_if (lies p t from to) in omega (arith, rest, e, from, to))
      | inr out ↦ (let e = ap one_if (lies_not p t out) in
          elim out [ inl early ↦ omega (arith, rest, e, early) | inr late ↦ omega (arith, rest, e, late) ])
    ]

none_busy : (t : ℕ) → busy_before (run_of []) t ≡ 0
none_busy zero = refl
none_busy (suc t) = (let rest = none_busy t in omega (arith, rest))

-- a tick that lies in the first piece lies in no later one
in_one_piece : (p : Piece) (ps : List Piece) → AreLongest (p ∷ ps) → (k : ℕ) → busy_in (run_of (p ∷ ps) k) ≡ one_if (lies_in p k) + busy_in (run_of ps k)
in_one_piece p ps longest k = elim (in_or_out p k) [
  | inl inside ↦ omega (arith, ap busy_in (run_in p ps k inside.0 inside.1), ap one_if (lies p k inside.0 inside.1), ap busy_in (none_between p ps longest k inside.1))
  | inr out ↦ omega (arith, ap busy_in (run_out p ps k out), ap one_if (lies_not p k out))
]

ticks_are_busy : (ps : List Piece) → AreLongest ps → (t : ℕ) → EndBy ps t → ticks_of ps ≡ busy_before (run_of ps) t
ticks_are_busy [] longest t ended = (let e = none_busy t in omega (arith, e))
ticks_are_busy (p ∷ ps) longest t ended =
    let both = sum_plus (λ k. busy_in (run_of (p ∷ ps) k)) (λ k. one_if (lies_in p k)) (λ k. busy_in (run_of ps k)) t (λ k _. in_one_piece p ps longest k) in
    omega (arith, ticks_are_busy ps longest.2 t ended.1, lies_before p t, ended.0, both)

-- each tick that goes to a job is one more unit of the jobs
module _ (c : RunConstants) (units : ℕ → ℕ → ℕ) (run : ℕ → Option (ℕ × ℕ)) (timed : IsTimedRun c units run) where
  units_are_busy : (t : ℕ) → sum_of_jobs c (units_before run t) ≡ busy_before run t
  units_are_busy zero = jobs_none c (units_before run 0) (λ i n _. refl)
  units_are_busy (suc t) =
      let rest = units_are_busy t in
      elim (some_or_none (run t)) [
        | inl none ↦
            (let up = jobs_rise c (units_before run t) (units_before run (suc t)) (λ i n _. (let e = unit_none run i n t none in omega (arith, e))) in
            let down = jobs_rise c (units_before run (suc t)) (units_before run t) (λ i n _. (let e = unit_none run i n t none in omega (arith, e))) in
            omega (arith, rest, ap busy_in none, up, down))
        | inr some ↦
            (let i : ℕ = some.0 in
            let n : ℕ = some.1 in
            let most = jobs_by_one c (units_before run t) (units_before run (suc t)) i n
            (λ j k _ other. (let e = unit_not run j k t i n some.2 other in omega (arith, e)))
            (λ _. unit_at_most run i n t) in
            let more = jobs_grow c (units_before run t) (units_before run (suc t)) (λ j k _. units_rise run j k t (suc t) (omega arith))
            i n (timed.ready t i n some.2).job (let e = unit_more run i n t some.2 in omega (arith, e)) in
            omega (arith, rest, ap busy_in some.2, most, more))
      ]

some_end : (ps : List Piece) → (t : ℕ) × EndBy ps t
some_end [] = (0, tt)
some_end (p ∷ ps) = (let rest = some_end ps in (p.to + rest.0, (omega arith, end_later ps rest.0 (p.to + rest.0) (omega arith) rest.1)))

pub all_units : (c : RunConstants) → HasPlanFacts c → (units : ℕ → ℕ → ℕ) (pieces : List Piece) → AreLongest pieces → IsTimedRun c units (run_of pieces) →
    MeetsAllWindows c units (run_of pieces) → ticks_of pieces ≡ sum_of_jobs c units
all_units c facts units pieces longest timed met =
    let last = some_end pieces in
    let t : ℕ = c.end + last.0 in
    let run : ℕ → Option (ℕ × ℕ) = run_of pieces in
    let ticks = ticks_are_busy pieces longest t (end_later pieces last.0 t (omega arith) last.1) in
    let up = jobs_rise c units (units_before run t) (λ i n job.
    (let rise = units_rise run i n (c.deadline i n) t (omega (arith, facts.within i n job)) in
    omega (arith, met i n job, rise))) in
    let down = jobs_rise c (units_before run t) units (λ i n _. never_more c units run timed i n t) in
    omega (arith, ticks, units_are_busy c units run timed t, up, down)
