-- A join of views that share no part loses none.
use Rattle.std.proofs.Common.{◌≡◌, ℕ, zero, suc, ◌&&◌, ◌||◌, List, [], ◌∷◌, refl, sym, Bool, true, false, Option, Some, None}
use mathlib.Core.Option.{some, some-injective, some-ne-none}
use lib.ListN.{get_elem?}
use Rattle.prl_rule.specs.Steps.{first_of, merged}
use Rattle.prl_rule.specs.declared.views.ClockPart.{ClockPart}
use Rattle.prl_rule.specs.declared.views.TaskPart.{TaskPart}
use Rattle.prl_rule.specs.declared.views.View.{View}
use Rattle.prl_seats.specs.Parts.{has_clock, overlap, share_part}

-- no part is lost
pub mine_stays : (ps qs : List (Option TaskPart)) (j : ℕ) (p : TaskPart) → get_elem? ps j ≡ some (Some p) → get_elem? (merged ps qs) j ≡ some (Some p)
mine_stays [] qs j p e = absurd (some-ne-none (Some p) (sym e))
mine_stays (x ∷ ps) [] j p e = e
mine_stays (Some x ∷ ps) (q ∷ qs) zero p e = e
mine_stays (None ∷ ps) (q ∷ qs) zero p e = let same : None ≡ Some p = some-injective None (Some p) e in absurd (cc same)
mine_stays (x ∷ ps) (q ∷ qs) (suc j) p e = mine_stays ps qs j p e

pub theirs_comes : (ps qs : List (Option TaskPart)) (j : ℕ) (p : TaskPart) → overlap ps qs ≡ false → get_elem? qs j ≡ some (Some p) → get_elem? (merged ps qs) j ≡ some (Some p)
theirs_comes [] qs j p apart e = e
theirs_comes (x ∷ ps) [] j p apart e = absurd (some-ne-none (Some p) (sym e))
theirs_comes (Some x ∷ ps) (Some q ∷ qs) j p apart e = let same : true ≡ false = apart in absurd (cc same)
theirs_comes (Some x ∷ ps) (None ∷ qs) zero p apart e = let same : None ≡ Some p = some-injective None (Some p) e in absurd (cc same)
theirs_comes (Some x ∷ ps) (None ∷ qs) (suc j) p apart e = theirs_comes ps qs j p apart e
theirs_comes (None ∷ ps) (q ∷ qs) zero p apart e = e
theirs_comes (None ∷ ps) (q ∷ qs) (suc j) p apart e = theirs_comes ps qs j p apart e

pub clock_stays : (a b : Option ClockPart) (r : ClockPart) → a ≡ Some r → first_of a b ≡ Some r
clock_stays (Some a) b r e = e
clock_stays None b r e = absurd (cc e)

or_left : (a b : Bool) → (a || b) ≡ false → a ≡ false
or_left true b e = let z : true ≡ false = e in absurd (cc z)
or_left false b e = refl

-- views that share no part have no task's part in common
pub tasks_apart : (u x : View) → share_part u x ≡ false → overlap u.tasks x.tasks ≡ false
tasks_apart u x apart = or_left (overlap u.tasks x.tasks) (has_clock u.clock && has_clock x.clock) apart
