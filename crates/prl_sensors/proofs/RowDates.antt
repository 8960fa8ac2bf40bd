-- The dates of actuators' rows, and the text up to a date.
use Rattle.prl_base.proofs.Standard.{◌≡◌, ◌+◌, ◌-◌, ◌/◌, ◌%◌, ◌<◌, ◌≤◌, ◌++◌, ℕ, zero, suc, true, List, [], ◌∷◌, length, None, refl, ◌∙◌, ap, arith, add-one, All, nat_le, ◌==◌, inl, inr, flat_map}
use Rattle.prl_base.proofs.Standard.{cases_Bool, cases_lt, and_parts, leb-true, eqb-true, append-nil, All-head, All-tail, div-add-mod', slice_get_past}
use Rattle.std.proofs.lemmas.List.Concat.{flat_map-append}
use Rattle.prl_base.specs.Clocks.{date_at}
use Rattle.prl_base.specs.declared.operators.Clock.{Clock}
use Rattle.prl_flow.specs.Vocabulary.{value_at, AreUpTo, is_date, row_at, actuator_rows, actuator_text, row_text}
use Rattle.prl_flow.specs.declared.programs.OutFlow.{OutFlow}
use Rattle.prl_sensors.specs.Ends.{EndsBefore}

-- a date of the clock has a number
pub date_of : (c : Clock) (t : ℕ) → is_date c t ≡ true → t ≡ date_at c ((t - c.start) / c.period)
date_of c t date =
    let tests = and_parts (nat_le c.start t) ((t - c.start) % c.period == 0) date in
    let late : c.start ≤ t = leb-true c.start t tests.0 in
    let whole : (t - c.start) % c.period ≡ 0 = eqb-true ((t - c.start) % c.period) 0 tests.1 in
    omega (arith, div-add-mod' (t - c.start) c.period)

-- where the actuator has no value of the date's number it has no row
pub row_at_none : (out : OutFlow) (t : ℕ) → ((k : ℕ) → t ≡ date_at out.clock k → length out.values ≤ k) → row_at t out ≡ []
row_at_none out t past = elim (cases_Bool (is_date out.clock t)) [
  | inl date ↦
      let none : value_at out.clock out.values t ≡ None = slice_get_past out.values ((t - out.clock.start) / out.clock.period) (past _ (date_of out.clock t date)) in
      rw (date, none) refl
  | inr other ↦ rw other refl
]

pub EndsBefore_more : (a b : ℕ) (out : OutFlow) → a ≤ b → EndsBefore a out → EndsBefore b out
EndsBefore_more a b out order ends = record { clock = ends.clock; dates = λ k within. let h : date_at out.clock k < a = ends.dates k within in omega arith }

pub EndsBefore_from_AreUpTo : (until : ℕ) (outs : List OutFlow) → AreUpTo until outs → All (EndsBefore until) outs
EndsBefore_from_AreUpTo until outs up_to = λ k d within. let out = up_to k d within in record { clock = out.0; dates = λ j below. (out.1 j).0 below }

pub no_rows_after_end : (end : ℕ) (outs : List OutFlow) (t : ℕ) → All (EndsBefore end) outs → end ≤ t → flat_map (row_at t) outs ≡ []
no_rows_after_end end [] t ends late = refl
no_rows_after_end end (out ∷ outs) t ends late =
    let first : EndsBefore end out = All-head (EndsBefore end) out outs ends in
    let none : row_at t out ≡ [] = row_at_none out t (λ k same. elim (cases_lt k (length out.values)) [
      | inl within ↦ let h : date_at out.clock k < end = first.dates k within in absurd (omega arith)
      | inr past ↦ past
    ]) in
    rw (none, no_rows_after_end end outs t (All-tail (EndsBefore end) out outs ends) late) refl

-- the text does not grow where there is no row
actuator_rows_skip : (outs : List OutFlow) (a b : ℕ) → a ≤ b → ((t : ℕ) → a ≤ t → t < b → flat_map (row_at t) outs ≡ []) → actuator_rows b outs ≡ actuator_rows a outs
actuator_rows_skip outs a zero order none = let e : a ≡ zero = omega arith in rw e refl
actuator_rows_skip outs a (suc b) order none = elim (cases_lt b a) [
  | inl less ↦ let e : a ≡ suc b = omega arith in rw e refl
  | inr more ↦ rw (none b more (omega arith)) (append-nil (actuator_rows b outs) ∙ actuator_rows_skip outs a b more (λ t from before. none t from (omega arith)))
]

pub actuator_text_skip : (outs : List OutFlow) (a b : ℕ) → a ≤ b → ((t : ℕ) → a ≤ t → t < b → flat_map (row_at t) outs ≡ []) → actuator_text b outs ≡ actuator_text a outs
actuator_text_skip outs a b order none = ap (flat_map row_text) (actuator_rows_skip outs a b order none)

pub actuator_text_more : (outs : List OutFlow) (t : ℕ) → actuator_text (t + 1) outs ≡ actuator_text t outs ++ flat_map row_text (flat_map (row_at t) outs)
actuator_text_more outs t = rw add-one (flat_map-append row_text (actuator_rows t outs) (flat_map (row_at t) outs))
