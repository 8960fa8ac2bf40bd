-- The least due of each application, flow after flow.
use Rattle.prl_base.proofs.Standard.{◌≡◌, ◌<◌, ◌≤◌, ◌+◌, ◌≢◌, ◌⊎◌, ℕ, List, [], ◌∷◌, ◌++◌, length, set, get_or, slice_get, Some, sym, ◌∙◌, ap, subst, arith, inl, inr, ⊎_elim, length-set, cases_eq}
use Rattle.prl_base.proofs.Standard.{get_or-set_same, cases_lt, get_or_append_left, get_or_push, slice_get_within, get_or_from_slice_get}
use Rattle.std.proofs.Common.{get_or-set_other}
use Rattle.prl_base.specs.declared.numbers.FlowNo.{FlowNo}
use Rattle.prl_base.specs.declared.operators.Clock.{Clock}
use Rattle.prl_flow.specs.Vocabulary.{FlatProgram, IsFlat, IsWellDefined, AreClocks}
use Rattle.prl_flow.specs.declared.programs.App.{App}
use Rattle.prl_flow.proofs.Lists.{element_at}
use Rattle.prl_graph.specs.Vocabulary.{BindsApplication, IsLeastDue, application_clock, AreLeastDues, HasClock, IsBinding, IsLeastOfFirst}

-- the first output of an application has a clock
pub has_clock : (p : FlatProgram) (clocks : List Clock) (k : ℕ) (app : App) → IsFlat p → AreClocks p clocks → slice_get p.apps k ≡ Some app → HasClock clocks app
has_clock p clocks k app flat are found =
    let is = flat.apps k app found in
    let at = element_at app.outs 0 is.has_output in
    let output = is.outs 0 at.0 at.1 in
    let first = get_or_from_slice_get app.outs 0 at.0 (record { 0 = 0 }) at.1 in
    let below = slice_get_within p.flows at.0.0 output.0 output.1 in
    let count = are.count in
    let there : at.0.0 < length clocks = omega arith in
    record { some = is.has_output; within = subst (λ (f : FlowNo). f.0 < length clocks) (sym first) there }

-- the period of an application
abbrev pub HasPeriod : FlatProgram → List Clock → List ℕ → ℕ → Type 0
HasPeriod p clocks dues k = (app : App) → slice_get p.apps k ≡ Some app → get_or dues k 0 ≡ (application_clock clocks app).period

pub one_period : (p : FlatProgram) (clocks : List Clock) (dues : List ℕ) (n period : ℕ) (app : App) → length dues ≡ n → slice_get p.apps n ≡ Some app → period ≡ (application_clock clocks app).period
    → ((k : ℕ) → k < n → HasPeriod p clocks dues k) → (k : ℕ) → k < n + 1 → HasPeriod p clocks (dues ++ period ∷ []) k
one_period p clocks dues n period app count found is before k low other at =
    ⊎_elim
    (λ less. get_or_append_left dues (period ∷ []) 0 k (omega arith) ∙ before k less other at)
    (λ not_less.
    (let last : k ≡ n = omega arith in
    let same : app ≡ other = (let e : Some app ≡ Some other = sym found ∙ ap (slice_get p.apps) (sym last) ∙ at in cc) in
    get_or_push dues period 0 k (count ∙ sym last) ∙ is ∙ ap (λ (a : App). (application_clock clocks a).period) same))
    (cases_lt k n)

-- before the first flow, the least due is the period
pub none_bound : (p : FlatProgram) (clocks : List Clock) (dues : List ℕ) (n : ℕ) → length dues ≡ n → length p.apps ≤ n → n ≤ length p.apps → ((k : ℕ) → k < n → HasPeriod p clocks dues k) → AreLeastDues p clocks 0 dues
none_bound p clocks dues n count most least each = record {
  count = omega arith;
  each = λ k app found.
      (let low = slice_get_within p.apps k app found in
      let is = each k (omega arith) app found in
      record {
        within = omega arith;
        least = λ i other none. absurd (omega arith);
        attained = inl is;
      });
}

-- the bound application is there
pub bound_within : (p : FlatProgram) → IsFlat p → (i k due : ℕ) → IsBinding p i k due → k < length p.apps
bound_within p flat i k due is =
    let output = is.binds.copies.output in
    let defined = subst (λ d. IsWellDefined p is.binds.copies.of.0 output.0.ty d) output.2 (flat.flows is.binds.copies.of.0 output.0 output.1) in
    slice_get_within p.apps k defined.0 defined.1

-- the least of the first flows with one flow more
pub least_more : (p : FlatProgram) (n m k period due : ℕ) → m ≤ n + 1 → due ≤ period → ((i other : ℕ) → i < n → BindsApplication p k i other → due ≤ other) →
    ((other : ℕ) → BindsApplication p k n other → due ≤ other) → (due ≡ period) ⊎ ((i : ℕ) × BindsApplication p k i due) → IsLeastOfFirst p m k period due
least_more p n m k period due more within early last attained = record {
  within = within;
  least = λ i other low binds. ⊎_elim
      (λ less. early i other less binds)
      (λ not_less. (let here : i ≡ n = omega arith in last other (subst (λ j. BindsApplication p k j other) here binds)))
      (cases_lt i n);
  attained = attained;
}

-- a flow more that binds no application
pub none_more : (p : FlatProgram) (clocks : List Clock) (dues : List ℕ) (n : ℕ) → AreLeastDues p clocks n dues → ((k due : ℕ) → BindsApplication p k n due → ⊥) → AreLeastDues p clocks (n + 1) dues
none_more p clocks dues n are none = record {
  count = are.count;
  each = λ k app found.
      (let before = are.each k app found in
      least_more p n (n + 1) k (application_clock clocks app).period (get_or dues k 0) (omega arith) before.within before.least (λ other binds. absurd (none k other binds)) before.attained);
}

-- a flow more that binds an application
module _ (p : FlatProgram) (clocks : List Clock) (dues : List ℕ) (n bound due : ℕ) (are : AreLeastDues p clocks n dues) (is : IsBinding p n bound due) where
  keeps : (k period other : ℕ) → other ≤ due → IsLeastOfFirst p n k period other → IsLeastOfFirst p (n + 1) k period other
  keeps k period other lower before =
      least_more p n (n + 1) k period other (omega arith) before.within before.least (λ next binds. (let same = (is.only k next binds).1 in omega arith)) before.attained

  others : (k period other : ℕ) → k ≢ bound → IsLeastOfFirst p n k period other → IsLeastOfFirst p (n + 1) k period other
  others k period other apart before =
      least_more p n (n + 1) k period other (omega arith) before.within before.least (λ next binds. absurd (apart (is.only k next binds).0)) before.attained

  pub kept_more : get_or dues bound 0 ≤ due → AreLeastDues p clocks (n + 1) dues
  kept_more low = record {
    count = are.count;
    each = λ k app found. ⊎_elim
        (λ same. (let lower : get_or dues k 0 ≤ due = subst (λ m. get_or dues m 0 ≤ due) (sym same) low in keeps k (application_clock clocks app).period (get_or dues k 0) lower (are.each k app found)))
        (λ apart. others k (application_clock clocks app).period (get_or dues k 0) apart (are.each k app found))
        (cases_eq k bound);
  }

  lowered_one : (k period : ℕ) → k ≡ bound → due < get_or dues bound 0 → IsLeastOfFirst p n k period (get_or dues k 0) → IsLeastOfFirst p (n + 1) k period due
  lowered_one k period same low before =
      let least : due < get_or dues k 0 = subst (λ m. due < get_or dues m 0) (sym same) low in
      least_more p n (n + 1) k period due (omega arith) (omega (arith, before.within)) (λ i next early binds. (let e = before.least i next early binds in omega arith))
      (λ next binds. (let e = (is.only k next binds).1 in omega arith)) (inr (n, subst (λ m. BindsApplication p m n due) (sym same) is.binds))

  pub lowered_more : bound < length dues → due < get_or dues bound 0 → AreLeastDues p clocks (n + 1) (set dues bound due)
  lowered_more there low = record {
    count = length-set dues bound due ∙ are.count;
    each = λ k app found. ⊎_elim
        (λ same.
        (let value : get_or (set dues bound due) k 0 ≡ due = ap (λ m. get_or (set dues bound due) m 0) same ∙ get_or-set_same dues bound due 0 there in
        subst (λ d. IsLeastOfFirst p (n + 1) k (application_clock clocks app).period d) (sym value)
        (lowered_one k (application_clock clocks app).period same low (are.each k app found))))
        (λ apart.
        (let value : get_or (set dues bound due) k 0 ≡ get_or dues k 0 = get_or-set_other dues bound k due 0 apart in
        subst (λ d. IsLeastOfFirst p (n + 1) k (application_clock clocks app).period d) (sym value)
        (others k (application_clock clocks app).period (get_or dues k 0) apart (are.each k app found))))
        (cases_eq k bound);
  }

  pub either_more : (after : List ℕ) → bound < length dues → (due < get_or dues bound 0 → after ≡ set dues bound due) → (get_or dues bound 0 ≤ due → after ≡ dues) → AreLeastDues p clocks (n + 1) after
  either_more after there less more =
      ⊎_elim
      (λ low. subst (AreLeastDues p clocks (n + 1)) (sym (less low)) (lowered_more there low))
      (λ not_low. subst (AreLeastDues p clocks (n + 1)) (sym (more not_low)) (kept_more not_low))
      (cases_lt due (get_or dues bound 0))

-- all flows are looked at
pub least_of_all : (p : FlatProgram) (n k period due : ℕ) → length p.flows ≤ n → IsLeastOfFirst p n k period due → IsLeastDue p k period due
least_of_all p n k period due most is = record {
  within = is.within;
  least = λ i other binds. (let low = slice_get_within p.flows i binds.notes.flow binds.notes.found in is.least i other (omega arith) binds);
  attained = is.attained;
}
