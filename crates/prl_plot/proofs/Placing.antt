-- Where the flow of a name stands, when a flow changes or one comes.
use Rattle.prl_base.proofs.Standard.{◌≡◌, ◌<◌, ◌≤◌, ◌+◌, ◌++◌, ◌∷◌, ◌∙◌, inl, inr, ℕ, zero, suc, Bool, true, false, not, cond, List, [], length, length-set, length_push, set, get_or, slice_get, Option, Some, None, Result, Ok, Err, refl, sym, ap, subst, arith}
use Rattle.prl_base.proofs.Standard.{cases_Bool, cases_lt, cond-true, cond-false, bytes_decides, bytes_eq, nat_lt, lt-ltb, ltb-true, slice_get-get_or, BTreeMap, Vec, Global}
use Rattle.prl_steps.specs.Flows.{FlowView}
use Rattle.prl_plot.specs.Places.{ArePlaces, IsNoted, at_name, place_found}
use Rattle.prl_base.proofs.Standard.{◌-◌, OnOk}
use Rattle.prl_base.specs.Reading.{GivesBut}
use Rattle.prl_base.specs.Values.{type_of}
use Rattle.prl_base.specs.declared.values.Ty.TheVariants as types
use Rattle.prl_plot.specs.Rows.{Entry, added_at, begun, extended, is_after, is_name, is_of, place_of, sample_of}
use Rattle.prl_plot.specs.declared.row_faults.RowFault.{RowFault}
use Rattle.prl_plot.specs.declared.row_faults.RowFault.TheVariants as faults

-- the first flow decides
at_first : (x : FlowView) (xs : List FlowView) (n : List ℕ) → bytes_eq x.name n ≡ true → place_of (x ∷ xs) n ≡ 0
at_first x xs n e = ap (λ b. cond (not b) (1 + place_of xs n) 0) e

behind_first : (x : FlowView) (xs : List FlowView) (n : List ℕ) → bytes_eq x.name n ≡ false → place_of (x ∷ xs) n ≡ 1 + place_of xs n
behind_first x xs n e = ap (λ b. cond (not b) (1 + place_of xs n) 0) e

-- a flow that goes on under its name stands where it stood
pub place_set : (flows : List FlowView) (k : ℕ) (d new : FlowView) (n : List ℕ) → k < length flows → new.name ≡ (get_or flows k d).name → place_of (set flows k new) n ≡ place_of flows n
place_set [] k d new n h e = absurd (omega (arith, h))
place_set (x ∷ xs) zero d new n h e = ap (λ (m : List ℕ). cond (not (bytes_eq m n)) (1 + place_of xs n) 0) e
place_set (x ∷ xs) (suc k) d new n h e = ap (λ p. cond (not (bytes_eq x.name n)) (1 + p) 0) (place_set xs k d new n (omega (arith, h)) e)

-- a flow that comes last stands behind those that were there
pub place_kept : (flows : List FlowView) (new : FlowView) (n : List ℕ) → place_of flows n < length flows → place_of (flows ++ new ∷ []) n ≡ place_of flows n
place_kept [] new n h = absurd (omega (arith, h))
place_kept (x ∷ xs) new n h =
    elim (cases_Bool (bytes_eq x.name n)) [
      | inl y ↦ at_first x (xs ++ new ∷ []) n y ∙ sym (at_first x xs n y)
      | inr not_it ↦
          let e = behind_first x xs n not_it in
          behind_first x (xs ++ new ∷ []) n not_it ∙ ap (λ p. 1 + p) (place_kept xs new n (omega (arith, e, h))) ∙ sym e
    ]

pub place_new : (flows : List FlowView) (new : FlowView) (n : List ℕ) → length flows ≤ place_of flows n → bytes_eq new.name n ≡ true → place_of (flows ++ new ∷ []) n ≡ length flows
place_new [] new n h y = at_first new [] n y
place_new (x ∷ xs) new n h y =
    elim (cases_Bool (bytes_eq x.name n)) [
      | inl here ↦ let e = at_first x xs n here in absurd (omega (arith, e, h))
      | inr not_it ↦
          let e = behind_first x xs n not_it in
          behind_first x (xs ++ new ∷ []) n not_it ∙ ap (λ p. 1 + p) (place_new xs new n (omega (arith, e, h)) y) ∙ omega arith
    ]

pub place_none : (flows : List FlowView) (new : FlowView) (n : List ℕ) → length flows ≤ place_of flows n → bytes_eq new.name n ≡ false → length flows < place_of (flows ++ new ∷ []) n
place_none [] new n h other = let e = behind_first new [] n other in omega (arith, e)
place_none (x ∷ xs) new n h differs =
    elim (cases_Bool (bytes_eq x.name n)) [
      | inl here ↦ let e = at_first x xs n here in absurd (omega (arith, e, h))
      | inr other ↦
          let e = behind_first x xs n other in
          let f = behind_first x (xs ++ new ∷ []) n other in
          let g = place_none xs new n (omega (arith, e, h)) differs in omega (arith, f, g)
    ]

-- where a flow is found, or none
pub found_at : (flows : List FlowView) (n : List ℕ) → place_of flows n < length flows → place_found flows n ≡ Some (place_of flows n)
found_at flows n h = cond-true (nat_lt (place_of flows n) (length flows)) (Some (place_of flows n)) None (lt-ltb _ _ h)

pub found_none : (flows : List FlowView) (n : List ℕ) → length flows ≤ place_of flows n → place_found flows n ≡ None
found_none flows n h = cond-false (nat_lt (place_of flows n) (length flows)) (Some (place_of flows n)) None (le-ltb' _ _ h)
  where
    le-ltb' : (a b : ℕ) → b ≤ a → nat_lt a b ≡ false
    le-ltb' a b h = elim (cases_Bool (nat_lt a b)) [ inl y ↦ let l = ltb-true a b y in absurd (omega (arith, h, l)) | inr n ↦ n ]

pub some_found : (flows : List FlowView) (n : List ℕ) (k : ℕ) → place_found flows n ≡ Some k → (place_of flows n ≡ k) × (k < length flows)
some_found flows n k e =
    elim (cases_lt (place_of flows n) (length flows)) [
      | inl below ↦
          let f : Some (place_of flows n) ≡ Some k = sym (found_at flows n below) ∙ e in
          let g : place_of flows n ≡ k = cc in (g, omega (arith, g, below))
      | inr past ↦ let f : None ≡ Some k = sym (found_none flows n past) ∙ e in absurd (cc f)
    ]

pub no_found : (flows : List FlowView) (n : List ℕ) → place_found flows n ≡ None → length flows ≤ place_of flows n
no_found flows n e =
    elim (cases_lt (place_of flows n) (length flows)) [
      | inl below ↦ let f : Some (place_of flows n) ≡ None = sym (found_at flows n below) ∙ e in absurd (cc f)
      | inr past ↦ past
    ]

-- the places after a flow has gone on
pub places_set : (table : BTreeMap (Vec ℕ Global) ℕ) (flows : List FlowView) (k : ℕ) (d new : FlowView) → ArePlaces table flows → k < length flows → new.name ≡ (get_or flows k d).name
    → ArePlaces table (set flows k new)
places_set table flows k d new h lt e = λ n.
    let p = place_set flows k d new n lt e in
    let l = length-set flows k new in
    h n ∙ sym (ap (λ q. cond (nat_lt q (length (set flows k new))) (Some q) None) p ∙ ap (λ (m : ℕ). cond (nat_lt (place_of flows n) m) (Some (place_of flows n)) None) l)

-- the places after a flow has begun, and its own is noted
pub places_new : (table after : BTreeMap (Vec ℕ Global) ℕ) (flows : List FlowView) (new : FlowView) → ArePlaces table flows → place_found flows new.name ≡ None
    → IsNoted table new.name (length flows) after → ArePlaces after (flows ++ new ∷ [])
places_new table after flows new h none noted = λ n.
    let l : length (flows ++ new ∷ []) ≡ length flows + 1 = length_push flows new in
    noted n ∙
    elim (cases_Bool (bytes_eq new.name n)) [
      | inl y ↦
          let same : new.name ≡ n = (bytes_decides new.name n).0 y in
          let absent : length flows ≤ place_of flows n = no_found flows n (subst (λ (m : List ℕ). place_found flows m ≡ None) same none) in
          let p = place_new flows new n absent y in
          cond-true (bytes_eq new.name n) (Some (length flows)) (at_name table n) y
          ∙ sym (found_at (flows ++ new ∷ []) n (omega (arith, p, l)) ∙ ap (λ (q : ℕ). Some q) p)
      | inr not_it ↦
          cond-false (bytes_eq new.name n) (Some (length flows)) (at_name table n) not_it ∙ h n
          ∙ elim (cases_lt (place_of flows n) (length flows)) [
            | inl below ↦
                let p = place_kept flows new n below in
                found_at flows n below ∙ sym (found_at (flows ++ new ∷ []) n (omega (arith, p, l, below)) ∙ ap (λ (q : ℕ). Some q) p)
            | inr past ↦
                let p = place_none flows new n past not_it in
                found_none flows n past ∙ sym (found_none (flows ++ new ∷ []) n (omega (arith, p, l)))
          ]
    ]

-- what comes of a call, where it gave something
pub gave : {T : Type 0} (r : Result T RowFault) (new : List FlowView) (made : Result (List FlowView) RowFault) → GivesBut faults.Memory (λ (x : T). new) r made → OnOk r (made ≡ Ok new)
gave (Ok x) new made g = g
gave (Err e) new made g = tt

pub then_so : {T : Type 0} (r : Result T RowFault) (P Q : Type 0) → OnOk r P → (P → Q) → OnOk r Q
then_so (Ok x) P Q p f = f p
then_so (Err e) P Q p f = tt

-- a flow that has begun is the last
pub begun_is : (number : ℕ) (flows new : List FlowView) (entry : Entry) → begun number flows entry ≡ Ok new
    → new ≡ flows ++ record { name = entry.0; ty = type_of entry.2; samples = sample_of entry ∷ [] } ∷ []
begun_is number flows new entry e = of (is_name entry.0) e
  where
    of : (b : Bool) → cond b (Ok (flows ++ record { name = entry.0; ty = type_of entry.2; samples = sample_of entry ∷ [] } ∷ [])) (Err (faults.Row number)) ≡ Ok new
        → new ≡ flows ++ record { name = entry.0; ty = type_of entry.2; samples = sample_of entry ∷ [] } ∷ []
    of true e = sym cc
    of false e = absurd (cc e)

no_flow : FlowView
no_flow = record { name = []; ty = types.Int; samples = [] }

-- a flow that has gone on keeps its place
pub went_places : (table : BTreeMap (Vec ℕ Global) ℕ) (number : ℕ) (flows new : List FlowView) (k : ℕ) (entry : Entry) → ArePlaces table flows → k < length flows
    → added_at number flows k (slice_get flows k) entry ≡ Ok new → ArePlaces table new
went_places table number flows new k entry h lt e =
    let there : slice_get flows k ≡ Some (get_or flows k no_flow) = slice_get-get_or flows k no_flow lt in
    let P : Option FlowView → Type 0 = λ o. added_at number flows k o entry ≡ Ok new in
    let flow = get_or flows k no_flow in
    let set_is : set flows k (extended flow entry) ≡ new = of (is_of flow.ty entry.2) (is_after (slice_get flow.samples (length flow.samples - 1)) entry.1) (subst P there e) in
    let Q : List FlowView → Type 0 = λ fs. ArePlaces table fs in
    subst Q set_is (places_set table flows k no_flow (extended flow entry) h lt refl)
  where
    of : (a b : Bool) → cond a (cond b (Ok (set flows k (extended (get_or flows k no_flow) entry))) (Err (faults.Order number))) (Err (faults.Value number)) ≡ Ok new
        → set flows k (extended (get_or flows k no_flow) entry) ≡ new
    of true true e = cc
    of true false e = absurd (cc e)
    of false b e = absurd (cc e)

-- the place that a table has
pub place_is : (table : BTreeMap (Vec ℕ Global) ℕ) (flows : List FlowView) (name : List ℕ) (k : ℕ) (o : Option ℕ) → ArePlaces table flows → o ≡ at_name table name → o ≡ Some k
    → (place_of flows name ≡ k) × (k < length flows)
place_is table flows name k o h e is = some_found flows name k (sym (h name) ∙ sym e ∙ is)
