-- Slots that are apart, and lists of them in another order.
use Rattle.prl_base.proofs.Standard.{◌≡◌, ◌≢◌, ◌+◌, ◌*◌, ◌-◌, ◌/◌, ◌%◌, ◌<◌, ◌≤◌, ◌⊎◌, ℕ, zero, suc, Bool, true, false, List, [], ◌∷◌, ◌++◌, Option, Some, None, All, inl, inr, refl, sym, ◌∙◌, ap, subst}
use Rattle.prl_base.proofs.Standard.{arith, cond, nat_le, nat_tests, slice_get, cases_lt, cases_Bool, get_or_from_slice_get, slice_get_within, All-append, All-cons, All-nil, IsPermutation, IsPermutation-keeps}
use Rattle.prl_base.proofs.Standard.{IsPermutation-sym}
use Rattle.prl_plan.specs.declared.graphs.TaskGraph.{TaskGraph}
use Rattle.prl_overlaps.proofs.Swaps.{at_place, one_place, to_place}
use Rattle.prl_tables.specs.Vocabulary.{Entry, Clash, Overlap}
use Rattle.prl_frames.specs.declared.slots.Slot.{Slot}
use Rattle.prl_frames.specs.declared.spans.Span.{Span}
use Rattle.prl_frames.specs.Frames.{goes_by, has_tick, job_at}
use Rattle.prl_frames.specs.code.Making.{cut, cut_all, edge_after, slot_of, span_of}
use Rattle.prl_frames.proofs.Ticks.{edge_is, edge_parts}

-- one ends before the other begins
abbrev pub IsApart : Slot → Slot → Type 0
IsApart one other = (one.at + one.units ≤ other.at) ⊎ (other.at + other.units ≤ one.at)

abbrev pub AreApart : List Slot → Type 0
AreApart slots = (k l : ℕ) (one other : Slot) → k ≢ l → slice_get slots k ≡ Some one → slice_get slots l ≡ Some other → IsApart one other

-- what holds of each holds of the one at a place
pub at_place_of : (P : Slot → Type 0) (slots : List Slot) (k : ℕ) (slot : Slot) → All P slots → slice_get slots k ≡ Some slot → P slot
at_place_of P slots k slot all at = subst P (get_or_from_slice_get slots k slot slot at) (all k slot (slice_get_within slots k slot at))

turned : (one other : Slot) → IsApart one other → IsApart other one
turned one other (inl before) = inr before
turned one other (inr after) = inl after

same_slot : (x y : Slot) → Some x ≡ Some y → x ≡ y
same_slot x y e = cc

pub apart_more : (slot : Slot) (slots : List Slot) → All (IsApart slot) slots → AreApart slots → AreApart (slot ∷ slots)
apart_more slot slots each rest zero zero one other differ at_k at_l = absurd (differ refl)
apart_more slot slots each rest zero (suc l) one other differ at_k at_l =
    subst (λ (s : Slot). IsApart s other) (same_slot slot one at_k) (at_place_of (IsApart slot) slots l other each at_l)
apart_more slot slots each rest (suc k) zero one other differ at_k at_l =
    turned other one (subst (λ (s : Slot). IsApart s one) (same_slot slot other at_l) (at_place_of (IsApart slot) slots k one each at_k))
apart_more slot slots each rest (suc k) (suc l) one other differ at_k at_l = rest k l one other (λ same. differ (ap (λ (n : ℕ). suc n) same)) at_k at_l

-- a and b lie in the entry, in this order
abbrev pub IsWithin : Entry → ℕ → ℕ → Type 0
IsWithin entry a b = (entry.at ≤ a) × (a ≤ b) × (b ≤ entry.at + entry.units)

module _ (hyper : ℕ) (some : 1 ≤ hyper) where
  -- slots of entries that have no tick in common after shifts
  slots_apart : (s1 s2 : Span) (one other : Entry) (a b c d : ℕ) → IsWithin one a b → IsWithin other c d →
      (Overlap hyper one other (c / hyper) (a / hyper) → ⊥) → IsApart (slot_of hyper s1 one a b) (slot_of hyper s2 other c d)
  slots_apart s1 s2 one other a b c d first second none =
      let f0 = first.0 in let f1 = first.1 in let f2 = first.2 in
      let g0 = second.0 in let g1 = second.1 in let g2 = second.2 in
      let ea : a ≡ a % hyper + a / hyper * hyper = omega arith in
      let ec : c ≡ c % hyper + c / hyper * hyper = omega arith in
      elim (cases_lt (a % hyper) (c % hyper + (d - c))) [
        | inr before ↦ inr before
        | inl from ↦ elim (cases_lt (c % hyper) (a % hyper + (b - a))) [
          | inr after ↦ inl after
          | inl to ↦ absurd (none (record {
            starts = omega (arith, f0, g1, g2, ea, ec, from);
            ends = omega (arith, g0, f1, f2, ea, ec, to);
          }))
        ]
      ]

  -- what holds of each slot of some entries holds of all of them
  each_cut : (P : Slot → Type 0) (span : Span) (entry : Entry) → 1 ≤ entry.units → ((a b : ℕ) → IsWithin entry a b → a < b → b ≤ edge_after hyper a → entry.units ≤ hyper → P (slot_of hyper span entry a b)) →
      entry.units ≤ hyper → All P (cut hyper span entry)
  each_cut P span entry units each short =
      elim (cases_lt (edge_after hyper entry.at) (entry.at + entry.units)) [
        | inl past ↦
            (let e = edge_is hyper some entry.at in
            let e1 = e.1 in
            let e0 = e.0 in
            let n = edge_is hyper some (edge_after hyper entry.at) in
            let n0 = n.0 in
            let by = ap (λ (v : ℕ). v * hyper) (edge_parts hyper some entry.at).0 in
            let more : (entry.at / hyper + 1) * hyper ≡ entry.at / hyper * hyper + hyper = omega arith in
            let test : nat_le (entry.at + entry.units) (edge_after hyper entry.at) ≡ false = grind (arith, nat_tests, past) in
            subst (λ (b : Bool). All P (cond b (slot_of hyper span entry entry.at (entry.at + entry.units) ∷ [])
            (slot_of hyper span entry entry.at (edge_after hyper entry.at) ∷ slot_of hyper span entry (edge_after hyper entry.at) (entry.at + entry.units) ∷ []))) (sym test)
            (All-cons P (slot_of hyper span entry entry.at (edge_after hyper entry.at)) (slot_of hyper span entry (edge_after hyper entry.at) (entry.at + entry.units) ∷ [])
            (each entry.at (edge_after hyper entry.at) (omega arith, omega (arith, e1), omega (arith, past)) e1 (omega arith) short)
            (All-cons P (slot_of hyper span entry (edge_after hyper entry.at) (entry.at + entry.units)) []
            (each (edge_after hyper entry.at) (entry.at + entry.units) (omega (arith, e1), omega (arith, past), omega arith) past (omega (arith, n0, by, more, e0, short, e1)) short) (All-nil P))))
        | inr within ↦
            (let test : nat_le (entry.at + entry.units) (edge_after hyper entry.at) ≡ true = grind (arith, nat_tests, within) in
            subst (λ (b : Bool). All P (cond b (slot_of hyper span entry entry.at (entry.at + entry.units) ∷ [])
            (slot_of hyper span entry entry.at (edge_after hyper entry.at) ∷ slot_of hyper span entry (edge_after hyper entry.at) (entry.at + entry.units) ∷ []))) (sym test)
            (All-cons P (slot_of hyper span entry entry.at (entry.at + entry.units)) []
            (each entry.at (entry.at + entry.units) (omega arith, omega arith, omega arith) (omega (arith, units)) within short) (All-nil P)))
      ]

  -- each entry has units, and no more than a hyperperiod
  abbrev pub AreShort : List Entry → Type 0
  AreShort entries = (k : ℕ) (entry : Entry) → slice_get entries k ≡ Some entry → (1 ≤ entry.units) × (entry.units ≤ hyper)

  pub each_of_all : (P : Slot → Type 0) (table entries : List Entry) → AreShort entries →
      ((k : ℕ) (entry : Entry) → slice_get entries k ≡ Some entry → (a b : ℕ) → IsWithin entry a b → a < b → b ≤ edge_after hyper a → P (slot_of hyper (span_of table entry.task.0 entry.job) entry a b)) →
      All P (cut_all hyper table entries)
  each_of_all P table [] short each = All-nil P
  each_of_all P table (entry ∷ entries) short each =
      let s = short 0 entry refl in
      All-append P (cut hyper (span_of table entry.task.0 entry.job) entry) (cut_all hyper table entries)
      (each_cut P (span_of table entry.task.0 entry.job) entry s.0 (λ a b within order edge _. each 0 entry refl a b within order edge) s.1)
      (each_of_all P table entries (λ k other at. short (suc k) other at) (λ k other at. each (suc k) other at))

  -- the slots of one entry are apart, and from those of others
  cut_apart : (span : Span) (entry : Entry) (rest : List Slot) → 1 ≤ entry.units → entry.units ≤ hyper →
      ((a b : ℕ) → IsWithin entry a b → All (IsApart (slot_of hyper span entry a b)) rest) → AreApart rest → AreApart (cut hyper span entry ++ rest)
  cut_apart span entry rest units short each apart =
      let whole = slot_of hyper span entry entry.at (entry.at + entry.units) in
      let one = slot_of hyper span entry entry.at (edge_after hyper entry.at) in
      let two = slot_of hyper span entry (edge_after hyper entry.at) (entry.at + entry.units) in
      elim (cases_lt (edge_after hyper entry.at) (entry.at + entry.units)) [
        | inl past ↦
            (let e = edge_is hyper some entry.at in
            let e1 = e.1 in
            let e2 = e.2 in
            let e0 = e.0 in
            let p = (edge_parts hyper some entry.at).1 in
            let s : entry.at ≡ entry.at % hyper + entry.at / hyper * hyper = omega arith in
            let test : nat_le (entry.at + entry.units) (edge_after hyper entry.at) ≡ false = grind (arith, nat_tests, past) in
            subst (λ (b : Bool). AreApart (cond b (whole ∷ []) (one ∷ two ∷ []) ++ rest)) (sym test)
            (apart_more one (two ∷ rest)
            (All-cons (IsApart one) two rest (inr (omega (arith, p, e0, s, short, past))) (each entry.at (edge_after hyper entry.at) (omega arith, omega (arith, e1), omega (arith, past))))
            (apart_more two rest (each (edge_after hyper entry.at) (entry.at + entry.units) (omega (arith, e1), omega (arith, past), omega arith)) apart)))
        | inr within ↦
            (let test : nat_le (entry.at + entry.units) (edge_after hyper entry.at) ≡ true = grind (arith, nat_tests, within) in
            subst (λ (b : Bool). AreApart (cond b (whole ∷ []) (one ∷ two ∷ []) ++ rest)) (sym test)
            (apart_more whole rest (each entry.at (entry.at + entry.units) (omega arith, omega arith, omega arith)) apart))
      ]

  abbrev pub NoneClash : List Entry → Type 0
  NoneClash entries = (k l : ℕ) → Clash hyper entries k l → ⊥

  pub rest_apart : (entry : Entry) (entries : List Entry) → NoneClash (entry ∷ entries) → NoneClash entries
  rest_apart entry entries apart k l clash = apart (suc k) (suc l) (record {
    one = clash.one;
    other = clash.other;
    first = clash.first;
    second = clash.second;
    a = clash.a;
    b = clash.b;
    overlap = clash.overlap;
    differ = λ same level. clash.differ (omega (arith, same)) level;
  })

  no_slots : {Y : Type 0} (k : ℕ) (one : Slot) → slice_get [] k ≡ Some one → Y
  no_slots k one at = absurd (let e : ◌≡◌ {A = Option Slot} None (Some one) = at in cc)

  pub all_apart : (table entries : List Entry) → AreShort entries → NoneClash entries → AreApart (cut_all hyper table entries)
  all_apart table [] short apart = λ k l one other differ at_k at_l. no_slots k one at_k
  all_apart table (entry ∷ entries) short apart =
      let s = short 0 entry refl in
      cut_apart (span_of table entry.task.0 entry.job) entry (cut_all hyper table entries) s.0 s.1
      (λ a b within.
      each_of_all (IsApart (slot_of hyper (span_of table entry.task.0 entry.job) entry a b)) table entries (λ k other at. short (suc k) other at)
      (λ k other at c d second order edge.
      slots_apart (span_of table entry.task.0 entry.job) (span_of table other.task.0 other.job) entry other a b c d within second
      (λ overlap.
      apart 0 (suc k) (record {
        one = entry;
        other = other;
        first = refl;
        second = at;
        a = c / hyper;
        b = a / hyper;
        overlap = overlap;
        differ = λ same _. omega (arith, same);
      }))))
      (all_apart table entries (λ k other at. short (suc k) other at) (rest_apart entry entries apart))

no_slot : Slot
no_slot = record { at = 0; units = 0; task = record { 0 = 0 }; job = 0; from = 0; first = false; last = false }

pub apart_permuted : (xs ys : List Slot) → IsPermutation xs ys → AreApart xs → AreApart ys
apart_permuted xs ys permuted apart =
    IsPermutation-keeps xs AreApart apart
    (λ slots i j i_in j_in so_far k l one other differ at_k at_l.
    (let p = at_place no_slot slots i j i_in j_in k in
    let q = at_place no_slot slots i j i_in j_in l in
    so_far p.0 q.0 one other (λ same. differ (one_place no_slot slots i j i_in j_in k l p.0 q.0 p.2 q.2 same)) (sym p.1 ∙ at_k) (sym q.1 ∙ at_l))) ys permuted

stands : (xs ys : List Slot) → IsPermutation xs ys → (k : ℕ) (slot : Slot) → slice_get xs k ≡ Some slot → (p : ℕ) × (slice_get ys p ≡ Some slot)
stands xs ys permuted k slot at =
    IsPermutation-keeps xs (λ (slots : List Slot). (p : ℕ) × (slice_get slots p ≡ Some slot)) (k, at)
    (λ slots i j i_in j_in so_far. (let p = to_place no_slot slots i j i_in j_in so_far.0 in (p.0, p.1 ∙ so_far.1))) ys permuted

module _ (graph : TaskGraph) (t : ℕ) where
  -- a tick of a slot goes to its job
  pub hit : (slots : List Slot) → AreApart slots → (k : ℕ) (slot : Slot) → slice_get slots k ≡ Some slot → has_tick graph.hyper slot t ≡ true →
      goes_by graph slots t ≡ Some (job_at graph slot t)
  hit [] apart k slot at has = cc
  hit (other ∷ slots) apart zero slot at has =
      let same : other ≡ slot = same_slot other slot at in
      subst (λ (s : Slot). goes_by graph (s ∷ slots) t ≡ Some (job_at graph slot t)) (sym same) (ap (λ (b : Bool). cond b (Some (job_at graph slot t)) (goes_by graph slots t)) has)
  hit (other ∷ slots) apart (suc k) slot at has = elim (cases_Bool (has_tick graph.hyper other t)) [
    | inr not ↦
        ap (λ (b : Bool). cond b (Some (job_at graph other t)) (goes_by graph slots t)) not
        ∙ hit slots (λ p q one two differ at_p at_q. apart (suc p) (suc q) one two (λ same. differ (omega (arith, same))) at_p at_q) k slot at has
    | inl first ↦ absurd
        (let a : other.at ≤ t % graph.hyper = grind (arith, nat_tests, first) in
        let b : t % graph.hyper < other.at + other.units = grind (arith, nat_tests, first) in
        let c : slot.at ≤ t % graph.hyper = grind (arith, nat_tests, has) in
        let d : t % graph.hyper < slot.at + slot.units = grind (arith, nat_tests, has) in
        elim (apart 0 (suc k) other slot (λ same. omega (arith, same)) refl at) [
          | inl before ↦ omega (arith, before, b, c)
          | inr after ↦ omega (arith, after, a, d)
        ])
  ]

  -- what a tick goes to is the job of a slot that has it
  found : (slots : List Slot) (job : ℕ × ℕ) → goes_by graph slots t ≡ Some job →
      (k : ℕ) × (slot : Slot) × (slice_get slots k ≡ Some slot) × (has_tick graph.hyper slot t ≡ true) × (Some (job_at graph slot t) ≡ Some job)
  found [] job goes = (let e : ◌≡◌ {A = Option (ℕ × ℕ)} None (Some job) = goes in cc)
  found (slot ∷ slots) job goes = elim (cases_Bool (has_tick graph.hyper slot t)) [
    | inl has ↦ (0, slot, refl, has, sym (ap (λ (b : Bool). cond b (Some (job_at graph slot t)) (goes_by graph slots t)) has) ∙ goes)
    | inr not ↦
        (let rest = found slots job (sym (ap (λ (b : Bool). cond b (Some (job_at graph slot t)) (goes_by graph slots t)) not) ∙ goes) in
        (suc rest.0, rest.1, rest.2, rest.3, rest.4))
  ]

  kept : (xs ys : List Slot) → IsPermutation xs ys → AreApart ys → (job : ℕ × ℕ) → goes_by graph xs t ≡ Some job → goes_by graph ys t ≡ Some job
  kept xs ys permuted apart job goes =
      let f = found xs job goes in
      let p = stands xs ys permuted f.0 f.1 f.2 in
      hit ys apart p.0 f.1 p.1 f.3 ∙ f.4

  some_or_none : (o : Option (ℕ × ℕ)) → (o ≡ None) ⊎ ((job : ℕ × ℕ) × (o ≡ Some job))
  some_or_none None = inl refl
  some_or_none (Some job) = inr (job, refl)

  pub goes_permuted : (xs ys : List Slot) → IsPermutation xs ys → AreApart xs → goes_by graph ys t ≡ goes_by graph xs t
  goes_permuted xs ys permuted apart = elim (some_or_none (goes_by graph xs t)) [
    | inr some ↦ kept xs ys permuted (apart_permuted xs ys permuted apart) some.0 some.1 ∙ sym some.1
    | inl none ↦ elim (some_or_none (goes_by graph ys t)) [
      | inl also ↦ also ∙ sym none
      | inr some ↦ absurd
          (let back = kept ys xs (IsPermutation-sym xs ys permuted) apart some.0 some.1 in
          let e : ◌≡◌ {A = Option (ℕ × ℕ)} None (Some some.0) = sym none ∙ back in cc)
    ]
  ]
