-- Slots that are apart, in the order of their beginnings.
use Rattle.prl_base.proofs.Standard.{◌≡◌, ◌+◌, ◌≤◌, ℕ, suc, List, [], ◌∷◌, Some, All, inl, inr, refl, ap, arith, slice_get, get_or_from_slice_get, slice_get_within, All-head, All-tail, IsNonDecreasingBy}
use Rattle.prl_frames.specs.declared.slots.Slot.{Slot}
use Rattle.prl_frames.specs.Frames.{AreInOrder}
use Rattle.prl_frames.proofs.Places.{AreApart, at_place_of}

-- the slot has units, and ends within the hyperperiod
abbrev pub Fits : ℕ → Slot → Type 0
Fits hyper slot = (1 ≤ slot.units) × (slot.at + slot.units ≤ hyper)

pub in_order : (hyper : ℕ) (slots : List Slot) (from : ℕ) → ((k : ℕ) (slot : Slot) → slice_get slots k ≡ Some slot → from ≤ slot.at) →
    IsNonDecreasingBy (λ (slot : Slot). slot.at) slots → AreApart slots → All (Fits hyper) slots → AreInOrder hyper from slots
in_order hyper [] from low sorted apart fits = tt
in_order hyper (slot ∷ slots) from low sorted apart fits =
    let here = All-head (Fits hyper) slot slots fits in
    let units = here.0 in (
      low 0 slot refl,
      here.0,
      here.1,
      in_order hyper slots (slot.at + slot.units) (λ k other at. elim (apart 0 (suc k) slot other (λ same. omega (arith, same)) refl at) [
        | inl before ↦ before
        | inr after ↦ absurd
            (let w = slice_get_within slots k other at in
            let s = sorted 0 (suc k) other (omega arith) (omega (arith, w)) in
            let o = ap (λ (x : Slot). x.at) (get_or_from_slice_get slots k other other at) in
            let u = (nth slots fits k other at).0 in omega (arith, after, s, o, u, units))
      ])
          (λ i j d less inside. sorted (suc i) (suc j) d (omega (arith, less)) (omega (arith, inside)))
          (λ p q one two differ at_p at_q. apart (suc p) (suc q) one two (λ same. differ (omega (arith, same))) at_p at_q)
          (All-tail (Fits hyper) slot slots fits),
    )
  where
    nth : (rest : List Slot) → All (Fits hyper) (slot ∷ rest) → (k : ℕ) (other : Slot) → slice_get rest k ≡ Some other → Fits hyper other
    nth rest all k other at = at_place_of (Fits hyper) rest k other (All-tail (Fits hyper) slot rest all) at
