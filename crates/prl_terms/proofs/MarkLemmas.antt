-- Marks after a write.
use Rattle.std.proofs.Common.{◌≡◌, ◌≢◌, ◌<◌, ◌+◌, ◌∙◌, ℕ, List, length, get_or, set, get_or-set_other, get_or-set_same, length-set, arith, inl, inr, sym, ap}
use Rattle.std.proofs.lemmas.Bool.Decides.{eqb_tells}
use Rattle.prl_terms.specs.Vocabulary.{Term, mark_of}

pub mark_of_set_same : (marks : List Term) (k : ℕ) (by : Term) → k < length marks → mark_of (set marks k by) k ≡ by
mark_of_set_same marks k by h = rw get_or-set_same

pub mark_of_set_other : (marks : List Term) (m k : ℕ) (by : Term) → k ≢ m → mark_of (set marks m by) k ≡ mark_of marks k
mark_of_set_other marks m k by h = rw get_or-set_other

-- the first so many of the members are marked, and nothing else
pub record AreMarked (members : List ℕ) (by : Term) (old new : List Term) (count : ℕ) : Type 0 where
  pub same : length new ≡ length old
  pub members_are : (i : ℕ) → i < count → mark_of new (get_or members i 0) ≡ by
  pub others : (k : ℕ) → ((i : ℕ) → i < count → get_or members i 0 ≢ k) → mark_of new k ≡ mark_of old k

mark_set_at : (new : List Term) (m k : ℕ) (by : Term) → m < length new → k ≡ m → mark_of (set new m by) k ≡ by
mark_set_at new m k by lt e = rw e (mark_of_set_same new m by lt)

member_marked : (members : List ℕ) (by : Term) (old new : List Term) (count m i : ℕ) → AreMarked members by old new count
    → get_or members count 0 ≡ m → m < length new → i < count + 1 → mark_of (set new m by) (get_or members i 0) ≡ by
member_marked members by old new count m i h is lt below = elim (eqb_tells (get_or members i 0) m) [
  | inl e ↦ mark_set_at new m (get_or members i 0) by lt e.1
  | inr ne ↦ elim (eqb_tells i count) [
    | inl e ↦ absurd (ne.1 (ap (λ n. get_or members n 0) e.1 ∙ is))
    | inr other ↦ let k = get_or members i 0 in mark_of_set_other new m k by ne.1 ∙ h.members_are i (let far : i ≢ count = other.1 in omega arith)
  ]
]

pub one_marked : (members : List ℕ) (by : Term) (old new : List Term) (count m : ℕ) → AreMarked members by old new count
    → get_or members count 0 ≡ m → m < length new → AreMarked members by old (set new m by) (count + 1)
one_marked members by old new count m h is lt = record {
  same = length-set new m by ∙ h.same;
  members_are = λ i below. member_marked members by old new count m i h is lt below;
  others = λ k none. mark_of_set_other new m k by (λ e. none count (omega arith) (is ∙ sym e)) ∙ h.others k (λ i below. none i (omega arith));
}
