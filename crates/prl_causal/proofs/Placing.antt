-- One more flow placed.
use Rattle.prl_base.proofs.Standard.{◌≡◌, ◌<◌, ◌+◌, ℕ, zero, suc, Bool, true, false, List, [], ◌∷◌, ◌++◌, length, set, get_or, slice_get, Some, refl, sym, ◌∙◌, ap, subst, arith, ⊎_elim, false≢true}
use Rattle.prl_base.proofs.Standard.{length_push, slice_get_within, get_or_from_slice_get}
use Rattle.prl_base.specs.declared.numbers.FlowNo.{FlowNo}
use Rattle.prl_flow.proofs.Lists.{slice_get_push}
use Rattle.prl_flow.specs.Vocabulary.{Leads, once, then, FlatProgram}
use Rattle.prl_causal.specs.Vocabulary.{Source, UsesBy, Names, IsMarked, IsPart, IsWhole, marked_count}
use Rattle.prl_causal.proofs.Lists.{push_cases, push_keeps, mark_set, mark_kept, mark_cases, mark_counted, count_below, counted_true}

pub one_more : (U : ℕ → ℕ → Type 0) (order : List FlowNo) (placed : List Bool) (i : ℕ) → IsPart U order placed → i < length placed → get_or placed i false ≡ false
    → ((j : ℕ) → U i j → IsMarked placed j) → IsPart U (order ++ record { 0 = i } ∷ []) (set placed i true)
one_more U order placed i part below clear ready =
    let new : FlowNo = record { 0 = i } in
    let absent : (k : ℕ) → slice_get order k ≡ Some new → ⊥ = λ k h. false≢true (sym clear ∙ part.marked k new h) in
    record {
      count = mark_counted placed i below clear ∙ ap (λ n. n + 1) part.count ∙ sym (length_push order new);
      marked = λ k x h. ⊎_elim
          (λ old. mark_kept placed i x.0 below (part.marked k x old))
          (λ last. subst (λ f. IsMarked (set placed i true) f.0) last.1 (mark_set placed i below))
          (push_cases order new k x h);
      listed = λ j h. ⊎_elim
          (λ same. (length order, subst (λ n. slice_get (order ++ new ∷ []) (length order) ≡ Some (record { 0 = n })) (sym same) (slice_get_push order new)))
          (λ old. (let there = part.listed j old in (there.0, push_keeps order new there.0 (record { 0 = j }) there.1)))
          (mark_cases placed i j h);
      once = λ j k x g h. ⊎_elim
          (λ a. ⊎_elim
          (λ b. part.once j k x a b)
          (λ b. absurd (absent j (subst (λ f. slice_get order j ≡ Some f) (sym b.1) a)))
          (push_cases order new k x h))
          (λ a. ⊎_elim
          (λ b. absurd (absent k (subst (λ f. slice_get order k ≡ Some f) (sym a.1) b)))
          (λ b. a.0 ∙ sym b.0)
          (push_cases order new k x h))
          (push_cases order new j x g);
      after = λ k x y h u. ⊎_elim
          (λ a. (let there = part.after k x y a u in (there.0, there.1, push_keeps order new there.0 (record { 0 = y }) there.2)))
          (λ b.
          (let used : U i y = subst (λ f. U f.0 y) (sym b.1) u in
          let there = part.listed y (ready y used) in
          let low = slice_get_within order there.0 (record { 0 = y }) there.1 in
          let lower : there.0 < k = omega (arith, b.0) in
          (there.0, lower, push_keeps order new there.0 (record { 0 = y }) there.1)))
          (push_cases order new k x h);
    }

-- places fall along uses
falls : (U : ℕ → ℕ → Type 0) (n : ℕ) (order : List FlowNo) → IsWhole U n order → (i j : ℕ) → Leads U i j → (k : ℕ) → slice_get order k ≡ Some (record { 0 = i })
    → (m : ℕ) × (m < k) × (slice_get order m ≡ Some (record { 0 = j }))
falls U n order whole i j (once a b u) k h = whole.after k (record { 0 = i }) j h u
falls U n order whole i j (then a b c u rest) k h =
    let next = whole.after k (record { 0 = i }) b h u in
    let last = falls U n order whole b j rest next.0 next.2 in
    let lower : last.0 < k = omega (arith, last.1, next.1) in
    (last.0, lower, last.2)

starts : (U : ℕ → ℕ → Type 0) (n : ℕ) → ((i j : ℕ) → U i j → i < n) → (i j : ℕ) → Leads U i j → i < n
starts U n within i j (once a b u) = within i j u
starts U n within i j (then a b c u rest) = within i b u

pub no_way_back : (U : ℕ → ℕ → Type 0) (n : ℕ) (order : List FlowNo) → IsWhole U n order → ((i j : ℕ) → U i j → i < n) → (i : ℕ) → Leads U i i → ⊥
no_way_back U n order whole within i way =
    let low : i < n = starts U n within i i way in
    let at = whole.each i low in
    let again = falls U n order whole i i way at.0 at.1 in
    absurd (omega (arith, again.1, whole.once again.0 at.0 (record { 0 = i }) again.2 at.1))

all_marked : (marks : List Bool) (i : ℕ) → i < length marks → marked_count marks ≡ length marks → IsMarked marks i
all_marked marks i below full =
    elim (get_or marks i false) as (λ b. get_or marks i false ≡ b → b ≡ true) [
      | true ↦ λ e. refl
      | false ↦ λ e. absurd (let few = count_below marks i below e in omega arith)
    ] refl

pub some_clear : (marks : List Bool) → (marked_count marks ≡ length marks → ⊥) → (i : ℕ) × (i < length marks) × (get_or marks i false ≡ false)
some_clear [] short = absurd (short refl)
some_clear (false ∷ marks) short = (zero, omega arith, refl)
some_clear (true ∷ marks) short =
    let rest = some_clear marks (λ full. short (let sum = counted_true marks in omega (arith, full))) in
    let below : suc rest.0 < suc (length marks) = omega (arith, rest.1) in
    (suc rest.0, below, rest.2)

pub whole_part : (U : ℕ → ℕ → Type 0) (order : List FlowNo) (placed : List Bool) → IsPart U order placed → length order ≡ length placed → IsWhole U (length placed) order
whole_part U order placed part full = record {
  count = full;
  each = λ i below. part.listed i (all_marked placed i below (part.count ∙ full));
  once = part.once;
  after = part.after;
}

-- what is listed at `i` says what `i` uses
pub names_of_use : (p : FlatProgram) (all : List Source) (d : Source) (i j : ℕ) → UsesBy p all i j → Names p (get_or all i d) j
names_of_use p all d i j u = subst (λ s. Names p s j) (sym (get_or_from_slice_get all i u.source d u.found)) u.names
