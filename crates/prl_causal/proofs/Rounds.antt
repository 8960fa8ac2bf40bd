-- Exactly one table is fixed: each instance is decided by instances of an earlier date, or of the same and a lower rank.
use Rattle.prl_base.proofs.Standard.{◌≡◌, ◌+◌, ◌*◌, ◌<◌, ◌≤◌, ◌==◌, inl, inr, ℕ, zero, suc, cond, List, [], ◌∷◌, length, Option, Some, None, slice_get, refl, sym, ◌∙◌, ap, arith, mul-le-mul_right}
use Rattle.prl_base.proofs.Standard.{cases_eq, eq-eqb, ne_eqb, same_Some, slice_get_within}
use Rattle.prl_base.specs.Clocks.{date_at}
use Rattle.prl_base.specs.declared.numbers.FlowNo.{FlowNo}
use Rattle.prl_base.specs.declared.operators.Clock.{Clock}
use Rattle.prl_base.specs.declared.values.Value.{Value}
use Rattle.prl_body.specs.declared.bodies.CheckedBody.{CheckedBody}
use Rattle.prl_flow.specs.Vocabulary.{FlatProgram, IsFlat, Rows, AreClocks, clock_of, IsOrder, UsesNow}
use Rattle.prl_flow.specs.declared.programs.Flow.{Flow}
use Rattle.prl_flow.proofs.Lists.{element_at}
use Rattle.prl_causal.specs.Tables.{IsFixed, Reads, Table, nothing, value_of}
use Rattle.prl_causal.proofs.Earlier.{IsEarlier, reads_before, reads_earlier, value_local}

-- the place of a flow in an order
pub rank_of : List FlowNo → ℕ → ℕ
rank_of [] i = 0
rank_of (f ∷ fs) i = cond (f.0 == i) 0 (suc (rank_of fs i))

rank_first : (f : FlowNo) (fs : List FlowNo) (i : ℕ) → f.0 ≡ i → rank_of (f ∷ fs) i ≡ 0
unfolding rank_of
rank_first f fs i same = rw (eq-eqb f.0 i same) refl

rank_later : (f : FlowNo) (fs : List FlowNo) (i : ℕ) → (f.0 ≡ i → ⊥) → rank_of (f ∷ fs) i ≡ suc (rank_of fs i)
unfolding rank_of
rank_later f fs i other = rw (ne_eqb f.0 i other) refl

-- what is not first stands in the rest
pub in_rest : {A : Type 0} (x : A) (xs : List A) (k : ℕ) (y : A) → (x ≡ y → ⊥) → slice_get (x ∷ xs) k ≡ Some y → (m : ℕ) × (slice_get xs m ≡ Some y)
in_rest x xs zero y other found = absurd (other (same_Some x y found))
in_rest x xs (suc k) y other found = (k, found)

pub rank_found : (order : List FlowNo) (i k : ℕ) → slice_get order k ≡ Some (record { 0 = i }) → slice_get order (rank_of order i) ≡ Some (record { 0 = i })
rank_found [] i k found = absurd (cc)
rank_found (f ∷ fs) i k found = elim (cases_eq f.0 i) [
  | inl same ↦
      rw (rank_first f fs i same) (ap Some (ap (λ n. record { 0 = n }) same))
  | inr other ↦
      let rest = in_rest f fs k (record { 0 = i }) (λ same. other (ap (λ (x : FlowNo). x.0) same)) found in
      rw (rank_later f fs i other) (rank_found fs i rest.0 rest.1)
]

-- sums of a date's product and a rank
earlier_date : (a b n r s : ℕ) → a < b → r < n → a * n + r < b * n + s
earlier_date a b n r s less rank =
    let next : suc a ≤ b = omega (arith, less) in
    omega (arith, mul-le-mul_right n next, rank)

lower_rank : (a b n r s : ℕ) → a ≤ b → r < s → a * n + r < b * n + s
lower_rank a b n r s le rank = omega (arith, mul-le-mul_right n le, rank)

module _ (p : FlatProgram) (flat : IsFlat p) (clocks : List Clock) (agree : AreClocks p clocks) (order : List FlowNo) (is_order : IsOrder p order) where
  pub placed : (i : ℕ) → i < length p.flows → slice_get order (rank_of order i) ≡ Some (record { 0 = i })
  placed i within = let (k, found) = is_order.each i within in rank_found order i k found

  pub rank_within : (i : ℕ) → i < length p.flows → rank_of order i < length p.flows
  rank_within i within = omega (arith, slice_get_within order (rank_of order i) (record { 0 = i }) (placed i within), is_order.count)

  pub rank_falls : (i j : ℕ) → i < length p.flows → j < length p.flows → UsesNow p i j → rank_of order j < rank_of order i
  rank_falls i j i_within j_within uses =
      is_order.after (rank_of order i) (rank_of order j) (record { 0 = i }) (record { 0 = j }) (placed i i_within) (placed j j_within) uses

  -- what decides an instance is of a smaller measure
  measure : ℕ → ℕ → ℕ
  measure i n = date_at (clock_of clocks i) n * length p.flows + rank_of order i

  measure_falls : (i n j m : ℕ) → i < length p.flows → j < length p.flows → IsEarlier p clocks i n j m → measure j m < measure i n
  unfolding measure
  measure_falls i n j m i_within j_within earlier = elim earlier [
    | inl before ↦ earlier_date (date_at (clock_of clocks j) m) (date_at (clock_of clocks i) n) (length p.flows) (rank_of order j) (rank_of order i) before (rank_within j j_within)
    | inr both ↦ lower_rank (date_at (clock_of clocks j) m) (date_at (clock_of clocks i) n) (length p.flows) (rank_of order j) (rank_of order i) both.0 (rank_falls i j i_within j_within both.1)
  ]

  module _ (bodies : List CheckedBody) (rows : Rows) (until : ℕ) where
    -- tables that agree at smaller measures have one value made of them
    local : (v w : Table) (i n : ℕ) (flow : Flow) → slice_get p.flows i ≡ Some flow → date_at (clock_of clocks i) n < until
        → ((j m : ℕ) → j < length p.flows → date_at (clock_of clocks j) m < until → measure j m < measure i n → v j m ≡ w j m)
        → value_of p bodies rows v flow.def n ≡ value_of p bodies rows w flow.def n
    local v w i n flow found before same =
        value_local p bodies rows v w flow.def n (λ j m reads.
        let (j_within, earlier) = reads_earlier p flat clocks agree i flow found n j m reads in
        same j m j_within (reads_before p flat clocks agree until i n j m earlier before)
        (measure_falls i n j m (slice_get_within p.flows i flow found) j_within earlier))

    along_below : (P : ℕ → ℕ → Type 0)
        → ((i n : ℕ) (flow : Flow) → slice_get p.flows i ≡ Some flow → date_at (clock_of clocks i) n < until
        → ((j m : ℕ) → Reads p flow.def n j m → P j m) → P i n)
        → (k i n : ℕ) → i < length p.flows → date_at (clock_of clocks i) n < until → measure i n < k → P i n
    along_below P step zero i n within before less = absurd (omega (arith, less))
    along_below P step (suc k) i n within before less =
        let (flow, found) = element_at p.flows i within in
        step i n flow found before (λ j m reads.
        let (j_within, earlier) = reads_earlier p flat clocks agree i flow found n j m reads in
        along_below P step k j m j_within (reads_before p flat clocks agree until i n j m earlier before) (omega (arith, less, measure_falls i n j m within j_within earlier)))

    -- what holds of an instance where it holds of all that is read for it holds of every instance before the date
    pub along_reads : (P : ℕ → ℕ → Type 0)
        → ((i n : ℕ) (flow : Flow) → slice_get p.flows i ≡ Some flow → date_at (clock_of clocks i) n < until
        → ((j m : ℕ) → Reads p flow.def n j m → P j m) → P i n)
        → (i n : ℕ) → i < length p.flows → date_at (clock_of clocks i) n < until → P i n
    along_reads P step i n within before = along_below P step (suc (measure i n)) i n within before (omega arith)

    -- two tables that are fixed agree
    pub fixed_same : (v w : Table) → IsFixed p clocks bodies rows until v → IsFixed p clocks bodies rows until w
        → (i n : ℕ) → i < length p.flows → date_at (clock_of clocks i) n < until → v i n ≡ w i n
    fixed_same v w v_fixed w_fixed = along_reads (λ i n. v i n ≡ w i n) (λ i n flow found before same.
        v_fixed i flow found n before ∙ value_local p bodies rows v w flow.def n same ∙ sym (w_fixed i flow found n before))

    -- a table that agrees with a fixed one is fixed
    pub fixed_along : (v w : Table) → IsFixed p clocks bodies rows until v
        → ((i n : ℕ) → i < length p.flows → date_at (clock_of clocks i) n < until → w i n ≡ v i n) → IsFixed p clocks bodies rows until w
    fixed_along v w fixed same i flow found n before =
        same i n (slice_get_within p.flows i flow found) before
        ∙ fixed i flow found n before
        ∙ local v w i n flow found before (λ j m j_within j_before falls. sym (same j m j_within j_before))

    by_flow : Table → Option Flow → ℕ → Value
    by_flow v None n = nothing
    by_flow v (Some flow) n = value_of p bodies rows v flow.def n

    rounds : ℕ → Table
    rounds zero i n = nothing
    rounds (suc k) i n = by_flow (rounds k) (slice_get p.flows i) n

    round_is : (k i n : ℕ) (flow : Flow) → slice_get p.flows i ≡ Some flow → rounds (suc k) i n ≡ value_of p bodies rows (rounds k) flow.def n
    unfolding rounds by_flow
    round_is k i n flow found = rw found refl

    settled : (k l i n : ℕ) → i < length p.flows → date_at (clock_of clocks i) n < until → measure i n < k → measure i n < l → rounds k i n ≡ rounds l i n
    settled zero l i n within before a b = absurd (omega (arith, a))
    settled (suc k) zero i n within before a b = absurd (omega (arith, b))
    settled (suc k) (suc l) i n within before a b =
        let (flow, found) = element_at p.flows i within in
        round_is k i n flow found
        ∙ local (rounds k) (rounds l) i n flow found before (λ j m j_within j_before falls. settled k l j m j_within j_before (omega (arith, a, falls)) (omega (arith, b, falls)))
        ∙ sym (round_is l i n flow found)

    -- the table that is fixed
    pub the_table : Table
    the_table i n = rounds (suc (measure i n)) i n

    pub the_table_fixed : IsFixed p clocks bodies rows until the_table
    unfolding the_table
    the_table_fixed i flow found n before =
        round_is (measure i n) i n flow found
        ∙ local (rounds (measure i n)) the_table i n flow found before (λ j m j_within j_before falls.
        settled (measure i n) (suc (measure j m)) j m j_within j_before falls (omega arith))
