-- The lists of a table up to a date, and that the values of a solution are these.
use Rattle.prl_base.proofs.Standard.{◌≡◌, ◌<◌, ℕ, List, [], map, length, Some, slice_index_or, sym, ◌∙◌, ap, arith, range_with_len, get_or-map-range_with_len, length-map-range_with_len}
use Rattle.prl_base.proofs.Standard.{slice_get-get_or}
use Rattle.prl_base.specs.Clocks.{IsClock, date_at}
use Rattle.prl_base.specs.declared.numbers.FlowNo.{FlowNo}
use Rattle.prl_base.specs.declared.operators.Clock.{Clock}
use Rattle.prl_base.specs.declared.values.Value.{Value}
use Rattle.prl_body.specs.declared.bodies.CheckedBody.{CheckedBody}
use Rattle.prl_flow.specs.Vocabulary.{HaveBodies, dates_before, FlatProgram, IsFlat, Rows, AreClocks, HasRows, Solves, clock_of, values_of, IsOrder}
use Rattle.prl_flow.proofs.ClockDates.{dates_before_number, length_from_IsUpTo}
use Rattle.prl_flow.proofs.Lists.{same_from_elements}
use Rattle.prl_causal.specs.Vocabulary.{HaveTypedBodies, IsFixed, Table, nothing, table_of}
use Rattle.prl_causal.proofs.Rounds.{fixed_along, fixed_same, the_table, the_table_fixed}
use Rattle.prl_causal.proofs.Solved.{fixed_from_solves, solves_from_fixed}

module _ (p : FlatProgram) (clocks : List Clock) (until : ℕ) where
  -- the values of a flow before the date, and of all flows
  listed : Table → ℕ → List Value
  listed v i = map (v i) (range_with_len 0 (dates_before until (clock_of clocks i)))

  pub all_listed : Table → List (List Value)
  all_listed v = map (listed v) (range_with_len 0 (length p.flows))

  pub all_listed_count : (v : Table) → length (all_listed v) ≡ length p.flows
  unfolding all_listed
  all_listed_count v = length-map-range_with_len (listed v) 0 (length p.flows)

  all_listed_at : (v : Table) (i : ℕ) → i < length p.flows → values_of (all_listed v) i ≡ listed v i
  unfolding all_listed
  all_listed_at v i within = get_or-map-range_with_len (listed v) 0 (length p.flows) i i [] within (omega arith)

  pub all_listed_length : (v : Table) (i : ℕ) → i < length p.flows → length (values_of (all_listed v) i) ≡ dates_before until (clock_of clocks i)
  unfolding listed
  all_listed_length v i within = ap length (all_listed_at v i within) ∙ length-map-range_with_len (v i) 0 (dates_before until (clock_of clocks i))

  pub all_listed_value : (v : Table) (i n : ℕ) → i < length p.flows → n < dates_before until (clock_of clocks i) → table_of (all_listed v) i n ≡ v i n
  unfolding listed
  all_listed_value v i n within below =
      ap (λ (xs : List Value). slice_index_or xs n nothing) (all_listed_at v i within)
      ∙ get_or-map-range_with_len (v i) 0 (dates_before until (clock_of clocks i)) n n nothing below (omega arith)

-- two lists of flows of the same lengths with the same values are one
pub same_flows : (f g : List (List Value)) → length f ≡ length g → ((i : ℕ) → i < length f → length (values_of f i) ≡ length (values_of g i))
    → ((i n : ℕ) → i < length f → n < length (values_of f i) → table_of f i n ≡ table_of g i n) → f ≡ g
same_flows f g count lengths same =
    same_from_elements f g count (λ i within.
    slice_get-get_or f i [] within
    ∙ ap Some (same_from_elements (values_of f i) (values_of g i) (lengths i within) (λ n below.
    slice_get-get_or (values_of f i) n nothing below ∙ ap Some (same i n within below) ∙ sym (slice_get-get_or (values_of g i) n nothing (omega (arith, below, lengths i within)))))
    ∙ sym (slice_get-get_or g i [] (omega (arith, within, count))))

module _ (p : FlatProgram) (flat : IsFlat p) (clocks : List Clock) (agree : AreClocks p clocks) (order : List FlowNo) (is_order : IsOrder p order)
    (bodies : List CheckedBody) (rows : Rows) (until : ℕ) where
  clock_there : (i : ℕ) → i < length p.flows → IsClock (clock_of clocks i)
  clock_there i within = agree.clock i (omega (arith, agree.count))

  -- the values of the one table are a solution over the clocks
  pub table_solves : HaveBodies p bodies → HaveTypedBodies p bodies → HasRows p clocks rows until
      → Solves p clocks bodies rows until (all_listed p clocks until (the_table p flat clocks agree order is_order bodies rows until))
  table_solves have typed has_rows =
      let v = the_table p flat clocks agree order is_order bodies rows until in
      let flows = all_listed p clocks until v in
      let fixed : IsFixed p clocks bodies rows until (table_of flows) =
      fixed_along p flat clocks agree order is_order bodies rows until v (table_of flows) (the_table_fixed p flat clocks agree order is_order bodies rows until) (λ i n within before.
      all_listed_value p clocks until v i n within ((dates_before_number until (clock_of clocks i) n (clock_there i within)).1 before)) in
      solves_from_fixed p flat clocks agree bodies rows until have typed has_rows flows (all_listed_count p clocks until v) (all_listed_length p clocks until v) fixed

  -- and the only one
  pub solutions_same : (f g : List (List Value)) → Solves p clocks bodies rows until f → Solves p clocks bodies rows until g → f ≡ g
  solutions_same f g fh gh =
      let f_length : (i : ℕ) → i < length f → length (values_of f i) ≡ dates_before until (clock_of clocks i) =
      λ i within. length_from_IsUpTo until (clock_of clocks i) (values_of f i) (clock_there i (omega (arith, within, fh.count))) (fh.up_to i within) in
      let g_length : (i : ℕ) → i < length g → length (values_of g i) ≡ dates_before until (clock_of clocks i) =
      λ i within. length_from_IsUpTo until (clock_of clocks i) (values_of g i) (clock_there i (omega (arith, within, gh.count))) (gh.up_to i within) in
      same_flows f g (fh.count ∙ sym gh.count) (λ i within. f_length i within ∙ sym (g_length i (omega (arith, within, fh.count, gh.count)))) (λ i n within below.
      let here : i < length p.flows = omega (arith, within, fh.count) in
      let before : date_at (clock_of clocks i) n < until = (dates_before_number until (clock_of clocks i) n (clock_there i here)).0 (omega (arith, below, f_length i within)) in
      fixed_same p flat clocks agree order is_order bodies rows until (table_of f) (table_of g)
      (fixed_from_solves p flat clocks agree bodies rows until f fh) (fixed_from_solves p flat clocks agree bodies rows until g gh) i n here before)
