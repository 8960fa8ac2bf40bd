-- A program has exactly one solution over its clocks, and its values have the types of their flows.
use Rattle.prl_base.proofs.Standard.{◌≡◌, ◌<◌, ℕ, List, [], length, take, Some, slice_get, sym, ◌∙◌, ap, subst, arith, AllByRecursion, get_or_from_slice_get, slice_get_within}
use Rattle.std.proofs.lemmas.List.{length-take}
use Rattle.prl_base.specs.Vocabulary.{date_at, type_of}
use Rattle.prl_base.specs.declared.numbers.FlowNo.{FlowNo}
use Rattle.prl_base.specs.declared.operators.Clock.{Clock}
use Rattle.prl_base.specs.declared.values.Value.{Value}
use Rattle.prl_body.specs.Bodies.{IsWellTyped}
use Rattle.prl_body.specs.declared.bodies.CheckedBody.{CheckedBody}
use Rattle.prl_flow.specs.Vocabulary.{HaveBodies, FlatProgram, IsFlat, Rows, rows_of, AreClocks, HasRows, MeetsDefinition, Solves, clock_of, values_of, IsSolution, State, IsOrder}
use Rattle.prl_flow.specs.declared.programs.Def.{Def}
use Rattle.prl_causal.specs.Vocabulary.{AreTyped, AreTypedRows, HaveTypedBodies, clocks_in, values_in, nothing, table_of, ExactlyOne}
use Rattle.prl_causal.proofs.Listed.{all_listed, solutions_same, table_solves}
use Rattle.prl_causal.proofs.OwnBodies.{own_bodies, own_have, own_solution, own_typed, own_typed_bodies}
use Rattle.prl_causal.proofs.Registers.{states_same}
use Rattle.prl_causal.proofs.Rounds.{the_table}
use Rattle.prl_causal.proofs.Solved.{fixed_from_solves}
use Rattle.prl_causal.proofs.Typed.{fixed_typed}

-- what the laws of behaviours say of solutions
abbrev pub AreOfTheirClocks : Type 0
AreOfTheirClocks =
    (p : FlatProgram) (bodies : List CheckedBody) (rows : Rows) (until : ℕ) (s : State) → IsFlat p → IsSolution p bodies rows until s
    → AreClocks p (clocks_in s) × Solves p (clocks_in s) bodies rows until (values_in s)

abbrev pub AreWhole : Type 0
AreWhole =
    (p : FlatProgram) (clocks : List Clock) (bodies : List CheckedBody) (rows : Rows) (until : ℕ) (flows : List (List Value))
    → IsFlat p → AreClocks p clocks → HaveBodies p bodies → AllByRecursion IsWellTyped bodies → Solves p clocks bodies rows until flows
    → (s : State) × IsSolution p bodies rows until s × (clocks_in s ≡ clocks) × (values_in s ≡ flows)

module _ (of_clocks : AreOfTheirClocks) (p : FlatProgram) (flat : IsFlat p) (order : List FlowNo) (is_order : IsOrder p order) (bodies : List CheckedBody) (rows : Rows) (until : ℕ) where
  -- the values of a solution over these clocks solve the program over them
  pub solves_over : (clocks : List Clock) (s : State) → IsSolution p bodies rows until s → clocks_in s ≡ clocks → Solves p clocks bodies rows until (values_in s)
  solves_over clocks s h same = subst (λ (cs : List Clock). Solves p cs bodies rows until (values_in s)) same (of_clocks p bodies rows until s flat h).1

  -- two solutions over the same clocks are one
  pub one_over : (clocks : List Clock) → AreClocks p clocks → (s t : State) → IsSolution p bodies rows until s → IsSolution p bodies rows until t → clocks_in s ≡ clocks → clocks_in t ≡ clocks → s ≡ t
  one_over clocks agree s t sh th s_same t_same =
      states_same p flat bodies rows until s t sh th (s_same ∙ sym t_same)
      (solutions_same p flat clocks agree order is_order bodies rows until (values_in s) (values_in t) (solves_over clocks s sh s_same) (solves_over clocks t th t_same))

  -- values that solve the program are those of a solution whole
  pub whole_of : AreWhole → (clocks : List Clock) (agree : AreClocks p clocks) → HaveBodies p bodies → HaveTypedBodies p bodies
      → (flows : List (List Value)) → Solves p clocks (own_bodies p bodies) rows until flows
      → (s : State) × IsSolution p bodies rows until s × (clocks_in s ≡ clocks) × (values_in s ≡ flows)
  whole_of whole clocks agree have typed flows solves =
      let (s, h, cs, vs) = whole p clocks (own_bodies p bodies) rows until flows flat agree (own_have p bodies have) (own_typed p bodies typed) solves in
      (s, own_solution p bodies rows until s h, cs, vs)

  pub one_solution : AreWhole → (clocks : List Clock) (agree : AreClocks p clocks) → HaveBodies p bodies → HaveTypedBodies p bodies → HasRows p clocks rows until
      → ExactlyOne (λ (s : State). IsSolution p bodies rows until s × (clocks_in s ≡ clocks))
  one_solution whole clocks agree have typed has_rows =
      let flows = all_listed p clocks until (the_table p flat clocks agree order is_order (own_bodies p bodies) rows until) in
      let solves = table_solves p flat clocks agree order is_order (own_bodies p bodies) rows until (own_have p bodies have) (own_typed_bodies p bodies typed) has_rows in
      let (s, h, cs, vs) = whole_of whole clocks agree have typed flows solves in
      record { one = s; is = (h, cs); only = λ t (th, tc). one_over clocks agree t s th h tc cs }

  -- a solution has used a row for each date
  rows_used : (clocks : List Clock) → AreClocks p clocks → (flows : List (List Value)) → Solves p clocks bodies rows until flows → HasRows p clocks rows until
  rows_used clocks agree flows h k flow there n before =
      let (f, found, is) = flat.ins k flow there in
      let meets : values_of flows flow.0 ≡ take (length (values_of flows flow.0)) (rows_of rows k) =
      subst (λ (d : Def). MeetsDefinition p clocks bodies rows until flows (clock_of clocks flow.0) (values_of flows flow.0) d) is (h.meets flow.0 f found) in
      let below : n < length (values_of flows flow.0) = (h.up_to flow.0 (omega (arith, slice_get_within p.flows flow.0 f found, h.count)) n).1 before in
      omega (arith, below, ap length meets, length-take (length (values_of flows flow.0)) (rows_of rows k))

  pub solution_typed : HaveBodies p bodies → HaveTypedBodies p bodies → AreTypedRows p rows → (s : State) → IsSolution p bodies rows until s → AreTyped p (values_in s)
  solution_typed have typed typed_rows s h i flow values found at n v is =
      let (agree, solves) = of_clocks p bodies rows until s flat h in
      let clocks = clocks_in s in
      let flows = values_in s in
      let value : slice_get (values_of flows i) n ≡ Some v = ap (λ (xs : List Value). slice_get xs n) (get_or_from_slice_get flows i values [] at) ∙ is in
      let within = slice_get_within p.flows i flow found in
      let before : date_at (clock_of clocks i) n < until = (solves.up_to i (omega (arith, within, solves.count)) n).0 (slice_get_within (values_of flows i) n v value) in
      ap type_of (sym (get_or_from_slice_get (values_of flows i) n v nothing value))
      ∙ fixed_typed p flat clocks agree order is_order bodies rows until have typed (rows_used clocks agree flows solves) typed_rows (table_of flows)
      (fixed_from_solves p flat clocks agree bodies rows until flows solves) i n within before flow found
