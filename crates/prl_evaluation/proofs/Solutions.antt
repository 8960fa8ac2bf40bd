-- Flows under way, from the first to the solution.
use Rattle.prl_base.proofs.Standard.{◌≡◌, ◌<◌, ℕ, List, [], length, Some, slice_get, refl, sym, ◌∙◌, ap, subst, arith, le-leb, same_Some, slice_get_within}
use Rattle.prl_base.specs.Clocks.{IsClock}
use Rattle.prl_base.specs.declared.numbers.FlowNo.{FlowNo}
use Rattle.prl_base.specs.declared.operators.Clock.{Clock}
use Rattle.prl_base.specs.declared.values.Value.{Value}
use Rattle.prl_body.specs.Bodies.{IsWellTyped}
use Rattle.prl_body.specs.declared.bodies.CheckedBody.{CheckedBody}
use Rattle.prl_flow.specs.Vocabulary.{HaveBodies, dates_before, FlatProgram, IsFlat, Rows, AreClocks, HasRows, Solves, clock_of, values_of, IsSolution, State, IsOrder}
use Rattle.prl_flow.specs.declared.programs.App.{App}
use Rattle.prl_flow.proofs.ClockDates.{dates_before_number}
use Rattle.prl_flow.proofs.Lists.{element_at}
use Rattle.prl_causal.specs.Vocabulary.{HaveTypedBodies, clocks_in, values_in, IsFixed, nothing, table_of, ExactlyOne}
use Rattle.prl_causal.proofs.Listed.{solutions_same}
use Rattle.prl_causal.proofs.Ones.{AreOfTheirClocks, solves_over}
use Rattle.prl_causal.proofs.Rounds.{fixed_along, the_table, the_table_fixed}
use Rattle.prl_causal.proofs.Solved.{solves_from_fixed}
use Rattle.prl_causal.proofs.Typed.{fixed_typed}
use Rattle.prl_evaluation.specs.Vocabulary.{AreAt, AreFull, AreSolution, IsSet, UnderWay, len, IsNew, Run, Setting}

module _ (s : Setting) (set : IsSet s) where
  clock_there : (i : ℕ) → i < length s.flat.now.flows → IsClock (clock_of s.clocks.now i)
  clock_there i within = set.agree.clock i (omega (arith, within, set.agree.count))

  module _ (runs : List Run) (run_count : length runs ≡ length s.flat.now.apps)
      (new : (k : ℕ) (app : App) (r : Run) → slice_get s.flat.now.apps k ≡ Some app → slice_get runs k ≡ Some r → IsNew s.bodies.now app r) where
    -- the bodies that run are well typed
    typed_bodies : HaveTypedBodies s.flat.now s.bodies.now
    typed_bodies k app body applied named =
        let (r, there) = element_at runs k (omega (arith, run_count, slice_get_within s.flat.now.apps k app applied)) in
        let run = (new k app r applied there).0 (λ i n. nothing) in
        subst IsWellTyped (same_Some run.body body (sym run.named ∙ named)) run.typed

    pub none_under_way : (flows : List (List Value)) → length flows ≡ length s.clocks.now → ((i : ℕ) → values_of flows i ≡ []) → UnderWay s flows runs
    none_under_way flows count empty =
        let v = the_table s.flat.now set.flat s.clocks.now set.agree s.order.now set.is_order s.bodies.now s.sensors.now s.until in
        let fixed = the_table_fixed s.flat.now set.flat s.clocks.now set.agree s.order.now set.is_order s.bodies.now s.sensors.now s.until in
        let none : (i : ℕ) → len flows i ≡ 0 = λ i. ap length (empty i) in
        record {
          table = v;
          fixed = fixed;
          typed = fixed_typed s.flat.now set.flat s.clocks.now set.agree s.order.now set.is_order s.bodies.now s.sensors.now s.until set.have typed_bodies set.has_rows set.typed_rows v fixed;
          count = count ∙ set.agree.count;
          short = λ i within. omega (arith, none i);
          front = λ i n within less. absurd (omega (arith, none i, less));
          run_count = run_count;
          run = λ k app r applied there. (new k app r applied there).0 v;
          steps = λ k o app r flow applied there output.
              let steps = (new k app r applied there).1 in
              (omega (arith, none flow.0), omega (arith, steps));
        }

    -- flows that are under way and full are the solution
    pub full_solution : AreOfTheirClocks → ((p : FlatProgram) (clocks : List Clock) (order : List FlowNo) (bodies : List CheckedBody) (rows : Rows) (until : ℕ)
        → IsFlat p → AreClocks p clocks → IsOrder p order → HaveBodies p bodies → HaveTypedBodies p bodies → HasRows p clocks rows until
        → ExactlyOne (λ (t : State). IsSolution p bodies rows until t × (clocks_in t ≡ clocks)))
        → (flows : List (List Value)) (now : List Run) → UnderWay s flows now → AreFull s flows
        → AreSolution s.flat.now s.clocks.now s.bodies.now s.sensors.now s.until flows
    full_solution of_clocks one_solution flows now h full =
        let fixed : IsFixed s.flat.now s.clocks.now s.bodies.now s.sensors.now s.until (table_of flows) =
        fixed_along s.flat.now set.flat s.clocks.now set.agree s.order.now set.is_order s.bodies.now s.sensors.now s.until h.table (table_of flows) h.fixed (λ i n within before.
        let below = (dates_before_number s.until (clock_of s.clocks.now i) n (clock_there i within)).1 before in
        h.front i n within (omega (arith, below, full i within))) in
        let solves : Solves s.flat.now s.clocks.now s.bodies.now s.sensors.now s.until flows =
        solves_from_fixed s.flat.now set.flat s.clocks.now set.agree s.bodies.now s.sensors.now s.until set.have typed_bodies set.has_rows flows h.count full fixed in
        let one = one_solution s.flat.now s.clocks.now s.order.now s.bodies.now s.sensors.now s.until set.flat set.agree set.is_order set.have typed_bodies set.has_rows in
        record {
          state = one.one;
          is = one.is.0;
          clocks_are = one.is.1;
          values_are =
              solutions_same s.flat.now set.flat s.clocks.now set.agree s.order.now set.is_order s.bodies.now s.sensors.now s.until (values_in one.one) flows
              (solves_over of_clocks s.flat.now set.flat s.order.now set.is_order s.bodies.now s.sensors.now s.until s.clocks.now one.one one.is.0 one.is.1) solves;
          only = λ other h same. one.only other (h, same);
        }

  -- no flow has a value before the date 0
  pub none_at : (rest : List FlowNo) (flows : List (List Value)) → ((i : ℕ) → values_of flows i ≡ []) → AreAt s rest flows 0
  none_at rest flows empty b x found = ap length (empty x.0) ∙ sym (none_before (clock_of s.clocks.now x.0))
    where
      none_before : (c : Clock) → dates_before 0 c ≡ 0
      none_before c = rw (le-leb 0 c.start (omega arith)) refl
