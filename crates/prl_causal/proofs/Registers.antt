-- The flows of a solution decide its registers.
use Rattle.prl_base.proofs.Standard.{◌≡◌, ◌+◌, ◌<◌, ◌≤◌, ℕ, zero, suc, List, [], ◌∷◌, map, length, Some, slice_get, slice_index_or, refl, sym, ◌∙◌, ap, subst, arith, AllByRecursion, slice_get-get_or}
use Rattle.prl_base.specs.Clocks.{IsClock, date_at}
use Rattle.prl_base.specs.declared.numbers.FlowNo.{FlowNo}
use Rattle.prl_base.specs.declared.operators.Clock.{Clock}
use Rattle.prl_base.specs.declared.values.Value.{Value}
use Rattle.prl_body.specs.Bodies.{body_step, first_values}
use Rattle.prl_body.specs.declared.bodies.CheckedBody.{CheckedBody}
use Rattle.prl_flow.specs.Vocabulary.{dates_before, FlatProgram, IsFlat, Rows, Rule, apps_rules, flat_rules, flows_rules, mark_rule, Holds, IsApplied, IsSolution, IsStep, IsTimed, State}
use Rattle.prl_flow.specs.Vocabulary.{Timed, flow_at, registers_at}
use Rattle.prl_flow.specs.declared.programs.App.{App}
use Rattle.prl_flow.specs.declared.programs.Arg.{Arg}
use Rattle.prl_flow.proofs.ClockDates.{dates_before_number}
use Rattle.prl_flow.proofs.Lists.{element_at, same_from_elements}
use Rattle.prl_causal.proofs.Elements.{all_second, at_place, of_mapped, some_inner}
use Rattle.prl_causal.proofs.Wholes.{app_at_place}
use Rattle.prl_causal.specs.Conditions.{clocks_in, values_in}

somes_same : (xs ys : List Value) → map Some xs ≡ map Some ys → xs ≡ ys
somes_same [] [] e = refl
somes_same [] (y ∷ ys) e = absurd (cc)
somes_same (x ∷ xs) [] e = absurd (cc)
somes_same (x ∷ xs) (y ∷ ys) e =
    let first : x ≡ y = cc in
    let rest : map Some xs ≡ map Some ys = cc in
    let tail : xs ≡ ys = somes_same xs ys rest in
    cc

module _ (until : ℕ) (body : CheckedBody) (clock : Clock) (clocked : IsClock clock) (args outs : List Timed) (r q : List (List Value))
    (r_first : slice_get r 0 ≡ Some (first_values body)) (q_first : slice_get q 0 ≡ Some (first_values body))
    (r_steps : (n : ℕ) → date_at clock n < until → IsStep body clock args outs r n)
    (q_steps : (n : ℕ) → date_at clock n < until → IsStep body clock args outs q n) where
  held_same : (n : ℕ) → n ≤ dates_before until clock → slice_get r n ≡ slice_get q n
  held_same zero le = r_first ∙ sym q_first
  held_same (suc n) le =
      let before : date_at clock n < until = (dates_before_number until clock n clocked).0 (omega (arith, le)) in
      let a = r_steps n before in
      let b = q_steps n before in
      let place : n + 1 ≡ suc n = omega arith in
      ap (slice_get r) (sym place)
      ∙ a.next
      ∙ ap (λ (xs : List Value). Some (body_step body xs a.before).registers) (somes_same a.inputs b.inputs (sym a.read ∙ b.read))
      ∙ ap (λ (xs : List Value). Some (body_step body b.inputs xs).registers) (some_inner a.before b.before (sym a.held ∙ held_same n (omega (arith, le)) ∙ b.held))
      ∙ sym b.next
      ∙ ap (slice_get q) place

  all_same : length r ≡ dates_before until clock + 1 → length q ≡ dates_before until clock + 1 → r ≡ q
  all_same r_number q_number = same_from_elements r q (r_number ∙ sym q_number) (λ n below. held_same n (omega (arith, below, r_number)))

-- an application with an output has one list of registers
applied_decides : (bodies : List CheckedBody) (until : ℕ) (name : List ℕ) (args outs : List Timed) (r q : List (List Value)) (j : ℕ) (out : Timed)
    → slice_get outs j ≡ Some out → IsClock out.clock → IsApplied bodies until name args outs r → IsApplied bodies until name args outs q → r ≡ q
applied_decides bodies until name args outs r q j out found clocked a b =
    let body : b.body ≡ a.body = some_inner b.body a.body (sym b.named ∙ a.named) in
    let a_clock : out.clock ≡ a.clock = at_place (λ (f : Timed). f.clock ≡ a.clock) outs j out a.outs_clock found in
    let clock : b.clock ≡ a.clock = sym (at_place (λ (f : Timed). f.clock ≡ b.clock) outs j out b.outs_clock found) ∙ a_clock in
    all_same until a.body a.clock (subst IsClock a_clock clocked) args outs r q a.first
    (subst (λ (x : CheckedBody). slice_get q 0 ≡ Some (first_values x)) body b.first)
    a.steps
    (subst (λ (c : Clock). (n : ℕ) → date_at c n < until → IsStep a.body c args outs q n) clock
    (subst (λ (x : CheckedBody). (n : ℕ) → date_at b.clock n < until → IsStep x b.clock args outs q n) body b.steps))
    a.number
    (subst (λ (c : Clock). length q ≡ dates_before until c + 1) clock b.number)

timed_clock : (until : ℕ) (fs : List Timed) (i : ℕ) → AllByRecursion (IsTimed until) fs → IsClock (slice_index_or fs i (record { clock = record { period = 1; start = 0 }; values = [] })).clock
timed_clock until [] i all = omega arith
timed_clock until (f ∷ fs) zero all = all.0.0
timed_clock until (f ∷ fs) (suc i) all = timed_clock until fs i all.1

mapped_at : {A B : Type 0} (f : A → B) (xs : List A) (j : ℕ) (x : A) → slice_get xs j ≡ Some x → slice_get (map f xs) j ≡ Some (f x)
mapped_at f [] j x e = absurd (cc)
mapped_at f (y ∷ xs) zero x e = ap (λ t. Some (f t)) (some_inner y x e)
mapped_at f (y ∷ xs) (suc j) x e = mapped_at f xs j x e

timed_same : (xs ys : List Timed) → map (λ (f : Timed). f.clock) xs ≡ map (λ (f : Timed). f.clock) ys → map (λ (f : Timed). f.values) xs ≡ map (λ (f : Timed). f.values) ys → xs ≡ ys
timed_same [] [] clocks values = refl
timed_same [] (y ∷ ys) clocks values = absurd (cc)
timed_same (x ∷ xs) [] clocks values = absurd (cc)
timed_same (x ∷ xs) (y ∷ ys) clocks values =
    let clock : x.clock ≡ y.clock = cc in
    let value : x.values ≡ y.values = cc in
    let rest : xs ≡ ys = timed_same xs ys (cc) (cc) in
    let first : x ≡ y = ap (λ (c : Clock). record { clock = c; values = x.values }) clock ∙ ap (λ (vs : List Value). record { clock = y.clock; values = vs }) value in
    ap (λ (f : Timed). f ∷ xs) first ∙ ap (λ (fs : List Timed). y ∷ fs) rest

module _ (p : FlatProgram) (flat : IsFlat p) (bodies : List CheckedBody) (rows : Rows) (until : ℕ) where
  app_held : (s : State) → IsSolution p bodies rows until s → (k : ℕ) (u : App) → slice_get p.apps k ≡ Some u
      → IsApplied bodies until u.name (map (flow_at s) (map (λ (a : Arg). a.flow.0) u.args)) (map (flow_at s) (map (λ (f : FlowNo). f.0) u.outs)) (registers_at s k)
  app_held s h k u e =
      let Held : Rule ℕ ℕ → Type 0 = λ r. Holds bodies rows until (mark_rule (flow_at s) (registers_at s) r) in
      app_at_place Held 0 p.apps k k u
      (all_second Held (flows_rules 0 p.flows) (apps_rules 0 p.apps) (of_mapped (Holds bodies rows until) (mark_rule (flow_at s) (registers_at s)) (flat_rules p) h.rules)) e (omega arith)

  registers_same : (fs : List Timed) (r q : List (List (List Value))) → IsSolution p bodies rows until (record { flows = fs; registers = r })
      → IsSolution p bodies rows until (record { flows = fs; registers = q }) → r ≡ q
  registers_same fs r q rh qh =
      let s : State = record { flows = fs; registers = r } in
      let t : State = record { flows = fs; registers = q } in
      same_from_elements r q (rh.register_count ∙ sym qh.register_count) (λ k below.
      let (u, found) = element_at p.apps k (omega (arith, below, rh.register_count)) in
      let (first, at) = element_at u.outs 0 (flat.apps k u found).has_output in
      let outs = map (flow_at s) (map (λ (f : FlowNo). f.0) u.outs) in
      let out_at : slice_get outs 0 ≡ Some (flow_at s first.0) =
      mapped_at (flow_at s) (map (λ (f : FlowNo). f.0) u.outs) 0 first.0 (mapped_at (λ (f : FlowNo). f.0) u.outs 0 first at) in
      let same : registers_at s k ≡ registers_at t k =
      applied_decides bodies until u.name (map (flow_at s) (map (λ (a : Arg). a.flow.0) u.args)) outs (registers_at s k) (registers_at t k) 0 (flow_at s first.0) out_at
      (timed_clock until fs first.0 rh.timed) (app_held s rh k u found) (app_held t qh k u found) in
      slice_get-get_or r k [] below ∙ ap Some same ∙ sym (slice_get-get_or q k [] (omega (arith, below, rh.register_count, qh.register_count))))

  -- two solutions of the same clocks and values are one
  pub states_same : (s t : State) → IsSolution p bodies rows until s → IsSolution p bodies rows until t → clocks_in s ≡ clocks_in t → values_in s ≡ values_in t → s ≡ t
  states_same s t sh th clocks values =
      let flows : s.flows ≡ t.flows = timed_same s.flows t.flows clocks values in
      let moved : IsSolution p bodies rows until (record { flows = t.flows; registers = s.registers }) =
      subst (λ (fs : List Timed). IsSolution p bodies rows until (record { flows = fs; registers = s.registers })) flows sh in
      let registers : s.registers ≡ t.registers = registers_same t.flows s.registers t.registers moved th in
      ap (λ (fs : List Timed). record { flows = fs; registers = s.registers }) flows ∙ ap (λ (r : List (List (List Value))). record { flows = t.flows; registers = r }) registers
