-- The rows of one actuator, one after another.
use Rattle.prl_base.proofs.Standard.{◌≡◌, ◌+◌, ◌-◌, ◌*◌, ◌/◌, ◌<◌, ◌≤◌, ◌++◌, inl, inr, ℕ, List, [], ◌∷◌, length, Some, slice_get, slice_index_or, ◌^◌, refl, sym, ◌∙◌, ap, arith, flat_map}
use Rattle.prl_base.proofs.Standard.{mul-div_cancel, mul-le-mul_right, cases_lt, append-nil}
use Rattle.std.proofs.lemmas.List.{append_assoc}
use Rattle.prl_base.specs.Clocks.{IsClock, date_at}
use Rattle.prl_base.specs.declared.operators.Clock.{Clock}
use Rattle.prl_base.specs.declared.values.Value.{Value}
use Rattle.prl_flow.specs.Actuators.{AreUpTo, actuator_text, row_at, row_text}
use Rattle.prl_flow.specs.declared.programs.OutFlow.{OutFlow}
use Rattle.prl_sensors.specs.Ends.{EndsBefore}
use Rattle.prl_sensors.proofs.DueRows.{date_is, row_some}
use Rattle.prl_sensors.proofs.RowDates.{actuator_text_more, actuator_text_skip, row_at_none}

-- dates rise
rises : (c : Clock) (k n : ℕ) → k ≤ n → date_at c k ≤ date_at c n
rises c k n order = let grows : k * c.period ≤ n * c.period = mul-le-mul_right c.period order in omega (arith, grows)

rises_more : (c : Clock) → IsClock c → (k n : ℕ) → k < n → date_at c k < date_at c n
rises_more c clock k n order =
    let positive : 1 ≤ c.period = clock in
    let next : (k + 1) * c.period ≤ n * c.period = mul-le-mul_right c.period (omega (arith, order)) in
    let one : (k + 1) * c.period ≡ k * c.period + c.period = omega arith in
    omega (arith, next, one, positive)

-- no date stands between two that follow one another
none_between : (c : Clock) (n k s : ℕ) → date_at c n < s → s < date_at c (n + 1) → s ≡ date_at c k → ⊥
none_between c n k s late soon is = elim (cases_lt n k) [
  | inl more ↦ let grows = rises c (n + 1) k (omega (arith, more)) in absurd (omega (arith, grows, soon, is))
  | inr less ↦ let grows = rises c k n less in absurd (omega (arith, grows, late, is))
]

-- the number of a date
number_is : (c : Clock) (n : ℕ) → IsClock c → (date_at c n - c.start) / c.period ≡ n
number_is c n clock =
    let after : date_at c n - c.start ≡ n * c.period = omega arith in
    ap (λ m. m / c.period) after ∙ mul-div_cancel n clock

-- the text is the bytes with the rows before the n-th date
abbrev pub IsSoFar : OutFlow → List ℕ → ℕ → List ℕ → Type 0
IsSoFar out bytes n text =
    (t : ℕ) → ((k : ℕ) → k < n → date_at out.clock k < t) → t ≤ date_at out.clock n → text ≡ bytes ++ actuator_text t (out ∷ [])

-- a list of one
pub one_of : {A : Type 0} (xs : List A) (x : A) → length xs ≡ 1 → x ≡ slice_index_or xs 0 x → xs ≡ x ∷ []
one_of [] x size is = absurd (omega (arith, size))
one_of (y ∷ []) x size is = ap (λ z. z ∷ []) (sym is)
one_of (y ∷ z ∷ rest) x size is = absurd (omega (arith, size))

module _ (out : OutFlow) (ends : EndsBefore (2 ^ 64 - 1) out) where
  no_row : (s : ℕ) → ((k : ℕ) → s ≡ date_at out.clock k → ⊥) → flat_map (row_at s) (out ∷ []) ≡ []
  no_row s none = append-nil (row_at s out) ∙ row_at_none out s (λ k is. absurd (none k is))

  pub none_yet : (bytes : List ℕ) → IsSoFar out bytes 0 bytes
  none_yet bytes t before order =
      let empty : actuator_text t (out ∷ []) ≡ [] =
      actuator_text_skip (out ∷ []) 0 t (omega arith) (λ s from below. no_row s (λ k is. let grows = rises out.clock 0 k (omega arith) in omega (arith, grows, order, below, is))) in
      sym (append-nil bytes) ∙ ap (λ (rows : List ℕ). bytes ++ rows) (sym empty)

  pub one_more : (bytes text new : List ℕ) (n : ℕ) (v : Value) → slice_get out.values n ≡ Some v → IsSoFar out bytes n text
      → new ≡ text ++ row_text (record { name = out.name; instance = n; date = date_at out.clock n; value = v }) → IsSoFar out bytes (n + 1) new
  one_more bytes text new n v found so_far is t before order =
      let outs : List OutFlow = out ∷ [] in
      let d : ℕ = date_at out.clock n in
      let number : (d - out.clock.start) / out.clock.period ≡ n = number_is out.clock n ends.clock in
      let here : text ≡ bytes ++ actuator_text d outs = so_far d (λ k less. rises_more out.clock ends.clock k n less) (omega arith) in
      let row : flat_map row_text (flat_map (row_at d) outs) ≡ row_text (record { name = out.name; instance = n; date = d; value = v }) =
      ap (flat_map row_text) (append-nil (row_at d out))
      ∙ row_some out d v (date_is out.clock d ends.clock (n, refl)) (ap (slice_get out.values) number ∙ found)
      ∙ ap (λ m. row_text (record { name = out.name; instance = m; date = d; value = v })) number in
      let late : d < t = before n (omega arith) in
      let skip : actuator_text t outs ≡ actuator_text (d + 1) outs =
      actuator_text_skip outs (d + 1) t (omega (arith, late)) (λ s from below. no_row s (λ k at. none_between out.clock n k s (omega (arith, from)) (omega (arith, below, order)) at)) in
      let all : actuator_text t outs ≡ actuator_text d outs ++ row_text (record { name = out.name; instance = n; date = d; value = v }) =
      skip ∙ actuator_text_more outs d ∙ ap (λ (rows : List ℕ). actuator_text d outs ++ rows) row in
      is ∙ ap (λ (front : List ℕ). front ++ row_text (record { name = out.name; instance = n; date = d; value = v })) here
      ∙ append_assoc bytes (actuator_text d outs) (row_text (record { name = out.name; instance = n; date = d; value = v }))
      ∙ ap (λ (rows : List ℕ). bytes ++ rows) (sym all)

  pub all_rows : (bytes text : List ℕ) (n until : ℕ) → length out.values ≡ n → IsSoFar out bytes n text → AreUpTo until (out ∷ []) → text ≡ bytes ++ actuator_text until (out ∷ [])
  all_rows bytes text n until size so_far up_to =
      let own = (up_to 0 out (omega arith)).1 in
      so_far until (λ k less. (own k).0 (omega (arith, less, size))) (elim (cases_lt (date_at out.clock n) until) [
        | inl below ↦ let within = (own n).1 below in absurd (omega (arith, within, size))
        | inr past ↦ past
      ])
