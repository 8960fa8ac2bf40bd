-- What a definition makes of a table depends on the instances that it reads alone, and these are earlier.
use Rattle.prl_base.proofs.Standard.{◌≡◌, ◌+◌, ◌*◌, ◌/◌, ◌<◌, ◌≤◌, ◌⊎◌, inl, inr, ℕ, zero, suc, Bool, true, false, List, [], ◌∷◌, length, Option, Some, None, slice_get, slice_index_or, refl, sym, ◌∙◌}
use Rattle.prl_base.proofs.Standard.{ap, subst, arith, nat_abs, ℤ, pos, negsuc, int_lt, slice_get_within, cases_lt, mul-le-mul_left, mul-le-mul_right, mul_assoc, mul_comm, div-mul-le_self}
use Rattle.prl_base.proofs.Standard.{le_of_mul-le-mul_left}
use Rattle.prl_base.specs.Vocabulary.{IsClock, date_at, IsOperatorFor, IsResultClock, Origin, constant, delays, instance, origin_of}
use Rattle.prl_base.specs.declared.numbers.FlowNo.{FlowNo}
use Rattle.prl_base.specs.declared.operators.Clock.{Clock}
use Rattle.prl_base.specs.declared.operators.Op.{Op}
use Rattle.prl_base.specs.declared.values.Ty.{Ty}
use Rattle.prl_base.specs.declared.values.Value.{Value}
use Rattle.prl_base.specs.declared.operators.Op.TheVariants as operators
use Rattle.prl_body.specs.Bodies.{body_named, body_step}
use Rattle.prl_body.specs.declared.bodies.CheckedBody.{CheckedBody}
use Rattle.prl_flow.specs.Vocabulary.{nth_step, registers_before, FlatProgram, HasType, IsFlat, IsWellDefined, Rows, AgreesClock, AreClocks, clock_of, IsArgument, NamesNow, UsesNow}
use Rattle.prl_flow.specs.declared.programs.App.{App}
use Rattle.prl_flow.specs.declared.programs.Arg.{Arg}
use Rattle.prl_flow.specs.declared.programs.Def.{Def}
use Rattle.prl_flow.specs.declared.programs.Flow.{Flow}
use Rattle.prl_flow.specs.declared.programs.Def.TheVariants as definitions
use Rattle.prl_causal.specs.Tables.{Table, taken, argument_values, output_of, applied_of, value_of, Reads, nothing}

taken_local : (f g : ℕ → Value) (o : Origin) → ((m : ℕ) → o ≡ instance m → f m ≡ g m) → taken f o ≡ taken g o
taken_local f g (instance m) same = same m refl
taken_local f g (constant c) same = refl

pub inputs_local : (v w : Table) (args : List Arg) (n : ℕ) → ((j : ℕ) (arg : Arg) → slice_get args j ≡ Some arg → v arg.flow.0 n ≡ w arg.flow.0 n) → argument_values v args n ≡ argument_values w args n
inputs_local v w [] n same = refl
inputs_local v w (arg ∷ args) n same =
    let first : v arg.flow.0 n ≡ w arg.flow.0 n = same zero arg refl in
    ap (λ (x : Value). x ∷ argument_values v args n) first ∙ ap (λ (xs : List Value). w arg.flow.0 n ∷ xs) (inputs_local v w args n (λ j x found. same (suc j) x found))

-- registers depend on the inputs of the steps before
pub registers_local : (body : CheckedBody) (f g : ℕ → List Value) (n : ℕ) → ((m : ℕ) → m < n → f m ≡ g m) → registers_before body f n ≡ registers_before body g n
registers_local body f g zero same = refl
registers_local body f g (suc n) same =
    ap (λ (inputs : List Value). (body_step body inputs (registers_before body f n)).registers) (same n (omega arith))
    ∙ ap (λ (registers : List Value). (body_step body (g n) registers).registers) (registers_local body f g n (λ m less. same m (omega arith)))

pub step_local : (body : CheckedBody) (f g : ℕ → List Value) (n : ℕ) → ((m : ℕ) → m ≤ n → f m ≡ g m) → nth_step body f n ≡ nth_step body g n
step_local body f g n same =
    ap (λ (inputs : List Value). body_step body inputs (registers_before body f n)) (same n (omega arith))
    ∙ ap (body_step body (g n)) (registers_local body f g n (λ m less. same m (omega arith)))

output_local : (b : Option CheckedBody) (f g : ℕ → List Value) (n out : ℕ) → ((m : ℕ) → m ≤ n → f m ≡ g m) → output_of b f n out ≡ output_of b g n out
output_local None f g n out same = refl
output_local (Some body) f g n out same = ap (λ s. slice_index_or s.outputs out nothing) (step_local body f g n same)

applied_local : (bodies : List CheckedBody) (v w : Table) (a : Option App) (n out : ℕ)
    → ((app : App) → a ≡ Some app → (m : ℕ) → m ≤ n → argument_values v app.args m ≡ argument_values w app.args m) → applied_of bodies v a n out ≡ applied_of bodies w a n out
applied_local bodies v w None n out same = refl
applied_local bodies v w (Some app) n out same = output_local (body_named bodies app.name) (argument_values v app.args) (argument_values w app.args) n out (same app refl)

-- the value depends on what is read alone
pub value_local : (p : FlatProgram) (bodies : List CheckedBody) (rows : Rows) (v w : Table) (def : Def) (n : ℕ)
    → ((j m : ℕ) → Reads p def n j m → v j m ≡ w j m) → value_of p bodies rows v def n ≡ value_of p bodies rows w def n
value_local p bodies rows v w (definitions.Sensor k) n same = refl
value_local p bodies rows v w (definitions.Copy of) n same = same of.0 n (refl, refl)
value_local p bodies rows v w (definitions.Const c) n same = refl
value_local p bodies rows v w (definitions.Apply k out) n same =
    applied_local bodies v w (slice_get p.apps k) n out (λ app applied m le.
    inputs_local v w app.args m (λ j arg found.
    let argument : IsArgument p k arg.flow.0 = record { app = app; applied = applied; index = j; arg = arg; found = found; is = refl } in
    same arg.flow.0 m (argument, le)))
value_local p bodies rows v w (definitions.Op op of) n same =
    taken_local (v of.0) (w of.0) (origin_of op n) (λ m is. same of.0 m (refl, is))

-- whether the operator delays, an instance of its result reads one of an earlier date, or of the same
abbrev pub IsOf : Op → ℕ → ℕ → Type 0
IsOf op before at = (before < at) ⊎ ((before ≤ at) × (delays op ≡ false))

same_number : (m n : ℕ) → instance m ≡ instance n → m ≡ n
same_number m n e = cc

shift_date : (q p x y n : ℕ) (num : ℤ) → 1 ≤ q → 1 ≤ p → q * y ≡ q * x + nat_abs num * p → (delayed : Bool) → int_lt (pos 0) num ≡ delayed → (x + n < y + n) ⊎ ((x + n ≤ y + n) × (delayed ≡ false))
shift_date q p x y n num positive period same false e =
    let more : q * x ≤ q * y = omega arith in
    let le : x ≤ y = le_of_mul-le-mul_left {k = q} more positive in
    inr (omega arith, refl)
shift_date q p x y n (pos zero) positive period same true e = absurd (cc)
shift_date q p x y n (pos (suc k)) positive period same true e =
    let one : 1 ≤ suc k = omega arith in
    let by : 1 * p ≤ suc k * p = mul-le-mul_right p one in
    let more : q * x < q * y = omega arith in
    elim (cases_lt x y) [
      | inl less ↦ inl (omega arith)
      | inr le ↦ let back : q * y ≤ q * x = mul-le-mul_left q le in absurd (omega arith)
    ]
shift_date q p x y n (negsuc k) positive period same true e = absurd (cc)

-- an operator's instance reads an instance of an earlier date, or of the same where it does not delay
pub operator_earlier : (op : Op) (x y : Clock) (ty : Ty) (n m : ℕ) → IsClock x → IsClock y → IsResultClock op x y → IsOperatorFor ty op → origin_of op n ≡ instance m
    → IsOf op (date_at x m) (date_at y n)
operator_earlier (operators.Fby c) x y ty zero m xs ys (period, start) fits is = absurd (cc)
operator_earlier (operators.Fby c) x y ty (suc n) m xs ys (period, start) fits is = inl (rw (← (same_number n m is), period, start) (omega arith))
operator_earlier (operators.Cons c) x y ty zero m xs ys (period, start) fits is = absurd (cc)
operator_earlier (operators.Cons c) x y ty (suc n) m xs ys (period, start) fits is =
    let date : date_at x n ≡ date_at y (suc n) = rw (period, ← start) (omega arith) in
    inr (rw (← (same_number n m is), date) (omega arith), refl)
operator_earlier operators.Tail x y ty n m xs ys (period, start) fits is =
    let date : date_at x (n + 1) ≡ date_at y n = rw (period, start) (omega arith) in
    inr (rw (← (same_number (n + 1) m is), date) (omega arith), refl)
operator_earlier (operators.Up k) x y ty n m xs ys (period, start) fits is =
    let down : n / k * k * y.period ≤ n * y.period = mul-le-mul_right y.period (div-mul-le_self n k) in
    let same : n / k * x.period ≡ n / k * k * y.period = rw (← period) (sym (mul_assoc (n / k) k y.period)) in
    inr (rw (← (same_number (n / k) m is), start) (omega arith), refl)
operator_earlier (operators.Down k) x y ty n m xs ys (period, start) fits is =
    let date : date_at x (k * n) ≡ date_at y n = rw (period, start) (ap (λ t. x.start + t) (ap (λ t. t * x.period) (mul_comm k n) ∙ mul_assoc n k x.period)) in
    inr (rw (← (same_number (k * n) m is), date) (omega arith), refl)
operator_earlier (operators.Shift q) x y ty n m xs ys (period, start) fits is =
    subst (λ t. IsOf (operators.Shift q) (date_at x t) (date_at y n)) (same_number n m is)
    (rw period (shift_date q.den x.period x.start y.start (n * x.period) q.num fits.0 xs start (int_lt (pos 0) q.num) refl))

-- what is read is of an earlier date, or of the same and used undelayed
abbrev pub IsEarlier : FlatProgram → List Clock → ℕ → ℕ → ℕ → ℕ → Type 0
IsEarlier p clocks i n j m =
    (date_at (clock_of clocks j) m < date_at (clock_of clocks i) n) ⊎ ((date_at (clock_of clocks j) m ≤ date_at (clock_of clocks i) n) × UsesNow p i j)

uses_now : (p : FlatProgram) (i j : ℕ) (flow : Flow) (def : Def) → slice_get p.flows i ≡ Some flow → flow.def ≡ def → NamesNow p def j → UsesNow p i j
uses_now p i j flow def found is names = record { flow = flow; found = found; names = subst (λ (d : Def). NamesNow p d j) (sym is) names }

there : (p : FlatProgram) (ty : Ty) (of : FlowNo) → HasType p ty of → of.0 < length p.flows
there p ty of (f, found, is) = slice_get_within p.flows of.0 f found

module _ (p : FlatProgram) (flat : IsFlat p) (clocks : List Clock) (agree : AreClocks p clocks) where
  clock_there : (i : ℕ) → i < length p.flows → IsClock (clock_of clocks i)
  clock_there i within = agree.clock i (omega (arith, agree.count))

  earlier_by : (i : ℕ) (flow : Flow) (def : Def) → slice_get p.flows i ≡ Some flow → flow.def ≡ def → IsWellDefined p i flow.ty def → AgreesClock clocks (clock_of clocks i) def
      → (n j m : ℕ) → Reads p def n j m → (j < length p.flows) × IsEarlier p clocks i n j m
  earlier_by i flow (definitions.Sensor k) found is defined agrees n j m reads = absurd reads
  earlier_by i flow (definitions.Copy of) found is defined agrees n j m (named, number) =
      let clock : clock_of clocks i ≡ clock_of clocks j = agrees ∙ ap (clock_of clocks) named in
      let date : date_at (clock_of clocks i) n ≡ date_at (clock_of clocks j) m = ap (λ (c : Clock). date_at c n) clock ∙ ap (date_at (clock_of clocks j)) number in
      (subst (λ t. t < length p.flows) named (there p flow.ty of defined), inr (omega (arith, date), uses_now p i j flow (definitions.Copy of) found is named))
  earlier_by i flow (definitions.Const c) found is defined agrees n j m reads = absurd reads
  earlier_by i flow (definitions.Apply k out) found is (a, applied, output) agrees n j m (argument, le) =
      let app : argument.app ≡ a = let e : Some argument.app ≡ Some a = sym argument.applied ∙ applied in cc in
      let arg_found : slice_get a.args argument.index ≡ Some argument.arg = ap (λ (u : App). slice_get u.args argument.index) (sym app) ∙ argument.found in
      let within : j < length p.flows = subst (λ t. t < length p.flows) argument.is ((flat.apps k a applied).args argument.index argument.arg arg_found) in
      let one = agree.apps k a applied in
      let clock : clock_of clocks j ≡ clock_of clocks i = ap (clock_of clocks) (sym argument.is) ∙ one.args argument.index argument.arg arg_found ∙ sym (one.outs out (record { 0 = i }) output) in
      let grows : m * (clock_of clocks i).period ≤ n * (clock_of clocks i).period = mul-le-mul_right (clock_of clocks i).period le in
      let date : date_at (clock_of clocks j) m ≡ date_at (clock_of clocks i) m = ap (λ (c : Clock). date_at c m) clock in
      (within, inr (omega (arith, date, grows), uses_now p i j flow (definitions.Apply k out) found is argument))
  earlier_by i flow (definitions.Op op of) found is (typed, fits) agrees n j m (named, origin) =
      let of_within = there p flow.ty of typed in
      let within : j < length p.flows = subst (λ t. t < length p.flows) named of_within in
      let i_within = slice_get_within p.flows i flow found in
      let same : date_at (clock_of clocks of.0) m ≡ date_at (clock_of clocks j) m = ap (λ t. date_at (clock_of clocks t) m) named in
      elim (operator_earlier op (clock_of clocks of.0) (clock_of clocks i) flow.ty n m (clock_there of.0 of_within) (clock_there i i_within) agrees fits origin) [
        | inl before ↦ (within, inl (omega (arith, before, same)))
        | inr both ↦ (within, inr (omega (arith, both.0, same), uses_now p i j flow (definitions.Op op of) found is (both.1, named)))
      ]

  pub reads_earlier : (i : ℕ) (flow : Flow) → slice_get p.flows i ≡ Some flow → (n j m : ℕ) → Reads p flow.def n j m → (j < length p.flows) × IsEarlier p clocks i n j m
  reads_earlier i flow found n j m reads = earlier_by i flow flow.def found refl (flat.flows i flow found) (agree.agree i flow found) n j m reads

  -- and so of a date before `until` where the own date is
  pub reads_before : (until i n j m : ℕ) → IsEarlier p clocks i n j m → date_at (clock_of clocks i) n < until → date_at (clock_of clocks j) m < until
  reads_before until i n j m earlier before = elim earlier [ inl less ↦ omega (arith, less, before) | inr both ↦ omega (arith, both.0, before) ]
