-- Lists of constraints, taken from their front.
use Rattle.prl_base.proofs.Standard.{◌≡◌, ◌≤◌, ◌<◌, ◌+◌, ◌++◌, ◌∷◌, inl, inr, ℕ, zero, suc, List, [], length, map, take, drop, get_or, Option, Some, Result, Ok, Err, refl, sym, ap, ◌∙◌, subst, arith}
use Rattle.prl_base.proofs.Standard.{append_assoc, add-one, slice_get_read, IfErr, IsErrAnd, OnOk, slice_get, cases_lt, append-nil}
use Rattle.prl_flow.specs.Programs.{FlatProgram}
use Rattle.prl_flow.specs.declared.programs.App.{App}
use Rattle.prl_flow.specs.declared.programs.Flow.{Flow}
use Rattle.prl_clock.specs.Vocabulary.{ClockFault, Standing, Placed, related, same_clock, argument_constraint, output_constraints, first_output, flow_constraints, rate_constraints}
use Rattle.prl_clock.specs.Vocabulary.{definition_constraints, constraints_below, constraints_of, IsReached, IsStopped, IsStop}
use Rattle.prl_clock.specs.declared.calculus.ClockFault.TheVariants as faults
use Rattle.prl_clock.proofs.Fine.{stopped_later, stopped_within}

pub if_err_same : {T E : Type 0} (r : Result T E) (P : E → Type 0) (f : E) → IsErrAnd r (λ e. e ≡ f) → P f → IfErr r P
if_err_same (Ok x) P f l p = tt
if_err_same (Err e) P f l p = subst P (sym l) p

-- an element that is read of a slice of the list stands in the list
pub found_at : {A : Type 0} (xs ys : List A) (k : ℕ) (x : A) → ys ≡ xs → k < length xs → x ≡ get_or ys k x → slice_get xs k ≡ Some x
found_at xs ys k x e within is =
    let here : k < length ys = let l = ap length e in omega (arith, l, within) in
    subst (λ l. slice_get l k ≡ Some x) e (slice_get_read ys (length ys) k x refl here is)

push_taken : {A B : Type 0} (f : A → B) (xs : List A) (i : ℕ) (d : A) → i < length xs → map f (take (suc i) xs) ≡ map f (take i xs) ++ f (get_or xs i d) ∷ []
push_taken f [] i d h = absurd (omega arith)
push_taken f (x ∷ xs) zero d h = refl
push_taken f (x ∷ xs) (suc i) d h = ap (λ t. f x ∷ t) (push_taken f xs i d (omega arith))

rest_taken : {A B : Type 0} (f : A → B) (xs : List A) (i : ℕ) → map f xs ≡ map f (take i xs) ++ map f (drop i xs)
rest_taken f [] zero = refl
rest_taken f [] (suc i) = refl
rest_taken f (x ∷ xs) zero = refl
rest_taken f (x ∷ xs) (suc i) = ap (λ t. f x ∷ t) (rest_taken f xs i)

pub reached_next : {A : Type 0} (p : FlatProgram) (cs : List Placed) (f : A → Placed) (xs : List A) (i : ℕ) (d : A) (st : List Standing) → i < length xs
    → IsReached p ((cs ++ map f (take i xs)) ++ f (get_or xs i d) ∷ []) st → IsReached p (cs ++ map f (take (i + 1) xs)) st
reached_next p cs f xs i d st h r =
    let P : List Placed → Type 0 = λ t. IsReached p t st in
    let Q : ℕ → Type 0 = λ n. IsReached p (cs ++ map f (take n xs)) st in
    subst Q (sym (add-one i))
    (subst P (append_assoc cs (map f (take i xs)) (f (get_or xs i d) ∷ []) ∙ ap (λ t. cs ++ t) (sym (push_taken f xs i d h))) r)

pub stopped_next : {A : Type 0} (cs : List Placed) (f : A → Placed) (xs : List A) (i : ℕ) (d : A) (e : ClockFault) → i < length xs
    → IsStopped (cs ++ map f (take i xs)) (f (get_or xs i d) ∷ []) e → IsStopped cs (map f xs) e
stopped_next cs f xs i d e h s =
    let P : List Placed → Type 0 = λ t. IsStopped cs t e in
    subst P (ap (λ t. t ++ map f (drop (suc i) xs)) (sym (push_taken f xs i d h)) ∙ sym (rest_taken f xs (suc i)))
    (stopped_within cs (map f (take i xs) ++ f (get_or xs i d) ∷ []) (map f (drop (suc i) xs)) e (stopped_later cs (map f (take i xs)) (f (get_or xs i d) ∷ []) e s))

-- the constraints of an output
pub first_constraints : (x at out : ℕ) (o : Option App) (app : App) → o ≡ Some app → out ≡ 0 → map (argument_constraint x) app.args ≡ output_constraints x at out o
first_constraints x at out o app is e =
    let P : Option App → Type 0 = λ t. map (argument_constraint x) app.args ≡ output_constraints x at out t in
    let Q : ℕ → Type 0 = λ n. map (argument_constraint x) app.args ≡ output_constraints x at n (Some app) in
    subst P (sym is) (subst Q (sym e) refl)

pub later_constraints : (x at out : ℕ) (o : Option App) (app : App) (y : ℕ) → o ≡ Some app → 1 ≤ out → y ≡ first_output app
    → (record { constraint = related x y same_clock; at = at }) ∷ [] ≡ output_constraints x at out o
later_constraints x at zero o app y is h e = absurd (omega arith)
later_constraints x at (suc out) o app y is h e =
    let P : Option App → Type 0 = λ t. (record { constraint = related x y same_clock; at = at }) ∷ [] ≡ output_constraints x at (suc out) t in
    subst P (sym is) (ap (λ (n : ℕ). (record { constraint = related x n same_clock; at = at }) ∷ []) e)

pub reached_as : {T E : Type 0} (p : FlatProgram) (cs : List Placed) (ds es : List Placed) (st : List Standing) (r : Result T E) → ds ≡ es → OnOk r (IsReached p (cs ++ ds) st)
    → OnOk r (IsReached p (cs ++ es) st)
reached_as p cs ds es st r e h = let P : List Placed → Type 0 = λ t. OnOk r (IsReached p (cs ++ t) st) in subst P e h

pub stopped_as : {T : Type 0} (cs : List Placed) (ds es : List Placed) (r : Result T ClockFault) → ds ≡ es → IfErr r (IsStopped cs ds) → IfErr r (IsStopped cs es)
stopped_as cs ds es r e h = let P : List Placed → Type 0 = λ t. IfErr r (IsStopped cs t) in subst P e h

pub stopped_twice : {T : Type 0} (cs : List Placed) (ds es : List Placed) (r : Result T ClockFault) → IfErr r (IsStopped (cs ++ ds) es) → IfErr r (IsStopped cs (ds ++ es))
stopped_twice cs ds es (Ok x) h = tt
stopped_twice cs ds es (Err e) h = stopped_later cs ds es e h

pub reached_twice : {T E : Type 0} (p : FlatProgram) (cs : List Placed) (ds es : List Placed) (st : List Standing) (r : Result T E) → OnOk r (IsReached p ((cs ++ ds) ++ es) st)
    → OnOk r (IsReached p (cs ++ (ds ++ es)) st)
reached_twice p cs ds es st r h = let P : List Placed → Type 0 = λ t. OnOk r (IsReached p t st) in subst P (append_assoc cs ds es) h

pub flow_found : (p : FlatProgram) (x : ℕ) (o : Option Flow) (flow : Flow) → o ≡ Some flow
    → rate_constraints x flow.at.at flow.rate ++ definition_constraints p x flow.at.at flow.def ≡ flow_constraints p x o
flow_found p x o flow e = ap (λ t. flow_constraints p x t) (sym e)

-- the constraints of the flows below a number come first
below_front : (p : FlatProgram) (i n : ℕ) → i ≤ n → (rest : List Placed) × (constraints_below p n ≡ constraints_below p i ++ rest)
below_front p i zero h = let e : i ≡ 0 = omega arith in ([], ap (λ t. constraints_below p t) (sym e) ∙ sym (append-nil (constraints_below p i)))
below_front p i (suc n) h =
    elim (cases_lt n i) [
      | inl above ↦ let e : suc n ≡ i = omega arith in ([], ap (λ t. constraints_below p t) e ∙ sym (append-nil (constraints_below p i)))
      | inr below ↦
          let k = below_front p i n below in
          let ds = flow_constraints p n (slice_get p.flows n) in
          (k.0 ++ ds, ap (λ t. t ++ ds) k.1 ∙ append_assoc (constraints_below p i) k.0 ds)
    ]

pub stopped_below : (p : FlatProgram) (x : ℕ) (e : ClockFault) → x < length p.flows → IsStopped (constraints_below p x) (flow_constraints p x (slice_get p.flows x)) e
    → IsStopped [] (constraints_of p) e
stopped_below p x e h s =
    let k = below_front p (suc x) (length p.flows) (omega arith) in
    let P : List Placed → Type 0 = λ t. IsStopped [] t e in
    subst P (sym k.1)
    (stopped_within [] (constraints_below p (suc x)) k.0 e (stopped_later [] (constraints_below p x) (flow_constraints p x (slice_get p.flows x)) e s))

pub stop_of : (cs ds : List Placed) (e : ClockFault) → IsStopped cs ds e → IsStop cs ds e
stop_of cs ds (faults.Mismatch at) s = s
stop_of cs ds (faults.Limit limit) s = s
stop_of cs ds (faults.Free label) s = s
stop_of cs ds (faults.NotWhole label period start) s = s
stop_of cs ds faults.Memory s = tt

pub reached_below : (p : FlatProgram) (x : ℕ) (st : List Standing) → IsReached p (constraints_below p x ++ flow_constraints p x (slice_get p.flows x)) st
    → IsReached p (constraints_below p (x + 1)) st
reached_below p x st r = let Q : ℕ → Type 0 = λ k. IsReached p (constraints_below p k) st in subst Q (sym (add-one x)) r

pub reached_end : (p : FlatProgram) (x : ℕ) (st : List Standing) → x ≡ length p.flows → IsReached p (constraints_below p x) st → IsReached p (constraints_of p) st
reached_end p x st e r = let P : ℕ → Type 0 = λ n. IsReached p (constraints_below p n) st in subst P e r
