-- The tree of a generated program is in range, and its names are no keywords.
use Rattle.prl_base.proofs.Standard.{◌≡◌, ◌==◌, ◌≤◌, ◌<◌, ◌-◌, ◌*◌, ◌/◌, ◌^◌, ◌++◌, ℕ, zero, suc, Bool, true, false, cond, pos, List, [], ◌∷◌, length, Option, Some, None, refl, sym, subst, arith}
use Rattle.prl_base.proofs.Standard.{codes, get_or, leb, ⊎_elim, digits, AllByRecursion, slice_index, nat_lt, cases_lt, leb-true, ltb-true, ltb-false, false≢true, ints, le-div, mod_below}
use Rattle.prl_base.proofs.Standard.{IsGcd-from_zero, IsGcd-swap, div-le_self}
use Rattle.prl_base.specs.Names.{is_word}
use Rattle.prl_base.specs.declared.operators.Op.TheVariants as ops
use Rattle.prl_ast.specs.Vocabulary.{IsCount, IsShift, Tree, ProgramTree}
use Rattle.prl_syntax.specs.Words.{keyword_of}
use Rattle.prl_print.specs.Printing.{printed}
use Rattle.prl_print.specs.RoundTrip.{IsTextOf}
use Rattle.prl_print.proofs.Own.{AreOwn, IsOwnDevice, IsOwnEquation, IsOwnImport, IsOwnName, IsOwnNode, IsOwnParam, IsOwnTree}
use Rattle.prl_print.proofs.Printable.{own_reads_back}
use Rattle.prl_gen.specs.Vocabulary.{draw, next, state_after, period_at, periods_from, each, generated_program}
use Rattle.prl_gen.proofs.Trees.{counted, converted_tree, delayed_tree, device_tree, equation_of_lane, feed_tree, generated_is, generated_tree, grouped_tree, import_tree, input_tree, main_tree, name_of_lane, one_of, output_tree}

-- names

abbrev no_class : Option ℕ → Bool
no_class None = true
no_class (Some class) = false

abbrev is_own_name : List ℕ → Bool
is_own_name name = cond (is_word name) (cond (leb (length name) 64) (no_class (keyword_of name)) false) false

both_true : (a b c : Bool) → cond a (cond b c false) false ≡ true → (a ≡ true) × (b ≡ true) × (c ≡ true)
both_true true true true e = (refl, refl, refl)
both_true true true false e = absurd (false≢true e)
both_true true false c e = absurd (false≢true e)
both_true false b c e = absurd (false≢true e)

none_of : (o : Option ℕ) → no_class o ≡ true → o ≡ None
none_of None e = refl
none_of (Some class) e = absurd (false≢true e)

own_of_test : (name : List ℕ) → is_own_name name ≡ true → IsOwnName name
own_of_test name e =
    let all = both_true (is_word name) (leb (length name) 64) (no_class (keyword_of name)) e in
    ((all.0, leb-true (length name) 64 all.1), none_of (keyword_of name) all.2)

all_below : (ℕ → Bool) → ℕ → Bool
all_below test zero = true
all_below test (suc n) = cond (test n) (all_below test n) false

each_below : (test : ℕ → Bool) (n lane : ℕ) → all_below test n ≡ true → lane < n → test lane ≡ true
unfolding all_below
each_below test zero lane e low = absurd (omega (arith, low))
each_below test (suc n) lane e low =
    elim (test n) as (λ b. test n ≡ b → cond b (all_below test n) false ≡ true → test lane ≡ true) [
      | true ↦ λ is rest. ⊎_elim
          (λ lower. each_below test n lane rest lower)
          (λ last. (let same : lane ≡ n = omega (arith, low, last) in subst (λ k. test k ≡ true) (sym same) is))
          (cases_lt lane n)
      | false ↦ λ is no. absurd (false≢true no)
    ] refl e

sensors_named : all_below (λ lane. is_own_name (name_of_lane (codes "s") lane)) 20 ≡ true
unfolding digits all_below
sensors_named = refl

actuators_named : all_below (λ lane. is_own_name (name_of_lane (codes "a") lane)) 20 ≡ true
unfolding digits all_below
actuators_named = refl

imports_named : all_below (λ lane. is_own_name (name_of_lane (codes "f") lane)) 20 ≡ true
unfolding digits all_below
imports_named = refl

s_name : (lane : ℕ) → lane < 20 → IsOwnName (name_of_lane (codes "s") lane)
s_name lane low = own_of_test (name_of_lane (codes "s") lane) (each_below (λ k. is_own_name (name_of_lane (codes "s") k)) 20 lane sensors_named low)

a_name : (lane : ℕ) → lane < 20 → IsOwnName (name_of_lane (codes "a") lane)
a_name lane low = own_of_test (name_of_lane (codes "a") lane) (each_below (λ k. is_own_name (name_of_lane (codes "a") k)) 20 lane actuators_named low)

f_name : (lane : ℕ) → lane < 20 → IsOwnName (name_of_lane (codes "f") lane)
f_name lane low = own_of_test (name_of_lane (codes "f") lane) (each_below (λ k. is_own_name (name_of_lane (codes "f") k)) 20 lane imports_named low)

x_name : IsOwnName (codes "x")
x_name = own_of_test (codes "x") refl

y_name : IsOwnName (codes "y")
y_name = own_of_test (codes "y") refl

z_name : IsOwnName (codes "z")
z_name = own_of_test (codes "z") refl

main_name : IsOwnName (codes "main")
main_name = own_of_test (codes "main") refl

-- lists made one after another

all_more : {A : Type 0} (P : A → Type 0) (xs : List A) (x : A) → AllByRecursion P xs → P x → AllByRecursion P (xs ++ x ∷ [])
all_more P [] x all one = (one, tt)
all_more P (y ∷ xs) x all one = (all.0, all_more P xs x all.1 one)

all_made : {A : Type 0} (P : A → Type 0) (make : ℕ → A) (n : ℕ) → ((lane : ℕ) → lane < n → P (make lane)) → AllByRecursion P (each (one_of make) n)
all_made P make zero is = tt
all_made P make (suc n) is = all_more P (each (one_of make) n) (make n) (all_made P make n (λ lane low. is lane (omega (arith, low)))) (is n (omega arith))

one_read : (P : ℕ → Type 0) (xs : List ℕ) (k : ℕ) → AllByRecursion P xs → k < length xs → P (get_or xs k 0)
one_read P [] k all low = absurd (omega (arith, low))
one_read P (x ∷ xs) zero all low = all.0
one_read P (x ∷ xs) (suc k) all low = one_read P xs k all.1 (omega (arith, low))

-- periods

abbrev IsPeriod : ℕ → Type 0
IsPeriod period = (1 ≤ period) × (period ≤ 160)

power_small : (k : ℕ) → k < 3 → IsPeriod (40 * 2 ^ k)
power_small zero low = (omega arith, omega arith)
power_small (suc zero) low = (omega arith, omega arith)
power_small (suc (suc zero)) low = (omega arith, omega arith)
power_small (suc (suc (suc k))) low = absurd (omega (arith, low))

period_small : (state : ℕ) → IsPeriod (period_at state)
period_small state = power_small (draw 3 state) (mod_below (next state / 2 ^ 33) 3 (omega arith))

periods_small : (seed size : ℕ) → AllByRecursion IsPeriod (periods_from seed size)
periods_small seed size = all_made IsPeriod (λ lane. period_at (state_after seed lane)) size (λ lane low. period_small (state_after seed lane))

-- trees

one_count : IsCount 1
one_count = (omega arith, omega arith)

no_shift : IsShift (record { num = pos 0; den = 1 })
no_shift = (record { positive = omega arith; reduced = IsGcd-swap 1 0 1 (IsGcd-from_zero 1 0 refl); num = omega arith; den = omega arith }, omega (arith, ints))

period_count : (period : ℕ) → IsPeriod period → IsCount period
period_count period is = (is.0, omega (arith, is.1))

factor_count : (from to : ℕ) → IsPeriod from → IsPeriod to → to ≤ from → IsCount (from / to)
factor_count from to a b low =
    let least : 1 ≤ from / to = le-div 1 from to (omega (arith, b.0)) (omega (arith, low)) in
    let most : from / to ≤ from = div-le_self from to in
    (least, omega (arith, most, a.1))

own_import : (lane : ℕ) → lane < 20 → IsOwnImport (import_tree lane)
own_import lane low =
    let name = f_name lane low in
    record {
      range = record { name = name.0; ins = (x_name.0, (y_name.0, tt)); outs = (z_name.0, tt); some = omega arith; wcet = one_count };
      name = name;
      ins = (x_name, (y_name, tt));
      outs = (z_name, tt);
    }

own_input : (periods : List ℕ) (lane : ℕ) → lane < 20 → IsPeriod (get_or periods lane 0) → IsOwnParam (input_tree periods lane)
own_input periods lane low period =
    let name = s_name lane low in
    (record { name = name.0; rate = (period_count (get_or periods lane 0) period, no_shift); due = tt }, name)

own_output : (lane : ℕ) → lane < 20 → IsOwnParam (output_tree lane)
own_output lane low = (let name = a_name lane low in (record { name = name.0; rate = tt; due = tt }, name))

own_delayed : (d lane : ℕ) → lane < 20 → IsOwnTree d (delayed_tree lane)
own_delayed d lane low = (let name = a_name lane low in (((record { sfits = omega (arith, ints) }, tt), name.0, tt), name.1))

own_up : (lane factor : ℕ) → lane < 20 → IsCount factor → IsOwnTree 1 (grouped_tree lane (ops.Up factor))
own_up lane factor low is = (let own = own_delayed 2 lane low in ((tt, (omega arith, own.0, tt), (is, tt)), (own.1, tt)))

own_down : (lane factor : ℕ) → lane < 20 → IsCount factor → IsOwnTree 1 (grouped_tree lane (ops.Down factor))
own_down lane factor low is = (let own = own_delayed 2 lane low in ((tt, (omega arith, own.0, tt), (is, tt)), (own.1, tt)))

own_chosen : (b : Bool) (d : ℕ) (t u : Tree) → (b ≡ true → IsOwnTree d t) → (b ≡ false → IsOwnTree d u) → IsOwnTree d (cond b t u)
own_chosen true d t u one other = one refl
own_chosen false d t u one other = other refl

own_converted : (lane from to : ℕ) → lane < 20 → IsPeriod from → IsPeriod to → IsOwnTree 1 (converted_tree lane from to)
own_converted lane from to low a b =
    own_chosen (from == to) 1 (delayed_tree lane) (cond (nat_lt to from) (grouped_tree lane (ops.Up (from / to))) (grouped_tree lane (ops.Down (to / from))))
    (λ e. own_delayed 1 lane low)
    (λ e. own_chosen (nat_lt to from) 1 (grouped_tree lane (ops.Up (from / to))) (grouped_tree lane (ops.Down (to / from)))
    (λ less. (let under = ltb-true to from less in own_up lane (from / to) low (factor_count from to a b (omega (arith, under)))))
    (λ more. (let over = ltb-false to from more in own_down lane (to / from) low (factor_count to from b a (omega (arith, over))))))

own_feed : (periods : List ℕ) (lane : ℕ) → lane < length periods → length periods ≤ 20 → AllByRecursion IsPeriod periods → IsOwnTree 1 (feed_tree periods lane)
own_feed periods lane low few all =
    let before : lane - 1 < length periods = omega (arith, low) in
    own_chosen (lane == 0) 1 (delayed_tree 0) (converted_tree (lane - 1) (slice_index periods (lane - 1)) (slice_index periods lane))
    (λ e. own_delayed 1 0 (omega arith))
    (λ e. own_converted (lane - 1) (get_or periods (lane - 1) 0) (get_or periods lane 0) (omega (arith, before, few))
    (one_read IsPeriod periods (lane - 1) all before) (one_read IsPeriod periods lane all low))

own_equation : (periods : List ℕ) (lane : ℕ) → lane < length periods → length periods ≤ 20 → AllByRecursion IsPeriod periods → IsOwnEquation (equation_of_lane periods lane)
own_equation periods lane low few all =
    let small : lane < 20 = omega (arith, low, few) in
    let left = a_name lane small in
    let sensor = s_name lane small in
    let applied = f_name lane small in
    let feed = own_feed periods lane low few all in
    record {
      range = record {
        lefts = (left.0, tt);
        some = omega arith;
        right = (tt, (applied.0, omega arith, ((tt, sensor.0, tt), (feed.0, tt))), tt);
      };
      lefts = (left, tt);
      right = (applied.1, (sensor.1, (feed.1, tt)));
    }

own_node : (periods : List ℕ) → 1 ≤ length periods → length periods ≤ 20 → AllByRecursion IsPeriod periods → IsOwnNode (main_tree periods)
own_node periods some few all =
    let n = length periods in
    let input : (lane : ℕ) → lane < n → IsOwnParam (input_tree periods lane) =
    λ lane low. own_input periods lane (omega (arith, low, few)) (one_read IsPeriod periods lane all low) in
    let output : (lane : ℕ) → lane < n → IsOwnParam (output_tree lane) = λ lane low. own_output lane (omega (arith, low, few)) in
    let equation : (lane : ℕ) → lane < n → IsOwnEquation (equation_of_lane periods lane) = λ lane low. own_equation periods lane low few all in
    let count : length (each (one_of output_tree) n) ≡ n = counted output_tree n in
    record {
      range = record {
        name = main_name.0;
        ins = all_made _ (input_tree periods) n (λ lane low. (input lane low).0);
        outs = all_made _ output_tree n (λ lane low. (output lane low).0);
        some = omega (arith, count, some);
        locals = tt;
        eqs = all_made _ (equation_of_lane periods) n (λ lane low. (equation lane low).range);
      };
      name = main_name;
      ins = all_made IsOwnParam (input_tree periods) n input;
      outs = all_made IsOwnParam output_tree n output;
      locals = tt;
      eqs = all_made IsOwnEquation (equation_of_lane periods) n equation;
    }

own_program : (periods : List ℕ) → 1 ≤ length periods → length periods ≤ 20 → AllByRecursion IsPeriod periods → AreOwn (generated_tree periods)
own_program periods some few all =
    let n = length periods in
    let device : (letter : List ℕ) → ((lane : ℕ) → lane < 20 → IsOwnName (name_of_lane letter lane)) → AllByRecursion IsOwnDevice (each (one_of (device_tree letter)) n) =
    λ letter named. all_made IsOwnDevice (device_tree letter) n (λ lane low. (named lane (omega (arith, low, few)), one_count)) in
    (all_made IsOwnImport import_tree n (λ lane low. own_import lane (omega (arith, low, few))), device (codes "s") s_name, device (codes "a") a_name, (own_node periods some few all, tt))

pub generated_reads_back : (seed size : ℕ) → 1 ≤ size → size ≤ 20 → (p : ProgramTree) × IsTextOf (generated_program seed size) p × (generated_program seed size ≡ printed p)
generated_reads_back seed size some few =
    let periods = periods_from seed size in
    let count : length periods ≡ size = counted (λ lane. period_at (state_after seed lane)) size in
    let own = own_program periods (omega (arith, count, some)) (omega (arith, count, few)) (periods_small seed size) in
    let is = generated_is periods in
    (generated_tree periods, subst (λ text. IsTextOf text (generated_tree periods)) (sym is) (own_reads_back (generated_tree periods) own (omega arith)), is)
