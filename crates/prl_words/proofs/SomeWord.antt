-- Each list of operators has a word, where the counts of instances are as a hyperperiod has them.
use Rattle.prl_base.proofs.Standard.{◌≡◌, ◌+◌, ◌-◌, ◌*◌, ◌/◌, ◌%◌, ◌<◌, ◌≤◌, ◌^◌, ◌++◌, ℕ, zero, suc, List, [], ◌∷◌, length, take, refl, sym, subst, arith, append_assoc, slice_index, IsGcd, cases_eq}
use Rattle.prl_base.proofs.Standard.{mod_below, length_push, IsGcd-from_zero, IsGcd-from_mod}
use Rattle.std.proofs.Common.{append-nil}
use Rattle.prl_base.specs.declared.operators.Op.{Op}
use Rattle.prl_base.specs.declared.operators.Op.TheVariants as operators
use Rattle.prl_plan.specs.Words.{number_at, IsWordOf}
use Rattle.prl_plan.specs.declared.words.Word.{Word}
use Rattle.prl_plan.proofs.Searches.{listed, listed_long, listed_number, places_tell}
use Rattle.prl_plan.proofs.ShortestRepeats.{some_repeat}
use Rattle.prl_words.specs.Vocabulary.{HaveCounts, number_before, constants_of, AreBefore, IsStep, IsExtended, HasRoom, IsSoFar, rise_of, IsSteady, AreGaps, IsShortened}
use Rattle.prl_words.proofs.Rooms.{zeros_found}
use Rattle.prl_words.proofs.Shortest.{shortest_step}
use Rattle.prl_words.proofs.SoFar.{direct_word, first_so_far, next_so_far, room_so_far, steady_so_far, word_shortest}

some_gcd : (most a b : ℕ) → b ≤ most → (g : ℕ) × IsGcd a b g
some_gcd most a zero bound = (a, IsGcd-from_zero a 0 refl)
some_gcd zero a (suc b) bound = absurd (omega (arith, bound))
some_gcd (suc most) a (suc b) bound =
    let small : a % suc b < suc b = mod_below a (suc b) (omega arith) in
    let rest = some_gcd most (suc b) (a % suc b) (omega (arith, small, bound)) in
    (rest.0, IsGcd-from_mod a (suc b) rest.0 rest.1)

some_step : (op : Op) (out : ℕ) → (rounds : ℕ) × (after : ℕ) × IsStep op out rounds after
some_step (operators.Up k) out = (let g = some_gcd out k out (omega arith) in (k / g.0, out / g.0, (g.0, g.1, refl, refl)))
some_step (operators.Down k) out = (1, k * out, (refl, refl))
some_step (operators.Shift q) out = (1, out, (refl, refl))
some_step operators.Tail out = (1, out, (refl, refl))
some_step (operators.Cons c) out = (1, out, (refl, refl))
some_step (operators.Fby c) out = (1, out, (refl, refl))

-- so many numbers of the list come before the first that is not 0
record IsLead (xs : List ℕ) (count : ℕ) : Type 0 where
  few : count ≤ length xs
  zero_is : (i : ℕ) → i < count → slice_index xs i ≡ 0
  next_is : count < length xs → 1 ≤ slice_index xs count

some_lead : (xs : List ℕ) → (count : ℕ) × IsLead xs count
some_lead [] = (0, record { few = omega arith; zero_is = λ i h. absurd (omega (arith, h)); next_is = λ h. absurd (omega (arith, h)) })
some_lead (suc x ∷ xs) = (0, record { few = omega arith; zero_is = λ i h. absurd (omega (arith, h)); next_is = λ h. omega arith })
some_lead (zero ∷ xs) =
    let rest = some_lead xs in (
      suc rest.0,
      record {
        few = (let f = rest.1.few in omega (arith, f));
        zero_is = zeros xs rest.0 rest.1;
        next_is = λ h. rest.1.next_is (omega (arith, h));
      },
    )
  where
    zeros : (xs : List ℕ) (count : ℕ) → IsLead xs count → (i : ℕ) → i < suc count → slice_index (zero ∷ xs) i ≡ 0
    zeros xs count is zero h = refl
    zeros xs count is (suc i) h = is.zero_is i (omega (arith, h))

some_before : (op : Op) (w : Word) → HasRoom op w → (zeros : ℕ) × AreBefore op w zeros
some_before (operators.Fby c) w room =
    let lead = some_lead w.repeat in (lead.0, zeros_found (operators.Fby c) w room lead.0 tt lead.1.few lead.1.zero_is lead.1.next_is)
some_before (operators.Cons c) w room =
    let lead = some_lead w.repeat in (lead.0, zeros_found (operators.Cons c) w room lead.0 tt lead.1.few lead.1.zero_is lead.1.next_is)
some_before operators.Tail w room = (0, record { few = omega arith; only = refl; zero = λ i h. absurd (omega (arith, h)); past = λ i h. tt })
some_before (operators.Up k) w room = (0, record { few = omega arith; only = refl; zero = λ i h. absurd (omega (arith, h)); past = λ i h. tt })
some_before (operators.Down k) w room = (0, record { few = omega arith; only = refl; zero = λ i h. absurd (omega (arith, h)); past = λ i h. tt })
some_before (operators.Shift q) w room = (0, record { few = omega arith; only = refl; zero = λ i h. absurd (omega (arith, h)); past = λ i h. tt })

-- the word with one more operator
some_extended : (op : Op) (w : Word) → HasRoom op w → (t : Word) × IsExtended op w t
some_extended op w room =
    let before = some_before op w room in
    let step = some_step op w.step_out in
    let numbers : List ℕ = listed (λ k. number_before op (number_at w (before.0 + k))) (step.0 * w.step_in) in (
      record { prefix = w.prefix ++ constants_of op before.0; repeat = numbers; step_in = step.0 * w.step_in; step_out = step.1 },
      record {
        zeros = before.0;
        rounds = step.0;
        before = before.1;
        prefix = refl;
        step = step.2;
        step_in = refl;
        numbers = record {
          long = listed_long (λ k. number_before op (number_at w (before.0 + k))) (step.0 * w.step_in);
          each = λ k h. listed_number (λ j. number_before op (number_at w (before.0 + j))) (step.0 * w.step_in) k h;
        };
      },
    )

-- the word of all operators
some_composed : (jobs : ℕ) (rest front : List Op) (w : Word) → IsSoFar jobs front rest w → length front + length rest < 2 ^ 32 →
    (t : Word) × IsSoFar jobs (front ++ rest) [] t
some_composed jobs [] front w so_far few = (w, subst (λ (xs : List Op). IsSoFar jobs xs [] w) (sym (append-nil front)) so_far)
some_composed jobs (op ∷ rest) front w so_far few =
    let next = some_extended op w (room_so_far jobs op front rest w so_far (omega (arith, few))) in
    let more : length (front ++ op ∷ []) ≡ length front + 1 = length_push front op in
    let whole = some_composed jobs rest (front ++ op ∷ []) next.0 (next_so_far jobs op front rest w next.0 so_far next.1) (omega (arith, more, few)) in
    (whole.0, subst (λ (xs : List Op). IsSoFar jobs xs [] whole.0) (append_assoc front (op ∷ []) rest) whole.1)

-- the word with its shortest repeating part
some_shortened : (w : Word) → IsSteady w → (t : Word) × IsShortened w t
some_shortened w steady =
    let gaps : List ℕ = listed (λ i. number_at w (i + 1) - number_at w i) w.step_in in
    let are : AreGaps w (listed (λ i. number_at w (i + 1) - number_at w i) w.step_in) = record {
      long = listed_long (λ i. number_at w (i + 1) - number_at w i) w.step_in;
      each = λ i h.
          (let at = listed_number (λ j. number_at w (j + 1) - number_at w j) w.step_in i h in
          let up = steady.rises i (i + 1) (omega arith) in
          omega (arith, at, up));
    } in
    let some : 1 ≤ length (listed (λ i. number_at w (i + 1) - number_at w i) w.step_in) =
    (let l = listed_long (λ i. number_at w (i + 1) - number_at w i) w.step_in in let s = steady.word.some in omega (arith, l, s)) in
    let least = some_repeat gaps (places_tell cases_eq gaps) some in (
      record { prefix = w.prefix; repeat = take least.0 w.repeat; step_in = least.0; step_out = rise_of w least.0 },
      record { prefix = refl; shortest = shortest_step w steady gaps are least.0 least.1; repeat = refl; step_out = refl },
    )

pub some_word : (ops : List Op) (jobs : ℕ) → HaveCounts ops jobs → length ops < 2 ^ 32 → (w : Word) × IsWordOf ops w
some_word ops jobs counts few =
    let composed = some_composed jobs ops [] direct_word (first_so_far ops jobs counts) (omega (arith, few)) in
    let steady = steady_so_far jobs ops [] composed.0 composed.1 few in
    let short = some_shortened composed.0 steady in
    (short.0, word_shortest ops composed.0 short.0 steady composed.1.at short.1)
