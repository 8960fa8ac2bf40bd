-- The word of the operators so far, one operator more at a time.
use Rattle.prl_base.proofs.Standard.{◌≡◌, ◌+◌, ◌-◌, ◌*◌, ◌/◌, ◌%◌, ◌<◌, ◌≤◌, ◌^◌, ◌++◌, ℕ, zero, suc, List, [], ◌∷◌, refl, sym, ◌∙◌, ap, subst, arith, length, length-append, slice_index}
use Rattle.prl_base.proofs.Standard.{mul-le-mul_left, length_push}
use Rattle.prl_base.specs.declared.operators.Op.{Op}
use Rattle.prl_base.specs.declared.values.Value.{Value}
use Rattle.prl_plan.specs.declared.walks.Operand.TheVariants as operands
use Rattle.prl_plan.specs.Vocabulary.{walk, number_at, word_at, IsWordOf, Climbs}
use Rattle.prl_plan.specs.declared.words.Word.{Word}
use Rattle.prl_words.specs.Vocabulary.{IsCount, HaveCounts, IsExtended, IsSized, HasRoom, IsSoFar, constants_of, ClimbsBy, IsSteady, IsShortened}
use Rattle.prl_plan.proofs.WordNumbers.{after_prefix}
use Rattle.prl_words.proofs.Extended.{walk_extended, sized_extended, constants_long}
use Rattle.prl_words.proofs.Shortest.{word_shortened, operand_shortened}
use Rattle.prl_words.proofs.Turns.{second_some, number_upto}

pub counts_here : (ops : List Op) (count : ℕ) → HaveCounts ops count → IsCount count
counts_here [] count counts = counts
counts_here (op ∷ ops) count counts = counts.0

pub room_so_far : (jobs : ℕ) (op : Op) (front rest : List Op) (w : Word) → IsSoFar jobs front (op ∷ rest) w → length front < 2 ^ 32 → HasRoom op w
room_so_far jobs op front rest w s few =
    record {
      jobs = jobs;
      count = s.count;
      before = s.coming.1.0;
      done = length front;
      sized = s.sized;
      step = s.coming.1.1;
      jobs_fit = s.jobs_fit;
      count_fits = s.coming.0;
      before_fits = counts_here rest s.coming.1.0 s.coming.1.2;
      few = few;
    }

pub next_so_far : (jobs : ℕ) (op : Op) (front rest : List Op) (w t : Word) → IsSoFar jobs front (op ∷ rest) w → IsExtended op w t → IsSoFar jobs (front ++ op ∷ []) rest t
next_so_far jobs op front rest w t s e =
    let before = s.coming.1.0 in
    let sized : IsSized jobs before (length front + 1) t =
    sized_extended op w t jobs s.count before (length front) s.sized s.coming.1.1 s.jobs_fit.0 s.coming.0.0 (counts_here rest before s.coming.1.2).0 e in
    let turns_some : 1 ≤ s.sized.turns = second_some w.step_in s.sized.turns jobs s.sized.jobs_are s.jobs_fit.0 in
    let in_le : w.step_in * 1 ≤ w.step_in * s.sized.turns = mul-le-mul_left w.step_in turns_some in
    let long : length t.prefix ≡ length w.prefix + e.zeros =
    ap length e.prefix ∙ length-append w.prefix (constants_of op e.zeros)
    ∙ ap (λ (k : ℕ). length w.prefix + k) (constants_long op e.zeros e.before.only) in
    let zeros = e.before.few in
    let more : (length front + 1) * jobs ≡ length front * jobs + jobs = omega arith in
    let fewer : length t.prefix ≤ (length front + 1) * jobs = (let c = s.constants in let j = s.sized.jobs_are in omega (arith, long, zeros, more, in_le, c, j)) in
    record {
      count = before;
      jobs_fit = s.jobs_fit;
      sized = subst (λ (k : ℕ). IsSized jobs before k t) (sym (length_push front op)) sized;
      coming = s.coming.1.2;
      constants = subst (λ (k : ℕ). length t.prefix ≤ k * jobs) (sym (length_push front op)) fewer;
      at = walk_extended op front w t s.sized.word sized.word.some e s.at;
    }

only_zero : (k : ℕ) → slice_index (0 ∷ []) k ≡ 0
only_zero zero = refl
only_zero (suc k) = refl

abbrev pub direct_word : Word
direct_word = record { prefix = []; repeat = 0 ∷ []; step_in = 1; step_out = 1 }

direct_number : (i : ℕ) → number_at direct_word i ≡ i
direct_number i =
    let first : slice_index (0 ∷ []) (i % 1) ≡ 0 = only_zero (i % 1) in
    let rest : i / 1 ≡ i = omega arith in
    omega (arith, first, rest)

pub first_so_far : (ops : List Op) (jobs : ℕ) → HaveCounts ops jobs → IsSoFar jobs [] ops direct_word
first_so_far ops jobs counts =
    record {
      count = jobs;
      constants = omega arith;
      jobs_fit = counts_here ops jobs counts;
      sized = record {
        word = record { some = omega arith; long = refl };
        turns = jobs;
        jobs_are = omega arith;
        count_is = omega arith;
        below = λ k h. (let e : slice_index (0 ∷ []) k ≡ 0 = only_zero k in omega (arith, e));
        rises = λ i j h. (let a = direct_number i in let b = direct_number j in omega (arith, a, b, h));
      };
      coming = counts;
      at = λ n. ap (λ (k : ℕ). operands.From k) (direct_number (n - 0) ∙ (let e : n - 0 ≡ n = omega arith in e));
    }

pub steady_so_far : (jobs : ℕ) (ops rest : List Op) (w : Word) → IsSoFar jobs ops rest w → length ops < 2 ^ 32 → IsSteady w
steady_so_far jobs ops rest w s few =
    let turns_some : 1 ≤ s.sized.turns = second_some w.step_in s.sized.turns jobs s.sized.jobs_are s.jobs_fit.0 in
    let in_le : w.step_in * 1 ≤ w.step_in * s.sized.turns = mul-le-mul_left w.step_in turns_some in
    let out_le : w.step_out * 1 ≤ w.step_out * s.sized.turns = mul-le-mul_left w.step_out turns_some in
    let count_fits = counts_here rest s.count s.coming in
    let many : (length ops + 1) * s.count ≤ (length ops + 1) * 10000000 = mul-le-mul_left (length ops + 1) count_fits.1 in
    record {
      word = s.sized.word;
      few = omega (arith, in_le, s.sized.jobs_are, s.jobs_fit.1);
      fits = λ i h. (let up : number_at w i ≤ (length ops + 1) * s.count + 1 * w.step_out =
          number_upto w ((length ops + 1) * s.count) i 1 s.sized.word.some s.sized.below h in
          omega (arith, up, out_le, s.sized.count_is, many, count_fits.1, few));
      rises = s.sized.rises;
    }

same_instance : (a b : ℕ) → operands.From a ≡ operands.From b → a ≡ b
same_instance a b e = cc

-- what the walk climbs by, the word climbs by
climbs_by_walk : (ops : List Op) (w : Word) → ((n : ℕ) → word_at w n ≡ walk ops n) → (jobs instances : ℕ) →
    Climbs ops (length w.prefix) jobs instances → ClimbsBy w jobs instances
climbs_by_walk ops w at jobs instances climbs =
    record {
      each = λ i. (let n = length w.prefix + i in
          let here : walk ops n ≡ operands.From (number_at w (n - length w.prefix)) = sym (at n) ∙ after_prefix w n (omega arith) in
          let there : walk ops (n + jobs) ≡ operands.From (number_at w (n + jobs - length w.prefix)) = sym (at (n + jobs)) ∙ after_prefix w (n + jobs) (omega arith) in
          let first : number_at w (n - length w.prefix) ≡ number_at w i = ap (λ (k : ℕ). number_at w k) (let e : n - length w.prefix ≡ i = omega arith in e) in
          let later : number_at w (n + jobs - length w.prefix) ≡ number_at w (i + jobs) =
          ap (λ (k : ℕ). number_at w k) (let e : n + jobs - length w.prefix ≡ i + jobs = omega arith in e) in
          let same : number_at w (n + jobs - length w.prefix) ≡ number_at w (n - length w.prefix) + instances =
          same_instance (number_at w (n + jobs - length w.prefix)) (number_at w (n - length w.prefix) + instances)
          (sym there ∙ climbs n (number_at w (n - length w.prefix)) (omega arith) here) in
          omega (arith, first, later, same));
    }

-- the shortened word is that of the operators
pub word_shortest : (ops : List Op) (w t : Word) → IsSteady w → ((n : ℕ) → word_at w n ≡ walk ops n) → IsShortened w t → IsWordOf ops t
word_shortest ops w t steady at shortened =
    record {
      word = word_shortened w t steady shortened;
      at = λ n. operand_shortened w t steady shortened n ∙ at n;
      shortest = record {
        least = λ jobs some serves. shortened.shortest.least jobs serves.0 some
            (climbs_by_walk ops w at jobs serves.0 (subst (λ (xs : List Value). Climbs ops (length xs) jobs serves.0) shortened.prefix serves.1));
      };
    }
