-- The words of tasks and edges are read back.
use Rattle.prl_base.proofs.Standard.{◌≡◌, ◌==◌, ◌++◌, ◌<◌, ◌≤ℤ◌, ◌^◌, ◌&&◌, ℕ, ℤ, pos, negsuc, Bool, true, false, List, [], ◌∷◌, cond, nat_le, if◌then◌else◌, refl, ap, sym, ◌∙◌, arith, decimal, codes}
use Rattle.prl_base.proofs.Standard.{flat_map, bytes_eq, eqb-true, nat_tests, ints}
use Rattle.std.proofs.Common.{append-nil}
use Rattle.std.specs.Option.{unwrap_or}
use Rattle.prl_base.specs.Vocabulary.{decimal_of, IsOperatorFor, Fraction, IsSmallFraction, fraction_text, type_text, FitsValue}
use Rattle.prl_base.specs.declared.operators.Op.{Op}
use Rattle.prl_base.specs.declared.ratios.TheConstants.{MAX_PART}
use Rattle.prl_base.specs.declared.values.Ty.{Ty}
use Rattle.prl_base.specs.declared.operators.Op.TheVariants as operators
use Rattle.prl_plan.specs.Representable.{HasSmallShift}
use Rattle.prl_plan.specs.declared.graphs.Edge.{Edge}
use Rattle.prl_plan.specs.declared.graphs.Kind.{Kind}
use Rattle.prl_plan.specs.declared.graphs.Producer.{Producer}
use Rattle.prl_plan.specs.declared.graphs.Task.{Task}
use Rattle.prl_plan.specs.declared.graphs.Producer.TheVariants as producers
use Rattle.prl_plantext.specs.PlanTexts.{edge_words, kind_text, operator_words, operators_words, pair_text, producer_words, task_words}
use Rattle.prl_plantext.specs.code.Graphs.{after, after_producer, before, count_named, edge_after, edge_in, first_of, fraction_in, fraction_or_none, is_reduced, is_small_fraction, kind_named, number_in, operators_in, producer_in, rest_of, small_in, task_in, type_in, value_in}
use Rattle.prl_plantext.proofs.Bytes.{decimal_lacks, lacks_append, lacks_cons}
use Rattle.prl_plantext.proofs.Cuts.{after_at, after_none, before_at, before_none}
use Rattle.prl_plantext.proofs.Divisors.{same_divisor}
use Rattle.prl_plantext.proofs.Numbers.{decimal_of_decimal, is_not, number_of_decimal, small_of_decimal, type_of_text, value_of_text}

-- ratios

abbrev chosen : Bool → ℕ → ℕ → Fraction
chosen t n den = if t then record { num = pos n; den = den } else record { num = pos 0; den = 1 }

four : (a b c d : Bool) → a ≡ true → b ≡ true → c ≡ true → d ≡ true → (a && b && c && d) ≡ true
four a b c d e f g h =
    ap (λ t. t && b && c && d) e ∙ ap (λ t. t && c && d) f ∙ ap (λ t. t && d) g ∙ h

small_is : (n den : ℕ) → IsSmallFraction (record { num = pos n; den = den }) → is_small_fraction n den ≡ true
small_is n den is =
    let some = is.positive in
    let top = is.num in
    let bottom = is.den in
    four (nat_le 1 den) (nat_le n MAX_PART) (nat_le den MAX_PART) (is_reduced n den) (grind (arith, nat_tests, some)) (grind (arith, nat_tests, top))
    (grind (arith, nat_tests, bottom)) (ap (λ g. g == 1) (sym (same_divisor n den 1 is.reduced)))

fraction_is : (n den : ℕ) → IsSmallFraction (record { num = pos n; den = den }) → fraction_or_none n den ≡ record { num = pos n; den = den }
fraction_is n den is = ap (λ t. chosen t n den) (small_is n den is)

fraction_by : (t : Bool) (n den : ℕ) → (den == 1) ≡ t → n < 2 ^ 64 → den < 2 ^ 64 →
    fraction_in (decimal n ++ cond t [] (codes "/" ++ decimal den)) ≡ fraction_or_none n den
fraction_by true n den e small small_den =
    let same : den ≡ 1 = eqb-true den 1 e in
    ap fraction_in (append-nil (decimal n))
    ∙ ap (λ w. fraction_or_none (number_in w) (unwrap_or (decimal_of (after 47 (decimal n))) 1)) (before_none 47 (decimal n) (decimal_lacks 47 n refl))
    ∙ ap (λ w. fraction_or_none (number_in (decimal n)) (unwrap_or (decimal_of w) 1)) (after_none 47 (decimal n) (decimal_lacks 47 n refl))
    ∙ ap (λ m. fraction_or_none m 1) (number_of_decimal n small)
    ∙ ap (λ d. fraction_or_none n d) (sym same)
fraction_by false n den e small small_den =
    ap (λ w. fraction_or_none (number_in w) (unwrap_or (decimal_of (after 47 (decimal n ++ 47 ∷ decimal den))) 1)) (before_at 47 (decimal n) (decimal den) (decimal_lacks 47 n refl))
    ∙ ap (λ w. fraction_or_none (number_in (decimal n)) (unwrap_or (decimal_of w) 1)) (after_at 47 (decimal n) (decimal den) (decimal_lacks 47 n refl))
    ∙ ap (λ m. fraction_or_none m (unwrap_or (decimal_of (decimal den)) 1)) (number_of_decimal n small)
    ∙ ap (λ d. fraction_or_none n (unwrap_or d 1)) (decimal_of_decimal den small_den)

fraction_back_by : (z : ℤ) (den : ℕ) → pos 0 ≤ℤ z → IsSmallFraction (record { num = z; den = den }) →
    fraction_in (fraction_text (record { num = z; den = den })) ≡ record { num = z; den = den }
fraction_back_by (pos n) den above is =
    let top = is.num in
    let bottom = is.den in
    fraction_by (den == 1) n den refl (omega (arith, top)) (omega (arith, bottom)) ∙ fraction_is n den is
fraction_back_by (negsuc n) den above is = absurd (omega (arith, ints, above))

fraction_back : (q : Fraction) → pos 0 ≤ℤ q.num → IsSmallFraction q → fraction_in (fraction_text q) ≡ q
fraction_back q above is = fraction_back_by q.num q.den above is

-- operators

abbrev pub AreReadable : Ty → List Op → Type 0
AreReadable ty [] = Unit {0}
AreReadable ty (op ∷ ops) = (IsOperatorFor ty op × HasSmallShift op) × AreReadable ty ops

tail_back : (words : List (List ℕ)) → operators_in (codes "tail" ∷ words) ≡ operators.Tail ∷ operators_in words
tail_back [] = refl
tail_back (word ∷ words) = refl

operators_back : (ty : Ty) (ops : List Op) → AreReadable ty ops → operators_in (flat_map operator_words ops) ≡ ops
operators_back ty [] are = refl
operators_back ty (operators.Fby c ∷ ops) are =
    ap (λ v. operators.Fby v ∷ operators_in (flat_map operator_words ops)) (value_of_text c are.0.0.1)
    ∙ ap (λ l. operators.Fby c ∷ l) (operators_back ty ops are.1)
operators_back ty (operators.Cons c ∷ ops) are =
    ap (λ v. operators.Cons v ∷ operators_in (flat_map operator_words ops)) (value_of_text c are.0.0.1)
    ∙ ap (λ l. operators.Cons c ∷ l) (operators_back ty ops are.1)
operators_back ty (operators.Tail ∷ ops) are =
    tail_back (flat_map operator_words ops) ∙ ap (λ l. operators.Tail ∷ l) (operators_back ty ops are.1)
operators_back ty (operators.Up k ∷ ops) are =
    let high = are.0.0.1 in
    ap (λ n. operators.Up n ∷ operators_in (flat_map operator_words ops)) (small_of_decimal k (omega (arith, high)))
    ∙ ap (λ l. operators.Up k ∷ l) (operators_back ty ops are.1)
operators_back ty (operators.Down k ∷ ops) are =
    let high = are.0.0.1 in
    ap (λ n. operators.Down n ∷ operators_in (flat_map operator_words ops)) (small_of_decimal k (omega (arith, high)))
    ∙ ap (λ l. operators.Down k ∷ l) (operators_back ty ops are.1)
operators_back ty (operators.Shift q ∷ ops) are =
    ap (λ f. operators.Shift f ∷ operators_in (flat_map operator_words ops)) (fraction_back q are.0.0.1 are.0.1)
    ∙ ap (λ l. operators.Shift q ∷ l) (operators_back ty ops are.1)

all_operators_back : (ty : Ty) (ops : List Op) → AreReadable ty ops → operators_in (operators_words ops) ≡ ops
all_operators_back ty [] are = refl
all_operators_back ty (op ∷ ops) are = operators_back ty (op ∷ ops) are

-- edges

first_of_pair : (a b : ℕ) → a < 2 ^ 32 → small_in (before 46 (pair_text a 46 b)) ≡ a
first_of_pair a b small = ap small_in (before_at 46 (decimal a) (decimal b) (decimal_lacks 46 a refl)) ∙ small_of_decimal a small

second_of_pair : (a b : ℕ) → b < 2 ^ 32 → small_in (after 46 (pair_text a 46 b)) ≡ b
second_of_pair a b small = ap small_in (after_at 46 (decimal a) (decimal b) (decimal_lacks 46 a refl)) ∙ small_of_decimal b small

pair_is_no_keyword : (a b : ℕ) → bytes_eq (pair_text a 46 b) (codes "const") ≡ false
pair_is_no_keyword a b =
    is_not 99 (pair_text a 46 b) (codes "const")
    (lacks_append 99 (decimal a) (46 ∷ decimal b) (decimal_lacks 99 a refl) (lacks_cons 99 46 (decimal b) refl (decimal_lacks 99 b refl))) refl

abbrev pub IsReadableProducer : Producer → Type 0
IsReadableProducer (producers.Port task out) = (task.0 < 2 ^ 32) × (out < 2 ^ 32)
IsReadableProducer (producers.Constant value) = FitsValue value

pub record IsReadableEdge (edge : Edge) : Type 0 where
  pub from : IsReadableProducer edge.from
  pub to : edge.to.0 < 2 ^ 32
  pub port : edge.port < 2 ^ 32
  pub period : edge.period < 2 ^ 64
  pub ops : AreReadable edge.ty edge.ops

-- the words of an edge after its producer
abbrev tail_words : Edge → List (List ℕ)
tail_words edge =
    codes "to" ∷ pair_text edge.to.0 46 edge.port ∷ codes "type" ∷ type_text edge.ty ∷ codes "period" ∷ decimal edge.period
    ∷ codes "ops" ∷ operators_words edge.ops

abbrev with_fields : Producer → ℕ → ℕ → List Op → ℕ → Ty → Edge
with_fields from to port ops period ty = record { from = from; to = record { 0 = to }; port = port; ops = ops; period = period; ty = ty }

tail_back_of : (from : Producer) (edge : Edge) → IsReadableEdge edge → from ≡ edge.from → edge_after from (tail_words edge) ≡ edge
tail_back_of from edge is same =
    ap (λ f. with_fields f (small_in (before 46 (pair_text edge.to.0 46 edge.port))) (small_in (after 46 (pair_text edge.to.0 46 edge.port)))
    (operators_in (operators_words edge.ops)) (number_in (decimal edge.period)) (type_in (type_text edge.ty))) same
    ∙ ap (λ to. with_fields edge.from to (small_in (after 46 (pair_text edge.to.0 46 edge.port)))
    (operators_in (operators_words edge.ops)) (number_in (decimal edge.period)) (type_in (type_text edge.ty))) (first_of_pair edge.to.0 edge.port is.to)
    ∙ ap (λ port. with_fields edge.from edge.to.0 port (operators_in (operators_words edge.ops)) (number_in (decimal edge.period)) (type_in (type_text edge.ty)))
    (second_of_pair edge.to.0 edge.port is.port)
    ∙ ap (λ ops. with_fields edge.from edge.to.0 edge.port ops (number_in (decimal edge.period)) (type_in (type_text edge.ty))) (all_operators_back edge.ty edge.ops is.ops)
    ∙ ap (λ period. with_fields edge.from edge.to.0 edge.port edge.ops period (type_in (type_text edge.ty))) (number_of_decimal edge.period is.period)
    ∙ ap (λ ty. with_fields edge.from edge.to.0 edge.port edge.ops edge.period ty) (type_of_text edge.ty)

producer_back : (from : Producer) → IsReadableProducer from → (words : List (List ℕ)) →
    (producer_in (producer_words from ++ words) ≡ from) × (after_producer (producer_words from ++ words) ≡ words)
producer_back (producers.Port task out) is words =
    let no_keyword = pair_is_no_keyword task.0 out in (
      ap (λ t. cond t (producers.Constant (value_in (first_of words)))
          (producers.Port (record { 0 = small_in (before 46 (pair_text task.0 46 out)) }) (small_in (after 46 (pair_text task.0 46 out))))) no_keyword
          ∙ ap (λ i. producers.Port (record { 0 = i }) (small_in (after 46 (pair_text task.0 46 out)))) (first_of_pair task.0 out is.0)
          ∙ ap (λ o. producers.Port task o) (second_of_pair task.0 out is.1),
      ap (λ t. cond t (rest_of words) words) no_keyword,
    )
producer_back (producers.Constant value) is words = (ap producers.Constant (value_of_text value is), refl)

pub edge_back : (k : ℕ) (edge : Edge) → IsReadableEdge edge → edge_in (rest_of (edge_words k edge)) ≡ edge
edge_back k edge is =
    let back = producer_back edge.from is.from (tail_words edge) in
    ap (λ words. edge_after (producer_in (producer_words edge.from ++ tail_words edge)) words) back.1
    ∙ tail_back_of (producer_in (producer_words edge.from ++ tail_words edge)) edge is back.0

-- tasks

pub record IsReadableTask (task : Task) : Type 0 where
  pub period : task.clock.period < 2 ^ 64
  pub start : task.clock.start < 2 ^ 64
  pub due : task.due < 2 ^ 64
  pub wcet : task.wcet < 2 ^ 32

abbrev with_parts : List ℕ → Kind → ℕ → ℕ → ℕ → ℕ → Task
with_parts name kind period start due wcet =
    record { name = name; kind = kind; clock = record { period = period; start = start }; due = due; wcet = wcet }

pub task_back : (earlier : List Task) (k : ℕ) (task : Task) → IsReadableTask task →
    kind_named (kind_text task.kind) (count_named (kind_text task.kind) earlier) ≡ task.kind → task_in earlier (rest_of (task_words k task)) ≡ task
task_back earlier k task is kind =
    ap (λ d. with_parts task.name d (number_in (decimal task.clock.period)) (number_in (decimal task.clock.start)) (number_in (decimal task.due)) (small_in (decimal task.wcet))) kind
    ∙ ap (λ n. with_parts task.name task.kind n (number_in (decimal task.clock.start)) (number_in (decimal task.due)) (small_in (decimal task.wcet))) (number_of_decimal task.clock.period is.period)
    ∙ ap (λ n. with_parts task.name task.kind task.clock.period n (number_in (decimal task.due)) (small_in (decimal task.wcet))) (number_of_decimal task.clock.start is.start)
    ∙ ap (λ n. with_parts task.name task.kind task.clock.period task.clock.start n (small_in (decimal task.wcet))) (number_of_decimal task.due is.due)
    ∙ ap (λ n. with_parts task.name task.kind task.clock.period task.clock.start task.due n) (small_of_decimal task.wcet is.wcet)
