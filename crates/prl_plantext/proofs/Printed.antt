-- The words of a plan's text have bytes, and neither blanks nor line feeds.
use Rattle.prl_base.proofs.Standard.{◌≡◌, ◌==◌, ◌++◌, ◌<◌, ℕ, ℤ, Bool, true, false, List, [], ◌∷◌, cond, eqb, map, length, length-append, refl, sym, ◌∙◌, subst, arith, decimal, codes, flat_map}
use Rattle.prl_base.proofs.Standard.{list_all, signed_decimal, and_parts, false≢true, eqb-true}
use Rattle.std.proofs.Common.{append-nil}
use Rattle.prl_base.specs.Vocabulary.{IsName, is_word_byte, is_word_start, Fraction, fraction_text, type_text, value_text}
use Rattle.prl_base.specs.declared.operators.Op.{Op}
use Rattle.prl_base.specs.declared.values.Ty.{Ty}
use Rattle.prl_base.specs.declared.values.Value.{Value}
use Rattle.prl_base.specs.declared.operators.Op.TheVariants as operators
use Rattle.prl_base.specs.declared.values.Ty.TheVariants as types
use Rattle.prl_base.specs.declared.values.Value.TheVariants as values
use Rattle.prl_plan.specs.Graphs.{IsTaskName}
use Rattle.prl_plan.specs.declared.graphs.Edge.{Edge}
use Rattle.prl_plan.specs.declared.graphs.Kind.{Kind}
use Rattle.prl_plan.specs.declared.graphs.Producer.{Producer}
use Rattle.prl_plan.specs.declared.graphs.Task.{Task}
use Rattle.prl_plan.specs.declared.tables.Window.{Window}
use Rattle.prl_plan.specs.declared.words.Word.{Word}
use Rattle.prl_plan.specs.declared.graphs.Kind.TheVariants as kinds
use Rattle.prl_plan.specs.declared.graphs.Producer.TheVariants as producers
use Rattle.prl_plantext.specs.PlanTexts.{cells_words, dates_words, edge_words, kind_text, operator_words, operators_words, pair_text, producer_words, task_words, window_text, word_words}
use Rattle.prl_plantext.proofs.Bytes.{Lacks, decimal_lacks, decimal_some, lacks_append, lacks_cons, signed_lacks, signed_some, word_bytes_lack}
use Rattle.prl_plantext.proofs.Cuts.{ArePrinted, IsPrinted, printed_of_two}

-- names

apart : (p : ℕ → Bool) (end b : ℕ) → p end ≡ false → p b ≡ true → (b == end) ≡ false
apart p end b none is = go (eqb b end) refl
  where
    go : (t : Bool) → eqb b end ≡ t → eqb b end ≡ false
    go false e = e
    go true e = absurd (false≢true (sym none ∙ subst (λ n. p n ≡ true) (eqb-true b end e) is))

pub name_lacks : (end : ℕ) (name : List ℕ) → is_word_byte end ≡ false → is_word_start end ≡ false → IsName name → Lacks end name
name_lacks end [] none start is = refl
name_lacks end (b ∷ bs) none start is =
    let both = and_parts (is_word_start b) (list_all is_word_byte bs) is.0 in
    lacks_cons end b bs (apart is_word_start end b start both.0) (word_bytes_lack end bs (λ c. apart is_word_byte end c none) both.1)

name_some : (name : List ℕ) → IsName name → 0 < length name
name_some [] is = absurd (false≢true is.0)
name_some (b ∷ bs) is = omega arith

printed_name : (name : List ℕ) → IsName name → IsPrinted name
printed_name name is = record { some = name_some name is; blanks = name_lacks 32 name refl refl is; feeds = name_lacks 10 name refl refl is }

pub printed_decimal : (n : ℕ) → IsPrinted (decimal n)
printed_decimal n = record { some = decimal_some n; blanks = decimal_lacks 32 n refl; feeds = decimal_lacks 10 n refl }

-- two words with a byte between them
joined : (first : List ℕ) (between : ℕ) (second : List ℕ) → IsPrinted first → (between == 32) ≡ false → (between == 10) ≡ false → IsPrinted second →
    IsPrinted (first ++ between ∷ second)
joined first between second a blank feed b = record {
  some = (let some = a.some in omega (arith, some, length-append first (between ∷ second)));
  blanks = lacks_append 32 first (between ∷ second) a.blanks (lacks_cons 32 between second blank b.blanks);
  feeds = lacks_append 10 first (between ∷ second) a.feeds (lacks_cons 10 between second feed b.feeds);
}

pub printed_task_name : (kind : Kind) (name : List ℕ) → IsTaskName kind name → IsPrinted name
printed_task_name (kinds.Sensor k) name is = printed_name name is
printed_task_name (kinds.Node k) name is =
    subst IsPrinted (sym is.2) (joined is.0 64 (decimal k) (printed_name is.0 is.1) refl refl (printed_decimal k))
printed_task_name (kinds.Actuator k) name is = printed_name name is

printed_pair : (a between b : ℕ) → (between == 32) ≡ false → (between == 10) ≡ false → IsPrinted (pair_text a between b)
printed_pair a between b blank feed = joined (decimal a) between (decimal b) (printed_decimal a) blank feed (printed_decimal b)

printed_signed : (z : ℤ) → IsPrinted (signed_decimal z)
printed_signed z = record { some = signed_some z; blanks = signed_lacks 32 z refl refl; feeds = signed_lacks 10 z refl refl }

keyword : (word : List ℕ) → 0 < length word → Lacks 32 word → Lacks 10 word → IsPrinted word
keyword word some blanks feeds = record { some = some; blanks = blanks; feeds = feeds }

printed_value : (value : Value) → IsPrinted (value_text value)
printed_value (values.Int n) = printed_signed n
printed_value (values.Bool true) = keyword (codes "true") (omega arith) refl refl
printed_value (values.Bool false) = keyword (codes "false") (omega arith) refl refl

fraction_by : (t : Bool) (z : ℤ) (den : ℕ) → IsPrinted (signed_decimal z ++ cond t [] (codes "/" ++ decimal den))
fraction_by true z den = subst IsPrinted (sym (append-nil (signed_decimal z))) (printed_signed z)
fraction_by false z den = joined (signed_decimal z) 47 (decimal den) (printed_signed z) refl refl (printed_decimal den)

printed_fraction : (q : Fraction) → IsPrinted (fraction_text q)
printed_fraction q = fraction_by (q.den == 1) q.num q.den

printed_kind : (kind : Kind) → IsPrinted (kind_text kind)
printed_kind (kinds.Sensor k) = keyword (codes "sensor") (omega arith) refl refl
printed_kind (kinds.Node k) = keyword (codes "node") (omega arith) refl refl
printed_kind (kinds.Actuator k) = keyword (codes "actuator") (omega arith) refl refl

printed_type : (ty : Ty) → IsPrinted (type_text ty)
printed_type types.Int = keyword (codes "int") (omega arith) refl refl
printed_type types.Bool = keyword (codes "bool") (omega arith) refl refl

printed_map : {A : Type 0} (word : A → List ℕ) (items : List A) → ((item : A) → IsPrinted (word item)) → ArePrinted (map word items)
printed_map word [] each = tt
printed_map word (item ∷ items) each = (each item, printed_map word items each)

-- lines

pub printed_head : ArePrinted (codes "plan" ∷ codes "1" ∷ [])
printed_head = (keyword (codes "plan") (omega arith) refl refl, (keyword (codes "1") (omega arith) refl refl, tt))

pub printed_hyper : (n : ℕ) → ArePrinted (codes "hyperperiod" ∷ decimal n ∷ [])
printed_hyper n = (keyword (codes "hyperperiod") (omega arith) refl refl, (printed_decimal n, tt))

pub printed_task : (k : ℕ) (task : Task) → IsTaskName task.kind task.name → ArePrinted (task_words k task)
printed_task k task is = (
  keyword (codes "task") (omega arith) refl refl,
  (
    printed_decimal k,
    (
      printed_task_name task.kind task.name is,
      (
        printed_kind task.kind,
        (
          keyword (codes "period") (omega arith) refl refl,
          (
            printed_decimal task.clock.period,
            (
              keyword (codes "start") (omega arith) refl refl,
              (
                printed_decimal task.clock.start,
                (keyword (codes "due") (omega arith) refl refl, (printed_decimal task.due, (keyword (codes "wcet") (omega arith) refl refl, (printed_decimal task.wcet, tt)))),
              ),
            ),
          ),
        ),
      ),
    ),
  ),
)

pub printed_dates : (k : ℕ) (windows : List Window) → ArePrinted (dates_words k windows)
printed_dates k windows =
    (keyword (codes "dates") (omega arith) refl refl, (printed_decimal k, printed_map window_text windows (λ w. printed_pair w.lead 58 w.tail refl refl)))

printed_producer : (from : Producer) → ArePrinted (producer_words from)
printed_producer (producers.Port task out) = (printed_pair task.0 46 out refl refl, tt)
printed_producer (producers.Constant value) = (keyword (codes "const") (omega arith) refl refl, (printed_value value, tt))

printed_operator : (op : Op) → ArePrinted (operator_words op)
printed_operator (operators.Fby c) = (keyword (codes "fby") (omega arith) refl refl, (printed_value c, tt))
printed_operator (operators.Cons c) = (keyword (codes "cons") (omega arith) refl refl, (printed_value c, tt))
printed_operator operators.Tail = (keyword (codes "tail") (omega arith) refl refl, tt)
printed_operator (operators.Up k) = (keyword (codes "up") (omega arith) refl refl, (printed_decimal k, tt))
printed_operator (operators.Down k) = (keyword (codes "down") (omega arith) refl refl, (printed_decimal k, tt))
printed_operator (operators.Shift q) = (keyword (codes "shift") (omega arith) refl refl, (printed_fraction q, tt))

printed_each : (ops : List Op) → ArePrinted (flat_map operator_words ops)
printed_each [] = tt
printed_each (op ∷ ops) = printed_of_two (operator_words op) (flat_map operator_words ops) (printed_operator op) (printed_each ops)

printed_operators : (ops : List Op) → ArePrinted (operators_words ops)
printed_operators [] = (keyword (codes "none") (omega arith) refl refl, tt)
printed_operators (op ∷ ops) = printed_each (op ∷ ops)

pub printed_edge : (k : ℕ) (edge : Edge) → ArePrinted (edge_words k edge)
printed_edge k edge = (
  keyword (codes "edge") (omega arith) refl refl,
  (
    printed_decimal k,
    (
      keyword (codes "from") (omega arith) refl refl,
      printed_of_two (producer_words edge.from) _ (printed_producer edge.from) (
        keyword (codes "to") (omega arith) refl refl,
        (
          printed_pair edge.to.0 46 edge.port refl refl,
          (
            keyword (codes "type") (omega arith) refl refl,
            (
              printed_type edge.ty,
              (keyword (codes "period") (omega arith) refl refl, (printed_decimal edge.period, (keyword (codes "ops") (omega arith) refl refl, printed_operators edge.ops))),
            ),
          ),
        ),
      ),
    ),
  ),
)

pub printed_word : (k : ℕ) (word : Word) → ArePrinted (word_words k word)
printed_word k word = (
  keyword (codes "word") (omega arith) refl refl,
  (
    printed_decimal k,
    (
      keyword (codes "prefix") (omega arith) refl refl,
      (
        printed_decimal (length word.prefix),
        printed_of_two (map value_text word.prefix) _ (printed_map value_text word.prefix printed_value) (
          keyword (codes "repeat") (omega arith) refl refl,
          printed_of_two (map decimal word.repeat) _ (printed_map decimal word.repeat printed_decimal)
              (keyword (codes "step") (omega arith) refl refl, (printed_decimal word.step_in, (printed_decimal word.step_out, tt))),
        ),
      ),
    ),
  ),
)

pub printed_cells : (k : ℕ) (from : Producer) (base count : ℕ) → ArePrinted (cells_words k from base count)
printed_cells k (producers.Port task out) base count = (
  keyword (codes "cells") (omega arith) refl refl,
  (
    printed_decimal k,
    (
      keyword (codes "base") (omega arith) refl refl,
      (
        printed_decimal base,
        (keyword (codes "count") (omega arith) refl refl, (printed_decimal count, tt)),
      ),
    ),
  ),
)
printed_cells k (producers.Constant value) base count =
    (keyword (codes "cells") (omega arith) refl refl, (printed_decimal k, (keyword (codes "none") (omega arith) refl refl, tt)))
