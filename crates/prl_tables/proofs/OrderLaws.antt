-- What the test of the order rests on.
use Rattle.prl_base.proofs.Standard.{◌≡◌, ◌+◌, ◌*◌, ◌/◌, ◌%◌, ◌<◌, ◌≤◌, ◌^◌, ℕ, List, length, refl, sym, ◌∙◌, ap, subst, arith, pos, ◌<ℤ◌, ints, get_or-le-sum_by, slice_get-get_or, slice_get_within}
use Rattle.prl_base.proofs.Standard.{get_or_from_slice_get}
use Rattle.prl_base.specs.declared.operators.Clock.{Clock}
use Rattle.prl_base.specs.declared.operators.Op.{Op}
use Rattle.prl_plan.specs.Vocabulary.{encoded_release, IsEdge, IsSource, Job, operand_from, operand_of, walk, PlanView, IsPlan, edge_at, no_edge, release_at, preceding, ComesFrom, Precedes}
use Rattle.prl_plan.specs.declared.graphs.Edge.{Edge}
use Rattle.prl_plan.specs.declared.graphs.Producer.{Producer}
use Rattle.prl_plan.specs.declared.graphs.TaskGraph.{TaskGraph}
use Rattle.prl_plan.specs.declared.limits.TheConstants.{MAX_PREFIX}
use Rattle.prl_plan.specs.declared.walks.Operand.{Operand}
use Rattle.prl_plan.specs.declared.words.Word.{Word}
use Rattle.prl_plan.specs.declared.graphs.Producer.TheVariants as producers
use Rattle.prl_plan.specs.declared.walks.Operand.TheVariants as operands
use Rattle.prl_plan.proofs.DatePeriods.{least_repeat}
use Rattle.prl_plan.proofs.RoundPeriods.{task_is}
use Rattle.prl_plan.proofs.WordNumbers.{first_after_prefix}
use Rattle.prl_tables.specs.Vocabulary.{Entry, classes, end_of, IsGood, IsPiece, ArePieces, AreWhole, KeepsOrder, sums_of, IsBefore}
use Rattle.prl_tables.proofs.GoodTables.{Is, last_entry, some_end}
use Rattle.prl_tables.proofs.Ordering.{end_is, first_entry, kept, broken, within_sums, IsFirst}
use Rattle.prl_tables.proofs.Shifts.{shifted, split, some_classes}

from_port : (p : Producer) (i : ℕ) → ComesFrom p i → (o : Operand) → operand_from p o ≡ o
from_port (producers.Port task out) i comes o = refl
from_port (producers.Constant value) i comes o = absurd comes

source_in : (graph : TaskGraph) (edge : Edge) (clock : Clock) (p : Producer) (i : ℕ) → ComesFrom p i → IsSource graph edge clock p → i < length graph.tasks
source_in graph edge clock (producers.Port task out) i comes source = subst (λ (k : ℕ). k < length graph.tasks) comes source.0
source_in graph edge clock (producers.Constant value) i comes source = absurd comes

module _ (plan : PlanView) (is : IsPlan plan) where
  edge_is : (e : ℕ) → e < length plan.graph.edges → IsEdge plan.graph (edge_at plan.graph e)
  edge_is e inside = is.graph.edges e (edge_at plan.graph e) (slice_get-get_or plan.graph.edges e no_edge inside)

  pub from_in : (e i : ℕ) → e < length plan.graph.edges → ComesFrom (edge_at plan.graph e).from i → i < length plan.graph.tasks
  from_in e i inside comes =
      let clocks = (edge_is e inside).clocks in
      source_in plan.graph (edge_at plan.graph e) clocks.0 (edge_at plan.graph e).from i comes clocks.2

  pub to_in : (e : ℕ) → e < length plan.graph.edges → (edge_at plan.graph e).to.0 < length plan.graph.tasks
  to_in e inside = (edge_is e inside).to

  pub reads_late : ((ops : List Op) (n m : ℕ) → walk ops n ≡ operands.From m → preceding ops (pos n) ≡ pos m) →
      (e i n : ℕ) → e < length plan.graph.edges → ComesFrom (edge_at plan.graph e).from i → MAX_PREFIX ≤ n →
      (m : ℕ) × (operand_of (edge_at plan.graph e) n ≡ operands.From m) × (preceding (edge_at plan.graph e).ops (pos n) ≡ pos m)
  reads_late precede e i n inside comes late =
      let each = is.words.each e (edge_at plan.graph e) (slice_get-get_or plan.graph.edges e no_edge inside) in
      let first = first_after_prefix (edge_at plan.graph e).ops each.0 each.2 in
      let most = get_or-le-sum_by (λ (w : Word). length w.prefix) plan.words e each.0 (slice_get_within plan.words e each.0 each.1) in
      let same = ap (λ (w : Word). length w.prefix) (get_or_from_slice_get plan.words e each.0 each.0 each.1) in
      let read = first.reads n (omega (arith, most, same, is.words.few, late)) in (
        read.0,
        from_port (edge_at plan.graph e).from i comes (walk (edge_at plan.graph e).ops n) ∙ read.1,
        precede (edge_at plan.graph e).ops n read.0 read.1,
      )

  pub release_later : (i c k : ℕ) → i < length plan.graph.tasks → release_at plan i (c + k * classes plan.graph i) ≡ release_at plan i c + k * plan.graph.hyper
  release_later i c k inside =
      omega (arith, ints, shifted plan is (encoded_release plan.graph plan.windows) (least_repeat plan.graph is.graph (encoded_release plan.graph plan.windows) is.dates.releases) i c k inside)

  pub in_time : ((before after : Job) → Precedes plan.graph before after →
      encoded_release plan.graph plan.windows before.task before.number <ℤ encoded_release plan.graph plan.windows after.task after.number) →
      (e i n m : ℕ) → e < length plan.graph.edges → ComesFrom (edge_at plan.graph e).from i →
      preceding (edge_at plan.graph e).ops (pos n) ≡ pos m → m / classes plan.graph i * plan.graph.hyper ≤ release_at plan (edge_at plan.graph e).to.0 n
  in_time earlier e i n m inside comes number =
      let order = earlier (record { task = i; number = pos m }) (record { task = (edge_at plan.graph e).to.0; number = pos n })
      (e, edge_at plan.graph e, slice_get-get_or plan.graph.edges e no_edge inside, record { from = comes; to = refl; number = sym number }) in
      let whole = ap (λ (x : ℕ). release_at plan i x) (split plan is i m) in
      omega (arith, ints, order, release_later i (m % classes plan.graph i) (m / classes plan.graph i) (from_in e i inside comes), whole)

  module _ (entries : List Entry) (pieces : ArePieces plan entries) (whole : AreWhole plan entries)
      (short : (entry : Entry) → IsPiece plan entry → entry.at + entry.units < 2 ^ 33) where
    last_of : (i c : ℕ) → i < length plan.graph.tasks → c < classes plan.graph i → Is entries i c
    last_of i c i_in c_in =
        last_entry entries i c (some_end entries i c (omega (arith, whole i c i_in c_in, (task_is plan.graph is.graph i i_in).wcet.0)))

    pub small_sums : (i c : ℕ) → i < length plan.graph.tasks → c < classes plan.graph i → ((sums_of entries i c).first < 2 ^ 33) × ((sums_of entries i c).end < 2 ^ 33)
    small_sums i c i_in c_in =
        let last = last_of i c i_in c_in in
        let w = within_sums entries i c last.k last.entry last.stands last.task last.job in
        let s = short last.entry (pieces last.k last.entry last.stands) in
        (omega (arith, w.0, s), omega (arith, last.holds, end_is entries i c, s))

    first_of : (i c : ℕ) → i < length plan.graph.tasks → c < classes plan.graph i → IsFirst entries i c
    first_of i c i_in c_in =
        first_entry entries i c (λ k entry at. (let s = short entry (pieces k entry at) in omega (arith, s))) (let s = (small_sums i c i_in c_in).0 in omega (arith, s))

    pub order_broken : (e i c k m : ℕ) → e < length plan.graph.edges → ComesFrom (edge_at plan.graph e).from i →
        c < classes plan.graph (edge_at plan.graph e).to.0 →
        preceding (edge_at plan.graph e).ops (pos (c + k * classes plan.graph (edge_at plan.graph e).to.0)) ≡ pos m →
        (IsBefore plan entries e i c k m → ⊥) → KeepsOrder plan entries e c → ⊥
    order_broken e i c k m inside comes c_in number not_before =
        let i_in = from_in e i inside comes in
        let to_in = (edge_is e inside).to in
        broken plan is entries e i c k m inside comes to_in i_in number
        (last_of i (m % classes plan.graph i) i_in (omega (arith, some_classes plan is i i_in))) (first_of (edge_at plan.graph e).to.0 c to_in c_in) not_before

  pub order_kept : (entries : List Entry) (e i c k m : ℕ) → e < length plan.graph.edges → ComesFrom (edge_at plan.graph e).from i →
      preceding (edge_at plan.graph e).ops (pos (c + k * classes plan.graph (edge_at plan.graph e).to.0)) ≡ pos m →
      IsBefore plan entries e i c k m → KeepsOrder plan entries e c
  order_kept entries e i c k m inside comes number before =
      kept plan is entries e i c k m inside comes (edge_is e inside).to (from_in e i inside comes) number before

pub class_end : (plan : PlanView) → IsPlan plan → (entries : List Entry) → IsGood plan entries → (i c : ℕ) → i < length plan.graph.tasks →
    c < classes plan.graph i → 1 ≤ end_of entries i c
class_end plan is entries good i c i_in c_in =
    some_end entries i c (omega (arith, good.whole i c i_in c_in, (task_is plan.graph is.graph i i_in).wcet.0))
