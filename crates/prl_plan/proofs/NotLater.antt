-- Over all whole numbers, the job that precedes is not released later.
use Rattle.prl_base.proofs.Standard.{◌≡◌, ◌+◌, ◌*◌, ◌≤◌, ℕ, zero, suc, List, [], ◌∷◌, Some, refl, sym, ◌∙◌, ap, subst, arith, ℤ, pos, ◌+ℤ◌, ◌*ℤ◌, ◌≤ℤ◌, nat_abs, slice_get, zero-*ℤ, suc_ℤ-*ℤ, *ℤ_comm}
use Rattle.prl_base.proofs.Standard.{ints}
use lib.IntN.{suc_ℤ, pred_ℤ}
use Rattle.prl_base.specs.Operators.{IsOperatorFor, floor_div}
use Rattle.prl_base.specs.declared.operators.Clock.{Clock}
use Rattle.prl_base.specs.declared.operators.Op.{Op}
use Rattle.prl_base.specs.declared.values.Ty.{Ty}
use Rattle.prl_base.specs.declared.operators.Op.TheVariants as operators
use Rattle.prl_plan.specs.Vocabulary.{Edge, TaskGraph, Job, task_at, release_of, IsWellFormed, IsEdge, TakeClock, preceding, Precedes, PrecedesAlong}
use Rattle.prl_plan.proofs.Floors.{suc_is, pred_is, mono, floor_least}
use Rattle.prl_plan.proofs.WalkLaws.{shift_later}
use Rattle.prl_plan.proofs.RoundPeriods.{edge_takes}

sum_times : (m n : ℕ) (a : ℤ) → pos (m + n) *ℤ a ≡ (pos m *ℤ a) +ℤ (pos n *ℤ a)
sum_times zero n a = (let e : 0 + n ≡ n = omega arith in ap (λ (k : ℕ). pos k *ℤ a) e ∙ omega (arith, ints, zero-*ℤ a))
sum_times (suc m) n a =
    let e : suc m + n ≡ suc (m + n) = omega arith in
    ap (λ (k : ℕ). pos k *ℤ a) e ∙ omega (arith, ints, sum_times m n a, suc_ℤ-*ℤ (pos (m + n)) a, suc_ℤ-*ℤ (pos m) a)

product_times : (k t : ℕ) (a : ℤ) → pos (k * t) *ℤ a ≡ pos k *ℤ (pos t *ℤ a)
product_times zero t a =
    let e : 0 * t ≡ 0 = omega arith in
    ap (λ (k : ℕ). pos k *ℤ a) e ∙ omega (arith, ints, zero-*ℤ a, zero-*ℤ (pos t *ℤ a))
product_times (suc k) t a =
    let e : suc k * t ≡ k * t + t = omega arith in
    ap (λ (k : ℕ). pos k *ℤ a) e ∙ omega (arith, ints, product_times k t a, sum_times (k * t) t a, suc_ℤ-*ℤ (pos k) (pos t *ℤ a))

le_self : (a : ℤ) → a ≤ℤ a
le_self a = omega (arith, ints)

times_next : (p : ℕ) (n : ℤ) → pos p *ℤ suc_ℤ n ≡ (pos p *ℤ n) +ℤ pos p
times_next p n =
    *ℤ_comm (pos p) (suc_ℤ n) ∙ suc_ℤ-*ℤ n (pos p) ∙ ap (λ (z : ℤ). z +ℤ pos p) (*ℤ_comm n (pos p))

times_before : (p : ℕ) (n : ℤ) → (pos p *ℤ pred_ℤ n) +ℤ pos p ≡ pos p *ℤ n
times_before p n =
    let back : suc_ℤ (pred_ℤ n) ≡ n = omega (arith, ints, suc_is (pred_ℤ n), pred_is n) in
    sym (times_next p (pred_ℤ n)) ∙ ap (λ (z : ℤ). pos p *ℤ z) back

pub not_later : (ty : Ty) (hyper : ℕ) (ops : List Op) → ((k : ℕ) (op : Op) → slice_get ops k ≡ Some op → IsOperatorFor ty op) →
    (producer consumer : Clock) → TakeClock hyper ops producer consumer → (n : ℤ) →
    (pos producer.start +ℤ (pos producer.period *ℤ preceding ops n)) ≤ℤ (pos consumer.start +ℤ (pos consumer.period *ℤ n))
not_later ty hyper [] are producer consumer takes n =
    subst (λ (c : Clock). (pos c.start +ℤ (pos c.period *ℤ n)) ≤ℤ (pos consumer.start +ℤ (pos consumer.period *ℤ n))) takes.2 (le_self _)
not_later ty hyper (operators.Up k ∷ ops) are producer consumer takes n =
    let x : Clock = takes.2.0 in
    let rest = not_later ty hyper ops (λ j o is. are (suc j) o is) producer x takes.2.2 (floor_div n k) in
    let p : pos x.period *ℤ floor_div n k ≡ pos consumer.period *ℤ (pos k *ℤ floor_div n k) =
    ap (λ (c : ℕ). pos c *ℤ floor_div n k) (sym takes.2.1.0 ∙ (let e : k * consumer.period ≡ consumer.period * k = omega arith in e))
    ∙ product_times consumer.period k (floor_div n k) in
    let s : consumer.start ≡ x.start = takes.2.1.1 in
    omega (arith, ints, rest, mono consumer.period (pos k *ℤ floor_div n k) n ((floor_least n (floor_div n k) k (are 0 (operators.Up k) refl).0).0 (le_self (floor_div n k))), p, s)
not_later ty hyper (operators.Down k ∷ ops) are producer consumer takes n =
    let x : Clock = takes.2.0 in
    let p : pos consumer.period *ℤ n ≡ pos x.period *ℤ (pos k *ℤ n) =
    ap (λ (c : ℕ). pos c *ℤ n) (takes.2.1.0 ∙ (let e : k * x.period ≡ x.period * k = omega arith in e)) ∙ product_times x.period k n in
    omega (arith, ints, not_later ty hyper ops (λ j o is. are (suc j) o is) producer x takes.2.2 (pos k *ℤ n), p, takes.2.1.1)
not_later ty hyper (operators.Shift q ∷ ops) are producer consumer takes n =
    let x : Clock = takes.2.0 in
    let rest = not_later ty hyper ops (λ j o is. are (suc j) o is) producer x takes.2.2 n in
    let p : pos consumer.period *ℤ n ≡ pos x.period *ℤ n = ap (λ (c : ℕ). pos c *ℤ n) takes.2.1.0 in
    omega (arith, ints, rest, p, shift_later q.den x.start consumer.start (nat_abs q.num * x.period) (are 0 (operators.Shift q) refl).0 takes.2.1.1)
not_later ty hyper (operators.Tail ∷ ops) are producer consumer takes n =
    let x : Clock = takes.2.0 in
    let p : pos consumer.period *ℤ n ≡ pos x.period *ℤ n = ap (λ (c : ℕ). pos c *ℤ n) takes.2.1.0 in
    omega (arith, ints, not_later ty hyper ops (λ j o is. are (suc j) o is) producer x takes.2.2 (suc_ℤ n), p, times_next x.period n, takes.2.1.1)
not_later ty hyper (operators.Cons c ∷ ops) are producer consumer takes n =
    let x : Clock = takes.2.0 in
    let p : pos consumer.period *ℤ n ≡ pos x.period *ℤ n = ap (λ (c : ℕ). pos c *ℤ n) takes.2.1.0 in
    omega (arith, ints, not_later ty hyper ops (λ j o is. are (suc j) o is) producer x takes.2.2 (pred_ℤ n), p, times_before x.period n, takes.2.1.1)
not_later ty hyper (operators.Fby c ∷ ops) are producer consumer takes n =
    let x : Clock = takes.2.0 in
    let p : pos consumer.period *ℤ n ≡ pos x.period *ℤ n = ap (λ (c : ℕ). pos c *ℤ n) takes.2.1.0 in
    omega (arith, ints, not_later ty hyper ops (λ j o is. are (suc j) o is) producer x takes.2.2 (pred_ℤ n), p, times_before x.period n, takes.2.1.1)

-- a job that precedes another is not released later
pub released_first : (graph : TaskGraph) → IsWellFormed graph → (before after : Job) → Precedes graph before after →
    release_of (task_at graph before.task) before.number ≤ℤ release_of (task_at graph after.task) after.number
released_first graph good before after h =
    let edge : Edge = h.1 in
    let along : PrecedesAlong graph edge before after = h.3 in
    let is : IsEdge graph edge = good.edges h.0 edge h.2 in
    let first : Clock = (task_at graph before.task).clock in
    let second : Clock = (task_at graph after.task).clock in
    let n : ℤ = after.number in
    let takes : TakeClock graph.hyper edge.ops first second =
    subst (λ (i : ℕ). TakeClock graph.hyper edge.ops first (task_at graph i).clock) along.to (edge_takes graph edge is before.task along.from) in
    let same : before.number ≡ preceding edge.ops n = along.number in
    let a : before.number *ℤ pos first.period ≡ pos first.period *ℤ preceding edge.ops n = *ℤ_comm before.number (pos first.period) ∙ ap (λ (z : ℤ). pos first.period *ℤ z) same in
    omega (arith, ints, not_later edge.ty graph.hyper edge.ops is.operators first second takes n, a, *ℤ_comm n (pos second.period))
