-- The walk of an operand: where it gives an instance it is the periodic precedence, and it does not lead to a later date.
use Rattle.prl_base.proofs.Standard.{◌≡◌, ◌+◌, ◌*◌, ◌/◌, ◌≤◌, ℕ, zero, suc, List, [], ◌∷◌, Some, inl, inr, refl, sym, ◌∙◌, ap, subst, arith, ℤ, pos, nat_abs, slice_get, pos-*ℤ-pos, div-mul-le_self}
use Rattle.prl_base.proofs.Standard.{mul-le-mul_left, mul-le-mul_right, cases_lt}
use Rattle.prl_base.specs.Operators.{IsOperatorFor}
use Rattle.prl_base.specs.declared.operators.Clock.{Clock}
use Rattle.prl_base.specs.declared.operators.Op.{Op}
use Rattle.prl_base.specs.declared.values.Ty.{Ty}
use Rattle.prl_base.specs.declared.operators.Op.TheVariants as operators
use Rattle.prl_plan.specs.Vocabulary.{Edge, TaskGraph, Producer, Operand, task_at, walk, operand_from, operand_of, preceding, ComesFrom, TakeClock, IsSource, IsEdge}
use Rattle.prl_plan.specs.declared.graphs.Producer.TheVariants as producers
use Rattle.prl_plan.specs.declared.walks.Operand.TheVariants as operands

pub walk_preceding : (ops : List Op) (n m : ℕ) → walk ops n ≡ operands.From m → preceding ops (pos n) ≡ pos m
walk_preceding [] n m h = (let e : n ≡ m = cc in ap (λ (x : ℕ). pos x) e)
walk_preceding (operators.Up k ∷ ops) n m h = walk_preceding ops (n / k) m h
walk_preceding (operators.Down k ∷ ops) n m h =
    subst (λ (x : ℤ). preceding ops x ≡ pos m) (sym (pos-*ℤ-pos k n)) (walk_preceding ops (k * n) m h)
walk_preceding (operators.Shift q ∷ ops) n m h = walk_preceding ops n m h
walk_preceding (operators.Tail ∷ ops) n m h =
    subst (λ (x : ℕ). preceding ops (pos x) ≡ pos m) (let e : n + 1 ≡ suc n = omega arith in e) (walk_preceding ops (n + 1) m h)
walk_preceding (operators.Cons c ∷ ops) zero m h = cc
walk_preceding (operators.Cons c ∷ ops) (suc n) m h = walk_preceding ops n m h
walk_preceding (operators.Fby c ∷ ops) zero m h = cc
walk_preceding (operators.Fby c ∷ ops) (suc n) m h = walk_preceding ops n m h

-- a shift that is not negative is not earlier
pub shift_later : (den x y more : ℕ) → 1 ≤ den → den * y ≡ den * x + more → x ≤ y
shift_later den x y more some is =
    elim (cases_lt y x) [
      | inl below ↦ absurd
          (let e : den * (y + 1) ≡ den * y + den = omega arith in
          omega (arith, mul-le-mul_left den (let g : y + 1 ≤ x = omega arith in g), e, some, is))
      | inr above ↦ above
    ]

-- the date of the producer's instance is not after that of the consumer's job
pub walked_back : (ty : Ty) (hyper : ℕ) (ops : List Op) → ((k : ℕ) (op : Op) → slice_get ops k ≡ Some op → IsOperatorFor ty op) →
    (producer consumer : Clock) → TakeClock hyper ops producer consumer → (n m : ℕ) → walk ops n ≡ operands.From m →
    producer.start + m * producer.period ≤ consumer.start + n * consumer.period
walked_back ty hyper [] are producer consumer takes n m h =
    let e : n ≡ m = cc in
    omega (arith, ap (λ (c : Clock). c.start) takes.2, ap (λ (x : ℕ). x * consumer.period) e ∙ ap (λ (c : Clock). m * c.period) takes.2)
walked_back ty hyper (operators.Up k ∷ ops) are producer consumer takes n m h =
    let rest = walked_back ty hyper ops (λ j o is. are (suc j) o is) producer takes.2.0 takes.2.2 (n / k) m h in
    let a : n / k * (k * consumer.period) ≡ n / k * k * consumer.period = omega arith in
    omega (arith, rest, mul-le-mul_right consumer.period (div-mul-le_self n k), ap (λ (y : ℕ). n / k * y) takes.2.1.0, a, takes.2.1.1)
walked_back ty hyper (operators.Down k ∷ ops) are producer consumer takes n m h =
    let x : Clock = takes.2.0 in
    let a : n * (k * x.period) ≡ k * n * x.period = omega arith in
    omega (arith, walked_back ty hyper ops (λ j o is. are (suc j) o is) producer x takes.2.2 (k * n) m h, ap (λ (y : ℕ). n * y) takes.2.1.0, a, takes.2.1.1)
walked_back ty hyper (operators.Shift q ∷ ops) are producer consumer takes n m h =
    let x : Clock = takes.2.0 in
    let rest = walked_back ty hyper ops (λ j o is. are (suc j) o is) producer x takes.2.2 n m h in
    let p : n * consumer.period ≡ n * x.period = ap (λ (y : ℕ). n * y) takes.2.1.0 in
    omega (arith, rest, p, shift_later q.den x.start consumer.start (nat_abs q.num * x.period) (are 0 (operators.Shift q) refl).0 takes.2.1.1)
walked_back ty hyper (operators.Tail ∷ ops) are producer consumer takes n m h =
    let x : Clock = takes.2.0 in
    let a : (n + 1) * x.period ≡ n * x.period + x.period = omega arith in
    omega (arith, walked_back ty hyper ops (λ j o is. are (suc j) o is) producer x takes.2.2 (n + 1) m h, ap (λ (y : ℕ). n * y) takes.2.1.0, a, takes.2.1.1)
walked_back ty hyper (operators.Cons c ∷ ops) are producer consumer takes zero m h = cc
walked_back ty hyper (operators.Cons c ∷ ops) are producer consumer takes (suc n) m h =
    let x : Clock = takes.2.0 in
    let a : suc n * x.period ≡ n * x.period + x.period = omega arith in
    omega (arith, walked_back ty hyper ops (λ j o is. are (suc j) o is) producer x takes.2.2 n m h, ap (λ (y : ℕ). suc n * y) takes.2.1.0, a, takes.2.1.1)
walked_back ty hyper (operators.Fby c ∷ ops) are producer consumer takes zero m h = cc
walked_back ty hyper (operators.Fby c ∷ ops) are producer consumer takes (suc n) m h =
    let x : Clock = takes.2.0 in
    let a : suc n * x.period ≡ n * x.period + x.period = omega arith in
    omega (arith, walked_back ty hyper ops (λ j o is. are (suc j) o is) producer x takes.2.2 n m h, ap (λ (y : ℕ). suc n * y) takes.2.1.0, a, takes.2.1.1)

-- an operand that is an instance is one of a task, by the walk
pub operand_walks : (edge : Edge) (n m : ℕ) → operand_of edge n ≡ operands.From m →
    (i : ℕ) × ComesFrom edge.from i × (walk edge.ops n ≡ operands.From m)
operand_walks edge n m h = go edge.from refl (walk edge.ops n) refl
  where
    go : (from : Producer) → edge.from ≡ from → (w : Operand) → walk edge.ops n ≡ w →
        (i : ℕ) × ComesFrom edge.from i × (walk edge.ops n ≡ operands.From m)
    go (producers.Port task out) is w is_w =
        (task.0, subst (λ (f : Producer). ComesFrom f task.0) (sym is) refl, subst (λ (f : Producer). operand_from f (walk edge.ops n) ≡ operands.From m) is h)
    go (producers.Constant value) is (operands.Const c) is_w =
        absurd (let e : operand_from (producers.Constant value) (operands.Const c) ≡ operands.From m =
        subst (λ (x : Operand). operand_from (producers.Constant value) x ≡ operands.From m) is_w
        (subst (λ (f : Producer). operand_from f (walk edge.ops n) ≡ operands.From m) is h) in cc)
    go (producers.Constant value) is (operands.From k) is_w =
        absurd (let e : operand_from (producers.Constant value) (operands.From k) ≡ operands.From m =
        subst (λ (x : Operand). operand_from (producers.Constant value) x ≡ operands.From m) is_w
        (subst (λ (f : Producer). operand_from f (walk edge.ops n) ≡ operands.From m) is h) in cc)

-- over an edge, the producer's instance is not released later than the job that reads it
pub edge_back : (graph : TaskGraph) (edge : Edge) → IsEdge graph edge → (i : ℕ) → ComesFrom edge.from i → (n m : ℕ) →
    walk edge.ops n ≡ operands.From m →
    (task_at graph i).clock.start + m * (task_at graph i).clock.period
    ≤ (task_at graph edge.to.0).clock.start + n * (task_at graph edge.to.0).clock.period
edge_back graph edge is i comes n m h = go edge.from refl
  where
    go : (from : Producer) → edge.from ≡ from →
        (task_at graph i).clock.start + m * (task_at graph i).clock.period
        ≤ (task_at graph edge.to.0).clock.start + n * (task_at graph edge.to.0).clock.period
    go (producers.Constant value) from = absurd (subst (λ (f : Producer). ComesFrom f i) from comes)
    go (producers.Port task out) from =
        let source : IsSource graph edge is.clocks.0 (producers.Port task out) = subst (λ (f : Producer). IsSource graph edge is.clocks.0 f) from is.clocks.2 in
        let back = walked_back edge.ty graph.hyper edge.ops is.operators is.clocks.0 (task_at graph edge.to.0).clock is.clocks.3 n m h in
        let clock : is.clocks.0 ≡ (task_at graph i).clock = source.3 ∙ ap (λ (x : ℕ). (task_at graph x).clock) (subst (λ (f : Producer). ComesFrom f i) from comes) in
        subst (λ (c : Clock). c.start + m * c.period ≤ (task_at graph edge.to.0).clock.start + n * (task_at graph edge.to.0).clock.period) clock back
