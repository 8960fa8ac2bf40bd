use Rattle.prl_base.proofs.Standard.{◌≡◌, ◌+◌, ◌*◌, ◌/◌, ◌%◌, ◌<◌, ◌≤◌, ◌^◌, ℕ, ap, arith, mul-le-mul_left, mul-le-mul_right}
use Rattle.prl_plan.specs.declared.graphs.TaskGraph.{TaskGraph}
use Rattle.prl_tables.specs.Vocabulary.{Sums, classes, end_of}
use Rattle.prl_tables.proofs.Ordering.{end_is}
use Rattle.prl_tables.proofs.checking.last_unit_of.Goals as goal

-- a quotient is no greater than what is divided
quotient_small : (n d : ℕ) → 1 ≤ d → n / d ≤ n
quotient_small n d some = (let m = mul-le-mul_left (n / d) some in let split : n ≡ n % d + n / d * d = omega arith in omega (arith, m, split))

pub nonzero_rem-n : goal.nonzero_rem-n
nonzero_rem-n c = (let e = c.classes-per.ensures in let s = c.classes_are_early.ensures.some c.args.plan.now c.graph.ensures.plan c.args.i.0 c.requires.task in omega (arith, e, s))

pub sums_at-sums-requires-clause-class : goal.sums_at-sums-requires-clause-class
sums_at-sums-requires-clause-class c =
    (let e = c.classes-per.ensures in let s = c.classes_are_early.ensures.some c.args.plan.now c.graph.ensures.plan c.args.i.0 c.requires.task in
    let low : c.args.n % c.classes-per.result < c.classes-per.result = omega (arith, e, s) in omega (arith, low, e))

pub overflow_sub-result : goal.overflow_sub-result
overflow_sub-result c =
    (let e = ap (λ (s : Sums). s.end) c.sums_at-sums.ensures in
    let p = c.classes-per.ensures in let s = c.classes_are_early.ensures.some c.args.plan.now c.graph.ensures.plan c.args.i.0 c.requires.task in
    let low : c.args.n % c.classes-per.result < c.classes-per.result = omega (arith, p, s) in
    let end = c.class_has_end.ensures c.args.plan.now c.graph.ensures.plan c.args.entries.now c.requires.good c.args.i.0 (c.args.n % c.classes-per.result) c.requires.task (omega (arith, low, p)) in
    omega (arith, e, end_is c.args.entries.now c.args.i.0 (c.args.n % c.classes-per.result), end))

pub nonzero_div-result : goal.nonzero_div-result
nonzero_div-result c = (let e = c.classes-per.ensures in let s = c.classes_are_early.ensures.some c.args.plan.now c.graph.ensures.plan c.args.i.0 c.requires.task in omega (arith, e, s))

pub overflow_add-result : goal.overflow_add-result
overflow_add-result c =
    (let e = ap (λ (s : Sums). s.end) c.sums_at-sums.ensures in
    let p = c.classes-per.ensures in
    let some = c.classes_are_early.ensures.some c.args.plan.now c.graph.ensures.plan c.args.i.0 c.requires.task in
    let low : c.args.n % c.classes-per.result < c.classes-per.result = omega (arith, p, some) in
    let small = c.order_laws.ensures.small c.args.plan.now c.graph.ensures.plan c.args.entries.now c.requires.good.pieces c.requires.good.whole c.args.i.0 (c.args.n % c.classes-per.result)
    c.requires.task (omega (arith, low, p)) in
    let most : c.args.n / c.classes-per.result ≤ 2 ^ 32 = (let q = quotient_small c.args.n c.classes-per.result (omega (arith, p, some)) in omega (arith, q, c.requires.job)) in
    let hyper = ap (λ (g : TaskGraph). g.hyper) c.graph.ensures.graph in
    omega (arith, e, small.1, mul-le-mul_right c.graph.result.now.hyper most, hyper, c.classes_are_early.ensures.small c.args.plan.now c.graph.ensures.plan))

pub returns : goal.returns
returns c =
    (let e = ap (λ (s : Sums). s.end) c.sums_at-sums.ensures in
    let class = ap (λ (x : ℕ). end_of c.args.entries.now c.args.i.0 (c.args.n % x)) c.classes-per.ensures in
    let times = ap (λ (x : ℕ). c.args.n / x * c.graph.result.now.hyper) c.classes-per.ensures in
    let hyper = ap (λ (g : TaskGraph). c.args.n / classes c.args.plan.now.graph c.args.i.0 * g.hyper) c.graph.ensures.graph in
    omega (arith, e, end_is c.args.entries.now c.args.i.0 (c.args.n % c.classes-per.result), class, times, hyper))
