use Rattle.prl_base.proofs.Standard.{◌≡◌, ◌+◌, ◌<◌, ◌≤◌, ℕ, Option, Some, None, length, sum, sym, ◌∙◌, arith, slice_index, mod_below}
use Rattle.prl_plan.specs.Vocabulary.{IsUsed, PlanView, IsPlan, edge_at, place_on}
use Rattle.prl_plan.proofs.PlanParts.{used_place, place_used}
use Rattle.prl_plan.proofs.plans.Plan.cell.Goals as goal

-- a used instance's edge has cells, within the limit
record Room (base count total : ℕ) : Type 0 where
  some : 1 ≤ count
  within : base + count ≤ total
  few : total ≤ 4096

room : (inner plan : PlanView) → inner ≡ plan → IsPlan inner → (e m k : ℕ) → e < length plan.graph.edges → place_on plan e m ≡ Some k →
    Room (slice_index inner.bases e) (slice_index inner.counts e) (sum inner.counts)
room inner plan same is e m k inside at =
    let p = place_used inner is e (rw same inside) m k (rw same at) in
    record { some = p.1; within = p.2; few = is.few_cells }

used_somewhere : (plan : PlanView) → IsPlan plan → (e m : ℕ) → e < length plan.graph.edges → IsUsed (edge_at plan.graph e) m → place_on plan e m ≡ None → ⊥
used_somewhere plan is e m inside used none =
    let p = used_place plan is e inside m used in
    let never : ◌≡◌ {A = Option ℕ} None (Some p.0) = sym none ∙ p.1 in cc

pub nonzero_rem-result : goal.nonzero_rem-result
nonzero_rem-result c =
    let r = room _ _ c.self.view_is c.self.invariant c.args.e.0 c.args.m c.in-Some.k c.requires.edge (sym c.place.ensures.at ∙ c.in-Some.is) in
    omega (arith, r.some, c.from.ensures, c.count.ensures)

pub overflow_cast-result : goal.overflow_cast-result
overflow_cast-result c =
    let r = room _ _ c.self.view_is c.self.invariant c.args.e.0 c.args.m c.in-Some.k c.requires.edge (sym c.place.ensures.at ∙ c.in-Some.is) in
    omega (arith, mod_below c.in-Some.k c.from.result (omega (arith, r.some, c.from.ensures, c.count.ensures)), c.from.ensures, c.count.ensures, r.within, r.few)

pub overflow_add-result : goal.overflow_add-result
overflow_add-result c =
    let r = room _ _ c.self.view_is c.self.invariant c.args.e.0 c.args.m c.in-Some.k c.requires.edge (sym c.place.ensures.at ∙ c.in-Some.is) in
    let below = mod_below c.in-Some.k c.from.result (omega (arith, r.some, c.from.ensures, c.count.ensures)) in
    omega (arith, below, c.from.ensures, c.count.ensures, c.base.ensures, r.within, r.few)

pub unreachable-requires : goal.unreachable-requires
unreachable-requires c = used_somewhere c.args.self.now c.place.ensures.plan c.args.e.0 c.args.m c.requires.edge c.requires.used (sym c.place.ensures.at ∙ c.in-None.is)

pub returns-clause-small : goal.returns-clause-small
returns-clause-small c =
    let r = room _ _ c.self.view_is c.self.invariant c.args.e.0 c.args.m c.in-Some.k c.requires.edge (sym c.place.ensures.at ∙ c.in-Some.is) in
    let below = mod_below c.in-Some.k c.from.result (omega (arith, r.some, c.from.ensures, c.count.ensures)) in
    omega (arith, below, c.from.ensures, c.count.ensures, c.base.ensures, r.within, r.few)
