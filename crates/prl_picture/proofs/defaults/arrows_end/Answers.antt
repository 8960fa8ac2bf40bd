use Rattle.prl_base.proofs.Standard.{◌≡◌, ◌<◌, ◌⊎◌, ℕ, inl, inr, length, subst, sym, arith, rules, cases_lt}
use Rattle.prl_picture.specs.Ranges.{EndsFirst, HasArrow}
use Rattle.prl_picture.proofs.defaults.arrows_end.Goals as goal

pub loop-e-preserved : goal.loop-e-preserved
loop-e-preserved c = record {
  late = omega (arith, c.loop-e.invariant.late, c.end_with-end.ensures.late);
  needed =
      elim c.end_with-end.ensures.needed [
        | inl same ↦
            (let plan = c.args.plan.now in
            subst (λ (end : ℕ). (end ≡ c.args.least) ⊎ ((k : ℕ) × (k < length plan.graph.edges) × EndsFirst plan c.args.rows.now c.args.from c.args.limit k end)) (sym same)
            c.loop-e.invariant.needed)
        | inr ends ↦ inr (c.loop-e.e, search rules, ends)
      ];
  arrows = λ k below has until late.
      elim (cases_lt k c.loop-e.e) [
        | inl less ↦ c.loop-e.invariant.arrows k less has until (let later = c.end_with-end.ensures.late in omega (arith, late, later))
        | inr more ↦
            (let same : k ≡ c.loop-e.e = omega (arith, more, below) in
            subst (λ (j : ℕ). HasArrow c.args.plan.now c.args.rows.now c.args.from until j) (sym same)
            (c.end_with-end.ensures.arrow (subst (λ (j : ℕ). HasArrow c.args.plan.now c.args.rows.now c.args.from c.args.limit j) same has) until late))
      ];
}
