use Rattle.prl_base.proofs.Standard.{◌≡◌, ◌≤◌, ◌⊎◌, ◌∙◌, ℕ, inl, inr, min, ap, subst, sym, arith, rules, OnFalse_from}
use Rattle.prl_plan.specs.declared.graphs.TaskGraph.{TaskGraph}
use Rattle.prl_picture.specs.Ranges.{EndsFirst, HasArrow, IsForArrow, ShowsArrows, hyperperiod_end, reach}
use Rattle.prl_picture.specs.declared.ranges.TheConstants.{MAX_UNTIL}
use Rattle.prl_picture.proofs.defaults.default_end.Goals as goal

pub returns : goal.returns
returns c =
    let plan = c.args.plan.now in
    let rows = c.args.rows.now in
    let from = c.args.from in
    let hyper : c.graph.result.now.hyper ≡ plan.graph.hyper = ap (λ (graph : TaskGraph). graph.hyper) c.graph.ensures.graph in
    let least : c.min-least.result ≡ hyperperiod_end plan from =
    (let l = c.min-least.ensures in omega (arith, l, hyper)) in
    let limit : c.min-limit.result ≡ reach plan from =
    (let l = c.min-limit.ensures in omega (arith, l, hyper)) in
    let few : c.min-limit.result ≤ MAX_UNTIL = (let l = c.min-limit.ensures in omega (arith, l)) in
    let short : c.min-least.result ≤ MAX_UNTIL = (let l = c.min-least.ensures in omega (arith, l)) in
    let end : c.min-2.result ≡ min c.arrows_end.result MAX_UNTIL = c.min-2.ensures in
    record {
      long = search rules;
      small = search rules;
      arrows = OnFalse_from c.args.table (ShowsArrows plan rows from c.min-2.result)
          (λ off e below has.
          c.arrows_end.ensures.arrows e below (subst (λ (tick : ℕ). HasArrow plan rows from tick e) (sym limit) has) c.min-2.result (omega (arith, end, few)));
      needed = OnFalse_from c.args.table ((c.min-2.result ≡ hyperperiod_end plan from) ⊎ IsForArrow plan rows from c.min-2.result)
          (λ off.
          elim c.arrows_end.ensures.needed [
            | inl same ↦ inl ((let e : c.min-2.result ≡ c.min-least.result = omega (arith, same, short, end) in e) ∙ least)
            | inr ends ↦
                (let within = ends.2.within in
                let same : c.min-2.result ≡ c.arrows_end.result = omega (arith, within, few, end) in
                inr (
                  ends.0,
                  ends.1,
                  subst (λ (tick : ℕ). EndsFirst plan rows from tick ends.0 c.min-2.result) limit
                      (subst (λ (tick : ℕ). EndsFirst plan rows from c.min-limit.result ends.0 tick) (sym same) ends.2),
                ))
          ]);
      classes = search rules;
      tabled = search rules;
    }
