use Rattle.prl_base.proofs.Standard.{◌∙◌, List, ap, arith, inl, inr, length, map, string_bytes, sym}
use Rattle.std.proofs.lemmas.Bool.{eqb-false}
use Rattle.prl_timetext.specs.declared.rows.Row.{Row}
use Rattle.prl_times.specs.Refused.{above_line}
use Rattle.prl_times.proofs.Refusals.{at_none, unfit_misfit}
use Rattle.prl_times.proofs.telling.within.Goals as goal

pub returns-in_default-number_in-clause-refused : goal.returns-in_default-number_in-clause-refused
returns-in_default-number_in-clause-refused c =
    inr (inl (c.in-Some.word.now, sym c.in-Some.ensures, at_none c.number_in.result c.number_in.ensures.none c.in_default-number_in.not-Some))

pub returns-clause-refused : goal.returns-clause-refused
returns-clause-refused c =
    unfit_misfit c.args.plan.now (map string_bytes c.args.words.now) _ c.above_fault.result c.above_fault.ensures
    (inr (inr (inr (inr (record {
      tasks = c.args.chain.now;
      rows = c.args.rows.now;
      asked = c.requires;
      word = c.in-Some.word.now;
      named = sym c.in-Some.ensures;
      limit = c.in-Some-number_in.limit;
      written = c.in-Some-number_in.ensures.some.1;
      some = λ none. eqb-false c.in_ok-above.above.len 0 (sym c.is_empty.ensures ∙ c.if-is_empty.false) (omega (arith, c.in_ok-above.above.ok.0, ap length (c.in_ok-above.ensures ∙ none)));
      line = ap (λ (xs : List Row). above_line c.args.plan.now.graph c.args.chain.now c.in-Some-number_in.limit xs) (c.deref.ensures.value ∙ c.in_ok-above.ensures);
    })))))
