use Rattle.std.proofs.Common.{◌≡◌, ◌∙◌, ◌+◌, [], ◌∷◌, ◌++◌, length, arith, sym, subst, rules, refl, ℕ}
use Rattle.prl_drawing.specs.declared.scales.Scale.{Scale}
use Rattle.prl_steps.specs.Bars.{columns_of}
use Rattle.prl_steps.specs.declared.bars.TheConstants.{COLUMNS}
use Rattle.prl_steps.proofs.Columns.{none_yet, one_none}
use Rattle.prl_steps.proofs.bars.no_bars.Goals as goal

pub loop-init : goal.loop-init
loop-init c = record {
  none = λ scale. c.in_ok-bars.ensures.items ∙ none_yet scale;
  count = rw c.in_ok-bars.ensures.items refl;
}

pub loop-preserved : goal.loop-preserved
loop-preserved c = record {
  none = λ scale. c.in_ok-push.ensures.items ∙ one_none scale c.loop.counter c.loop.bars.items (c.loop.invariant.none scale);
  count = search rules;
}

pub returns-clause-none : goal.returns-clause-none
returns-clause-none c scale =
    let all : c.loop.counter ≡ COLUMNS = omega arith in
    subst (λ (count : ℕ). c.loop.bars.items ≡ columns_of count scale []) all (c.loop.invariant.none scale)

pub returns-clause-count : goal.returns-clause-count
returns-clause-count c =
    let all : c.loop.counter ≡ COLUMNS = omega arith in
    c.loop.invariant.count ∙ all
