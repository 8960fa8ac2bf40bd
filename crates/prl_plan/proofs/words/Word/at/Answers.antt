use Rattle.prl_base.proofs.Standard.{◌≡◌, ◌-◌, ◌<◌, ◌≤◌, ℕ, length, sym, ◌∙◌, ap, arith, pos, List, slice_index_or}
use Rattle.prl_base.specs.declared.values.Value.{Value}
use Rattle.prl_base.specs.declared.values.Value.TheVariants as values
use Rattle.prl_plan.specs.declared.walks.Operand.TheVariants as operands
use Rattle.prl_plan.specs.Words.{number_at}
use Rattle.prl_plan.proofs.WordNumbers.{in_prefix, after_prefix}
use Rattle.prl_plan.proofs.words.Word.at.Goals as goal

pub number-requires-clause-fits : goal.number-requires-clause-fits
number-requires-clause-fits c =
    let w = c.args.self.now in
    let long : length c.as_slice-prefix.result.now ≡ length w.prefix = ap length c.as_slice-prefix.ensures in
    let past : length w.prefix ≤ c.args.n = omega (arith, long) in
    omega (arith, ap (λ (k : ℕ). number_at w (c.args.n - k)) long, c.requires.fits (number_at w (c.args.n - length w.prefix)) (after_prefix w c.args.n past))

pub returns-then-n-count : goal.returns-then-n-count
returns-then-n-count c =
    let w = c.args.self.now in
    let same = c.as_slice-prefix.ensures in
    let below : c.args.n < length w.prefix = omega (arith, ap length same) in
    ap (λ (xs : List Value). operands.Const (slice_index_or xs c.args.n (values.Int (pos 0)))) same ∙ sym (in_prefix w c.args.n (values.Int (pos 0)) below)

pub returns-else-n-count : goal.returns-else-n-count
returns-else-n-count c =
    let w = c.args.self.now in
    let long : length c.as_slice-prefix.result.now ≡ length w.prefix = ap length c.as_slice-prefix.ensures in
    let past : length w.prefix ≤ c.args.n = omega (arith, long) in
    ap (λ (k : ℕ). operands.From k) (c.number.ensures ∙ ap (λ (k : ℕ). number_at w (c.args.n - k)) long) ∙ sym (after_prefix w c.args.n past)
