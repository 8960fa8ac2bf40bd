use Rattle.prl_base.proofs.Standard.{◌≡◌, ◌+◌, ◌-◌, ◌<◌, ◌^◌, ℕ, List, ◌∷◌, drop, get_or, length, length-drop, sym, ap, subst, ◌∙◌, arith, drop_more}
use Rattle.prl_base.specs.declared.operators.Op.{Op}
use Rattle.prl_plan.specs.FirstReaders.{reader_before, first_reader}
use Rattle.prl_words.specs.Counts.{HaveCounts}
use Rattle.prl_words.proofs.Constants.{counts_after, counts_start, factor_here, first_reader_fits}
use Rattle.prl_words.proofs.prefixes.constants.Goals.{After-index-ops-ops}
use Rattle.prl_words.proofs.prefixes.constants.Goals as goal

-- the operators from one on
record IsFrom (ops : List Op) (j : ℕ) (op : Op) : Type 0 where
  split : drop j ops ≡ op ∷ drop (j + 1) ops
  count : ℕ
  counts : HaveCounts (op ∷ drop (j + 1) ops) count

from_one : (ops : List Op) (jobs j : ℕ) (op : Op) → HaveCounts ops jobs → j < length ops → op ≡ get_or ops j op → IsFrom ops j op
from_one ops jobs j op counts below is =
    let split : drop j ops ≡ op ∷ drop (j + 1) ops = drop_more ops j op below ∙ ap (λ (o : Op). o ∷ drop (j + 1) ops) (sym is) in
    let after = counts_after j ops jobs counts (omega (arith, below)) in
    record { split = split; count = after.0; counts = subst (λ (rest : List Op). HaveCounts rest after.0) split after.1 }

from_here : (c : After-index-ops-ops) → IsFrom c.args.ops.now (length c.args.ops.now - 1 - c.loop-k.k) c.index-ops-ops.result
from_here c =
    from_one c.args.ops.now c.requires.counts.0 (length c.args.ops.now - 1 - c.loop-k.k) c.index-ops-ops.result c.requires.counts.1 (omega arith) c.index-ops-ops.is

pub reader_before-first-requires-clause-factor : goal.reader_before-first-requires-clause-factor
reader_before-first-requires-clause-factor c =
    let from = from_here (goal.at.reader_before-first-requires-clause-factor c).After-index-ops-ops in
    factor_here c.index-ops-ops.result from.count from.counts.1.0 from.counts.1.1 from.counts.0.0 (counts_start _ from.counts.1.0 from.counts.1.2).0

pub reader_before-first-requires-clause-fits : goal.reader_before-first-requires-clause-fits
reader_before-first-requires-clause-fits c =
    let ops = c.args.ops.now in
    let j = length ops - 1 - c.loop-k.k in
    let op = c.index-ops-ops.result in
    let from = from_here (goal.at.reader_before-first-requires-clause-fits c).After-index-ops-ops in
    let long : length (op ∷ drop (j + 1) ops) ≡ length ops - j = ap length (sym from.split) ∙ length-drop j ops in
    let whole : first_reader (op ∷ drop (j + 1) ops) < 2 ^ 64 =
    first_reader_fits (op ∷ drop (j + 1) ops) from.count from.counts (omega (arith, long, c.requires.few)) in
    let next : length ops - c.loop-k.k ≡ j + 1 = omega arith in
    let first : c.loop-k.first ≡ first_reader (drop (j + 1) ops) = c.loop-k.invariant ∙ ap (λ (n : ℕ). first_reader (drop n ops)) next in
    let same : reader_before op c.loop-k.first ≡ reader_before op (first_reader (drop (j + 1) ops)) = ap (λ (p : ℕ). reader_before op p) first in
    subst (λ (p : ℕ). p < 2 ^ 64) (sym same) whole
