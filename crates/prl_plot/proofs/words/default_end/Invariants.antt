use Rattle.std.specs.Prelude.{◌≡◌, ◌-◌, drop, length}
use Rattle.prl_plot.specs.Asked.{default_end}
use Rattle.prl_plot.proofs.words.default_end.Given as goal

-- the end by the last flows
abbrev pub invariant-loop-back : goal.invariant-loop-back
invariant-loop-back l = l.end ≡ default_end (drop (length l.flows - l.back) l.flows) l.from
