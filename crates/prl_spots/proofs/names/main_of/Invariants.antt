use Rattle.std.proofs.Common.{◌≡◌, ◌≤◌, drop, false, length}
use Rattle.prl_spots.specs.Names.{main_of}
use Rattle.prl_spots.proofs.names.main_of.Given as goal

-- the tokens that are left lead to the same ones, from the best so far on
abbrev pub invariant-loop-i : goal.invariant-loop-i
invariant-loop-i l = record {
  same : main_of l.text (drop l.start l.tokens) l.imported (drop l.i l.tokens) ≡ main_of l.text l.tokens false l.tokens;
  within : l.start ≤ length l.tokens;
}
