-- Facts of links and places from their parts.
use Rattle.std.proofs.Common.{◌≡◌, ◌≤◌, ℕ}
use Rattle.prl_flow.specs.Vocabulary.{FlatProgram, IsArgument}
use Rattle.prl_clashes.specs.ClockWays.{HasArgumentAt, IsToldAt, StandsAt, argument, itself}
use Rattle.prl_clashes.specs.Links.{IsApplied, IsFirstOutput, output}
use Rattle.prl_clashes.specs.Links.{argument as an_argument}

pub by_argument : (p : FlatProgram) (k out j : ℕ) → out ≡ 0 → IsArgument p k j → IsApplied p k out j
by_argument p k out j zero is = an_argument zero is

pub by_output : (p : FlatProgram) (k out j : ℕ) → 1 ≤ out → IsFirstOutput p k j → IsApplied p k out j
by_output p k out j some is = output some is

pub stands : (p : FlatProgram) (i at : ℕ) → StandsAt p i at → IsToldAt p i at
stands p i at is = itself is

pub has_argument : (p : FlatProgram) (i at : ℕ) → HasArgumentAt p i at → IsToldAt p i at
has_argument p i at is = argument is
