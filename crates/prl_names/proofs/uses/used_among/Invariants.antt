use Rattle.std.proofs.Common.{◌≡◌, ◌++◌, drop, vec_items}
use Rattle.prl_names.specs.Vocabulary.{names_in, used_among}
use Rattle.prl_names.proofs.uses.used_among.Given as goal

abbrev pub invariant-loop-import : goal.invariant-loop-import
invariant-loop-import l = vec_items l.used ++ used_among (names_in l.applied) (drop l.import-index l.imports) ≡ used_among (names_in l.applied) l.imports
