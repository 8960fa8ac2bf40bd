use Rattle.std.proofs.Common.{◌≡◌, drop}
use Rattle.prl_lex.specs.Classes.{class_in}
use Rattle.prl_lex.proofs.classes.class_in.Given as goal

abbrev pub invariant-each : goal.invariant-each
invariant-each l = class_in (λ row. row.0.now) (λ row. row.1) (drop l.row-index l.table) l.bytes ≡ class_in (λ row. row.0.now) (λ row. row.1) l.table l.bytes
