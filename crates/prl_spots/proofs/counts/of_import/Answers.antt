use Rattle.prl_base.proofs.Standard.{◌∙◌, length, refl, sym, slice_get_read, bytes_eq-Decides}
use Rattle.prl_ast.specs.declared.declarations.Import.{Import}
use Rattle.prl_spots.proofs.Named.{is_of}
use Rattle.prl_spots.proofs.counts.of_import.Goals as goal

pub loop-import-init : goal.loop-import-init
loop-import-init c = tt

pub returns-then-eq : goal.returns-then-eq
returns-then-eq c =
    is_of (λ (one : Import). one.name) (λ one. length one.ins) (λ one. length one.outs) c.args.imports.now c.args.name.now c.import_counts.result c.loop-import.import-index c.import-item.result
    (slice_get_read c.args.imports.now (length c.args.imports.now) c.loop-import.import-index c.import-item.result refl c.loop-import-test.true c.import-item.is)
    (sym c.bytes.ensures.bytes ∙ (bytes_eq-Decides c.bytes.result.now c.args.name.now).0 (sym c.eq.ensures ∙ c.if-eq.true))
    c.import_counts.ensures.ins c.import_counts.ensures.outs

pub loop-import-preserved : goal.loop-import-preserved
loop-import-preserved c = tt
