use Rattle.std.proofs.Common.{◌≡◌, ◌∙◌, ◌&&◌, Bool, map, refl, sym, ap, Some, None}
use Rattle.std.specs.Option.{is_some, option_copied}
use Rattle.prl_body.specs.Vocabulary.{body_tree, import_named, text_tree}
use Rattle.prl_body.proofs.ThereBodies.{there}
use Rattle.prl_body.proofs.program_bodies.has_body.Goals as goal

pub returns-then-has_text : goal.returns-then-has_text
returns-then-has_text c =
    let d = c.args.directory.now in
    let n = c.args.name.now in
    let copied = elim c.import.result as (λ o. is_some o ≡ is_some (option_copied o)) [ Some x ↦ refl | None ↦ refl ] in
    let has = sym c.has_text.ensures ∙ c.if-has_text.true in
    c.is_some.ensures ∙ copied ∙ ap is_some c.import.ensures ∙ sym (ap (λ (b : Bool). b && is_some (import_named d.imports n)) has)
    ∙ sym (there d.imports (map text_tree d.texts) (map body_tree c.args._bodies.now) n c.requires)

pub returns-else-has_text : goal.returns-else-has_text
returns-else-has_text c =
    let d = c.args.directory.now in
    let n = c.args.name.now in
    let hasnt = sym c.has_text.ensures ∙ c.if-has_text.false in
    c.if-has_text.false ∙ sym (ap (λ (b : Bool). b && is_some (import_named d.imports n)) hasnt)
    ∙ sym (there d.imports (map text_tree d.texts) (map body_tree c.args._bodies.now) n c.requires)
