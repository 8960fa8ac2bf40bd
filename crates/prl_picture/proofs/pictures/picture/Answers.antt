use Rattle.prl_base.proofs.Standard.{ℕ, List, map, subst, sym, string_bytes, IfOk-weaker}
use Rattle.prl_plantext.specs.ReadTexts.{IsTextOf}
use Rattle.prl_io.specs.Faults.{Folder}
use Rattle.prl_picture.specs.Pictures.{IsDrawn}
use Rattle.prl_picture.proofs.pictures.picture.Goals as goal

pub returns-in-Ok-clause-text : goal.returns-in-Ok-clause-text
returns-in-Ok-clause-text g c =
    let is_text = subst (λ (bytes : List ℕ). IsTextOf c.in-Ok.plan bytes) c.deref.ensures.value c.in-Ok.ensures in
    IfOk-weaker c.drawn.result _ _
    (λ text is_drawn. (
      c.in-Some.name.now,
      c.in_ok-source.source.items,
      sym c.in-Some.ensures,
      c.in_ok-source.ensures.content,
      (c.in-Ok.plan, is_text, subst (λ (folder : Folder). IsDrawn folder c.in-Ok.plan (map string_bytes c.args.words.now) text.items) c.in_ok-source.ensures.kept is_drawn),
    ))
    c.drawn.ensures.text
