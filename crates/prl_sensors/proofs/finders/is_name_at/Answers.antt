use Rattle.prl_base.proofs.Standard.{◌≡◌, suc, length, refl, sym, ap, ◌∙◌, Some, None, slice_get, arith, leb-true, slice_get_past, slice_get_read, bytes_eq-Decides}
use Rattle.prl_sensors.proofs.Firsts.{some_is}
use Rattle.prl_sensors.proofs.finders.is_name_at.Goals as goal

pub returns-in-Some : goal.returns-in-Some
returns-in-Some c =
    let names = c.args.names.now in
    let i = c.args.index in
    let within = leb-true (suc i) (length names) (sym c.in-Some.ensures.lookup.0) in
    let found = slice_get_read names (length names) i c.in-Some.held.now refl (omega (arith, within)) c.in-Some.ensures.lookup.1 in
    let decides = bytes_eq-Decides c.bytes.result.now c.args.name.now in (
      (λ is. found ∙ ap Some (sym c.bytes.ensures.bytes ∙ decides.0 (sym c.eq.ensures ∙ is))),
      (λ is. c.eq.ensures ∙ decides.1 (c.bytes.ensures.bytes ∙ some_is _ _ (sym found ∙ is))),
    )

pub returns-in-None : goal.returns-in-None
returns-in-None c =
    let none : slice_get c.args.names.now c.args.index ≡ None = slice_get_past c.args.names.now c.args.index c.in-None.ensures.lookup.3 in
    (λ e. cc, λ e. cc)
