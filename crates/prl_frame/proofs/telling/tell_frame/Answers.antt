use Rattle.prl_base.proofs.Standard.{◌≡◌, ◌∙◌, map, drop, ap, sym, vec_items, string_bytes, drop-map}
use Rattle.prl_frame.proofs.Refusals.{answers_by}
use Rattle.prl_frame.proofs.telling.tell_frame.Goals as goal

pub returns : goal.returns
returns g c =
    let words : map string_bytes c.after_name.result.now ≡ drop 1 (map string_bytes c.args.words.now) =
    ap (map string_bytes) c.after_name.ensures ∙ sym (drop-map string_bytes 1 c.args.words.now) in
    answers_by vec_items c.outcome-outcome.result _ _ (g.F.Files.seen c.args.files.now) _ _ _ _ _ _ words c.end.ensures c.outcome-outcome.ensures.told c.outcome-outcome.ensures.refused
    c.outcome-outcome.ensures.helped
