use Rattle.prl_base.proofs.Standard.{ap, sym, ◌∙◌, map, vec_items, set, ◌++◌, ◌∷◌, [], Global, map-set, get_or-map}
use Rattle.prl_base.specs.declared.values.Value.{Value}
use Rattle.prl_sensors.proofs.rows.push_value.Goals as goal

pub returns-clause-exact : goal.returns-clause-exact
returns-clause-exact c =
    let item = get_or-map (vec_items {X = Value} {Z = Global}) c.args.rows.now.items c.args.k c.index_mut.result.now [] c.requires in
    map-set (vec_items {X = Value} {Z = Global}) c.args.rows.now.items c.args.k c.push.new.self
    ∙ ap (set (map (vec_items {X = Value} {Z = Global}) c.args.rows.now.items) c.args.k)
    (c.in_ok-push.ensures.items ∙ ap (λ items. items ++ c.args.value ∷ []) (ap vec_items c.index_mut.ensures.value ∙ sym item))
