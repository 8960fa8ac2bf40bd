use Rattle.prl_base.proofs.Standard.{◌≡◌, ◌<◌, [], List, ℕ, Option, length, length-map, map, map-set, set, get_or, get_or-map, vec_items, with_item, Some, sym, ◌∙◌, ap, arith}
use Rattle.prl_table.specs.Noted.{with_noted}
use Rattle.prl_table.proofs.noted.Noted.note.Goals as goal

pub returns : goal.returns
returns c =
    let xs = c.self.inside.ticks.items in
    let i : ℕ = c.args.task.0 in
    let long : length (map vec_items xs) ≡ length xs = length-map xs vec_items in
    let view : map vec_items xs ≡ c.args.self.now = c.self.view_is in
    let inside : i < length xs = (let t = c.requires.task in let v = ap length view in omega (arith, t, v, long)) in
    let row : get_or (map vec_items xs) i [] ≡ vec_items c.index_mut.result.now =
    get_or-map vec_items xs i c.index_mut.result.now [] inside ∙ ap vec_items (sym c.index_mut.ensures.value) in
    map-set vec_items xs i (with_item c.index_mut.result.now c.args.job (Some c.args.now))
    ∙ ap (λ (ys : List (Option ℕ)). set (map vec_items xs) i (set ys c.args.job (Some c.args.now))) (sym row)
    ∙ ap (λ (v : List (List (Option ℕ))). with_noted v i c.args.job c.args.now) view
