use Rattle.prl_base.proofs.Standard.{◌∙◌, ap, vec_items, map, List, ◌++◌, ℕ, refl}
use Rattle.prl_clock.specs.Vocabulary.{listed_at}
use Rattle.prl_clock.proofs.Listing.{as_it_was, read_is, written_is}
use Rattle.prl_clock.proofs.standings.list_too.Goals as goal

pub returns-in_err-extend_from_slice : goal.returns-in_err-extend_from_slice
returns-in_err-extend_from_slice c =
    as_it_was c.args.lists.now.items c.args.low c.index_mut.result.now c.extend_from_slice.new.self c.from_residual-in_err-extend_from_slice.result _ _ c.requires.low c.index_mut.ensures.value c.in_err-extend_from_slice.ensures.items
    c.from_residual-in_err-extend_from_slice.ensures.1

pub returns : goal.returns
returns c =
    let lists = c.args.lists.now.items in
    let more = c.as_slice-2.ensures.value ∙ c.in_ok-more.ensures.items ∙ read_is lists c.args.high c.index.result.now c.as_slice.result.now c.requires.high c.index.ensures c.as_slice.ensures.value in
    let was = read_is lists c.args.low c.index_mut.result.now c.index_mut.result.now.items c.requires.low c.index_mut.ensures.value refl in
    written_is lists c.args.low c.extend_from_slice.new.self (listed_at (map vec_items lists) c.args.low ++ listed_at (map vec_items lists) c.args.high)
    (c.in_ok-extend_from_slice.ensures.items ∙ ap (λ (ys : List ℕ). ys ++ c.as_slice-2.result.now) was ∙ ap (λ (ys : List ℕ). listed_at (map vec_items lists) c.args.low ++ ys) more)
