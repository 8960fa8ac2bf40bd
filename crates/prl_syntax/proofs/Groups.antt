-- Items from the last one back: each is noted by itself, or by the next one that is.
use Rattle.prl_base.proofs.Standard.{◌≡◌, List, [], ◌∷◌, ◌++◌, Option, reverse, refl, sym, ap, ◌∙◌, append_assoc, reverse-append}
use Rattle.prl_ast.specs.declared.declarations.Param.{Param}
use Rattle.prl_syntax.specs.declared.parameters.Note.{Note}
use Rattle.prl_syntax.specs.declared.parameters.Item.{Item}
use Rattle.prl_syntax.specs.Trees.{param_of, note_or, first_note, params_before}

last_note : (items : List Item) (item : Item) (later : Option Note) → first_note (items ++ item ∷ []) later ≡ first_note items (note_or item.note later)
last_note [] item later = refl
last_note (i ∷ items) item later = ap (note_or i.note) (last_note items item later)

last_item : (items : List Item) (item : Item) (later : Option Note)
    → params_before (items ++ item ∷ []) later ≡ params_before items (note_or item.note later) ++ param_of item.name (note_or item.note later) ∷ []
last_item [] item later = refl
last_item (i ∷ items) item later = ap (λ n. param_of i.name (note_or i.note n) ∷ params_before (items ++ item ∷ []) later) (last_note items item later)
    ∙ ap (λ ps. param_of i.name (first_note (i ∷ items) (note_or item.note later)) ∷ ps) (last_item items item later)

pub one_more : (items before : List Item) (item : Item) (note later : Option Note) (p : Param) (params after total : List Param) → items ≡ before ++ item ∷ [] → later ≡ note_or item.note note → p ≡ param_of item.name later → after ≡ params ++ p ∷ []
    → params_before items note ++ reverse params ≡ total → params_before before later ++ reverse after ≡ total
one_more items before item note later p params after total split is made push so_far =
    let own = note_or item.note note in
    ap (λ n. params_before before n ++ reverse after) is
    ∙ ap (λ ps. params_before before own ++ reverse ps) (push ∙ ap (λ q. params ++ q ∷ []) (made ∙ ap (param_of item.name) is))
    ∙ ap (λ ps. params_before before own ++ ps) (reverse-append params (param_of item.name own ∷ []))
    ∙ sym (append_assoc (params_before before own) (param_of item.name own ∷ []) (reverse params))
    ∙ ap (λ ps. ps ++ reverse params) (sym (ap (λ is. params_before is note) split ∙ last_item before item note))
    ∙ so_far
