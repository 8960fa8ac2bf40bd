-- The bodies of a text, one after another.
use Rattle.std.proofs.Common.{◌≡◌, ◌<◌, ℕ, zero, suc, false, List, [], ◌∷◌, ◌++◌, length, take, drop, map, get_or, refl, sym, ap, ◌∙◌, Some, None, Result, Ok, arith}
use Rattle.prl_base.specs.Reading.{◌>>=◌}
use Rattle.prl_ast.specs.declared.declarations.Import.{Import}
use Rattle.prl_body.specs.Vocabulary.{BodyFault, BodyText, BodyTree, import_named, has_text, checked_body, checked_bodies, TextTree, text_tree}
use Rattle.prl_body.proofs.Lists.{added_to, added_to_push}

pub taken_with : (texts : List BodyText) (k : ℕ) (t : BodyText) → k < length texts → t ≡ get_or texts k t →
    map text_tree (take (suc k) texts) ≡ map text_tree (take k texts) ++ text_tree t ∷ []
taken_with [] k t below item = absurd (omega arith)
taken_with (x ∷ xs) zero t below item = ap (λ (y : BodyText). text_tree y ∷ []) (sym item)
taken_with (x ∷ xs) (suc k) t below item = ap (λ (l : List TextTree). text_tree x ∷ l) (taken_with xs k t (omega arith) item)

pub left_from : (texts : List BodyText) (k : ℕ) (t : BodyText) → k < length texts → t ≡ get_or texts k t →
    map text_tree (drop k texts) ≡ text_tree t ∷ map text_tree (drop (suc k) texts)
left_from [] k t below item = absurd (omega arith)
left_from (x ∷ xs) zero t below item = ap (λ (y : BodyText). text_tree y ∷ map text_tree xs) (sym item)
left_from (x ∷ xs) (suc k) t below item = left_from xs k t (omega arith) item

-- a body of no import is passed over
pub passed_over : (imports : List Import) (done : List BodyTree) (earlier rest : List TextTree) (b : TextTree) (whole : Result (List BodyTree) BodyFault) →
    import_named imports b.name ≡ None → added_to done (checked_bodies imports earlier (b ∷ rest)) ≡ whole →
    added_to done (checked_bodies imports (earlier ++ b ∷ []) rest) ≡ whole
passed_over imports done earlier rest b whole none before =
    let same : checked_bodies imports earlier (b ∷ rest) ≡ checked_bodies imports (earlier ++ b ∷ []) rest = rw none refl in
    sym (ap (added_to done) same) ∙ before

-- a body of an import is taken
pub taken_in : (imports : List Import) (done : List BodyTree) (earlier rest : List TextTree) (b : TextTree) (import : Import) (t : BodyTree) (whole : Result (List BodyTree) BodyFault) →
    import_named imports b.name ≡ Some import → has_text earlier b.name ≡ false → checked_body import b ≡ Ok t →
    added_to done (checked_bodies imports earlier (b ∷ rest)) ≡ whole →
    added_to (done ++ t ∷ []) (checked_bodies imports (earlier ++ b ∷ []) rest) ≡ whole
taken_in imports done earlier rest b import t whole some first ok before =
    let others = checked_bodies imports (earlier ++ b ∷ []) rest in
    let same : checked_bodies imports earlier (b ∷ rest) ≡ (others >>= λ xs. Ok (t ∷ xs)) = rw (some, first, ok) refl in
    added_to_push done t others ∙ sym (ap (added_to done) same) ∙ before
