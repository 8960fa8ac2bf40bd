use Rattle.prl_base.proofs.Standard.{◌≡◌, suc, List, [], ◌∷◌, ◌++◌, take, drop, map, add-one, sym, ◌∙◌, subst, map-append}
use Rattle.prl_body.specs.Vocabulary.{body_tree, checked_bodies, TextTree, text_tree}
use Rattle.prl_body.proofs.Lists.{added_to}
use Rattle.prl_body.proofs.BodyList.{taken_with, left_from, passed_over, taken_in}
use Rattle.prl_body.proofs.program_bodies.checked_bodies.Goals as goal
use Rattle.prl_body.proofs.program_bodies.checked_bodies.Goals.{in-None, in-Some+else-has_earlier_text+in_ok-body-in-Some+in_ok-push-in-Some}

pub loop-k-preserved : goal.loop-k-preserved
loop-k-preserved c =
    let texts = c.args.directory.now.texts in
    let imports = c.args.directory.now.imports in
    let k = c.loop-k.k in
    let text = c.index-texts-k.result in
    let inside = rw c.texts-texts.ensures at c.loop-k-test.true in
    let item = rw c.texts-texts.ensures at c.index-texts-k.is in
    let done = map body_tree c.loop-k.bodies.items in
    let earlier = map text_tree (take k texts) in
    let rest = map text_tree (drop (suc k) texts) in
    let whole = checked_bodies imports [] (map text_tree texts) in
    let Before : List TextTree → Type 0 = λ ts. added_to done (checked_bodies imports earlier ts) ≡ whole in
    let before = subst Before (left_from texts k text inside item) c.loop-k.invariant in
    rw (add-one, taken_with texts k text inside item)
    (elim c.match-import.branch [
      | in-None w ↦ rw w.bodies-is (passed_over imports done earlier rest (text_tree text) whole (sym w.in-None.ensures) before)
      | in-Some+else-has_earlier_text+in_ok-body-in-Some+in_ok-push-in-Some w ↦
          (let body = w.in_ok-body-in-Some.body in
          let items : map body_tree c.match-import.bodies.items ≡ done ++ body_tree body ∷ [] =
          rw (w.bodies-is, w.in_ok-push-in-Some.ensures.items) (map-append body_tree c.loop-k.bodies.items (body ∷ [])) in
          rw items (taken_in imports done earlier rest (text_tree text) w.in-Some.import.now (body_tree body) whole
          (sym w.in-Some.ensures) (sym w.has_earlier_text.ensures ∙ w.if-has_earlier_text.false) w.in_ok-body-in-Some.ensures before))
    ])
