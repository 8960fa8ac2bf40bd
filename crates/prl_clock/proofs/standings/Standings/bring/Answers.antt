use Rattle.prl_base.proofs.Standard.{◌≡◌, ◌<◌, ◌++◌, ◌∙◌, ap, sym, subst, ℕ, List, [], length, length-map, length-set, map, set, vec_items, Global, with_items_is, arith}
use Rattle.prl_clock.specs.Vocabulary.{AreChanged, AreListed, AreMoved, HaveChanged, IsMoved, Standing, listed_at}
use Rattle.prl_clock.proofs.Listing.{all_moved, brought, cleared, joint_listed, listed_within, reached_within, read_is, written_is}
use Rattle.prl_clock.proofs.standings.Standings.bring.Goals as goal

pub move_these-requires-clause-flows : goal.move_these-requires-clause-flows
move_these-requires-clause-flows c =
    λ x among.
    let before = c.self.inside.lists.items in
    let after = c.list_too.new.lists.items in
    let st = c.self.inside.of.items in
    let e = ap length c.deref_mut.ensures.value in
    let inside = reached_within before st c.args.self.now c.args.high c.self.invariant.count c.self.view_is c.requires.high in
    let below : c.args.high < length (map vec_items before) = let a = length-map before (vec_items {X = ℕ} {Z = Global}) in omega (arith, a, inside) in
    let within : c.args.high < length after = let a = length-map after (vec_items {X = ℕ} {Z = Global}) in let b = ap length c.in_ok-list_too.ensures in let d = length-set (map vec_items before) c.args.low (listed_at (map vec_items before) c.args.low ++ listed_at (map vec_items before) c.args.high) in omega (arith, a, b, d, below) in
    let is = read_is after c.args.high c.index.result.now c.as_slice.result.now within c.index.ensures c.as_slice.ensures.value in
    let P : List (List ℕ) → Type 0 = λ ls. AreListed st ls in
    let listed = subst P (sym c.in_ok-list_too.ensures) (joint_listed c.args.high c.args.low (map vec_items before) (λ k. omega (arith, k, c.requires.low)) (omega (arith, below, c.requires.low)) st c.self.invariant) in
    let w = listed_within (map vec_items after) st listed c.args.high c.as_slice.result.now is x among in omega (arith, w, e)

pub invariant_of-self-in_err-move_these : goal.invariant_of-self-in_err-move_these
invariant_of-self-in_err-move_these c =
    let new = c.move_these.new.standings in
    let before = c.self.inside.lists.items in
    let after = c.list_too.new.lists.items in
    let st = c.self.inside.of.items in
    let e = ap length c.deref_mut.ensures.value in
    let len : length new ≡ length st = omega (arith, c.move_these.auto.standings, e) in
    let long : length new ≡ c.self.inside.of.len = omega (arith, len, c.self.inside.of.ok.0) in
    let inside = reached_within before st c.args.self.now c.args.high c.self.invariant.count c.self.view_is c.requires.high in
    let below : c.args.high < length (map vec_items before) = let a = length-map before (vec_items {X = ℕ} {Z = Global}) in omega (arith, a, inside) in
    let C : List Standing → Type 0 = λ s. AreChanged (IsMoved c.args.high c.args.low c.args.shift.now) s new in
    let changed = subst C c.deref_mut.ensures.value c.move_these.ensures.changed in
    let P : List Standing → Type 0 = λ s. AreListed s (map vec_items after) in
    subst P (sym (with_items_is c.self.inside.of new long)) (brought c.args.high c.args.low c.args.shift.now (map vec_items before) (map vec_items after) st new c.self.invariant c.requires.low below c.in_ok-list_too.ensures len changed)

pub invariant_of-self-2 : goal.invariant_of-self-2
invariant_of-self-2 c =
    let new = c.move_these.new.standings in
    let before = c.self.inside.lists.items in
    let after = c.list_too.new.lists.items in
    let st = c.self.inside.of.items in
    let e = ap length c.deref_mut.ensures.value in
    let len : length new ≡ length st = omega (arith, c.move_these.auto.standings, e) in
    let long : length new ≡ c.self.inside.of.len = omega (arith, len, c.self.inside.of.ok.0) in
    let inside = reached_within before st c.args.self.now c.args.high c.self.invariant.count c.self.view_is c.requires.high in
    let below : c.args.high < length (map vec_items before) = let a = length-map before (vec_items {X = ℕ} {Z = Global}) in omega (arith, a, inside) in
    let C : List Standing → Type 0 = λ s. AreChanged (IsMoved c.args.high c.args.low c.args.shift.now) s new in
    let changed = subst C c.deref_mut.ensures.value c.move_these.ensures.changed in
    let within : c.args.high < length after = let a = length-map after (vec_items {X = ℕ} {Z = Global}) in let b = ap length c.in_ok-list_too.ensures in let d = length-set (map vec_items before) c.args.low (listed_at (map vec_items before) c.args.low ++ listed_at (map vec_items before) c.args.high) in omega (arith, a, b, d, below) in
    let is = read_is after c.args.high c.index.result.now c.as_slice.result.now within c.index.ensures c.as_slice.ensures.value in
    let H : List Standing → Type 0 = λ s. HaveChanged (IsMoved c.args.high c.args.low c.args.shift.now) c.as_slice.result.now s new in
    let have = subst H c.deref_mut.ensures.value c.in_ok-move_these.ensures.moved in
    let P : List Standing → Type 0 = λ s. AreListed s (map vec_items (set after c.args.high c.new.result)) in
    let Q : List (List ℕ) → Type 0 = λ ls. AreListed new ls in
    subst P (sym (with_items_is c.self.inside.of new long))
    (subst Q (sym (written_is after c.args.high c.new.result [] c.new.ensures.items)) (cleared c.args.high c.args.low c.args.shift.now (map vec_items before) (map vec_items after) st new c.self.invariant c.requires.low below c.in_ok-list_too.ensures len changed c.as_slice.result.now is have))

pub returns-clause-moved : goal.returns-clause-moved
returns-clause-moved c =
    let new = c.move_these.new.standings in
    let before = c.self.inside.lists.items in
    let after = c.list_too.new.lists.items in
    let st = c.self.inside.of.items in
    let e = ap length c.deref_mut.ensures.value in
    let len : length new ≡ length st = omega (arith, c.move_these.auto.standings, e) in
    let long : length new ≡ c.self.inside.of.len = omega (arith, len, c.self.inside.of.ok.0) in
    let inside = reached_within before st c.args.self.now c.args.high c.self.invariant.count c.self.view_is c.requires.high in
    let below : c.args.high < length (map vec_items before) = let a = length-map before (vec_items {X = ℕ} {Z = Global}) in omega (arith, a, inside) in
    let C : List Standing → Type 0 = λ s. AreChanged (IsMoved c.args.high c.args.low c.args.shift.now) s new in
    let changed = subst C c.deref_mut.ensures.value c.move_these.ensures.changed in
    let within : c.args.high < length after = let a = length-map after (vec_items {X = ℕ} {Z = Global}) in let b = ap length c.in_ok-list_too.ensures in let d = length-set (map vec_items before) c.args.low (listed_at (map vec_items before) c.args.low ++ listed_at (map vec_items before) c.args.high) in omega (arith, a, b, d, below) in
    let is = read_is after c.args.high c.index.result.now c.as_slice.result.now within c.index.ensures c.as_slice.ensures.value in
    let H : List Standing → Type 0 = λ s. HaveChanged (IsMoved c.args.high c.args.low c.args.shift.now) c.as_slice.result.now s new in
    let have = subst H c.deref_mut.ensures.value c.in_ok-move_these.ensures.moved in
    let same = with_items_is c.self.inside.of new long in
    let P : List Standing → Type 0 = λ s. AreMoved c.args.high c.args.low c.args.shift.now c.args.self.now s in
    let Q : List Standing → Type 0 = λ s. AreMoved c.args.high c.args.low c.args.shift.now s new in (
      ap length same ∙ len ∙ ap length c.self.view_is,
      subst P (sym same) (subst Q c.self.view_is (all_moved c.args.high c.args.low c.args.shift.now (map vec_items before) (map vec_items after) st new c.self.invariant c.requires.low below c.in_ok-list_too.ensures len changed c.as_slice.result.now is have)),
    )
