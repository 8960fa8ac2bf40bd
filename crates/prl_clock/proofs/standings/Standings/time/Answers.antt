use Rattle.prl_base.proofs.Standard.{◌≡◌, ap, sym, subst, List, length, map, vec_items, with_items_is, arith}
use Rattle.prl_clock.specs.Vocabulary.{AreChanged, AreListed, AreTimed, HaveChanged, IsTimed, Standing}
use Rattle.prl_clock.proofs.Listing.{listed_within, reached_within, read_is, same_listed, timed_all, timed_roots}
use Rattle.prl_clock.proofs.Terms.{on_ok}
use Rattle.prl_clock.proofs.standings.Standings.time.Goals as goal

pub time_these-requires : goal.time_these-requires
time_these-requires c = record {
  flows = λ x among.
      let lists = c.self.inside.lists.items in
      let inside = reached_within lists c.self.inside.of.items c.args.self.now c.args.root c.self.invariant.count c.self.view_is c.requires in
      let is = read_is lists c.args.root c.index.result.now c.as_slice.result.now inside c.index.ensures c.as_slice.ensures.value in
      let below = listed_within (map vec_items lists) c.self.inside.of.items c.self.invariant c.args.root c.as_slice.result.now is x among in
      let e = ap length c.deref_mut.ensures.value in omega (arith, below, e);
}

pub invariant_of-self : goal.invariant_of-self
invariant_of-self c =
    let new = c.time_these.new.standings in
    let e = ap length c.deref_mut.ensures.value in
    let long : length new ≡ c.self.inside.of.len = omega (arith, c.time_these.auto.standings, e, c.self.inside.of.ok.0) in
    let P : List Standing → Type 0 = λ st. AreListed st (map vec_items c.self.inside.lists.items) in
    let Q : List Standing → Type 0 = λ st. AreChanged (IsTimed c.args.root c.args.clock.now) st new in
    subst P (sym (with_items_is c.self.inside.of new long))
    (same_listed (map vec_items c.self.inside.lists.items) c.self.inside.of.items new c.self.invariant (omega (arith, c.time_these.auto.standings, e))
    (timed_roots c.args.root c.args.clock.now c.self.inside.of.items new (subst Q c.deref_mut.ensures.value c.time_these.ensures.changed)))

pub returns-clause-timed : goal.returns-clause-timed
returns-clause-timed c =
    let new = c.time_these.new.standings in
    let lists = c.self.inside.lists.items in
    let e = ap length c.deref_mut.ensures.value in
    let long : length new ≡ c.self.inside.of.len = omega (arith, c.time_these.auto.standings, e, c.self.inside.of.ok.0) in
    let inside = reached_within lists c.self.inside.of.items c.args.self.now c.args.root c.self.invariant.count c.self.view_is c.requires in
    let is = read_is lists c.args.root c.index.result.now c.as_slice.result.now inside c.index.ensures c.as_slice.ensures.value in
    let P : List Standing → Type 0 = λ st. AreTimed c.args.root c.args.clock.now c.args.self.now st in
    let Q : List Standing → Type 0 = λ st. AreChanged (IsTimed c.args.root c.args.clock.now) st new in
    let R : List Standing → Type 0 = λ st. HaveChanged (IsTimed c.args.root c.args.clock.now) c.as_slice.result.now st new in
    let S : List Standing → Type 0 = λ st. AreTimed c.args.root c.args.clock.now st new in
    on_ok c.time_these.result _ _ c.time_these.ensures.timed
    (λ have.
    subst P (sym (with_items_is c.self.inside.of new long))
    (subst S c.self.view_is
    (timed_all c.args.root c.args.clock.now (map vec_items lists) c.self.inside.of.items new c.self.invariant (subst Q c.deref_mut.ensures.value c.time_these.ensures.changed)
    c.as_slice.result.now is (subst R c.deref_mut.ensures.value have))))
