use Rattle.std.proofs.Common.{arith, ◌≡◌, ◌+◌, suc, refl, sym, ap, ◌∙◌}
use Rattle.prl_rule.specs.Vocabulary.{tagged, values_of, word_of}
use Rattle.prl_rule.specs.declared.views.View.{View}
use Rattle.prl_seats.proofs.Following.{follows_on, next_follows, seat_after, stands_in, stands_so, write_follows}
use Rattle.prl_seats.proofs.jobs.JobSeat.store.Goals as goal

pub store_half-requires-clause-stands : goal.store_half-requires-clause-stands
store_half-requires-clause-stands c =
    let at = stands_so c.self.view_is c.requires.seat c.self.invariant.1 c.requires.writes.2 in
    let own : c.requires.writes.1 ≡ c.self.inside.job = c.keeps_facts.ensures.own c.self.inside.task.0 c.self.inside.job c.self.inside.place c.requires.writes.1 c.args.slot.0
    (record { job = record { task = at.follows.task; job = at.follows.shown.1 }; action = (c.requires.writes.0, at.follows.shown.2) }) in
    let tag : c.tag_of.result ≡ suc c.requires.writes.1 = (let t = c.tag_of.ensures in omega (arith, t, own)) in
    let next : c.requires.writes.1 + 1 ≡ suc c.requires.writes.1 = omega arith in (
      c.requires.writes.0,
      c.requires.writes.1,
      stands_in at,
      c.pack-word.ensures ∙ ((λ x. tagged (tag x) (c.requires.writes.3 x)) ∙ sym (ap (word_of (values_of c.args.board.now.known) c.args.slot.0) next)),
      c.requires.writes.4,
    )

pub invariant_of-self : goal.invariant_of-self
invariant_of-self c =
    let at = stands_so c.self.view_is c.requires.seat c.self.invariant.1 c.requires.writes.2 in (
      c.store_half.ensures.same.2 ∙ c.self.invariant.0,
      follows_on (ap (λ (v : View). v.constants) c.store_half.ensures.told.view ∙ at.known)
          (next_follows c.self.inside.place c.place_after-self-inside.ensures c.action.ensures (write_follows c.args.board.now.known c.self.inside.task.0 _ _ c.self.inside.job _ _ at.follows c.store_half.ensures.told)),
    )

pub returns-clause-seat : goal.returns-clause-seat
returns-clause-seat c = seat_after _ c.self.view_is c.requires.seat c.store_half.ensures.same.0 refl c.store_half.ensures.told.view
