use Rattle.prl_base.proofs.Standard.{◌≡◌, ◌+◌, [], ◌∷◌, List, Some, length, length-append, length-set, arith, sym, ap, ◌∙◌, inl, inr, ⊎_elim, slice_get, cases_eq}
use Rattle.std.specs.Vec.{vec_items}
use Rattle.prl_seats.specs.JobSeats.{JobSeatView}
use Rattle.prl_board.proofs.Lists.{read_there, set_at, set_else, set_here}
use Rattle.prl_exec.proofs.Holding.{get_front, get_last}
use Rattle.prl_exec.proofs.dealing.slots.Goals as goal

pub loop-seat-init : goal.loop-seat-init
loop-seat-init c =
    let none = c.in_ok-all.ensures in let n = none.count in let l = c.len.ensures in let ok = c.args.seats.ok in
    record {
      wide = omega (arith, n, l, ok);
      few = omega arith;
      rest = λ j s has. has;
      has = λ j from inside. absurd (omega (arith, from, inside));
      each = λ j s has. absurd (none.none j (s, has));
    }

pub loop-seat-preserved : goal.loop-seat-preserved
loop-seat-preserved c =
    let is = c.loop-seat.invariant in let wide = is.wide in let few = is.few in
    let items = c.in-Some.ensures.items in
    let i = c.len-i.result in let len = c.len-i.ensures in let ok = c.pop.new.self.ok in
    let at : i ≡ length (vec_items c.pop.new.self) = omega (arith, len, ok) in
    let long : length (vec_items c.loop-seat.seats) ≡ length (vec_items c.pop.new.self) + 1 = ap length items ∙ length-append (vec_items c.pop.new.self) (c.in-Some.seat ∷ []) in
    let there : slice_get (vec_items c.loop-seat.all) i ≡ Some c.index_mut.result.now =
    read_there (vec_items c.loop-seat.all) i c.index_mut.result.now (omega (arith, at, long, few, wide)) c.index_mut.ensures.value in
    let here : slice_get (vec_items c.args.seats) i ≡ Some c.in-Some.seat =
    is.rest i c.in-Some.seat (ap (λ (xs : List JobSeatView). slice_get xs i) items ∙ (ap (slice_get (_)) at ∙ get_last (vec_items c.pop.new.self) c.in-Some.seat)) in
    record {
      wide = length-set (vec_items c.loop-seat.all) i c.put.new.slot ∙ is.wide;
      few = omega (arith, long, few);
      rest = λ j s has. is.rest j s (ap (λ (xs : List JobSeatView). slice_get xs j) items ∙ get_front (vec_items c.pop.new.self) c.in-Some.seat s j has);
      has = λ j from inside. elim (cases_eq j i) [
        | inl same ↦ (c.in-Some.seat, ap (slice_get (_)) same ∙ (set_here (vec_items c.loop-seat.all) i c.put.new.slot c.index_mut.result.now there ∙ ap Some c.put.ensures))
        | inr other ↦ (let h = is.has j (omega (arith, from, other, at, long)) inside in (h.0, set_else (vec_items c.loop-seat.all) i j c.put.new.slot other ∙ h.1))
      ];
      each = λ j s has. ⊎_elim
          (λ h. let same : c.in-Some.seat ≡ s = (let e : Some c.in-Some.seat ≡ Some s = sym c.put.ensures ∙ h.1 in cc e) in ap (slice_get (vec_items c.args.seats)) h.0 ∙ (here ∙ ap Some same))
          (λ h. is.each j s h.1)
          (set_at (vec_items c.loop-seat.all) i j c.put.new.slot (Some s) has);
    }

pub returns-clause-held : goal.returns-clause-held
returns-clause-held c = λ b of.
    let is = c.loop-seat.invariant in record { wide = is.wide ∙ of.tasks; each = λ i s has. of.each i s (is.each i s has) }
