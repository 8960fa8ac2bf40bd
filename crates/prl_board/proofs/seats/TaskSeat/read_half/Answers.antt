use Rattle.std.proofs.Common.{Some, arith, ◌≡◌, ◌+◌, ◌/◌, ◌^◌, sym, ap, subst, ◌∙◌}
use Rattle.prl_board.specs.declared.seats.Got.TheVariants as gots
use Rattle.prl_rule.specs.Vocabulary.{AreHalves, value_of_halves, values_of}
use Rattle.prl_seats.specs.JobSeats.{JobSeatView, StaysAt}
use Rattle.prl_board.specs.TaskSeats.{Misses, ReadsHalf}
use Rattle.prl_seats.proofs.Following.{known_once}
use Rattle.prl_board.proofs.HalfReads.{finds_half, stands_at, value_here}
use Rattle.prl_board.proofs.Lows.{low_after_read}
use Rattle.prl_board.proofs.SeatReads.{Keeps, goes_kept, may_raise, misses_answer, stays_kept}
use Rattle.prl_board.proofs.Worked.{high_may, high_taken, low_taken}
use Rattle.prl_board.proofs.Begun.{ready_when, taken_with}
use Rattle.prl_base.specs.declared.values.Value.{Value}
use Rattle.prl_board.specs.declared.seats.Got.{Got}
use Rattle.prl_board.proofs.seats.TaskSeat.read_half.Goals as goal

got_value : {x y : Value} → gots.Value x ≡ gots.Value y → x ≡ y
got_value is = cc is

pub invariant_of-self : goal.invariant_of-self
invariant_of-self c =
    let at = stands_at c.self.view_is c.requires.seat c.requires.reads c.self.invariant c.stands.ensures in
    let told = c.load-word.ensures.told c.args.port c.args.edge at.stage in
    let wanted : c.tag_read-wanted.result ≡ c.args.instance + 1 = c.tag_read-wanted.ensures in
    let found : c.unpack-found.result.0 ≡ c.load-word.result / 2 ^ 32 = c.unpack-found.ensures.0 in
    known_once c.load-word.new.self.view c.args.board.now.known (λ k. Keeps k c.load-word.new.self c.self.inside.low c.self.inside.worker) c.load-word.ensures.seat.known (stays_kept c.args.board.now.known c.self.inside.job c.load-word.new.self c.self.inside.low c.self.inside.worker c.load-word.ensures.same
    (told.missed (λ tag. c.if-found-wanted.true (found ∙ tag ∙ sym wanted))) at.kept)

pub returns-then-found-wanted-clause-answer : goal.returns-then-found-wanted-clause-answer
returns-then-found-wanted-clause-answer c =
    let at = stands_at c.self.view_is c.requires.seat c.requires.reads c.self.invariant c.stands.ensures in
    let told = c.load-word.ensures.told c.args.port c.args.edge at.stage in
    let wanted : c.tag_read-wanted.result ≡ c.args.instance + 1 = c.tag_read-wanted.ensures in
    let found : c.unpack-found.result.0 ≡ c.load-word.result / 2 ^ 32 = c.unpack-found.ensures.0 in
    let stays : StaysAt c.self.inside.job c.load-word.new.self = told.missed (λ tag. c.if-found-wanted.true (found ∙ tag ∙ sym wanted)) in
    subst (λ (s : JobSeatView). ReadsHalf c.args.board.now.known c.args.edge c.args.instance c.args.slot s c.load-word.new.self c.missed.result) c.self.view_is (record {
      word = c.load-word.result;
      told = told.told;
      answer = misses_answer c.args.board.now.known c.args.instance c.args.slot c.self.inside.job c.load-word.new.self c.load-word.result c.cell.result c.tag_read-wanted.result c.unpack-found.result.0 c.missed.result c.missed.ensures
          c.cell.ensures wanted found stays told.told.no_later
          (λ later. may_raise c.args.board.now.known c.self.inside.job c.load-word.new.self c.args.port c.args.edge c.args.instance c.args.slot c.load-word.result at.reads told.told later c.load-word.ensures.same.task stays.place);
      named = λ v is. absurd (subst (Misses c.cell.result c.tag_read-wanted.result c.unpack-found.result.0) is c.missed.ensures);
    })

pub invariant_of-self-then-is_low : goal.invariant_of-self-then-is_low
invariant_of-self-then-is_low c =
    let at = stands_at c.self.view_is c.requires.seat c.requires.reads c.self.invariant c.stands.ensures in
    let told = c.load-word.ensures.told c.args.port c.args.edge at.stage in
    let here = finds_half told c.tag_read-wanted.ensures c.unpack-found.ensures.0 c.unpack-found.ensures.1 c.if-found-wanted.false in
    known_once c.load-word.new.self.view c.args.board.now.known (λ k. Keeps k c.load-word.new.self c.unpack-found.result.1 c.self.inside.worker) c.load-word.ensures.seat.known (goes_kept c.args.board.now.known c.self.inside.job c.load-word.new.self c.unpack-found.result.1 c.self.inside.worker c.load-word.ensures.same here.goes
    (low_after_read c.args.board.now.known c.keeps_values.ensures.facts c.self.inside.job.task.0 c.self.inside.job.job at.job c.unpack-found.result.1 c.self.inside.job.place c.args.port c.args.edge c.args.instance c.args.slot at.reads.shown.2 (λ even. here.half))
    (low_taken c.args.board.now.known c.keeps_values.ensures.work c.keeps_values.ensures.values c.self.inside.job.task.0 c.self.inside.job.job c.self.inside.job.place at.job c.self.inside.worker at.kept.1 c.args.port c.args.edge c.args.instance c.args.slot at.reads.shown.2 c.if-is_low.ensures.yes))

pub returns-then-is_low-clause-answer : goal.returns-then-is_low-clause-answer
returns-then-is_low-clause-answer c =
    let at = stands_at c.self.view_is c.requires.seat c.requires.reads c.self.invariant c.stands.ensures in
    let told = c.load-word.ensures.told c.args.port c.args.edge at.stage in
    let here = finds_half told c.tag_read-wanted.ensures c.unpack-found.ensures.0 c.unpack-found.ensures.1 c.if-found-wanted.false in
    subst (λ (s : JobSeatView). ReadsHalf c.args.board.now.known c.args.edge c.args.instance c.args.slot s c.load-word.new.self gots.Half) c.self.view_is (record {
      word = c.load-word.result;
      told = told.told;
      answer = (c.if-is_low.ensures.yes, here.tag, here.goes);
      named = λ v is. absurd (cc is);
    })

pub whole-value-requires : goal.whole-value-requires
whole-value-requires c =
    let at = stands_at c.self.view_is c.requires.seat c.requires.reads c.self.invariant c.stands.ensures in
    let told = c.load-word.ensures.told c.args.port c.args.edge at.stage in
    let here = finds_half told c.tag_read-wanted.ensures c.unpack-found.ensures.0 c.unpack-found.ensures.1 c.if-found-wanted.false in
    let both = value_here c.halves_are_exact.ensures.halves c.halves_are_exact.ensures.whole c.keeps_values.ensures.values at c.if-is_low.ensures.no here.half (told.told.half here.tag).1 in
    subst (λ t. AreHalves t c.self.inside.low c.unpack-found.result.1) (sym c.type_of.ensures) both.0

pub take-requires-clause-port : goal.take-requires-clause-port
take-requires-clause-port c =
    let at = stands_at c.self.view_is c.requires.seat c.requires.reads c.self.invariant c.stands.ensures in
    (high_may c.args.board.now.known c.keeps_values.ensures.work c.keeps_values.ensures.values c.self.inside.job.task.0 c.self.inside.job.job c.self.inside.job.place at.job c.self.inside.worker at.kept.1 c.args.port c.args.edge c.args.instance c.args.slot at.reads.shown.2 c.if-is_low.ensures.no).0

pub take-requires-clause-ready : goal.take-requires-clause-ready
take-requires-clause-ready c =
    let at = stands_at c.self.view_is c.requires.seat c.requires.reads c.self.invariant c.stands.ensures in
    let told = c.load-word.ensures.told c.args.port c.args.edge at.stage in
    let here = finds_half told c.tag_read-wanted.ensures c.unpack-found.ensures.0 c.unpack-found.ensures.1 c.if-found-wanted.false in
    let both = value_here c.halves_are_exact.ensures.halves c.halves_are_exact.ensures.whole c.keeps_values.ensures.values at c.if-is_low.ensures.no here.half (told.told.half here.tag).1 in
    let value = c.whole-value.ensures ∙ ap (λ t. value_of_halves t c.self.inside.low c.unpack-found.result.1) c.type_of.ensures ∙ both.1 in
    ready_when c.args.board.now.known.sensors c.sensors.result.now c.args.board.now.known.bodies c.bodies.result.now c.self.inside.job.job c.job.result c.sensors.ensures c.bodies.ensures (c.job.ensures ∙ here.goes.job) c.args.port ((values_of c.args.board.now.known).stored (c.args.slot.0 / 2) c.args.instance) c.whole-value.result value c.self.inside.worker (high_may c.args.board.now.known c.keeps_values.ensures.work c.keeps_values.ensures.values c.self.inside.job.task.0 c.self.inside.job.job c.self.inside.job.place at.job c.self.inside.worker at.kept.1 c.args.port c.args.edge c.args.instance c.args.slot at.reads.shown.2 c.if-is_low.ensures.no).1

pub invariant_of-self-2 : goal.invariant_of-self-2
invariant_of-self-2 c =
    let at = stands_at c.self.view_is c.requires.seat c.requires.reads c.self.invariant c.stands.ensures in
    let told = c.load-word.ensures.told c.args.port c.args.edge at.stage in
    let here = finds_half told c.tag_read-wanted.ensures c.unpack-found.ensures.0 c.unpack-found.ensures.1 c.if-found-wanted.false in
    let both = value_here c.halves_are_exact.ensures.halves c.halves_are_exact.ensures.whole c.keeps_values.ensures.values at c.if-is_low.ensures.no here.half (told.told.half here.tag).1 in
    let value = c.whole-value.ensures ∙ ap (λ t. value_of_halves t c.self.inside.low c.unpack-found.result.1) c.type_of.ensures ∙ both.1 in
    known_once c.load-word.new.self.view c.args.board.now.known (λ k. Keeps k c.load-word.new.self c.self.inside.low c.take.new.self) c.load-word.ensures.seat.known (goes_kept c.args.board.now.known c.self.inside.job c.load-word.new.self c.self.inside.low c.take.new.self c.load-word.ensures.same here.goes
    (low_after_read c.args.board.now.known c.keeps_values.ensures.facts c.self.inside.job.task.0 c.self.inside.job.job at.job c.self.inside.low c.self.inside.job.place c.args.port c.args.edge c.args.instance c.args.slot at.reads.shown.2 (λ even. let odd = c.if-is_low.ensures.no in absurd (omega (arith, even, odd))))
    (high_taken c.args.board.now.known c.keeps_values.ensures.work c.keeps_values.ensures.values c.self.inside.job.task.0 c.self.inside.job.job c.self.inside.job.place at.job c.self.inside.worker at.kept.1 c.args.port c.args.edge c.args.instance c.args.slot at.reads.shown.2 c.if-is_low.ensures.no c.take.new.self
    (taken_with c.args.board.now.known.sensors c.sensors.result.now c.args.board.now.known.bodies c.bodies.result.now c.self.inside.job.job c.job.result c.sensors.ensures c.bodies.ensures (c.job.ensures ∙ here.goes.job) c.args.port ((values_of c.args.board.now.known).stored (c.args.slot.0 / 2) c.args.instance) c.whole-value.result value c.self.inside.worker c.take.new.self c.take.ensures)))

pub returns-clause-answer : goal.returns-clause-answer
returns-clause-answer c =
    let at = stands_at c.self.view_is c.requires.seat c.requires.reads c.self.invariant c.stands.ensures in
    let told = c.load-word.ensures.told c.args.port c.args.edge at.stage in
    let here = finds_half told c.tag_read-wanted.ensures c.unpack-found.ensures.0 c.unpack-found.ensures.1 c.if-found-wanted.false in
    let both = value_here c.halves_are_exact.ensures.halves c.halves_are_exact.ensures.whole c.keeps_values.ensures.values at c.if-is_low.ensures.no here.half (told.told.half here.tag).1 in
    let value = c.whole-value.ensures ∙ ap (λ t. value_of_halves t c.self.inside.low c.unpack-found.result.1) c.type_of.ensures ∙ both.1 in
    subst (λ (s : JobSeatView). ReadsHalf c.args.board.now.known c.args.edge c.args.instance c.args.slot s c.load-word.new.self (gots.Value c.whole-value.result)) c.self.view_is (record {
      word = c.load-word.result;
      told = told.told;
      answer = (c.if-is_low.ensures.no, here.tag, value, here.goes);
      named = λ v is.
          (c.keeps_values.ensures.named c.self.inside.job.task.0 c.self.inside.job.job c.self.inside.job.place c.args.port c.args.edge c.args.instance c.args.slot at.job at.reads.shown.2).3
          ∙ ap (λ (x : Value). Some x) (sym value ∙ got_value is);
    })
