use Rattle.std.proofs.Common.{◌≡◌, sym, ap, subst, ◌∙◌, Some}
use mathlib.Core.Option.{some}
use lib.ListN.{get_elem?}
use Rattle.prl_rule.specs.Told.{part_of}
use Rattle.prl_seats.specs.JobSeats.{HasPartOf, JobSeatView}
use Rattle.prl_board.proofs.Merging.{clock_stays, mine_stays, tasks_apart, theirs_comes}
use Rattle.prl_board.proofs.Lending.{bare_has_none, follows_with}
use Rattle.prl_board.proofs.lone.take_in.Goals as goal

pub exchange-requires-clause-run : goal.exchange-requires-clause-run
exchange-requires-clause-run c = λ k has. c.requires.seat.known ∙ (sym (ap (λ m. m.0.constants) c.bare-own.ensures.1) ∙ has)

pub exchange-requires-clause-stands : goal.exchange-requires-clause-stands
exchange-requires-clause-stands c = λ k has part.
    absurd (bare_has_none c.args.board.now.known c.args.seat.now.task.0 (subst (HasPartOf c.args.seat.now.task.0) (ap (λ m. m.0) c.bare-own.ensures.1) part))

pub join-requires-clause-tables : goal.join-requires-clause-tables
join-requires-clause-tables c = (c.requires.whole.0, c.exchange.ensures.given.0 ∙ c.requires.seat.table)

pub join-requires-clause-slots : goal.join-requires-clause-slots
join-requires-clause-slots c = ap (λ m. m.1) c.exchange.ensures.given.2

pub returns-clause-same : goal.returns-clause-same
returns-clause-same c = (c.join.ensures.same.0, ap (λ m. m.1) c.join.ensures.view, ap (λ m. m.0.constants) c.join.ensures.view ∙ c.requires.whole.1)

pub returns-clause-clock : goal.returns-clause-clock
returns-clause-clock c = λ r has. ap (λ m. m.0.clock) c.join.ensures.view ∙ clock_stays c.args.whole.now.me.0.clock c.exchange.new.other.me.0.clock r has

pub returns-clause-others : goal.returns-clause-others
returns-clause-others c = λ j p has. ap (λ m. get_elem? m.0.tasks j) c.join.ensures.view ∙ mine_stays c.args.whole.now.me.0.tasks c.exchange.new.other.me.0.tasks j p has

pub returns-clause-part : goal.returns-clause-part
returns-clause-part c =
    let i = c.args.seat.now.task.0 in
    let has : get_elem? c.exchange.new.other.me.0.tasks i ≡ some (Some (part_of i c.args.seat.now.view)) = ap (λ m. get_elem? m.0.tasks i) c.exchange.ensures.given.2 ∙ c.requires.seat.part in
    ap (λ m. get_elem? m.0.tasks i) c.join.ensures.view
    ∙ theirs_comes c.args.whole.now.me.0.tasks c.exchange.new.other.me.0.tasks i (part_of i c.args.seat.now.view) (tasks_apart c.args.whole.now.me.0 c.exchange.new.other.me.0 c.join.ensures.apart) has

pub returns-clause-stands : goal.returns-clause-stands
returns-clause-stands c =
    follows_with c.args.board.now.known c.args.seat.now.task.0 c.args.seat.now.job c.args.seat.now.place c.args.seat.now.stage c.args.seat.now.view c.join.new.seat.me.0
    (c.stands.ensures c.args.board.now.known c.requires.seat.known c.requires.seat.part)
    (ap (λ m. m.0.constants) c.join.ensures.view ∙ c.requires.whole.1)
    (returns-clause-part c)

pub returns-clause-bare : goal.returns-clause-bare
returns-clause-bare c = (
  ap (λ (s : JobSeatView). s.view) c.exchange.ensures.taken ∙ ap (λ m. m.0) c.bare-own.ensures.1,
  ap (λ (s : JobSeatView). s.task) c.exchange.ensures.taken,
  record {
    job = ap (λ (s : JobSeatView). s.job) c.exchange.ensures.taken;
    place = ap (λ (s : JobSeatView). s.place) c.exchange.ensures.taken;
    stage = ap (λ (s : JobSeatView). s.stage) c.exchange.ensures.taken;
  },
)
