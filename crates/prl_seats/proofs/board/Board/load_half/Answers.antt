use Rattle.std.proofs.Common.{arith, ◌≡◌, ◌+◌, ◌<◌, ℕ, sym, ap, subst}
use Rattle.atomic_table.specs.Table.{Allows}
use Rattle.prl_base.specs.declared.numbers.EdgeNo.{EdgeNo}
use Rattle.prl_plan.specs.declared.events.Action.TheVariants as actions
use Rattle.prl_plan.specs.Facts.{HasPlanFacts}
use Rattle.prl_rule.specs.Vocabulary.{slot_word, HalfTold, part_at, known, run_of, values_of, Agreed, StandsAt, half_loaded, with_part}
use Rattle.prl_rule.specs.declared.views.Constants.{Constants}
use Rattle.prl_seats.specs.Boards.{BoardView}
use Rattle.prl_rule.proofs.Allowed.{load_allowed}
use Rattle.prl_rule.proofs.Granted.{grants_any_half}
use Rattle.prl_seats.proofs.board.Board.load_half.Goals as goal

pub load-requires : goal.load-requires
load-requires c =
    let s = c.requires.stands in
    let same : known c.self.inside.plan.now c.self.inside.horizon c.self.inside.gate c.self.inside.sensors.now c.self.inside.bodies.now ≡ c.args.self.now.known = ap (λ (d : BoardView). d.known) c.self.view_is in
    let facts : HasPlanFacts (run_of c.args.self.now.known) = subst (λ (k : Constants). HasPlanFacts (run_of k)) same c.plan_facts.ensures in
    let inside : c.args.slot.0 < (run_of c.args.self.now.known).slots =
    facts.read_cell c.args.task.0 (part_at c.args.self.now.known c.args.task.0 c.args.place c.args.seat.now.me.0).stand.ended (part_at c.args.self.now.known c.args.task.0 c.args.place c.args.seat.now.me.0).stand.place s.2 c.args.slot.0 (record { job = c.requires.job; action = (s.0, s.1, s.3.next) }) in
    let word = c.word_of_half-word.ensures in record {
      table = c.requires.table;
      word = omega (arith, inside, word);
      allows = λ slots. subst (λ (z : ℕ). Allows (Agreed c.args.self.now.known) slots c.args.seat.now.id c.args.seat.now.me z (λ n. n) (λ n m. ((port : ℕ) (e : EdgeNo) (l h : ℕ) → StandsAt (run_of c.args.self.now.known) c.args.task.0 (part_at c.args.self.now.known c.args.task.0 c.args.place c.args.seat.now.me.0).stand (actions.Read port e l (record { 0 = h })) → HalfTold c.args.self.now.known c.args.task.0 c.args.place e.0 l h c.args.seat.now.me.0 n m.0) × (m.1 ≡ c.args.seat.now.me.1))) (sym word)
          (load_allowed c.args.self.now.known slots c.args.seat.now.id c.args.seat.now.me (slot_word (run_of c.args.self.now.known) c.args.slot.0)
          (λ n. with_part c.args.task.0 (half_loaded (run_of c.args.self.now.known) (values_of c.args.self.now.known) c.args.task.0 c.args.slot.0 (s.2 + 1) n (part_at c.args.self.now.known c.args.task.0 c.args.place c.args.seat.now.me.0)) c.args.seat.now.me.0)
          (λ n after. (port : ℕ) (e : EdgeNo) (l h : ℕ) → StandsAt (run_of c.args.self.now.known) c.args.task.0 (part_at c.args.self.now.known c.args.task.0 c.args.place c.args.seat.now.me.0).stand (actions.Read port e l (record { 0 = h })) → HalfTold c.args.self.now.known c.args.task.0 c.args.place e.0 l h c.args.seat.now.me.0 n after)
          (grants_any_half c.args.self.now.known c.plan_laws.ensures c.args.seat.now.id c.args.seat.now.me c.args.task.0 c.args.place c.requires.at s.0 s.1 s.2 c.args.slot.0 s.3));
    }

pub returns-clause-told : goal.returns-clause-told
returns-clause-told c = λ port e m stands. c.load.ensures.told port e m c.args.slot.0 stands
