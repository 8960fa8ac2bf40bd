use Rattle.std.proofs.Common.{◌≡◌, ℕ, List, Option, Some, refl, sym, ◌∙◌, ap, subst}
use Rattle.std.specs.Vec.{vec_items}
use Rattle.prl_board.specs.Openings.{first_clock}
use Rattle.prl_exec.proofs.Rounds.{all_ended, opening_stands}
use Rattle.prl_plan.specs.Vocabulary.{constants_of, PlanView}
use Rattle.prl_plan.specs.declared.horizons.Horizon.{Horizon}
use Rattle.prl_rule.specs.Known.{run_of}
use Rattle.prl_rule.specs.declared.views.Constants.{Constants}
use Rattle.prl_tables.specs.Vocabulary.{CheckedView, last_unit}
use Rattle.prl_table.specs.Noted.{AreAllNoted, AreNoted, HaveRoom}
use Rattle.prl_table.proofs.Noting.{all_noted}
use Rattle.prl_table.specs.code.Driving.{acts_at, AreFirst, IsDriven}
use Rattle.prl_table.proofs.Driven.{all_over, opened}
use Rattle.prl_table.proofs.driving.drive.Goals as goal

pub new-driver-requires-clause-seats : goal.new-driver-requires-clause-seats
new-driver-requires-clause-seats g c =
    let first = c.in_ok-board.ensures.seats in record {
      tasks = first.tasks;
      each = λ i s has. let f = first.each i s has in (f.0, f.1.task);
    }

-- the first acts, by the board
first_on : (plan : PlanView) (h : Horizon) (table : CheckedView) (noted : List (Option ℕ)) → AreFirst (constants_of plan h) (last_unit plan.graph table.entries) noted →
    (k : Constants) → plan ≡ k.plan → h ≡ k.horizon → AreFirst (run_of k) (acts_at k table) noted
first_on plan h table noted first k same_plan same_horizon =
    subst (λ (p : PlanView). AreFirst (constants_of p k.horizon) (last_unit p.graph table.entries) noted) same_plan
    (subst (λ (g : Horizon). AreFirst (constants_of plan g) (last_unit plan.graph table.entries) noted) same_horizon first)

pub run_table-requires-clause-noted : goal.run_table-requires-clause-noted
run_table-requires-clause-noted g c =
    (first_on c.args.plan.now c.args.horizon c.args.table.now c.in_ok-next.next.items c.in_ok-next.ensures c.in_ok-board.board.known
    (ap (λ (k : Constants). k.plan) (sym c.in_ok-board.ensures.known)) (ap (λ (k : Constants). k.horizon) (sym c.in_ok-board.ensures.known))).tasks

pub run_table-requires-clause-driven : goal.run_table-requires-clause-driven
run_table-requires-clause-driven g c =
    let k = c.in_ok-board.board.known in
    opened k c.args.table.now c.table_places.ensures c.run_laws.ensures.facts c.new-driver.result.lone c.in_ok-next.next.items
    (first_on c.args.plan.now c.args.horizon c.args.table.now c.in_ok-next.next.items c.in_ok-next.ensures c.in_ok-board.board.known
    (ap (λ (b : Constants). b.plan) (sym c.in_ok-board.ensures.known)) (ap (λ (b : Constants). b.horizon) (sym c.in_ok-board.ensures.known)))
    (opening_stands k c.run_laws.ensures c.in_ok-board.board (vec_items c.in_ok-board.seats) c.new-driver.result.lone refl c.in_ok-board.ensures.seats c.new-driver.ensures.seats
    (c.new-driver.ensures.clock (first_clock (run_of k)) c.in_ok-board.ensures.clock))

pub returns-clause-ended : goal.returns-clause-ended
returns-clause-ended g c = λ k s known last.
    let board : Constants = c.in_ok-board.board.known in
    let same : c.in_ok-board.board.known ≡ k = same_constants c.in_ok-board.board.known k (sym c.close.ensures.known ∙ known) in
    let end : c.args.horizon.end ≡ (run_of c.in_ok-board.board.known).end = ap (λ (x : Constants). x.horizon.end) (sym c.in_ok-board.ensures.known) in
    let driven : IsDriven c.in_ok-board.board.known c.args.table.now c.run_table.new.driver.lone c.run_table.new.next.items (run_of c.in_ok-board.board.known).end 0 =
    subst (λ (t : ℕ). IsDriven c.in_ok-board.board.known c.args.table.now c.run_table.new.driver.lone c.run_table.new.next.items t 0) end c.run_table.ensures.driven in
    let over = all_over c.in_ok-board.board.known c.args.table.now c.table_places.ensures c.run_laws.ensures.facts c.run_laws.ensures.state c.run_table.new.driver.lone c.run_table.new.next.items
    (c.stands.ensures c.in_ok-board.board.known c.run_table.ensures.lone.known) driven in
    all_ended k c.close.result.0.words c.run_table.new.driver.lone.seats c.close.result.0.seats over c.close.ensures.seats (c.close.ensures.is k known) s last
  where
    same_constants : (a b : Constants) → Some a ≡ Some b → a ≡ b
    same_constants a b e = cc

pub run_table-requires-clause-room : goal.run_table-requires-clause-room
run_table-requires-clause-room g c =
    subst (HaveRoom (run_of c.in_ok-board.board.known)) (sym c.new-driver.ensures.noted)
    (subst (λ (k : Constants). HaveRoom (run_of k) c.in_ok-room.room.noted) (sym c.in_ok-board.ensures.known) c.in_ok-room.ensures)

pub returns-clause-ticks : goal.returns-clause-ticks
returns-clause-ticks g c =
    let end : c.args.horizon.end ≡ (run_of c.in_ok-board.board.known).end = ap (λ (x : Constants). x.horizon.end) (sym c.in_ok-board.ensures.known) in
    let after : AreNoted (run_of c.in_ok-board.board.known) (acts_at c.in_ok-board.board.known c.args.table.now) (run_of c.in_ok-board.board.known).end 0 c.run_table.new.driver.noted =
    subst (λ (t : ℕ). AreNoted (run_of c.in_ok-board.board.known) (acts_at c.in_ok-board.board.known c.args.table.now) t 0 c.run_table.new.driver.noted) end c.run_table.ensures.after in
    subst (AreAllNoted (constants_of c.args.plan.now c.args.horizon) (last_unit c.args.plan.now.graph c.args.table.now.entries)) (sym c.close.ensures.noted)
    (subst (λ (k : Constants). AreAllNoted (run_of k) (acts_at k c.args.table.now) c.run_table.new.driver.noted) c.in_ok-board.ensures.known
    (all_noted (run_of c.in_ok-board.board.known) c.run_laws.ensures.facts (acts_at c.in_ok-board.board.known c.args.table.now) c.table_places.ensures.placing c.run_table.new.driver.noted after))
