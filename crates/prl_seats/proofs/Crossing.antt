-- Bodies and boards may be shared.
use denote.Ref.{NamedLft}
use denote.Builtin.{unit}
use denote.Param.Send.{IsSync, plain_send, sendable}
use Rattle.std.proofs.Crossing.{crosses}
use Rattle.std.specs.contracts.alloc.Global as Global
use Rattle.std.specs.contracts.impls.GlobalAllocator.TheImpl as Heap
use Rattle.std.proofs.alloc.Global.TheSendSync as global
use Rattle.std.below.std_heap.proofs.GlobalAllocator.TheSendSync as heap
use Rattle.atomic_table.specs.contracts.owned.Table as Table
use Rattle.atomic_table.proofs.owned.Table.TheSendSync as table
use Rattle.prl_body.proofs.codes.Code.TheLaws.TheKnot as code
use Rattle.prl_body.specs.contracts.program_bodies.Bodies.{the_row}
use Rattle.prl_plan.proofs.plans.Plan.TheSendSync as plan
use Rattle.prl_plan.proofs.horizons.Horizon.TheSendSync as horizon
use Rattle.prl_flow.proofs.rows.Sensors.TheSendSync as sensors
use Rattle.prl_track.proofs.routes.Routes.TheSendSync as routes
use Rattle.prl_rule.specs.contracts.views.View as View
use Rattle.prl_rule.specs.contracts.views.About as About
use Rattle.prl_rule.specs.contracts.views.Running as Running
use Rattle.prl_rule.specs.contracts.views.RunningTableRuleUnitViewAbout.TheImpl as Rule
use Rattle.prl_rule.proofs.views.Gate.TheSendSync as gate
use Rattle.prl_seats.specs.contracts.board.Board as Board

pub bodies_sync : IsSync the_row
bodies_sync = search (crosses, code.crosses, sendable) depth 60 fits 20000

module _ (a : NamedLft) where
  table_sync : IsSync (Table.the_field unit View.the_row (About.the_row a) Running.the_row Global.the_row Rule.ghosts Heap.ghosts).row
  table_sync = table.the_field_sync unit View.the_row (About.the_row a) Running.the_row Global.the_row Rule.ghosts Heap.ghosts
      (plain_send _ _ _ _ _) global.the_send global.the_sync heap.the_frees

  pub board_sync : IsSync (Board.the_row a)
  board_sync = search (plan.the_sync, sensors.the_sync, bodies_sync, horizon.the_field_sync, gate.the_field_sync, routes.the_sync, table_sync, sendable) depth 12
