use denote.Param.Send.{sendable}
use Rattle.prl_seats.proofs.Crossing.{board_sync}
use Rattle.prl_seats.proofs.board.boards_are_shared.Goals as goal

pub is_shared-requires-sync-T : goal.is_shared-requires-sync-T
is_shared-requires-sync-T c κs = search (board_sync, sendable)
