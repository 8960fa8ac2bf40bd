use denote.Param.Send.{sendable}
use Rattle.kebrunza.proofs.Crossing.{board_sync}
use Rattle.example_threads.proofs.polls.poll_each.Goals as goal

pub for_each_mut-requires-sync-F : goal.for_each_mut-requires-sync-F
for_each_mut-requires-sync-F g c κs = search (board_sync, sendable) depth 12
