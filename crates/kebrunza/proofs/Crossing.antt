-- A board may be shared by threads.
pub use Rattle.prl_seats.proofs.Crossing.{board_sync}
