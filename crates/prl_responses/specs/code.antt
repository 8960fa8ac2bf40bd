-- the times of a task, piece by piece
pub mod PieceTimes
