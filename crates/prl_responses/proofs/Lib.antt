mod Pieces
mod PieceTimes
mod OwnWindows
