mod Grown
mod TurnSteps
mod Cuts
mod EdgeNumbers
mod EdgeCells
mod TableSteps
mod SomeCells
