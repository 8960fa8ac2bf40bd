mod NameTexts
mod Pieces
