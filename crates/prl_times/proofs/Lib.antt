mod Commas
mod Refusals
mod RowLists
