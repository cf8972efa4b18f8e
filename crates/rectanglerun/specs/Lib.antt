pub mod Multiples
pub mod Weights
pub mod UndoingOrder
pub mod RowsInTurn
pub mod StagesAgree
pub mod Runs
pub mod Turns
