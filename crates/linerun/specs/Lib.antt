pub mod Steps
pub mod LineBounds
pub mod RowColumns
pub mod Filling
pub mod RowsByKind
pub mod StagesAgree
pub mod Runs
pub mod Fours
