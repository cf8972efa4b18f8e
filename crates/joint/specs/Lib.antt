pub mod Sums
pub mod Elements
pub mod Allowances
pub mod RowsInPlace
pub mod RecoveredSums
pub mod Triangles
