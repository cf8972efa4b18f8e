pub mod SingleRows
pub mod SingleRowsInPlace
pub mod LaidRows
