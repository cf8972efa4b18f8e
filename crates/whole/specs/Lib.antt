pub mod Stated
pub mod Diff
pub mod Laws
pub mod Floor
pub mod Parity
pub mod Machine
pub mod Sum
