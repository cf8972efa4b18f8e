pub mod Moves
pub mod MovedAside
