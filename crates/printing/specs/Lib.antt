pub mod Stated
pub mod Program
pub mod Writing
pub mod Digits
