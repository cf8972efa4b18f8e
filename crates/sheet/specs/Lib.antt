pub mod Stated
pub mod Promises
