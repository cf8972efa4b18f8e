pub mod Sessions
pub mod Inputs
pub mod Example
pub mod Short
pub mod Promises
