pub mod Calls
pub mod Cuts
pub mod Passes
pub mod Strips
pub mod Longest
pub mod Elements
