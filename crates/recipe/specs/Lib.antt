pub mod Results
pub mod Calls
pub mod Trips
pub mod Printings
pub mod Promises
