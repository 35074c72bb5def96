pub mod Text
pub mod ReadAs
pub mod Sheet
pub mod Writing
pub mod Promises
