pub mod Field256
pub mod Answers
pub mod Values
