pub mod Outcome
pub mod Answers
