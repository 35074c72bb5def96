pub mod Reading
pub mod Lines
pub mod Unsheet
pub mod Answer
pub mod Promises
pub mod Example
