pub mod Field256
pub mod Values
pub mod Meanings
