pub mod Search
pub mod Repeats
pub mod Storage
pub mod Lengths
pub mod Combining
pub mod Identifiers
