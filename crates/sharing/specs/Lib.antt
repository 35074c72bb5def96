pub mod Split
pub mod Combine
pub mod ByteLengths
