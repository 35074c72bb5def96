pub mod Fill
pub mod Each
pub mod Horner
pub mod Blocks
