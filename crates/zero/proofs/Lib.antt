pub mod Mask
pub mod Bytes
