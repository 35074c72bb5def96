pub mod Strides
pub mod InPlace
