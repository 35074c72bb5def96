pub mod Digits
pub mod Sum
pub mod Product
pub mod Remainder
pub mod BinaryField
pub mod Field16
