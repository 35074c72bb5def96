pub mod Poly2
pub mod Laws
pub mod BinaryField
