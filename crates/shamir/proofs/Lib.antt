pub mod Lists
pub mod Polynomial
pub mod Count
pub mod Lagrange
pub mod Rows
pub mod Theorems
